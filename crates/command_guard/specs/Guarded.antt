-- What the steps of `guard` do, one after the other. Only private functions speak of it.
use Rattle.std.specs.Prelude.{◌≡◌, ℕ, List}
use Rattle.host_ports.specs.Ports.{Rose, PullKeeps, PushKeeps, IsPrefixTaken, with_bytes}
use Rattle.class_model.specs.Config.{SegRecord}
use Rattle.volume_image.specs.Written.{written}
use Rattle.release_guard.specs.declared.order.Order.{Order}
use Rattle.release_guard.specs.Valid.{IsOrder}
use Rattle.release_guard.specs.Text.{Spells}
use Rattle.release_guard.specs.Guard.{guard, CanRelease, IsReleaseFault}
use Rattle.command_input.specs.declared.status.Status.{Status}
use Rattle.command_input.specs.declared.status.Status.TheVariants.{Done, Refused, HostFault, NoMemory}
use Rattle.command_input.specs.declared.status.Refusal.TheVariants.{Release}
use Rattle.command_input.specs.declared.status.PortFault.TheVariants.{Write}
use Rattle.command_input.specs.Input.{Ports, IfTold, IsReadWhole}
use Rattle.command_guard.specs.Shown.{GuardShows}

-- port 0 was read, and its bytes spell this order
pub record OrderHad (before after : Ports) (k : Order) : Type 0 where
  pub told : IfTold (before 0).left (λ bytes. Spells bytes k)
  pub valid : IsOrder k
  pub whole : IsReadWhole 0 before after
  pub keeps : PullKeeps 0 before after
  pub stays : (after 0).pulls ≡ (before 0).pulls

-- why there is no order
abbrev pub OrderFails : Ports → Ports → Status → Type 0
OrderFails before after status = GuardShows before after status

-- these are the bytes of the new volume
abbrev pub IsMade : Order → List SegRecord → List ℕ → Type 0
IsMade k v bytes = CanRelease k v × (bytes ≡ written k.table (guard k v))

-- why there is no new volume
abbrev pub NotMade : Order → List SegRecord → Status → Type 0
NotMade k v (Refused (Release line code)) = IsReleaseFault k v line code
NotMade k v NoMemory = Unit {0}
NotMade k v _ = ⊥

-- the bytes were pushed to port 1, or a push failed
abbrev pub Pushed : List ℕ → Ports → Ports → Status → Type 0
Pushed bytes before after Done = ((after 1).taken ≡ with_bytes (before 1).taken bytes) × ((after 1).pushes ≡ (before 1).pushes) × PushKeeps 1 before after
Pushed bytes before after (HostFault (Write port)) = (port ≡ 1) × IsPrefixTaken (before 1).taken (after 1).taken bytes × Rose (before 1).pushes (after 1).pushes × PushKeeps 1 before after
Pushed bytes before after _ = ⊥
