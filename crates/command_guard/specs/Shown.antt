-- What the command `guard` answers, each answer with all that holds where it is given. Where a sentence speaks of bytes left or
-- taken, it holds for a host that tells them.
use Rattle.std.specs.Prelude.{◌≡◌, ◌≢◌, ◌<◌, ◌⊎◌, ℕ, List}
use Rattle.host_ports.specs.Ports.{Rose, IsPrefixTaken, with_bytes}
use Rattle.class_model.specs.Config.{SegRecord}
use Rattle.volume_image.specs.Valid.{IsVolume}
use Rattle.volume_image.specs.Volumes.{Spells as SpellsVolume, IsFault as IsVolumeFault}
use Rattle.volume_image.specs.Written.{written}
use Rattle.release_guard.specs.declared.order.Order.{Order}
use Rattle.release_guard.specs.Valid.{IsOrder}
use Rattle.release_guard.specs.Text.{Spells, IsFault}
use Rattle.release_guard.specs.Guard.{guard, CanRelease, IsReleaseFault}
use Rattle.command_input.specs.declared.status.Status.{Status}
use Rattle.command_input.specs.declared.status.Status.TheVariants.{Done, Refused, HostFault, NoMemory}
use Rattle.command_input.specs.declared.status.Refusal.TheVariants.{Volume, TooLong, Release}
use Rattle.command_input.specs.declared.status.PortFault.TheVariants.{Read, Write}
use Rattle.command_input.specs.Input.{Ports, IfTold, IsBrokenOff, IsTooLong, IsReadWhole}
use Rattle.command_input.specs.Answer.{PortsShow}

-- Port 0 was read to its end, and its bytes spell this order.
pub record OrderRead (before after : Ports) (k : Order) : Type 0 where
  pub spelled : IfTold (before 0).left (λ bytes. Spells bytes k)
  pub valid : IsOrder k
  pub whole : IsReadWhole 0 before after

-- Both ports were read to their end: port 0 spells the order, and port 1 a volume of the order's table.
pub record InputRead (before after : Ports) (k : Order) (v : List SegRecord) : Type 0 where
  pub order : OrderRead before after k
  pub spelled : IfTold (before 1).left (λ bytes. SpellsVolume k.table bytes v)
  pub valid : IsVolume k.table v
  pub whole : IsReadWhole 1 before after

-- It is this port's turn: port 0 is the first one, and port 1 is read behind an order.
abbrev pub IsTurn : ℕ → Ports → Ports → Type 0
IsTurn port before after = (port ≡ 0) ⊎ ((port ≡ 1) × ((k : Order) × OrderRead before after k))

-- Port 0 was read to its end, its bytes spell no order, and this is their first fault. No other port was touched.
pub record IsOrderFault (before after : Ports) (line code : ℕ) : Type 0 where
  pub whole : IsReadWhole 0 before after
  pub fault : IfTold (before 0).left (λ bytes. IsFault bytes line code)
  pub unread : (p : ℕ) → 0 < p → after p ≡ before p

-- Why this is the answer. Each comes at the place of this order: port 0 with its text, port 1 with its bytes, the releases, and
-- the push of the new volume.
abbrev pub GuardCause : Ports → Ports → Status → Type 0
-- it was this port's turn, and a pull of it failed
GuardCause before after (HostFault (Read port)) = IsTurn port before after × IsBrokenOff port before after
-- it was this port's turn, and it has more bytes left than the limit
GuardCause before after (Refused (TooLong port)) = IsTurn port before after × IsTooLong port before after
-- the first fault of the order, or of a release on the volume
GuardCause before after (Refused (Release line code)) =
    IsOrderFault before after line code ⊎ ((k : Order) × (v : List SegRecord) × InputRead before after k v × IsReleaseFault k v line code)
-- port 1 was read, and its bytes spell no volume of the order's table: this is their first fault
GuardCause before after (Refused (Volume port offset code)) =
    (port ≡ 1) × ((k : Order) × OrderRead before after k × IsReadWhole 1 before after × IfTold (before 1).left (λ bytes. IsVolumeFault k.table bytes offset code))
-- a push failed, and port 1 has taken a proper prefix of the new volume's bytes
GuardCause before after (HostFault (Write port)) =
    (port ≡ 1) × ((k : Order) × (v : List SegRecord) × InputRead before after k v × CanRelease k v × Rose (before 1).pushes (after 1).pushes ×
    IsPrefixTaken (before 1).taken (after 1).taken (written k.table (guard k v)))
-- port 1 has taken just the new volume's bytes in format 2
GuardCause before after Done =
    (k : Order) × (v : List SegRecord) × InputRead before after k v × CanRelease k v × ((after 1).taken ≡ with_bytes (before 1).taken (written k.table (guard k v)))
GuardCause before after NoMemory = Unit {0}
GuardCause before after _ = ⊥

-- what holds at each answer of `guard`
pub record GuardShows (before after : Ports) (status : Status) : Type 0 where
  pub cause : GuardCause before after status
  -- No port but port 1 has taken a byte.
  pub one_port : (p : ℕ) → p ≢ 1 → (after p).taken ≡ (before p).taken
  -- Ports 2 and above weren't touched.
  pub others : (p : ℕ) → 1 < p → after p ≡ before p
  pub ports : PortsShow before after status
