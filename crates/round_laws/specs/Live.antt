-- Whether a process is live.
use Rattle.std.specs.Prelude.{◌≡◌, ℕ, Bool, true, false, List, nat_lt}
use Rattle.std.specs.List.{list_any}
use Rattle.machine.specs.Machine.{Machine, slot_at, is_live}
use Rattle.machine.specs.Processing.{Processing, live_count}

-- a process of the step machine is live
abbrev pub SomeLive : Machine → Type 0
SomeLive m = (p c slot : ℕ) × (is_live (slot_at ((m.part c).vp p) slot) ≡ true)

-- none is
abbrev pub NoneLive : Machine → Type 0
NoneLive m = (p c slot : ℕ) → is_live (slot_at ((m.part c).vp p) slot) ≡ false

-- in memory: a process of this virtual processor is live
abbrev pub vp_live : Processing → Bool
vp_live v = nat_lt 0 (live_count v.slots)

-- one of this bank is
abbrev pub bank_live : List Processing → Bool
bank_live bank = list_any vp_live bank

-- one of these banks is
abbrev pub any_live : List (List Processing) → Bool
any_live banks = list_any bank_live banks
