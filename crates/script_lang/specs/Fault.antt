-- What is wrong with a list of instructions that is no program.
use Rattle.std.specs.Prelude.{◌≡◌, ℕ, ◌-◌, ◌<◌, ◌≤◌, Bool, true, false, not, ◌⊎◌, List, nat_lt, if◌then◌else◌, length, position, slice_get, Option, Some, None}
use Rattle.std.specs.List.{list_all}
use Rattle.std.specs.Option.{option_map_or}
use Rattle.script_lang.specs.declared.instr.Instr.{Instr}
use Rattle.script_lang.specs.Program.{target_ok, is_last}

-- the list has an instruction at this place whose target is out of range
abbrev pub has_bad_target : List Instr → ℕ → Bool
has_bad_target list at = option_map_or (λ i. not (target_ok (length list) i)) (slice_get list at) false

-- the last instruction may stand last; the empty list has none
abbrev pub ends_well : List Instr → Bool
ends_well list = option_map_or is_last (slice_get list (length list - 1)) false

-- the least place with a target out of range
pub record IsLeastBadTarget (list : List Instr) (at : ℕ) : Type 0 where
  pub here : has_bad_target list at ≡ true
  pub before : (k : ℕ) → k < at → has_bad_target list k ≡ false

-- all targets are in range, and the place is the last one, whose instruction may not stand last
pub record IsBadEnd (list : List Instr) (at : ℕ) : Type 0 where
  pub targets : list_all (λ i. target_ok (length list) i) list ≡ true
  pub last : at ≡ length list - 1
  pub end : ends_well list ≡ false

-- The place of the first fault: 256 for a longer list; else the least place with a target out of range; else the last place.
abbrev pub IsFirstFault : List Instr → ℕ → Type 0
IsFirstFault list at = ((256 < length list) × (at ≡ 256)) ⊎ ((length list ≤ 256) × (IsLeastBadTarget list at ⊎ IsBadEnd list at))

-- ---- the same as a function

-- the place that was found, or else the last one where the end is bad
abbrev pub or_bad_end : Option ℕ → List Instr → Option ℕ
or_bad_end (Some at) list = Some at
or_bad_end None list = if ends_well list then None else Some (length list - 1)

-- the place of the first fault, if the list has one
unfoldable pub first_fault : List Instr → Option ℕ
first_fault list = if nat_lt 256 (length list) then Some 256 else or_bad_end (position (λ i. not (target_ok (length list) i)) list) list
