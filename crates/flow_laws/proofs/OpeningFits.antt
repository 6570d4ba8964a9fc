-- The processes that there are at the opening of a valid configuration fit.
use Rattle.std.proofs.Common.{ℕ, ◌<◌, Bool, true, ◌&&◌, ◌≡◌, sym, ap, subst, ◌∙◌, Some, None, length}
use Rattle.std.proofs.Math.ListN.{get_or-map}
use Rattle.std.proofs.lemmas.Bool.{and_parts, eqb-true, ltb-true}
use Rattle.std.specs.Prelude.{◌==◌, nat_le, nat_lt, slice_get, slice_index_or}
use Rattle.std.specs.List.{count_by, filter}
use Rattle.std.specs.Option.{option_map}
use Rattle.lists.specs.Lists.{below}
use Rattle.class_model.specs.Config.{Config, ProcessLine, shared_of}
use Rattle.class_model.specs.Process.{Process, new_process}
use Rattle.class_model.specs.Run.{opening_slots}
use Rattle.class_model.specs.Valid.{IsConfig, process_ok, uses_script}
use Rattle.process.specs.Running.{Running}
use Rattle.process.specs.Fits.{Fits}
use Rattle.process.proofs.Keeping.{opening_fits}
use Rattle.machine.specs.Machine.{slot_at}
use Rattle.machine.specs.Opening.{at_rest, opening, opening_vp}
use Rattle.flow_laws.specs.Flow.{AllFit}
use Rattle.flow_laws.proofs.Lists.{filtered_at, made_of_one, made_some}
use Rattle.flow_laws.proofs.Sound.{sound_config, script_used}

-- a process of the opening is that of a line of its processor and class, before its first step
pub record FromLine (k : Config) (d p : ℕ) (r : Running) : Type 0 where
  pub line : ProcessLine
  pub ok : process_ok k line ≡ true
  pub processor : line.processor ≡ p
  pub class : line.class ≡ d
  pub is : at_rest (new_process d line.script line.ring 0) ≡ r

-- a line of a processor and class, and its process
abbrev own_line : ℕ → ℕ → ProcessLine → Bool
own_line d p l = l.processor == p && l.class == d

abbrev begins : ℕ → ProcessLine → Process
begins d l = new_process d l.script l.ring 0

pub from_line : (k : Config) → IsConfig k → (d p i : ℕ) (r : Running) → slot_at (opening_vp k d p) i ≡ Some r → FromLine k d p r
from_line k valid d p i r h =
    let in_slot = made_some at_rest (slice_index_or (opening_slots k d p) i None) r (sym (get_or-map (option_map at_rest) (opening_slots k d p) i None) ∙ h) in
    let of_number = made_of_one (λ j. option_map (begins d) (slice_get (filter (own_line d p) k.processes) j)) (below 4) i in_slot.0 in_slot.1 in
    let of_line = made_some (begins d) (slice_get (filter (own_line d p) k.processes) of_number.0) in_slot.0 of_number.1 in
    is_from i r in_slot.0 in_slot.2 of_number.0 of_line.0 of_line.1 of_line.2
  where
    is_from : (i : ℕ) (r : Running) (q : Process) → at_rest q ≡ r → (j : ℕ) (l : ProcessLine) → slice_get (filter (own_line d p) k.processes) j ≡ Some l → begins d l ≡ q → FromLine k d p r
    is_from i r q rests j l there is =
        let passes = filtered_at (process_ok k) (own_line d p) k.processes j l valid.processes there in
        let both = and_parts (l.processor == p) (l.class == d) passes.1 in
        record {
          line = l;
          ok = passes.0;
          processor = eqb-true l.processor p both.0;
          class = eqb-true l.class d both.1;
          is = ap at_rest is ∙ rests;
        }

line_fits : (k : Config) → IsConfig k → (d p : ℕ) (r : Running) → FromLine k d p r → Fits (shared_of k) d r
line_fits k valid d p r f =
    let l : ProcessLine = f.line in
    let a = and_parts _ (nat_le (count_by (λ (y : ProcessLine). y.processor == l.processor && y.class == l.class) k.processes) 4) f.ok in
    let b = and_parts _ (uses_script k l.class l.script) a.0 in
    let c = and_parts _ (nat_le l.ring 7) b.0 in
    let e = and_parts _ (nat_lt l.class (length k.table)) c.0 in
    let there : d < length k.table = subst (λ x. x < length k.table) f.class (ltb-true l.class (length k.table) e.1) in
    let uses : uses_script k d l.script ≡ true = ap (λ x. uses_script k x l.script) (sym f.class) ∙ b.1 in
    subst (Fits (shared_of k) d) f.is (opening_fits (shared_of k) (sound_config k valid) d l.script l.ring 0 there (script_used k valid d l.script uses))

pub opening_all_fit : (k : Config) → IsConfig k → AllFit (opening k)
opening_all_fit k valid d p i r h = line_fits k valid d p r (from_line k valid d p i r h)
