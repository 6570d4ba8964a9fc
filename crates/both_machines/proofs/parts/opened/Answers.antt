use Rattle.std.proofs.Common.{◌≡◌, ℕ, true, false, refl, ap, subst, arith, Option, Some, None}
use Rattle.std.proofs.lemmas.Grind.{common_steps}
use Rattle.labels.specs.Table.{IsTable}
use Rattle.std.specs.Option.{option_map_or}
use Rattle.class_model.specs.Config.{Shared, Script, flows}
use Rattle.class_model.specs.Shared.{UsesScript, has_script, script_at}
use Rattle.process.specs.Fits.{IsSound}
use Rattle.process.specs.Standing.{Standing}
use Rattle.both_machines.proofs.parts.opened.Goals as goal

uses_by : (s : Shared) (d n : ℕ) (o : Option Script) → script_at s n ≡ o → option_map_or (λ (x : Script). flows s x.class d) o false ≡ true → UsesScript s d n
uses_by s d n None e h = absurd (cc)
uses_by s d n (Some x) e h = record { script = x; there = e; flows_up = h }

pub returns : goal.returns
returns c =
    let s = c.args.shared.now in
    let sound : IsSound s = record { table = subst IsTable c.table.ensures c.table_law.ensures; shared = c.shared_law.ensures } in
    let there : has_script s c.args.class 0 ≡ true = grind (arith, common_steps) in
    let fits = c.fitting_laws.ensures.new s c.args.class 0 4 c.args.number sound c.requires (uses_by s c.args.class 0 (script_at s 0) refl there) in
    (ap (λ (v : Standing). v.class) c.new.ensures, rw c.new.ensures fits)
