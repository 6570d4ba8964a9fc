use Rattle.std.proofs.Common.{◌≡◌, None, arith, sym, subst}
use Rattle.std.specs.Prelude.{option_map}
use Rattle.std.proofs.lemmas.Grind.{common_steps}
use Rattle.std.proofs.lemmas.Map.Text.{hash_map_updates_str}
use Rattle.script_asm.specs.Script.{is_word}
use Rattle.script_asm.specs.Noting.{place_in, noted}
use Rattle.script_asm.proofs.Notes.{note_new}
use Rattle.script_asm.proofs.names.note.Goals as goal

pub returns-in_ok-insert : goal.returns-in_ok-insert
returns-in_ok-insert c =
    let none : place_in c.args.places.now c.in-Some.word.now ≡ None = grind (arith, common_steps) in
    let changed = hash_map_updates_str c.in-Some.word.now c.args.places.now c.insert.new.self _ c.in_ok-insert.ensures.updates in
    λ w name.
    subst (λ o. place_in c.insert.new.self w ≡ noted (place_in c.args.places.now w) (is_word w (option_map (λ v. v.now) o)) c.args.named) (sym c.in-Some.is)
    (note_new c.args.places.now c.insert.new.self c.in-Some.word.now w c.args.named none (changed w))
