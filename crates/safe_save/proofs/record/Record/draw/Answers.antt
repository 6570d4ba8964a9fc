use Rattle.std.proofs.Common.{arith, ◌≡◌, All, List, ℕ, min, length, map, take, subst, sym, ◌∙◌, ap}
use Rattle.std.proofs.lemmas.List.{length-map}
use Rattle.std.proofs.lemmas.List.Elements.{All-take}
use Rattle.safe_save.specs.Memory.{Call, Log, IsWithin, after_calls, fresh, image_of}
use Rattle.safe_save.specs.Entries.{call_of}
use Rattle.safe_save.proofs.Views.{unmapped, map_take, take_some}
use Rattle.safe_save.proofs.record.Record.draw.Goals as goal

pub draw-requires-clause-within : goal.draw-requires-clause-within
draw-requires-clause-within c =
    let entries = c.self.inside.entries.items in
    let payload = c.self.inside.payload.items in
    let n = c.min-count.result in
    let calls = subst (λ (log : Log). All IsWithin log.calls) (sym c.self.view_is) c.requires.within in
    let front = All-take (λ e. IsWithin (call_of payload e)) n entries (unmapped IsWithin (call_of payload) entries calls) in
    let here = subst (λ es. All (λ e. IsWithin (call_of payload e)) (take n es)) (sym c.deref.ensures.value) front in
    subst (λ (p : List ℕ). All (λ e. IsWithin (call_of p e)) (take n c.deref.result.now)) (sym c.deref-2.ensures.value) here

pub returns : goal.returns
returns c =
    let entries = c.self.inside.entries.items in
    let payload = c.self.inside.payload.items in
    let n = c.min-count.result in
    let image = c.args.image.now in
    let all = map (call_of payload) entries in
    let size : length all ≡ length entries = simp length-map in
    let here = ap length c.deref.ensures.value in
    let whole : c.len.result ≡ length all = omega (arith, c.len.ensures, c.deref.ensures.len, here, size) in
    let count : n ≡ min (length all) c.args.call = c.min-count.ensures ∙ ap (λ m. min m c.args.call) whole in
    c.draw.ensures
    ∙ (ap (λ (p : List ℕ). image_of c.args.fill (after_calls (map (call_of p) (take n c.deref.result.now)) (fresh image))) c.deref-2.ensures.value
    ∙ (ap (λ es. image_of c.args.fill (after_calls (map (call_of payload) (take n es)) (fresh image))) c.deref.ensures.value
    ∙ (ap (λ (cs : List Call). image_of c.args.fill (after_calls cs (fresh image))) (map_take (call_of payload) n entries ∙ take_some n c.args.call all count)
    ∙ ap (λ (log : Log). image_of c.args.fill (after_calls (take c.args.call log.calls) (fresh image))) c.self.view_is)))
