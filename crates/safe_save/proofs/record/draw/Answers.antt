use Rattle.std.proofs.Common.{map, take, drop, ◌∙◌, ap}
use Rattle.std.proofs.lemmas.List.{take_rest}
use Rattle.safe_save.specs.Memory.{after_calls, fresh, image_of, put_calls}
use Rattle.safe_save.specs.Entries.{call_of}
use Rattle.safe_save.proofs.Drawing.{drawn, parts}
use Rattle.safe_save.proofs.record.draw.Goals as goal

pub returns : goal.returns
returns c =
    let entries = c.args.entries.now in
    let call = call_of c.args.payload.now in
    let n = c.synced_count-synced.result in
    let image = c.args.image.now in
    c.put_all-2.ensures
    ∙ (ap (λ rest. put_calls c.args.fill (map call rest) c.put_all.new.image) (take_rest entries n)
    ∙ (ap (put_calls c.args.fill (map call (drop n entries))) c.put_all.ensures
    ∙ (drawn c.args.fill (map call (take n entries)) (map call (drop n entries)) image (c.synced_count-synced.ensures.settled c.args.payload.now image) (c.synced_count-synced.ensures.rest c.args.payload.now)
    ∙ ap (λ calls. image_of c.args.fill (after_calls calls (fresh image))) (parts call n entries))))
