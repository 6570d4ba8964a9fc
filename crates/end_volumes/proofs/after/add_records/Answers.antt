use Rattle.std.proofs.Common.{◌≡◌, ℕ, ◌+◌, ◌*◌, ◌++◌, ap, sym, subst, ◌∙◌, length, arith}
use Rattle.std.specs.Prelude.{[]}
use Rattle.std.specs.List.{filter_map, flat_map}
use Rattle.std.specs.Option.{option_map}
use Rattle.lists.specs.Lists.{below}
use Rattle.words_layout.specs.Segments.{numbered}
use Rattle.words_layout.specs.declared.segment.SegId.{SegId}
use Rattle.machine.specs.Banks.{machine_of}
use Rattle.volume_image.specs.Written.{record_bytes}
use Rattle.volume_image.specs.Images.{Drawn}
use Rattle.loader.specs.Configuration.{configuration}
use Rattle.end_volumes.specs.After.{found, record_of, tree_of_words, listed}
use Rattle.end_volumes.proofs.AfterVolume.{Adding, adding_none, adding_more, adding_same}
use Rattle.end_volumes.proofs.after.add_records.Goals as goal
use Rattle.end_volumes.proofs.after.add_records.Goals.{in-Some, in_default}

pub loop-number-init : goal.loop-number-init
loop-number-init c = adding_none _ _

pub loop-number-preserved : goal.loop-number-preserved
loop-number-preserved c =
    let t = tree_of_words (machine_of c.args.machine.now) in
    let at = λ (u : SegId). found (configuration c.args.config.now []) c.args.volume (listed c.args.origins.now) (64 * length c.args.config.now.table) u in
    let made = λ (n : ℕ). option_map (record_of t (numbered n)) (at (numbered n)) in
    let n = c.loop-number.number in
    let is = sym (c.found_at.ensures.value ∙ ap at c.numbered-seg.ensures.value) in
    elim c.match-found_at.branch [
      | in-Some w ↦ (
          let more = adding_more made n c.args.image.now c.loop-number.image w.add_record.new.image (record_of t (numbered n) w.in-Some.origin) c.loop-number.invariant
          (ap (option_map (record_of t (numbered n))) (is ∙ w.in-Some.is))
          (w.add_record.ensures.bytes ∙ ap (λ (u : SegId). c.loop-number.image.bytes ++ record_bytes (record_of t u w.in-Some.origin)) c.numbered-seg.ensures.value)
          w.add_record.ensures.few w.add_record.ensures.room in
          subst (λ (i : Drawn). Adding made (n + 1) c.args.image.now i) (sym w.image-is) more)
      | in_default w ↦ (
          let same = adding_same made n c.args.image.now c.loop-number.image c.loop-number.invariant (ap (option_map (record_of t (numbered n))) (is ∙ w.in_default.is)) in
          subst (λ (i : Drawn). Adding made (n + 1) c.args.image.now i) (sym w.image-is) same)
    ]

pub returns-clause-bytes : goal.returns-clause-bytes
returns-clause-bytes c =
    let t = tree_of_words (machine_of c.args.machine.now) in
    let at = λ (u : SegId). found (configuration c.args.config.now []) c.args.volume (listed c.args.origins.now) (64 * length c.args.config.now.table) u in
    let made = λ (n : ℕ). option_map (record_of t (numbered n)) (at (numbered n)) in
    let e : c.loop-number.number ≡ 64 * length c.args.config.now.table = omega arith in
    c.loop-number.invariant.bytes ∙ ap (λ (m : ℕ). c.args.image.now.bytes ++ flat_map record_bytes (filter_map made (below m))) e
