use Rattle.std.proofs.Common.{ℕ, ◌≡◌, ◌+◌, ◌∙◌, ap, subst}
use Rattle.lists.specs.Lists.{put}
use Rattle.words_layout.specs.Segments.{put_seg}
use Rattle.words_layout.specs.declared.segment.SegId.{SegId}
use Rattle.policy.specs.Outcome.{Value}
use Rattle.class_model.specs.Step.{advance_effect}
use Rattle.class_model.specs.declared.request.Shown.TheVariants as S
use Rattle.whole_machine.specs.Parts.{ListedPart, count_in, part_in}
use Rattle.whole_machine.specs.Shows.{Shows}
use Rattle.whole_machine.proofs.part.PartState.advance.Goals as goal

pub returns-clause-ok : goal.returns-clause-ok
returns-clause-ok c =
    let x = c.args.class in
    let u = c.args.seg in
    let q : ListedPart = record { cells = c.self.inside.cells; counts = c.self.inside.counts; next_serial = c.self.inside.next_serial; lines = c.self.inside.lines.items; used = c.self.inside.used; bank = c.self.inside.bank.items } in
    let after : ListedPart = record { cells = c.self.inside.cells; counts = c.raise.new.counts; next_serial = c.self.inside.next_serial; lines = c.self.inside.lines.items; used = c.self.inside.used; bank = c.self.inside.bank.items } in
    let P : ListedPart → Type 0 = λ z. Shows (advance_effect (part_in z) x u) after (S.Value c.in_ok-count.count) in
    let same : count_in c.list_count.new.counts ≡ count_in q.counts = λ k z v. (c.in_ok-at.ensures.same z v) k in
    let place = c.in_ok-at.ensures.ok in
    let counts = c.in_ok-count.ensures.ok x u place ∙ ap (λ (f : ℕ → SegId → ℕ). put f x (put_seg (f x) u (f x u + 1))) same in
    subst P c.self.view_is (record {
      part = ap (λ (f : ℕ → SegId → ℕ). record (part_in q) { component = f }) counts;
      outcome = ap Value (c.in_ok-count.ensures.count x u place ∙ ap (λ (n : ℕ). n + 1) (c.in_ok-at.ensures.same x u));
    })
