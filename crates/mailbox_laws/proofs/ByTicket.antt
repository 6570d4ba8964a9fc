-- Posts stand in the order of their tickets.
use Rattle.std.proofs.Common.{ℕ, zero, suc, ◌+◌, Bool, true, false, List, [], ◌∷◌, ◌++◌, ◌≡◌, refl, sym, ap, subst, ◌∙◌, Option, Some, None, length, take, arith}
use Rattle.std.specs.Prelude.{slice_get, if◌then◌else◌}
use Rattle.std.specs.List.{cons_option}
use Rattle.std.specs.Option.{option_map}
use Rattle.std.proofs.lemmas.List.Elements.{filter_map-append}
use Rattle.std.proofs.lemmas.List.Sums.{sum_by-cons}
use Rattle.words_layout.specs.Segments.{same_seg}
use Rattle.words_layout.specs.declared.segment.SegId.{SegId}
use Rattle.words_layout.proofs.Names.{same_seg-true}
use Rattle.policy.specs.Known.{Known}
use Rattle.policy.specs.Outcome.{Outcome, Value}
use Rattle.class_model.specs.Config.{Config}
use Rattle.class_model.specs.Process.{Process, ProcName, reg}
use Rattle.class_model.specs.Plan.{Request, Ticket}
use Rattle.class_model.specs.State.{process_at}
use Rattle.class_model.specs.Run.{Happened, history, opening}
use Rattle.class_model.specs.Valid.{IsConfig}
use Rattle.class_model.specs.Content.{draws, tickets_in, ShowsRight}
use Rattle.content_laws.proofs.Shown.{one}
use Rattle.content_laws.proofs.Steps.{StepShown, step_shown}
use Rattle.content_laws.proofs.History.{At, at_place}
use Rattle.mailbox_laws.specs.Mail.{PostsAreByTicket, posted, posts}
use Rattle.mailbox_laws.proofs.Runs.{deed_is, at_seam}

-- an effect that draws u posts r9 of its process
posted_is : (u : SegId) (h : Happened) (p : Process) → draws u h.deed.asked ≡ true → process_at h.before h.who ≡ Some p → posted u h ≡ Some (reg p 9)
posted_is u h p drawn there = ap (λ (b : Bool). if b then option_map (λ (p : Process). reg p 9) (process_at h.before h.who) else None) drawn ∙ ap (option_map (λ (p : Process). reg p 9)) there

not_posted : (u : SegId) (h : Happened) → draws u h.deed.asked ≡ false → posted u h ≡ None
not_posted u h none = ap (λ (b : Bool). if b then option_map (λ (p : Process). reg p 9) (process_at h.before h.who) else None) none

-- each of these effects is that of a process
abbrev HaveProcesses : List Happened → Type 0
HaveProcesses run = (i : ℕ) (h : Happened) → slice_get run i ≡ Some h → (p : Process) × (process_at h.before h.who ≡ Some p)

-- as many posts as tickets
count_posts : (u : SegId) (run : List Happened) → HaveProcesses run → length (posts u run) ≡ tickets_in u run
count_posts u [] have = refl
count_posts u (h ∷ run) have = by_draw (draws u h.deed.asked) refl (count_posts u run (λ i g e. have (suc i) g e)) ∙ sym (sum_by-cons (λ (h : Happened). one (draws u h.deed.asked)) h run)
  where
    by_draw : (b : Bool) → draws u h.deed.asked ≡ b → length (posts u run) ≡ tickets_in u run → length (posts u (h ∷ run)) ≡ one (draws u h.deed.asked) + tickets_in u run
    by_draw true e rest =
        let z = have 0 h refl in
        let a : length (posts u (h ∷ run)) ≡ suc (length (posts u run)) = ap (λ (o : Option ℕ). length (cons_option o (posts u run))) (posted_is u h z.0 e z.1) in
        let b : one (draws u h.deed.asked) ≡ 1 = ap one e in omega (arith, a, b, rest)
    by_draw false e rest =
        let a : length (posts u (h ∷ run)) ≡ length (posts u run) = ap (λ (o : Option ℕ). length (cons_option o (posts u run))) (not_posted u h e) in
        let b : one (draws u h.deed.asked) ≡ 0 = ap one e in omega (arith, a, b, rest)

-- what is in front of a place, and behind it
split : {X : Type 0} (xs : List X) (i : ℕ) (x : X) → slice_get xs i ≡ Some x → (rest : List X) × (xs ≡ take i xs ++ x ∷ rest)
split [] i x e = absurd (cc)
split (y ∷ ys) zero x e = let same : y ≡ x = cc in (ys, ap (λ z. z ∷ ys) same)
split (y ∷ ys) (suc i) x e = let r = split ys i x e in (r.0, ap (λ l. y ∷ l) r.1)

front_has : {X : Type 0} (xs : List X) (i j : ℕ) (x : X) → slice_get (take i xs) j ≡ Some x → slice_get xs j ≡ Some x
front_has [] i j x e = absurd (front_none i j e)
  where
    front_none : (i j : ℕ) → slice_get (take i []) j ≡ Some x → ⊥
    front_none zero j e = cc
    front_none (suc i) j e = cc
front_has (y ∷ ys) zero j x e = absurd (cc)
front_has (y ∷ ys) (suc i) zero x e = e
front_has (y ∷ ys) (suc i) (suc j) x e = front_has ys i j x e

module _ (k : Config) (names : List ProcName) (u : SegId) (valid : IsConfig k) where
  abbrev run : List Happened
  run = history (opening k) names

  have : HaveProcesses run
  have i h e = let d = deed_is h.before h.who h.deed (at_place k names valid i h e).0.made in (d.process, d.there)

  number : (i : ℕ) (h : Happened) (x : Known) (v : ℕ) → slice_get run i ≡ Some h → h.deed.asked ≡ Some (Ticket x, Value v) → same_seg x.seg u ≡ true → v ≡ tickets_in u (take i run)
  number i h x v e asked of_u =
      let place : At k (take i run) h = (at_place k names valid i h e).0 in
      let z = place.stands in
      let w : StepShown k (take i run) h.before h.who h.deed = step_shown k (take i run) place.steps h.before z.table z.good z.told z.shown z.looks h.who h.deed place.made in
      let right : v ≡ tickets_in x.seg (take i run) = right_of h.deed.asked asked w.right in
      right ∙ ap (λ s. tickets_in s (take i run)) (same_seg-true x.seg u of_u)
    where
      right_of : (o : Option (Request × Outcome)) → o ≡ Some (Ticket x, Value v) → (Rattle.content_laws.proofs.Steps.FewFor (take i run) o → ShowsRight k (take i run) h.who o) → v ≡ tickets_in x.seg (take i run)
      right_of o is w = (subst (λ o. Rattle.content_laws.proofs.Steps.FewFor (take i run) o → ShowsRight k (take i run) h.who o) is w) tt

  by_ticket : (i : ℕ) (h : Happened) (x : Known) (v : ℕ) (p : Process) → slice_get run i ≡ Some h → h.deed.asked ≡ Some (Ticket x, Value v) → same_seg x.seg u ≡ true → process_at h.before h.who ≡ Some p → slice_get (posts u run) v ≡ Some (reg p 9)
  by_ticket i h x v p e asked of_u there =
      let s = split run i h e in
      let here : posted u h ≡ Some (reg p 9) = posted_is u h p (ap (draws u) asked ∙ of_u) there in
      let all : posts u run ≡ posts u (take i run) ++ reg p 9 ∷ posts u s.0 = ap (posts u) s.1 ∙ filter_map-append (posted u) (take i run) (h ∷ s.0) ∙ ap (λ (o : Option ℕ). posts u (take i run) ++ cons_option o (posts u s.0)) here in
      let place : v ≡ length (posts u (take i run)) = number i h x v e asked of_u ∙ sym (count_posts u (take i run) (λ j g f. have j g (front_has run i j g f))) in
      ap (λ l. slice_get l v) all ∙ ap (λ j. slice_get (posts u (take i run) ++ reg p 9 ∷ posts u s.0) j) place ∙ at_seam (posts u (take i run)) (reg p 9) (posts u s.0)

pub posts_are_by_ticket : PostsAreByTicket
posts_are_by_ticket k names u valid = (count_posts u (history (opening k) names) (have k names u valid), λ i h x v p e asked of_u there. by_ticket k names u valid i h x v p e asked of_u there)
