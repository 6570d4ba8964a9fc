-- What a collector holds is a prefix of what was posted.
use Rattle.std.proofs.Common.{ℕ, ◌+◌, ◌<◌, ◌≤◌, true, List, ◌++◌, ◌≡◌, refl, sym, ap, subst, ◌∙◌, Some, length, take, drop, arith}
use Rattle.std.proofs.lemmas.List.{ext_get_or, get_or-take, take-append-drop, length-take-le}
use Rattle.words_layout.specs.Segments.{same_seg}
use Rattle.words_layout.specs.declared.segment.SegId.{SegId}
use Rattle.policy.specs.Known.{Known}
use Rattle.class_model.specs.Config.{Config}
use Rattle.class_model.specs.Process.{Process, reg, known_at}
use Rattle.class_model.specs.State.{State}
use Rattle.mailbox_laws.specs.Mail.{BeginsWith, HasMadeKnown, HoldsPrefixes}
use Rattle.mailbox_laws.specs.Places.{HasCollected, Collecting, CollectorAt, Collected, MailStands, sets_entry, sets_mode, finds, tests_found, finds_again, has, sets_count, sets_one, goes, ends, copies, adds, awaits, fetches, tests_fetched, fetches_again, has_fetched, prints, counts, goes_back}

less : (posts : List ℕ) (count : ℕ) (p : Process) → HasCollected posts count (reg p 9 + 1) p → HasCollected posts count (reg p 9) p
less posts count p h = let up = h.served in record { served = omega (arith, up); same = λ i low. h.same i (omega (arith, low)) }

-- so many words of the pad are the first ones of the posts
begins : (posts : List ℕ) (count n : ℕ) (p : Process) → count ≤ length posts → count ≤ 64 → length p.pad ≡ 64 → HasCollected posts count n p → BeginsWith posts (take n p.pad)
begins posts count n p drawn few wide h = (drop n posts, sym (ap (λ l. l ++ drop n posts) same ∙ take-append-drop n posts))
  where
    same : take n p.pad ≡ take n posts
    same =
        let up = h.served in
        let a : length (take n p.pad) ≡ n = length-take-le n p.pad (omega (arith, wide, up, few)) in
        let b : length (take n posts) ≡ n = length-take-le n posts (omega (arith, drawn, up)) in
        ext_get_or 0 _ _ (a ∙ sym b) (λ i low. (let below : i < n = omega (arith, low, a) in get_or-take n p.pad i 0 below ∙ h.same i below ∙ sym (get_or-take n posts i 0 below)))

module _ (posts : List ℕ) (count : ℕ) (u : SegId) (p : Process) (drawn : count ≤ length posts) (few : count ≤ 64) (wide : length p.pad ≡ 64) (made : HasMadeKnown p u) where
  -- with r9 still 0 it holds nothing
  nothing : reg p 9 ≡ 0 → BeginsWith posts (take (reg p 9) p.pad)
  nothing e = subst (λ n. BeginsWith posts (take n p.pad)) (sym e) (posts, refl)

  -- the segment that it has made known is the one at r8
  held : (H : Type 0) → Collecting p → ((x : Known) → known_at p (reg p 8) ≡ Some x → same_seg x.seg u ≡ true → H) → H
  held H c h = h made.known (subst (λ i. known_at p i ≡ Some made.known) (c.found.only made.place made.known made.made made.there) made.there) made.of_u

  holds : HasCollected posts count (reg p 9) p → BeginsWith posts (take (reg p 9) p.pad)
  holds h = begins posts count (reg p 9) p drawn few wide h

  at_each : (at : CollectorAt p) → ((x : Known) → known_at p (reg p 8) ≡ Some x → same_seg x.seg u ≡ true → Collected posts count p at) → BeginsWith posts (take (reg p 9) p.pad)
  at_each (sets_entry at z n) h = nothing z
  at_each (sets_mode at z n) h = nothing z
  at_each (finds at z m n) h = nothing z
  at_each (tests_found at z m f n) h = nothing z
  at_each (finds_again at z m n) h = nothing z
  at_each (has at z f) h = nothing z
  at_each (sets_count at z f) h = nothing z
  at_each (sets_one at z f) h = nothing z
  at_each (goes at c) h = holds (held _ c h)
  at_each (ends at c) h = holds (held _ c h)
  at_each (copies at c) h = holds (held _ c h)
  at_each (adds at c e) h = holds (held _ c h)
  at_each (awaits at c e) h = holds (held _ c h)
  at_each (fetches at c) h = holds (held _ c h).0
  at_each (tests_fetched at c) h = holds (held _ c h).0
  at_each (fetches_again at c) h = holds (held _ c h).0
  at_each (has_fetched at c) h = holds (less posts count p (held _ c h))
  at_each (prints at c) h = holds (less posts count p (held _ c h))
  at_each (counts at c) h = holds (less posts count p (held _ c h))
  at_each (goes_back at c) h = holds (held _ c h)

-- what stands gives the law
pub arrives_by : (k : Config) (u : SegId) (posts words : List ℕ) (count : ℕ) (a : State) → MailStands k u posts words count a → HoldsPrefixes k u posts a
arrives_by k u posts words count a m n p i there made = let c = m.collectors n p i there in at_each posts count u p m.mail.drawn m.few c.runs.pad made c.at c.has
