-- After any steps of a valid configuration each class has at most as many stored cells as pages.
use Rattle.std.proofs.Common.{ℕ, ◌+◌, ◌++◌, ◌≤◌, ◌<◌, Bool, true, false, not, ◌&&◌, List, [], ◌∷◌, ◌≡◌, ◌⊎◌, inl, inr, refl, sym, ap, subst, Option, Some, None, arith}
use Rattle.std.specs.Prelude.{◌==◌, if◌then◌else◌, nat_le, nat_lt, count_by, is_some, is_none, replicate, unwrap_or}
use Rattle.std.specs.List.{position}
use Rattle.std.proofs.Math.Nat.{le_trans}
use Rattle.std.proofs.lemmas.Bool.{both_ways, cases_lt, le-leb}
use Rattle.lists.specs.Lists.{overwrite}
use Rattle.words_layout.specs.Segments.{seg, same_seg}
use Rattle.words_layout.specs.Words.{PageTenant}
use Rattle.words_layout.specs.declared.segment.SegId.{SegId}
use Rattle.words_layout.specs.declared.coding.Alias.{Alias}
use Rattle.words_layout.proofs.Names.{same_seg-refl}
use Rattle.policy.specs.Known.{Known}
use Rattle.policy.specs.Outcome.{Refused, Value, Printed}
use Rattle.policy.specs.Verdict.{first_broken, ◌⇒◌}
use Rattle.policy.specs.declared.rule.Rule.{Rule}
use Rattle.policy.specs.declared.rule.Rule.TheVariants.{Gone, NotIn, NoPage, ConsoleFull}
use Rattle.class_model.specs.Config.{Config, classes, pool_of, shared_of}
use Rattle.class_model.specs.Process.{Process, ProcName, known_at}
use Rattle.class_model.specs.Plan.{Plan, Own, Begin, Ask, Request, MakeKnown, Create, Delete, SwapIn, SwapOut, Fetch, Update, Read, Advance, Ticket, Out, plan}
use Rattle.class_model.specs.Run.{opening, opening_part, run, steps}
use Rattle.class_model.specs.State.{State, Part, Cell, Stored, In, Deleted, identities, is_deleted, is_in, live_words, pages_in_use, process_at, with_cell, with_part}
use Rattle.class_model.specs.Step.{Effect, begun, chosen, deed_by, deed_of, delete_effect, deleted, done, effect, emptied, step, swap_out_effect, with_entry}
use Rattle.class_model.specs.Valid.{IsConfig}
use Rattle.machine.specs.Opening.{opening_guarded}
use Rattle.report_laws.proofs.OpeningHolds.{opening_holds}
use Rattle.report_laws.proofs.Recorded.{valid_records}
use Rattle.effect_laws.proofs.Counting.{one_if, total, count-total, one-identity}
use Rattle.effect_laws.proofs.Filling.{total-most}
use Rattle.effect_laws.proofs.GateData.{put-seg-both}
use Rattle.effect_laws.proofs.GateLaws.{usable_known}
use Rattle.effect_laws.proofs.Good.{InUse, Good, ProcessGood}
use Rattle.effect_laws.proofs.GoodStep.{good_step}
use Rattle.effect_laws.proofs.Growing.{by_put}
use Rattle.effect_laws.proofs.OpeningGood.{opening_good}
use Rattle.effect_laws.proofs.Planned.{Planned, planned}
use Rattle.effect_laws.proofs.Pools.{pages-counted}

-- ---- counting

total_mono : {X : Type 0} (f g : X → ℕ) (xs : List X) → ((x : X) → f x ≤ g x) → total f xs ≤ total g xs
total_mono f g [] h = omega arith
total_mono f g (x ∷ xs) h = let a = h x in let b = total_mono f g xs h in omega (arith, a, b)

total_both : {X : Type 0} (f g : X → ℕ) (xs : List X) → total (λ x. f x + g x) xs ≡ total f xs + total g xs
total_both f g [] = refl
total_both f g (x ∷ xs) = let t = total_both f g xs in omega (arith, t)

one_mono : (a b : Bool) → (a ≡ true → b ≡ true) → one_if a ≤ one_if b
one_mono false b h = omega arith
one_mono true true h = omega arith
one_mono true false h = absurd (let e : false ≡ true = h refl in cc)

pub count_mono : {X : Type 0} (p q : X → Bool) (xs : List X) → ((x : X) → p x ≡ true → q x ≡ true) → count_by p xs ≤ count_by q xs
count_mono p q xs h =
    let a = count-total p xs in
    let b = count-total q xs in
    let t = total_mono (λ x. one_if (p x)) (λ x. one_if (q x)) xs (λ x. one_mono (p x) (q x) (h x)) in
    omega (arith, a, b, t)

one_either : (a b c : Bool) → (a ≡ true → (b ≡ true) ⊎ (c ≡ true)) → one_if a ≤ one_if b + one_if c
one_either false b c h = omega arith
one_either true true c h = omega arith
one_either true false true h = omega arith
one_either true false false h = absurd (elim (h refl) [ inl e ↦ (let f : false ≡ true = e in cc) | inr e ↦ (let f : false ≡ true = e in cc) ])

-- what passes but one identity passed before
count_one_more : (n : ℕ) (p q : SegId → Bool) (u : SegId) → u.mentor < n → u.serial < 64 → ((v : SegId) → p v ≡ true → (q v ≡ true) ⊎ (same_seg v u ≡ true)) →
    count_by p (identities n) ≤ count_by q (identities n) + 1
count_one_more n p q u m s h =
    let a = count-total p (identities n) in
    let b = count-total q (identities n) in
    let t = total_mono (λ v. one_if (p v)) (λ v. one_if (q v) + one_if (same_seg v u)) (identities n) (λ v. one_either (p v) (q v) (same_seg v u) (h v)) in
    let two = total_both (λ v. one_if (q v)) (λ v. one_if (same_seg v u)) (identities n) in
    let one = one-identity n u m s in
    omega (arith, a, b, t, two, one)

-- ---- what each request leaves of the stored cells

-- each class has at most as many stored cells as pages
abbrev pub PagesFit : State → Type 0
PagesFit a = (c : ℕ) → pages_in_use a.shared (a.part c) ≤ (pool_of a.shared c).pages

-- what is stored in a part was stored
abbrev StoredFrom : Part → Part → Type 0
StoredFrom part X = (v : SegId) → is_some (X.cell v).stored ≡ true → is_some (part.cell v).stored ≡ true

put_stored : (part : Part) (u : SegId) (cell : Cell) → (is_some cell.stored ≡ true → is_some (part.cell u).stored ≡ true) → StoredFrom part (with_cell part u cell)
put_stored part u cell h v = put-seg-both (λ w (c : Cell). is_some c.stored ≡ true → is_some (part.cell w).stored ≡ true) part.cell u v cell
    (λ q s. subst (λ w. is_some (part.cell w).stored ≡ true) (sym q) (h s)) (λ q s. s)

module _ (n : ℕ) (a : State) (good : Good n a) (fit : PagesFit a) (d : ℕ) where
  abbrev Fits : Part → Type 0
  Fits X = pages_in_use a.shared X ≤ (pool_of a.shared d).pages

  from_here : (X : Part) → StoredFrom (a.part d) X → Fits X
  from_here X h = le_trans (count_mono (λ v. is_some (X.cell v).stored) (λ v. is_some ((a.part d).cell v).stored) (identities (classes a.shared)) h) (fit d)

  tested : (r : Option Rule) (e : Effect) → Fits e.part → Fits (chosen (a.part d) r e).part
  tested None e h = h
  tested (Some rule) e h = fit d

  with_same : (u : SegId) (cell : Cell) → (is_some cell.stored ≡ true → is_some ((a.part d).cell u).stored ≡ true) → Fits (with_cell (a.part d) u cell)
  with_same u cell h = from_here (with_cell (a.part d) u cell) (put_stored (a.part d) u cell h)

  delete_fits : (u : SegId) (e : ℕ) (o : Option Alias) → Fits (delete_effect d (a.part d) u e o).part
  delete_fits u e None = fit d
  delete_fits u e (Some x) = tested _ _ (by_class (seg d x.serial) (x.class == d))
    where
      emptied_stored : (part : Part) → StoredFrom part (emptied part u e)
      emptied_stored part = put_stored part u (with_entry (part.cell u) e None) (λ s. s)

      by_class : (child : SegId) (b : Bool) → Fits (emptied (if b then deleted (a.part d) child else a.part d) u e)
      by_class child true = from_here (emptied (deleted (a.part d) child) u e)
          (λ v s. put_stored (a.part d) child (record ((a.part d).cell child) { home = Deleted; stored = None }) (λ z. absurd (cc)) v (emptied_stored (deleted (a.part d) child) v s))
      by_class child false = from_here (emptied (a.part d) u e) (emptied_stored (a.part d))

  -- a cell that goes out
  abbrev gone_out : SegId → Cell
  gone_out u = record ((a.part d).cell u) { home = Stored; stored = Some (live_words ((a.part d).cell u)) }

  swap_out_fits : (k : Known) → InUse a k.seg → Fits (swap_out_effect a.shared d (a.part d) k).part
  swap_out_fits k used = by_tests (is_deleted ((a.part d).cell k.seg)) (not (is_in ((a.part d).cell k.seg)))
      (is_none ((a.part d).cell k.seg).stored && nat_le (pool_of a.shared d).pages (pages_in_use a.shared (a.part d))) refl
    where
      serial : k.seg.serial < 64
      serial = let s = used.serial in let m = good.serials k.seg.mentor in omega (arith, s, m)

      one_more : pages_in_use a.shared (with_cell (a.part d) k.seg (gone_out k.seg)) ≤ pages_in_use a.shared (a.part d) + 1
      one_more = count_one_more (classes a.shared) (λ v. is_some ((with_cell (a.part d) k.seg (gone_out k.seg)).cell v).stored)
          (λ v. is_some ((a.part d).cell v).stored) k.seg used.mentor serial
          (λ v. put-seg-both (λ w (c : Cell). is_some c.stored ≡ true → (is_some ((a.part d).cell w).stored ≡ true) ⊎ (same_seg w k.seg ≡ true)) (a.part d).cell k.seg v
          (gone_out k.seg)
          (λ q s. inr (subst (λ w. same_seg w k.seg ≡ true) (sym q) (same_seg-refl k.seg))) (λ q s. inl s))

      by_stored : (o : Option (List ℕ)) → ((a.part d).cell k.seg).stored ≡ o → (is_none o && nat_le (pool_of a.shared d).pages (pages_in_use a.shared (a.part d))) ≡ false →
          Fits (with_cell (a.part d) k.seg (gone_out k.seg))
      by_stored (Some ws) e f = with_same k.seg (gone_out k.seg) (λ s. ap is_some e)
      by_stored None e f = elim (cases_lt (pages_in_use a.shared (a.part d)) (pool_of a.shared d).pages) [
        | inl lt ↦ (let m = one_more in omega (arith, m, lt))
        | inr le ↦ absurd (both_ways _ f (le-leb (pool_of a.shared d).pages (pages_in_use a.shared (a.part d)) le))
      ]

      by_tests : (x y z : Bool) → (is_none ((a.part d).cell k.seg).stored && nat_le (pool_of a.shared d).pages (pages_in_use a.shared (a.part d))) ≡ z →
          Fits (chosen (a.part d) (first_broken ((x ⇒ Gone) ∷ (y ⇒ NotIn) ∷ (z ⇒ NoPage) ∷ []))
          (record { part = with_cell (a.part d) k.seg (gone_out k.seg); outcome = Value 0 })).part
      by_tests true y z e = fit d
      by_tests false true z e = fit d
      by_tests false false true e = fit d
      by_tests false false false e = by_stored ((a.part d).cell k.seg).stored refl e

  effect_fits : (p : Process) → ProcessGood good.given a d p → (q : Request) → Planned a.shared p q → Fits (effect a d p.ring q).part
  effect_fits p pg (MakeKnown k e mode) h = fit d
  effect_fits p pg (Create k e class b size) h = tested _ _ (with_same k.seg (with_entry ((a.part d).cell k.seg) e _) (λ s. s))
  effect_fits p pg (Delete k e) h = delete_fits k.seg e _
  effect_fits p pg (SwapIn k) h = tested _ _ (with_same k.seg (record ((a.part d).cell k.seg) { home = In (unwrap_or ((a.part d).cell k.seg).stored (replicate k.size 0)) }) (λ s. s))
  effect_fits p pg (SwapOut k) h = swap_out_fits k (pg.known h.0 k (usable_known (known_at p h.0) k h.1)).in_use
  effect_fits p pg (Fetch k offset count pad) h = tested _ _ (fit d)
  effect_fits p pg (Update k offset words) h = tested _ _ (with_same k.seg (record ((a.part d).cell k.seg) { home = In (overwrite (live_words ((a.part d).cell k.seg)) offset words); writes = ((a.part d).cell k.seg).writes + 1 }) (λ s. s))
  effect_fits p pg (Read k wanted t) h = fit d
  effect_fits p pg (Advance k) h = fit d
  effect_fits p pg (Ticket k) h = with_same k.seg (record ((a.part d).cell k.seg) { sequencer = ((a.part d).cell k.seg).sequencer + 1 }) (λ s. s)
  effect_fits p pg (Out value) h = by_room (nat_lt (a.part d).used a.shared.console)
    where
      by_room : (b : Bool) → Fits
          (let e : Effect = if b then record { part = record (a.part d) { lines = (a.part d).lines ++ value ∷ []; used = (a.part d).used + 1 }; outcome = Printed (a.part d).used value }
          else record { part = record (a.part d) { used = (a.part d).used + 1 }; outcome = Refused ConsoleFull } in e).part
      by_room true = fit d
      by_room false = fit d

  fits_with : (X : Part) → Fits X → PagesFit (with_part a d X)
  fits_with X h c = by_put (λ c (z : Part). pages_in_use a.shared z ≤ (pool_of a.shared c).pages) a.part d X c h (λ e. fit c)

-- ---- a step

module _ (n : ℕ) (a : State) (good : Good n a) (fit : PagesFit a) (name : ProcName) (p : Process) (there : process_at a name ≡ Some p) where
  begun_fits : (child : Process) (o : Option ℕ) → PagesFit (with_part a name.class (begun (a.part name.class) name p child o))
  begun_fits child None = fits_with n a good fit name.class _ (fit name.class)
  begun_fits child (Some slot) = fits_with n a good fit name.class _ (fit name.class)

  by_plan : (y : Plan) → plan a.shared name.class p ≡ y → PagesFit (with_part a name.class (deed_of a name p y).part)
  by_plan (Own after) e = fits_with n a good fit name.class _ (fit name.class)
  by_plan (Begin child) e = begun_fits child (position (λ q. is_none q) ((a.part name.class).slots name.processor))
  by_plan (Ask q) e = fits_with n a good fit name.class _ (effect_fits n a good fit name.class p (good.processes name p there) q (planned a.shared name.class p q e))

  by_live : (b : Bool) → PagesFit (done a name.class (if b then Some (deed_of a name p (plan a.shared name.class p)) else None))
  by_live true = by_plan (plan a.shared name.class p) refl
  by_live false = fit

fits_step : (n : ℕ) (a : State) (name : ProcName) → Good n a → PagesFit a → PagesFit (step a name)
fits_step n a name good fit = by_process (process_at a name) refl
  where
    by_process : (o : Option Process) → process_at a name ≡ o → PagesFit (done a name.class (deed_by a name o))
    by_process None e = fit
    by_process (Some p) e = by_live n a good fit name p e p.live

-- ---- a run

opening_fits : (k : Config) → IsConfig k → PagesFit (opening k)
opening_fits k valid c =
    let counted = pages-counted (shared_of k) (pool_of (shared_of k) c) (opening_guarded k c) (opening_part k c) (opening_holds k (valid_records k valid) c) kept in
    let most = total-most (λ f. not (opening_guarded k c (PageTenant f) == 0)) 0 (pool_of (shared_of k) c).pages in
    omega (arith, counted, most)
  where
    kept : (u : SegId) (words : List ℕ) → ((opening_part k c).cell u).stored ≡ Some words → (u.mentor < classes (shared_of k)) × (u.serial < 64)
    kept u words e =
        let good = opening_good k valid in
        let used = ((good.cells c u).stored words e).in_use in
        let s = used.serial in
        let m = good.serials u.mentor in (used.mentor, omega (arith, s, m))

fits_steps : (names : List ProcName) (n : ℕ) (a : State) → Good n a → PagesFit a → PagesFit (steps a names)
fits_steps [] n a good fit = fit
fits_steps (x ∷ names) n a good fit = fits_steps names (n + 1) (step a x) (good_step n a x good) (fits_step n a x good fit)

pub pages_fit : (k : Config) → IsConfig k → (names : List ProcName) → PagesFit (run k names)
pages_fit k valid names = fits_steps names 0 (opening k) (opening_good k valid) (opening_fits k valid)
