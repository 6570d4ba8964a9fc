-- The laws of update, fetch, makeknown and create, from what is true of the other machine's state.
use Rattle.std.proofs.Common.{ℕ, zero, suc, ◌+◌, ◌-◌, ◌^◌, ◌≤◌, ◌<◌, Bool, true, false, ◌&&◌, ◌||◌, List, [], ◌∷◌, ◌++◌, ◌≡◌, refl, ap, ◌∙◌, Option, Some, None, arith, length}
use Rattle.std.specs.Prelude.{◌==◌, if◌then◌else◌, nat_lt, nat_le}
use Rattle.std.proofs.lemmas.Bool.{eq-eqb, and_parts, and_from, ltb-false, leb-true, le-leb, lt-ltb}
use Rattle.std.proofs.Math.ListN.{length-map}
use Rattle.lists.specs.Lists.{numbers_from, below}
use Rattle.rings.specs.Brackets.{Brackets, in_order}
use Rattle.words_layout.specs.declared.segment.SegId.{SegId}
use Rattle.words_layout.specs.declared.coding.Home.{Home}
use Rattle.words_layout.specs.declared.coding.Home.TheVariants as H
use Rattle.words_layout.specs.declared.coding.Alias.{Alias}
use Rattle.words_layout.specs.Words.{OfSegment, GuardedWords, set_guarded, NextSerial, HomeOf, EntryOf, FrameWord, Words}
use Rattle.words_layout.specs.Coding.{home_of, entry_of}
use Rattle.policy.specs.Known.{Known, signals, usable, in_table}
use Rattle.policy.specs.Outcome.{Outcome}
use Rattle.policy.specs.Private.{bounds_test, ring_read_test, brackets_of}
use Rattle.policy.specs.Known.{new_alias}
use Rattle.words_layout.specs.Coding.{alias_in_range}
use Rattle.words_layout.proofs.Names.{same_seg-refl}
use Rattle.effect_laws.proofs.GateTree.{create-atomic}
use Rattle.class_model.specs.State.{with_cell}
use Rattle.class_model.specs.Step.{with_entry}
use Rattle.policy.specs.declared.rule.Rule.{Rule}
use Rattle.turns.specs.Bodies.{Outer}
use Rattle.turns.specs.AtOnce.{run_loads, run_inner, run_outer, Ran}
use Rattle.data_gates.specs.Data.{load_words, fetch_home, fetch_body, store_words, count_write, update_home, update_body}
use Rattle.tree_gates.specs.Tree.{make_known_body, create_body, create_home, create_entry}
use Rattle.class_model.specs.Config.{pool_of, classes}
use Rattle.class_model.specs.Process.{Process, known_at}
use Rattle.class_model.specs.Plan.{MakeKnown, Create, Fetch, Update}
use Rattle.class_model.specs.State.{State, Part, Cell, In, cell_of, entry_at}
use Rattle.class_model.specs.Step.{Effect, chosen}
use Rattle.effect_laws.proofs.Good.{Good, EntryGood, KnownGood, ProcessGood}
use Rattle.effect_laws.proofs.Planned.{Planned, Passed}
use Rattle.effect_laws.proofs.CreateTests.{passed_head, or_false}
use Rattle.effect_laws.proofs.CreateTests as T
use Rattle.machine.specs.Machine.{ClassPart}
use Rattle.machine.specs.Reading.{words_from}
use Rattle.machine.specs.Stands.{Holds, HomeHolds, names_frame}
use Rattle.effect_laws.proofs.GateData.{InRange, FitsHome, fetch-atomic, update-atomic, put-seg-both}
use Rattle.effect_laws.proofs.GateTree.{make_known-atomic}
use Rattle.effect_laws.proofs.Guards.{just, covers, frame_guard}
use Rattle.effect_laws.proofs.Paths.{LoadsWithin, InnerWithin, OuterWithin}
use Rattle.effect_laws.proofs.Refinement.{Counters, Standing, IsEffect}
use Rattle.effect_laws.proofs.StandFor.{tenant_guard}

pub usable_known : (o : Option Known) (k : Known) → usable o ≡ Some k → o ≡ Some k
usable_known None k h = cc
usable_known (Some j) k h = by_test (signals j.rights) h
  where
    by_test : (b : Bool) → (if b then None else Some j) ≡ Some k → (let o : Option Known = Some j in o) ≡ Some k
    by_test true h = cc
    by_test false h = h

-- what holds of a part and of an effect's part holds after tests
pub unless_part : (P : Part → Type 0) (part : Part) (r : Option Rule) (e : Effect) → P part → P e.part → P (chosen part r e).part
unless_part P part None e a b = b
unless_part P part (Some rule) e a b = a

module _ (n : ℕ) (m : ℕ → ClassPart) (committed : ℕ → GuardedWords) (a : State) (n_small : n < 2 ^ 64 - 1) (good : Good n a) (agrees : Standing m committed a) where
  -- the frame of a segment is its own, and its words are guarded by it
  pub in_range : (x : ℕ) → InRange (committed x)
  in_range x u f named = by_home (home_of (committed x (HomeOf u))) named ((agrees.holds x).of_segments u).home
    where
      by_home : (h : Home) → names_frame h f ≡ true → HomeHolds (committed x) h ((a.part x).cell u).home → u.serial < 64
      by_home (H.Resident g page size) k h =
          let words = (good.cells x u).live _ h in
          let serial : u.serial < (a.part u.mentor).next_serial = words.in_use.serial in
          let limit : (a.part u.mentor).next_serial ≤ 64 = good.serials u.mentor in omega (arith, serial, limit)
      by_home H.Never k h = cc
      by_home (H.Stored g size) k h = cc
      by_home H.Deleted k h = cc

  frame_covered : (x : ℕ) (u : SegId) (f i : ℕ) → names_frame (home_of (committed x (HomeOf u))) f ≡ true → covers (committed x) (just (OfSegment u)) (FrameWord f i) ≡ true
  frame_covered x u f i named =
      ap (λ z. just (OfSegment u) (frame_guard z)) (((agrees.holds x).of_class.frames f).is u named)
      ∙ ap (just (OfSegment u)) (tenant_guard u (in_range x u f named)) ∙ same_seg-refl u

  module _ (x : ℕ) (u : SegId) where
    -- the words of an update
    stores_within : (f at : ℕ) (words : List ℕ) (v : GuardedWords) → names_frame (home_of (committed x (HomeOf u))) f ≡ true →
        InnerWithin (committed x) (just (OfSegment u)) (store_words f at words (count_write u)) v
    stores_within f at [] v named = (same_seg-refl u, tt)
    stores_within f at (w ∷ ws) v named = (frame_covered x u f at named, stores_within f (at + 1) ws (set_guarded v (FrameWord f at) w) named)

    pub update_within : (offset : ℕ) (words : List ℕ) → InnerWithin (committed x) (just (OfSegment u)) (update_body u offset words) (committed x)
    update_within offset words = (same_seg-refl u, by_home (home_of (committed x (HomeOf u))) refl)
      where
        by_home : (h : Home) → home_of (committed x (HomeOf u)) ≡ h → InnerWithin (committed x) (just (OfSegment u)) (update_home u offset words h) (committed x)
        by_home H.Never e = tt
        by_home (H.Stored g size) e = tt
        by_home H.Deleted e = tt
        by_home (H.Resident f page size) e = stores_within f offset words (committed x) (rw e (eq-eqb f f refl))

    -- the words of a fetch
    loads_within : (f at k : ℕ) (got : List ℕ) (pad : ℕ) → names_frame (home_of (committed x (HomeOf u))) f ≡ true →
        LoadsWithin (committed x) (just (OfSegment u)) (load_words f at k got pad)
    loads_within f at zero got pad named = tt
    loads_within f at (suc k) got pad named = (frame_covered x u f at named, loads_within f (at + 1) k (got ++ committed x (FrameWord f at) ∷ []) pad named)

    pub fetch_within : (offset count pad : ℕ) → LoadsWithin (committed x) (just (OfSegment u)) (fetch_body u offset count pad)
    fetch_within offset count pad = (same_seg-refl u, by_home (home_of (committed x (HomeOf u))) refl)
      where
        by_home : (h : Home) → home_of (committed x (HomeOf u)) ≡ h → LoadsWithin (committed x) (just (OfSegment u)) (fetch_home offset count pad h)
        by_home H.Never e = tt
        by_home (H.Stored g size) e = tt
        by_home H.Deleted e = tt
        by_home (H.Resident f page size) e = loads_within f offset count [] pad (rw e (eq-eqb f f refl))

    -- the words of a create
    pub create_within : (e class : ℕ) (b : Brackets) (size : ℕ) → OuterWithin (committed x) (create_body u e class b size) (committed x)
    create_within e class b size = (refl, by_home (home_of (committed x (HomeOf u))))
      where
        by_test : (t : Bool) (k : ℕ) → OuterWithin (committed x) (if t then Outer.Shows (Outcome.Refused Rattle.policy.specs.declared.rule.Rule.TheVariants.SerialsUsed) else Outer.Store NextSerial (Rattle.words_layout.specs.Words.plus_one k)
            (Outer.Store (EntryOf u e) (Rattle.words_layout.specs.Coding.pack_entry (Rattle.policy.specs.Known.new_alias class b size k)) (Outer.Shows (Outcome.Value k)))) (committed x)
        by_test true k = tt
        by_test false k = (refl, (refl, tt))

        by_entry : (o : Option Alias) → OuterWithin (committed x) (create_entry u e class b size o) (committed x)
        by_entry (Some y) = tt
        by_entry None = (refl, by_test (nat_le 64 (committed x NextSerial)) (committed x NextSerial))

        by_home : (h : Home) → OuterWithin (committed x) (create_home u e class b size h) (committed x)
        by_home H.Deleted = tt
        by_home H.Never = (refl, by_entry (entry_of (committed x (EntryOf u e))))
        by_home (H.Stored g z) = (refl, by_entry (entry_of (committed x (EntryOf u e))))
        by_home (H.Resident f page z) = (refl, by_entry (entry_of (committed x (EntryOf u e))))

  module _ (d : ℕ) (p : Process) (pg : ProcessGood good.given a d p) where
    here_counts : Counters (m d).words (a.part d)
    here_counts = agrees.counters d

    -- update
    pub update_law : (k : Known) (offset : ℕ) (words : List ℕ) →
        (let ran : Ran Outcome = run_inner (update_body k.seg offset words) (committed d) in
        IsEffect a.shared (m d).words ran.words a d p.ring (Update k offset words) ran.shown)
    update_law k offset words =
        let law = update-atomic (pool_of a.shared d) (committed d) (a.part d) k.seg offset words (agrees.holds d) (in_range d) writes_small in
        record {
          outcome = law.outcome;
          holds = law.held;
          counters = unless_part (λ (z : Part). Counters (m d).words z) (a.part d) _ _ here_counts after_counts;
          slots = unless_part (λ (z : Part). z.slots ≡ (a.part d).slots) (a.part d) _ _ refl refl;
        }
      where
        writes_small : ((a.part d).cell k.seg).writes < 2 ^ 64 - 1
        writes_small = let w : ((a.part d).cell k.seg).writes ≤ n = (good.cells d k.seg).writes in omega (arith, w, n_small)

        after_cell : Cell
        after_cell = record ((a.part d).cell k.seg) {
          home = In (Rattle.lists.specs.Lists.overwrite (Rattle.class_model.specs.State.live_words ((a.part d).cell k.seg)) offset words);
          writes = ((a.part d).cell k.seg).writes + 1;
        }

        after_counts : Counters (m d).words (Rattle.class_model.specs.State.with_cell (a.part d) k.seg after_cell)
        after_counts = record {
          places = here_counts.places;
          components = here_counts.components;
          sequencers = λ v. put-seg-both (λ v (c : Cell). (m d).words.sequencer v ≡ c.sequencer) (a.part d).cell k.seg v after_cell (λ e. rw e (here_counts.sequencers k.seg)) (λ e. here_counts.sequencers v);
        }

    -- fetch, where its private tests have passed
    pub fetch_law : (k : Known) (offset count pad : ℕ) → Planned a.shared p (Fetch k offset count pad) →
        IsEffect a.shared (m d).words (committed d) a d p.ring (Fetch k offset count pad) (run_loads (fetch_body k.seg offset count pad) (committed k.class))
    fetch_law k offset count pad planned = record {
      outcome = fetch-atomic (committed k.class) (a.part k.class) k.seg offset count pad ((agrees.holds k.class).of_segments k.seg) fits (a.part d);
      holds = unless_part (λ (z : Part). Holds (pool_of a.shared d) (committed d) z) (a.part d) _ _ (agrees.holds d) (agrees.holds d);
      counters = unless_part (λ (z : Part). Counters (m d).words z) (a.part d) _ _ here_counts here_counts;
      slots = unless_part (λ (z : Part). z.slots ≡ (a.part d).slots) (a.part d) _ _ refl refl;
    }
      where
        known : KnownGood good.given a d k
        known = pg.known planned.0 k (usable_known (known_at p planned.0) k planned.1)

        bounded : offset + count ≤ k.size
        bounded =
            let tests = passed_head (ring_read_test p.ring k) (bounds_test k offset count pad ∷ []) planned.2 in
            let bounds = passed_head (bounds_test k offset count pad) [] tests.1 in
            let o1 = or_false ((count == 0 || nat_lt 64 count) || nat_lt k.size (offset + count)) (nat_lt 64 (pad + count)) bounds.0 in
            let o2 = or_false (count == 0 || nat_lt 64 count) (nat_lt k.size (offset + count)) o1.0 in
            ltb-false k.size (offset + count) o2.1

        length-numbers : (from k : ℕ) → length (numbers_from from k) ≡ k
        length-numbers from zero = refl
        length-numbers from (suc k) = ap suc (length-numbers (from + 1) k)

        by_home : (h : Home) → HomeHolds (committed k.class) h (cell_of a k).home → FitsHome offset count h
        by_home H.Never h = tt
        by_home (H.Stored g size) h = tt
        by_home H.Deleted h = tt
        by_home (H.Resident f page size) h =
            let words = (good.cells k.class k.seg).live _ h in
            let all : length (words_from (λ i. committed k.class (FrameWord f i)) size) ≡ size = length-map (below size) (λ i. committed k.class (FrameWord f i)) ∙ length-numbers 0 size in
            let given : length (words_from (λ i. committed k.class (FrameWord f i)) size) ≡ good.given.size k.class k.seg = words.size in
            let same : k.size ≡ good.given.size k.class k.seg = known.size in
            omega (arith, all, given, same, bounded)

        fits : FitsHome offset count (home_of (committed k.class (HomeOf k.seg)))
        fits = by_home (home_of (committed k.class (HomeOf k.seg))) ((agrees.holds k.class).of_segments k.seg).home

    -- makeknown
    pub make_known_law : (k : Known) (e mode : ℕ) →
        IsEffect a.shared (m d).words (committed d) a d p.ring (MakeKnown k e mode) (run_loads (make_known_body a.shared.table d p.ring k e mode) (committed k.class))
    make_known_law k e mode = record {
      outcome = make_known-atomic (pool_of a.shared k.class) (committed k.class) (a.part k.class) a.shared.table d p.ring k e mode (agrees.holds k.class).of_class
          (by_entry (entry_at (cell_of a k) e) refl);
      holds = agrees.holds d;
      counters = here_counts;
      slots = refl;
    }
      where
        by_entry : (o : Option Alias) → entry_at (cell_of a k) e ≡ o → in_table a.shared.table o ≡ o
        by_entry None h = refl
        by_entry (Some x) h =
            let entry : EntryGood good.given a k.class x = (good.cells k.class k.seg).entries e x h in
            let small : nat_lt x.class (classes a.shared) ≡ true = lt-ltb x.class (classes a.shared) entry.class in
            rw (and_from _ _ small entry.in_order) refl

    -- create, where its private tests have passed
    module _ (k : Known) (e class : ℕ) (size x : ℕ) (tests : Passed (Rattle.policy.specs.Private.create_tests a.shared.table p.ring e class x size k)) where
      abbrev b : Brackets
      b = brackets_of x

      entry_small : e < 8
      entry_small = T.entry_small a.shared.table p.ring e class size x k tests

      class_small : class < 16
      class_small =
          let f : class < classes a.shared = T.class_there a.shared.table p.ring e class size x k tests in
          let g : classes a.shared ≤ 16 = good.sound.table.few in omega (arith, f, g)

      ordered : in_order b ≡ true
      ordered = T.ordered a.shared.table p.ring e class size x k tests

      range : (a.part d).next_serial < 64 → alias_in_range (new_alias class b size (a.part d).next_serial) ≡ true
      range small =
          let o1 = and_parts (nat_le b.r1 b.r2 && nat_le b.r2 b.r3) (nat_le b.r3 7) ordered in
          let o2 = and_parts (nat_le b.r1 b.r2) (nat_le b.r2 b.r3) o1.0 in
          let r3 : b.r3 ≤ 7 = leb-true b.r3 7 o1.1 in
          let r23 : b.r2 ≤ b.r3 = leb-true b.r2 b.r3 o2.1 in
          let r12 : b.r1 ≤ b.r2 = leb-true b.r1 b.r2 o2.0 in
          let some : 1 ≤ size = T.size_low a.shared.table p.ring e class size x k tests in
          let most : size ≤ 64 = T.size_high a.shared.table p.ring e class size x k tests in
          rw (
            lt-ltb class 16 class_small,
            le-leb b.r1 7 (omega (arith, r3, r23, r12)),
            le-leb b.r2 7 (omega (arith, r3, r23)),
            le-leb b.r3 7 r3,
            le-leb 1 size some,
            le-leb size 64 most,
            lt-ltb (a.part d).next_serial 64 small,
          ) refl

      eight : e < length ((a.part d).cell k.seg).entries
      eight = let l : length ((a.part d).cell k.seg).entries ≡ 8 = (good.cells d k.seg).eight in omega (arith, l, entry_small)

      pub create_law : (let ran : Ran Outcome = run_outer (create_body k.seg e class b size) (committed d) in
          IsEffect a.shared (m d).words ran.words a d p.ring (Create k e class b size) ran.shown)
      create_law =
          let law = create-atomic (pool_of a.shared d) (committed d) (a.part d) k.seg e class b size (agrees.holds d) eight range in
          record {
            outcome = law.outcome;
            holds = law.held;
            counters = unless_part (λ (z : Part). Counters (m d).words z) (a.part d) _ _ here_counts after_counts;
            slots = unless_part (λ (z : Part). z.slots ≡ (a.part d).slots) (a.part d) _ _ refl refl;
          }
        where
          after_cell : Cell
          after_cell = with_entry ((a.part d).cell k.seg) e (Some (new_alias class b size (a.part d).next_serial))

          after_counts : Counters (m d).words (record (with_cell (a.part d) k.seg after_cell) { next_serial = (a.part d).next_serial + 1 })
          after_counts = record {
            places = here_counts.places;
            components = here_counts.components;
            sequencers = λ v. put-seg-both (λ v (c : Cell). (m d).words.sequencer v ≡ c.sequencer) (a.part d).cell k.seg v after_cell (λ q. rw q (here_counts.sequencers k.seg)) (λ q. here_counts.sequencers v);
          }
