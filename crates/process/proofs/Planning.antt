-- What a process that fits is about to do fits.
use Rattle.std.proofs.lemmas.List.{length-take}
use Rattle.std.proofs.Common.{ℕ, zero, suc, ◌+◌, ◌<◌, ◌≤◌, Bool, true, false, ◌||◌, List, [], ◌∷◌, length, ◌≡◌, refl, sym, ap, ◌∙◌, subst, Option, Some, None, arith, ◌%◌, ◌^◌}
use Rattle.std.specs.Prelude.{◌==◌, if◌then◌else◌, nat_le, nat_lt, is_none, replicate, slice_index, slice_index_or, drop}
use Rattle.std.proofs.lemmas.Bool.{and_from, or_parts, not-false, eqb-true, ltb-true, ltb-false, lt-ltb, both_ways}
use Rattle.std.proofs.lemmas.Option.{same_Some}
use Rattle.std.specs.List.{filter}
use Rattle.lists.specs.Lists.{numbers_from, part_of}
use Rattle.words_layout.specs.Limits.{identity_in_limits, word_in_limits}
use Rattle.words_layout.specs.Words.{ComponentOf}
use Rattle.labels.specs.Label.{at_or_below}
use Rattle.labels.proofs.Tables.{class_reflexive, class_transitive, class_lowest}
use Rattle.rings.specs.Brackets.{call_ring}
use Rattle.policy.specs.Known.{Known, usable, observes, modifies, signals}
use Rattle.policy.specs.Outcome.{Outcome, Refused, Printed, Looked, Counted, Tally, tallied, components}
use Rattle.policy.specs.Private.{make_known_tests, create_tests, delete_tests, fetch_tests, update_tests, bounds_test}
use Rattle.policy.specs.Verdict.{first_broken}
use Rattle.policy.specs.declared.rule.Rule.{Rule}
use Rattle.policy.specs.declared.rule.Rule.TheVariants.{ConsoleFull, NoScript, StackFull, UnknownSegno}
use Rattle.script_lang.specs.Program.{is_last, target_ok}
use Rattle.script_lang.specs.declared.instr.Instr.{Instr}
use Rattle.script_lang.specs.declared.instr.Instr.TheVariants as I
use Rattle.class_model.specs.Config.{Shared, Script, Gate, classes, flows, pool_of, instr_at}
use Rattle.class_model.specs.Process.{Process, Return, new_process, root_known, reg, known_at, usable_at, tally_of, free_known, refused, answered}
use Rattle.class_model.specs.Plan.{Plan, Own, Begin, Ask, Request, MakeKnown, Read, Out, tried, of_known, jumped, called, call, returned, spawned, forgotten, plan, plan_of, Fetch, Update}
use Rattle.process.specs.Running.{act}
use Rattle.class_model.specs.Shared.{UsesScript}
use Rattle.process.specs.Fits.{IsSound, Fits, PlaceFits, ReturnsFit, KnownFits, OutcomeFits}
use Rattle.process.proofs.Places.{first_fits, next_fits, target_fits, target_there}
use Rattle.process.proofs.Told.{fresh, ActFits, known_set, replied}
use Rattle.process.proofs.Bodies.{is_mode, make_known_fits, fetch_fits, update_fits, swap_in_fits, swap_out_fits, create_fits, delete_fits}

-- what is planned fits: the process after it, the new process, or how the request is done
abbrev pub PlanFits : Shared → ℕ → Process → Plan → Type 0
PlanFits s d p (Own after) = Fits s d (fresh after)
PlanFits s d p (Begin child) = Fits s d (fresh child) × PlaceFits s d p.script (p.place + 1)
PlanFits s d p (Ask request) = ActFits s d p (act s d p.ring request) × PlaceFits s d p.script (p.place + 1)

-- where no rule is broken, the first test doesn't hold, and no rule of the rest is broken
rest_passes : (b : Bool) (rule : Rule) (tests : List (Bool × Rule)) → first_broken ((b, rule) ∷ tests) ≡ None → (b ≡ false) × (first_broken tests ≡ None)
rest_passes true rule tests h = absurd (cc)
rest_passes false rule tests h = (refl, h)

-- and no test holds
each_passes : (tests : List (Bool × Rule)) (i : ℕ) → first_broken tests ≡ None → (slice_index_or tests i (false, UnknownSegno)).0 ≡ false
each_passes [] i h = refl
each_passes (t ∷ ts) zero h = (rest_passes t.0 t.1 ts h).0
each_passes (t ∷ ts) (suc i) h = each_passes ts i (rest_passes t.0 t.1 ts h).1

-- an entry that is not above 7 is below 8
low_entry : (e : ℕ) → nat_lt 7 e ≡ false → nat_lt e 8 ≡ true
low_entry e h = let few = ltb-false 7 e h in lt-ltb e 8 (omega arith)

-- words within the bounds of a segment
in_bounds : (k : Known) (offset count pad : ℕ) → k.size ≤ 64 → (bounds_test k offset count pad).0 ≡ false → offset + count ≤ 64
in_bounds k offset count pad small h =
    let front = or_parts (count == 0 || nat_lt 64 count || nat_lt k.size (offset + count)) (nat_lt 64 (pad + count)) h in
    let size = ltb-false k.size (offset + count) (or_parts (count == 0 || nat_lt 64 count) (nat_lt k.size (offset + count)) front.0).1 in
    omega (arith, size, small)

usable_parts : (o : Option Known) (k : Known) → usable o ≡ Some k → (o ≡ Some k) × (signals k.rights ≡ false)
usable_parts None k h = absurd (cc)
usable_parts (Some j) k h = by_test (signals j.rights) refl h
  where
    by_test : (b : Bool) → signals j.rights ≡ b → (if b then None else Some j) ≡ Some k → ((let o : Option Known = Some j in o) ≡ Some k) × (signals k.rights ≡ false)
    by_test true e h = absurd (cc)
    by_test false e h = (h, ap (λ (z : Known). signals z.rights) (sym (same_Some j k h)) ∙ e)

none_known : (n i : ℕ) (k : Known) → slice_index_or (replicate n (let o : Option Known = None in o)) i None ≡ Some k → ⊥
none_known zero i k h = absurd (cc)
none_known (suc n) zero k h = absurd (cc)
none_known (suc n) (suc i) k h = none_known n i k h

-- what is read of the numbers below n that pass a test is below n and passes it, where 0 does
filtered : (test : ℕ → Bool) (n start count i : ℕ) → 0 < n → test 0 ≡ true → start + count ≤ n →
    let c = slice_index (filter test (numbers_from start count)) i in (c < n) × (test c ≡ true)
filtered test n start zero i some first room = (some, first)
filtered test n start (suc count) i some first room = at (test start) refl (λ j. filtered test n (start + 1) count j some first (omega arith))
  where
    -- what is read of the rest
    Rest : Type 0
    Rest = (j : ℕ) → let c = slice_index (filter test (numbers_from (start + 1) count)) j in (c < n) × (test c ≡ true)

    kept : (j : ℕ) → test start ≡ true → Rest → let c = slice_index (start ∷ filter test (numbers_from (start + 1) count)) j in (c < n) × (test c ≡ true)
    kept zero e rest = (omega arith, e)
    kept (suc j) e rest = rest j

    at : (b : Bool) → test start ≡ b → Rest →
        let c = slice_index (if b then start ∷ filter test (numbers_from (start + 1) count) else filter test (numbers_from (start + 1) count)) i in (c < n) × (test c ≡ true)
    at true e rest = kept i e rest
    at false e rest = rest i

module _ (s : Shared) (good : IsSound s) (d : ℕ) where
  few_classes : (c : ℕ) → c < classes s → c < 16
  few_classes c lt = omega (arith, lt, good.table.few)

  -- the identity of a known segment is within the limits
  identity_there : (k : Known) → KnownFits s d k → identity_in_limits k.seg ≡ true
  identity_there k h = and_from (nat_lt k.seg.mentor 16) (nat_lt k.seg.serial 64) (lt-ltb k.seg.mentor 16 (few_classes k.seg.mentor h.mentor)) (lt-ltb k.seg.serial 64 h.serial)

  -- and so is its component of a class
  component_there : (k : Known) → KnownFits s d k → word_in_limits (ComponentOf k.class k.seg) ≡ true
  component_there k h = and_from (nat_lt k.class 16) (identity_in_limits k.seg) (lt-ltb k.class 16 (few_classes k.class h.class)) (identity_there k h)

  -- a component of an eventcount of a class at or below d is of such a class too
  component_fits : (x i : ℕ) → x < classes s → flows s x d ≡ true →
      let c = slice_index (components s.table x) i in (c < classes s) × (flows s c d ≡ true)
  component_fits x i there up =
      let c : ℕ = slice_index (components s.table x) i in
      let f : (c < classes s) × (flows s c x ≡ true) =
      filtered (λ c. at_or_below s.table c x) (classes s) 0 (classes s) i good.table.some (class_lowest s.table good.table x there) (omega arith) in
      (f.0, class_transitive s.table c x d f.1 up)

  -- ---- a new process

  root_fits : d < classes s → KnownFits s d (root_known d)
  root_fits below = record {
    class = good.table.some;
    mentor = good.table.some;
    serial = omega arith;
    size = omega arith;
    in_order = refl;
    some_right = at (d == 0);
    observed = λ o. class_lowest s.table good.table d below;
    modified = λ w. alone (d == 0) refl w;
  }
    where
      at : (b : Bool) → (observes (if b then 3 else 1) || modifies (if b then 3 else 1) || signals (if b then 3 else 1)) ≡ true
      at true = refl
      at false = refl

      alone : (b : Bool) → (d == 0) ≡ b → modifies (if b then 3 else 1) ≡ true → 0 ≡ d
      alone true e w = sym (eqb-true d 0 e)
      alone false e w = absurd (cc)

  pub new_fits : (n ring start : ℕ) → d < classes s → UsesScript s d n → Fits s d (fresh (new_process d n ring start))
  new_fits n ring start below h = record {
    class = below;
    place = first_fits s good d n h;
    returns = tt;
    known = knows;
    doing = tt;
    goes_on = tt;
  }
    where
      knows : (i : ℕ) (k : Known) → slice_index_or (Some (root_known d) ∷ replicate 15 None) i None ≡ Some k → KnownFits s d k
      knows zero k e = subst (KnownFits s d) (same_Some (root_known d) k e) (root_fits below)
      knows (suc i) k e = absurd (none_known 15 i k e)

  module _ (p : Process) (f : Fits s d (fresh p)) where
    -- ---- what is known

    -- a known segment that may be used otherwise than to signal is at or below d
    known_below : (k : Known) → KnownFits s d k → signals k.rights ≡ false → flows s k.class d ≡ true
    known_below k h quiet = by_rights (observes k.rights) (modifies k.rights) refl refl h.some_right
      where
        by_rights : (o m : Bool) → observes k.rights ≡ o → modifies k.rights ≡ m → (o || m || signals k.rights) ≡ true → flows s k.class d ≡ true
        by_rights true m e g some = h.observed e
        by_rights false true e g some = subst (λ (c : ℕ). flows s c d ≡ true) (sym (h.modified g)) (class_reflexive s.table d)
        by_rights false false e g some = absurd (both_ways (signals k.rights) quiet some)

    -- a known segment is within the limits
    used_there : (i : ℕ) (k : Known) → usable_at p i ≡ Some k → identity_in_limits k.seg ≡ true
    used_there i k e = identity_there k (f.known i k (usable_parts (known_at p i) k e).0)

    used_fits : (i : ℕ) (k : Known) → usable_at p i ≡ Some k → KnownFits s d k × (flows s k.class d ≡ true)
    used_fits i k e =
        let parts = usable_parts (known_at p i) k e in
        let fits = f.known i k parts.0 in
        (fits, known_below k fits parts.1)

    module _ (next : PlaceFits s d p.script (p.place + 1)) where
      -- ---- requests

      -- what one operation shows, where it shows nothing to be learned
      pub either_fits : (b : Bool) (x y : Outcome) → OutcomeFits s d x → OutcomeFits s d y → OutcomeFits s d (if b then x else y)
      either_fits true x y h k = h
      either_fits false x y h k = k

      tallied_fits : (n wanted : ℕ) (t : Tally) (value : ℕ) → OutcomeFits s d (tallied n wanted t value)
      tallied_fits n wanted t value =
          let sum : ℕ = (t.sum + value) % 2 ^ 64 in
          either_fits (nat_lt (t.seen + 1) n) (Looked (Some (record { seen = t.seen + 1; sum = sum }))) (if nat_lt sum wanted then Looked None else Counted sum) tt
          (either_fits (nat_lt sum wanted) (Looked None) (Counted sum) tt tt)

      read_acts : (i : ℕ) (k : Known) (wanted : ℕ) (t : Tally) → usable_at p i ≡ Some k → ActFits s d p (act s d p.ring (Read k wanted t))
      read_acts i k wanted t there =
          let u = used_fits i k there in
          let c = component_fits k.class t.seen u.0.class u.1 in
          ((c.0, c.1, component_there k u.0), λ w. (tallied_fits (length (components s.table k.class)) wanted t w, next))

      out_acts : (value : ℕ) → ActFits s d p (act s d p.ring (Out value))
      out_acts value = (refl, λ w. (printed_fits w (nat_lt w s.console) refl, next))
        where
          printed_fits : (w : ℕ) (b : Bool) → nat_lt w s.console ≡ b → OutcomeFits s d (if b then Printed w value else Refused ConsoleFull)
          printed_fits w true e = ltb-true w s.console e
          printed_fits w false e = tt

      make_known_acts : (i e mode : ℕ) (k : Known) → usable_at p i ≡ Some k → first_broken (make_known_tests p.ring e mode (is_none (free_known p)) k) ≡ None →
          ActFits s d p (act s d p.ring (MakeKnown k e mode))
      make_known_acts i e mode k there passed =
          let u = used_fits i k there in
          let tests = each_passes (make_known_tests p.ring e mode (is_none (free_known p)) k) in
          let known_mode = is_mode mode (not-false (mode == 1 || mode == 2 || mode == 3) (tests 2 passed)) in
          record {
            class = u.0.class;
            flows_up = u.1;
            guard = refl;
            shows = make_known_fits s good d f.class p.ring k.class u.0.class mode known_mode k e refl (used_there i k there) (low_entry e (tests 1 passed));
          }

      fetch_acts : (i offset count pad : ℕ) (k : Known) → usable_at p i ≡ Some k → first_broken (fetch_tests p.ring offset count pad k) ≡ None →
          ActFits s d p (act s d p.ring (Fetch k offset count pad))
      fetch_acts i offset count pad k there passed =
          let u = used_fits i k there in
          let room = in_bounds k offset count pad u.0.size (each_passes (fetch_tests p.ring offset count pad k) 1 passed) in
          record { class = u.0.class; flows_up = u.1; guard = used_there i k there; shows = fetch_fits s d k.seg offset count pad (used_there i k there) room }

      update_acts : (i offset count pad : ℕ) (k : Known) → usable_at p i ≡ Some k → first_broken (update_tests p.ring offset count pad k) ≡ None →
          ActFits s d p (act s d p.ring (Update k offset (part_of p.pad pad count)))
      update_acts i offset count pad k there passed =
          let u = used_fits i k there in
          let room = in_bounds k offset count pad u.0.size (each_passes (update_tests p.ring offset count pad k) 2 passed) in
          let short : length (part_of p.pad pad count) ≤ count = omega (arith, length-take count (drop pad p.pad)) in
          (used_there i k there, update_fits s d k.seg offset (part_of p.pad pad count) (used_there i k there) (omega (arith, room, short)))

      -- what is asked of a known segment fits where the request does
      asks_fit : (o : Option Known) (tests : Known → List (Bool × Rule)) (request : Known → Request) →
          ((k : Known) → o ≡ Some k → first_broken (tests k) ≡ None → ActFits s d p (act s d p.ring (request k))) → PlanFits s d p (of_known p o tests request)
      asks_fit None tests request each = replied s d p f next 1 0
      asks_fit (Some k) tests request each = at (first_broken (tests k)) refl
        where
          at : (o : Option Rule) → first_broken (tests k) ≡ o → PlanFits s d p (tried p o (Ask (request k)))
          at None e = (each k refl e, next)
          at (Some rule) e = replied s d p f next _ 0

      -- ---- what takes effect on the process alone

      jumped_fits : (test : Bool) (to : ℕ) → PlaceFits s d p.script to → Fits s d (fresh (jumped p test to))
      jumped_fits true to h = record { class = f.class; place = h; returns = f.returns; known = f.known; doing = tt; goes_on = tt }
      jumped_fits false to h = record { class = f.class; place = next; returns = f.returns; known = f.known; doing = tt; goes_on = tt }

      called_fits : (gate : Gate) → UsesScript s d gate.script → (o : Option ℕ) → Fits s d (fresh (called p gate o))
      called_fits gate h None = replied s d p f next 12 0
      called_fits gate h (Some ring) = at (nat_le 8 (length p.stack))
        where
          inside : Process
          inside = record (answered p ring) {
            script = gate.script;
            place = 0;
            ring = ring;
            stack = record { script = p.script; place = p.place + 1; ring = p.ring } ∷ p.stack;
          }

          at : (b : Bool) → Fits s d (fresh (if b then refused p StackFull else inside))
          at true = replied s d p f next 29 0
          at false = record { class = f.class; place = first_fits s good d gate.script h; returns = (next, f.returns); known = f.known; doing = tt; goes_on = tt }

      call_fits : (g : ℕ) (o : Option Gate) → slice_index_or s.gates g None ≡ o → Fits s d (fresh (call s d p o))
      call_fits g None e = replied s d p f next 28 0
      call_fits g (Some gate) e = at (flows s gate.class d) refl
        where
          script : UsesScript s gate.class gate.script
          script = (good.shared.gate g gate e).script

          at : (b : Bool) → flows s gate.class d ≡ b → Fits s d (fresh (if b then called p gate (call_ring gate.brackets p.ring) else refused p NoScript))
          at true up = called_fits gate (record {
            script = script.script;
            there = script.there;
            flows_up = class_transitive s.table script.script.class gate.class d script.flows_up up;
          }) (call_ring gate.brackets p.ring)
          at false up = replied s d p f next 28 0

      returned_fits : (stack : List Return) → ReturnsFit s d stack → Fits s d (fresh (returned p stack))
      returned_fits [] h = replied s d p f next 30 0
      returned_fits (back ∷ stack) h = record { class = f.class; place = h.0; returns = h.1; known = f.known; doing = tt; goes_on = tt }

      spawned_fits : (n start : ℕ) (o : Option Script) → slice_index_or s.scripts n None ≡ o → PlanFits s d p (spawned s d p n start o)
      spawned_fits n start None e = replied s d p f next 28 0
      spawned_fits n start (Some script) e = at (flows s script.class d) refl
        where
          at : (b : Bool) → flows s script.class d ≡ b → PlanFits s d p (if b then Begin (new_process d n p.ring start) else Own (refused p NoScript))
          at true up = (new_fits n p.ring start f.class (record { script = script; there = e; flows_up = up }), next)
          at false up = replied s d p f next 28 0

      forgotten_fits : (segno : ℕ) (o : Option Known) → Fits s d (fresh (forgotten p segno o))
      forgotten_fits segno None = replied s d p f next 1 0
      forgotten_fits segno (Some k) = record {
        class = f.class;
        place = next;
        returns = f.returns;
        known = known_set s d p segno None f.known (λ j e. absurd (cc));
        doing = tt;
        goes_on = tt;
      }

      moved : (regs pad : List ℕ) → Fits s d (fresh (record p { regs = regs; pad = pad; place = p.place + 1 }))
      moved regs pad = record { class = f.class; place = next; returns = f.returns; known = f.known; doing = tt; goes_on = tt }

    -- ---- instructions

    planned_fits : (i : Instr) → (is_last i ≡ false → PlaceFits s d p.script (p.place + 1)) → target_ok (length f.place.script.program) i ≡ true → PlanFits s d p (plan_of s d p i)
    planned_fits I.Halt next to = record { class = f.class; place = f.place; returns = f.returns; known = f.known; doing = tt; goes_on = tt }
    planned_fits (I.Set a n) next to = moved (next refl) _ _
    planned_fits (I.Copy a b) next to = moved (next refl) _ _
    planned_fits (I.Add a b) next to = moved (next refl) _ _
    planned_fits (I.Sub a b) next to = moved (next refl) _ _
    planned_fits (I.Jump l) next to = record { class = f.class; place = target_fits s good d p.script p.place f.place l to; returns = f.returns; known = f.known; doing = tt; goes_on = tt }
    planned_fits (I.JumpZ a l) next to = jumped_fits (next refl) (reg p a == 0) l (target_fits s good d p.script p.place f.place l to)
    planned_fits (I.JumpL a b l) next to = jumped_fits (next refl) (nat_lt (reg p a) (reg p b)) l (target_fits s good d p.script p.place f.place l to)
    planned_fits (I.Get a b) next to = moved (next refl) _ _
    planned_fits (I.Put a b) next to = moved (next refl) _ _
    planned_fits (I.Call g) next to = call_fits (next refl) g (slice_index_or s.gates g None) refl
    planned_fits I.Ret next to = returned_fits (next refl) p.stack f.returns
    planned_fits (I.Spawn n b) next to = spawned_fits (next refl) n (reg p b) (slice_index_or s.scripts n None) refl
    planned_fits (I.Terminate a) next to = forgotten_fits (next refl) (reg p a) (known_at p (reg p a))
    planned_fits (I.MakeKnown a b c) next to = asks_fit (next refl) (usable_at p (reg p a)) _ _ (make_known_acts (next refl) (reg p a) (reg p b) (reg p c))
    planned_fits (I.Create a b c x e) next to = asks_fit (next refl) (usable_at p (reg p a)) _ _ (λ k there passed.
        create_fits s d k.seg (used_there (reg p a) k there) (reg p b) (low_entry (reg p b) (each_passes (create_tests s.table p.ring (reg p b) (reg p c) (reg p x) (reg p e) k) 2 passed)) (reg p c) _ (reg p e))
    planned_fits (I.Delete a b) next to = asks_fit (next refl) (usable_at p (reg p a)) _ _ (λ k there passed.
        delete_fits s d k.seg (used_there (reg p a) k there) (reg p b) (low_entry (reg p b) (each_passes (delete_tests p.ring (reg p b) k) 2 passed)) (few_classes d f.class))
    planned_fits (I.SwapIn a) next to = asks_fit (next refl) (usable_at p (reg p a)) _ _ (λ k there passed.
        swap_in_fits s d k (used_there (reg p a) k there) (used_fits (reg p a) k there).0.size (pool_of s d).frames (good.shared.frames d))
    planned_fits (I.SwapOut a) next to = asks_fit (next refl) (usable_at p (reg p a)) _ _ (λ k there passed.
        swap_out_fits s d k (used_there (reg p a) k there) (used_fits (reg p a) k there).0.size (pool_of s d).pages (good.shared.pages d))
    planned_fits (I.Fetch a b c x) next to = asks_fit (next refl) (usable_at p (reg p a)) _ _ (fetch_acts (next refl) (reg p a) (reg p b) (reg p c) (reg p x))
    planned_fits (I.Update a b c x) next to = asks_fit (next refl) (usable_at p (reg p a)) _ _ (update_acts (next refl) (reg p a) (reg p b) (reg p c) (reg p x))
    planned_fits (I.Read a) next to = asks_fit (next refl) (usable_at p (reg p a)) _ _ (λ k there passed. read_acts (next refl) (reg p a) k 0 (tally_of p) there)
    planned_fits (I.Await a b) next to = asks_fit (next refl) (usable_at p (reg p a)) _ _ (λ k there passed. read_acts (next refl) (reg p a) k (reg p b) (tally_of p) there)
    planned_fits (I.Advance a) next to = asks_fit (next refl) (known_at p (reg p a)) _ _ (λ k there passed. (component_there k (f.known (reg p a) k there), λ w. (tt, next refl)))
    planned_fits (I.Ticket a) next to = asks_fit (next refl) (usable_at p (reg p a)) _ _ (λ k there passed. (used_there (reg p a) k there, λ w. (tt, next refl)))
    planned_fits (I.Out a) next to = (out_acts (next refl) (reg p a), next refl)

    pub plan_fits : PlanFits s d p (plan s d p)
    plan_fits = planned_fits (instr_at s p.script p.place) (next_fits s good d p.script p.place f.place) (target_there s good d p.script p.place f.place)
