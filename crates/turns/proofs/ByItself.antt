-- How many steps a look or a turn takes by itself.
use Rattle.std.proofs.Common.{ℕ, zero, suc, ◌+◌, ◌%◌, ◌^◌, ◌≡◌, refl, sym, ◌∙◌, arith, subst}
use Rattle.std.specs.Prelude.{◌-◌, Option, Some, None}
use Rattle.std.proofs.lemmas.Bool.{eq-eqb}
use Rattle.words_layout.specs.Words.{Words, GuardedWords, Guard, OfClass, OfSegment, set_guarded}
use Rattle.words_layout.specs.declared.segment.SegId.{SegId}
use Rattle.turns.specs.Bodies.{Loads, Inner, Outer}
use Rattle.turns.specs.Doing.{Doing, Fresh, LookBody, OuterBody, InnerBody, Leaving, Act, Look, ClassTurn, SegmentTurn}
use Rattle.turns.specs.Alone.{EndsBehind, TakesSteps, NoTurns}

-- the loads of a body on these words
abbrev pub loads_taken : {R : Type 0} → Loads R → GuardedWords → ℕ
loads_taken (Loads.Load w onward) g = suc (loads_taken (onward (g w)) g)
loads_taken (Loads.Shows shown) g = zero

-- the operations of a body on these words, and so many steps more behind it
abbrev pub inner_taken : {R : Type 0} → ℕ → Inner R → GuardedWords → ℕ
inner_taken more (Inner.Load w onward) g = suc (inner_taken more (onward (g w)) g)
inner_taken more (Inner.Store w v rest) g = suc (inner_taken more rest (set_guarded g w v))
inner_taken more (Inner.Add w v onward) g = suc (inner_taken more (onward (g w)) (set_guarded g w ((g w + v) % 2 ^ 64)))
inner_taken more (Inner.Shows shown) g = more

-- the operations of a class's body; a segment's turn in it has three parts before its body, and one behind it
abbrev pub outer_taken : {R : Type 0} → Outer R → GuardedWords → ℕ
outer_taken (Outer.Load w onward) g = suc (outer_taken (onward (g w)) g)
outer_taken (Outer.Store w v rest) g = suc (outer_taken rest (set_guarded g w v))
outer_taken (Outer.Enter u body) g = suc (suc (suc (inner_taken 1 body g)))
outer_taken (Outer.Shows shown) g = zero

loads_by_itself : {R : Type 0} (d class : ℕ) (act : Act R) (g : Guard) (s : ℕ) (rest : Loads R) (w : Words) → w.started g ≡ s →
    EndsBehind (loads_taken rest w.guarded) d act (LookBody class g s rest) w
loads_by_itself d class act g s (Loads.Load q onward) w is = (refl, loads_by_itself d class act g s (onward (w.guarded q)) w is)
loads_by_itself d class act g s (Loads.Shows shown) w is = rw (eq-eqb (w.started g) s is) refl

-- a look where no turn is under way
pub look_by_itself : {R : Type 0} (d class : ℕ) (g : Guard) (body : Loads R) (w : Words) (quiet : NoTurns w) →
    EndsBehind (suc (suc (loads_taken body w.guarded))) d (Look class g body) Fresh w
look_by_itself d class g body w quiet =
    (refl, rw (eq-eqb (w.finished g) (w.started g) (quiet.started g)) (refl, loads_by_itself d class (Look class g body) g (w.started g) body w refl))

-- a segment's turn behind its third part
inner_by_itself : {R : Type 0} (d : ℕ) (act : Act R) (u : SegId) (t : ℕ) (rest : Inner R) (w : Words) →
    EndsBehind (inner_taken 0 rest w.guarded) d act (InnerBody None u t rest) w
inner_by_itself d act u t (Inner.Load q onward) w = (refl, inner_by_itself d act u t (onward (w.guarded q)) w)
inner_by_itself d act u t (Inner.Store q v rest) w = (refl, inner_by_itself d act u t rest (record w { guarded = set_guarded w.guarded q v }))
inner_by_itself d act u t (Inner.Add q v onward) w =
    (refl, inner_by_itself d act u t (onward (w.guarded q)) (record w { guarded = set_guarded w.guarded q ((w.guarded q + v) % 2 ^ 64) }))
inner_by_itself d act u t (Inner.Shows shown) w = refl

-- within the class's turn, which is left behind it
within_by_itself : {R : Type 0} (d : ℕ) (act : Act R) (n : ℕ) (u : SegId) (t : ℕ) (rest : Inner R) (w : Words) →
    EndsBehind (inner_taken 1 rest w.guarded) d act (InnerBody (Some n) u t rest) w
within_by_itself d act n u t (Inner.Load q onward) w = (refl, within_by_itself d act n u t (onward (w.guarded q)) w)
within_by_itself d act n u t (Inner.Store q v rest) w = (refl, within_by_itself d act n u t rest (record w { guarded = set_guarded w.guarded q v }))
within_by_itself d act n u t (Inner.Add q v onward) w =
    (refl, within_by_itself d act n u t (onward (w.guarded q)) (record w { guarded = set_guarded w.guarded q ((w.guarded q + v) % 2 ^ 64) }))
within_by_itself d act n u t (Inner.Shows shown) w = (refl, refl)

-- a segment's turn that stands alone
pub segment_by_itself : {R : Type 0} (d : ℕ) (u : SegId) (body : Inner R) (w : Words) (quiet : NoTurns w) →
    EndsBehind (suc (suc (suc (inner_taken 0 body w.guarded)))) d (SegmentTurn u body) Fresh w
segment_by_itself d u body w quiet = (
  refl,
  (
    refl,
    rw (eq-eqb (w.finished (OfSegment u)) (w.tickets (OfSegment u)) (quiet.tickets (OfSegment u)))
        (refl, inner_by_itself d (SegmentTurn u body) u (w.tickets (OfSegment u)) body _),
  ),
)

-- a class's turn behind its third part
outer_by_itself : {R : Type 0} (d : ℕ) (act : Act R) (t : ℕ) (rest : Outer R) (w : Words) → ((u : SegId) → w.finished (OfSegment u) ≡ w.tickets (OfSegment u)) →
    EndsBehind (outer_taken rest w.guarded) d act (OuterBody t rest) w
outer_by_itself d act t (Outer.Load q onward) w quiet = (refl, outer_by_itself d act t (onward (w.guarded q)) w quiet)
outer_by_itself d act t (Outer.Store q v rest) w quiet = (refl, outer_by_itself d act t rest (record w { guarded = set_guarded w.guarded q v }) quiet)
outer_by_itself d act t (Outer.Enter u body) w quiet = (
  refl,
  (
    refl,
    rw (eq-eqb (w.finished (OfSegment u)) (w.tickets (OfSegment u)) (quiet u))
        (refl, within_by_itself d act t u (w.tickets (OfSegment u)) body _),
  ),
)
outer_by_itself d act t (Outer.Shows shown) w quiet = refl

-- a class's turn
pub class_by_itself : {R : Type 0} (d : ℕ) (body : Outer R) (w : Words) (quiet : NoTurns w) →
    EndsBehind (suc (suc (suc (outer_taken body w.guarded)))) d (ClassTurn body) Fresh w
class_by_itself d body w quiet = (
  refl,
  (
    refl,
    rw (eq-eqb (w.finished OfClass) (w.tickets OfClass) (quiet.tickets OfClass))
        (refl, outer_by_itself d (ClassTurn body) (w.tickets OfClass) body _ (λ u. quiet.tickets (OfSegment u))),
  ),
)

-- the number of all steps, from that of those before the last
pub steps_in_all : {R : Type 0} (d : ℕ) (act : Act R) (w : Words) (before steps : ℕ) → steps ≡ before + 1 → EndsBehind before d act Fresh w → TakesSteps steps d act w
steps_in_all d act w before steps is ends = let e : steps - 1 ≡ before = omega (arith, is) in rw e ends
