-- All laws of what a process asks for follow from what is true of the other machine's state.
use Rattle.std.proofs.Common.{ℕ, ◌-◌, ◌^◌, ◌≤◌, ◌<◌, ◌≡◌, refl, sym, subst, Some, arith}
use Rattle.words_layout.specs.declared.segment.SegId.{SegId}
use Rattle.words_layout.specs.Words.{Guard, OfClass, OfSegment, GuardedWords}
use Rattle.rings.specs.Brackets.{Brackets}
use Rattle.policy.specs.Known.{Known}
use Rattle.policy.specs.Outcome.{Outcome}
use Rattle.policy.specs.Private.{brackets_of, create_tests}
use Rattle.turns.specs.Bodies.{Loads, Inner, Outer}
use Rattle.turns.specs.AtOnce.{run_loads, run_inner, run_outer, Ran}
use Rattle.turns.specs.Doing.{Look, ClassTurn, SegmentTurn}
use Rattle.data_gates.specs.Data.{fetch_body, update_body}
use Rattle.tree_gates.specs.Tree.{make_known_body, create_body, delete_body}
use Rattle.swap_gates.specs.Swap.{swap_in_body, swap_out_body}
use Rattle.class_model.specs.Config.{Shared, pool_of}
use Rattle.class_model.specs.Process.{Process, known_at, usable_at}
use Rattle.class_model.specs.Plan.{Request, MakeKnown, Create, Delete, SwapIn, SwapOut, Fetch, Update, Read, Advance, Ticket, Out}
use Rattle.class_model.specs.State.{State, process_at}
use Rattle.effect_laws.proofs.Good.{Good, ProcessGood}
use Rattle.effect_laws.proofs.Planned.{Planned, Passed, planned}
use Rattle.process.specs.Running.{act}
use Rattle.machine.specs.Machine.{ClassPart}
use Rattle.effect_laws.proofs.Guards.{just}
use Rattle.effect_laws.proofs.Paths.{LoadsWithin, InnerWithin, OuterWithin}
use Rattle.effect_laws.proofs.Refinement.{Agrees, Standing, standing, IsEffect, Laws, OnceLaw, once_of}
use Rattle.effect_laws.proofs.GateLaws.{usable_known, update_within, update_law, fetch_within, fetch_law, make_known_law, create_within, create_law}
use Rattle.effect_laws.proofs.TurnsWithin.{swap_in_within, swap_out_within, delete_within}
use Rattle.effect_laws.proofs.MovingLaws.{swap_in_law, swap_out_law, delete_law}
use Rattle.effect_laws.proofs.OnceLaws.{read_law, advance_law, ticket_law, out_law}

module _ (m : ℕ → ClassPart) (committed : ℕ → GuardedWords) (a : State) (d : ℕ) (p : Process) where
  -- a turn of the class: its words are guarded, and at one go it comes to what the effect says
  abbrev pub ClassLaw : Request → Outer Outcome → Type 0
  ClassLaw q body = let ran : Ran Outcome = run_outer body (committed d) in
      OuterWithin (committed d) body (committed d) × IsEffect a.shared (m d).words ran.words a d p.ring q ran.shown

  abbrev pub SegmentLaw : Request → SegId → Inner Outcome → Type 0
  SegmentLaw q u body = let ran : Ran Outcome = run_inner body (committed d) in
      InnerWithin (committed d) (just (OfSegment u)) body (committed d) × IsEffect a.shared (m d).words ran.words a d p.ring q ran.shown

  abbrev pub LookLaw : Request → ℕ → Guard → Loads Outcome → Type 0
  LookLaw q x g body = LoadsWithin (committed x) (just g) body × IsEffect a.shared (m d).words (committed d) a d p.ring q (run_loads body (committed x))

module _ (n : ℕ) (m : ℕ → ClassPart) (committed : ℕ → GuardedWords) (a : State) (n_small : n < 2 ^ 64 - 1) (good : Good n a) (agrees : Standing m committed a)
    (d : ℕ) (p : Process) (pg : ProcessGood good.given a d p) where
  -- a known segment has a serial in range
  known_small : (k : Known) (i : ℕ) → usable_at p i ≡ Some k → k.seg.serial < 64
  known_small k i e =
      let known = pg.known i k (usable_known (known_at p i) k e) in
      let serial : k.seg.serial < (a.part k.seg.mentor).next_serial = known.in_use.serial in
      let limit : (a.part k.seg.mentor).next_serial ≤ 64 = good.serials k.seg.mentor in omega (arith, serial, limit)

  pub class_law : (q : Request) (body : Outer Outcome) → Planned a.shared p q → act a.shared d p.ring q ≡ ClassTurn body → ClassLaw m committed a d p q body
  class_law (Create k e class b size) body pl h =
      let same : create_body k.seg e class b size ≡ body = cc in
      subst (ClassLaw m committed a d p (Create k e class b size)) same (created b pl.3 pl.4)
    where
      created : (b' : Brackets) → b' ≡ brackets_of pl.1 → Passed (create_tests a.shared.table p.ring e class pl.1 size k) → ClassLaw m committed a d p (Create k e class b' size) (create_body k.seg e class b' size)
      created b' f tests = subst (λ z. ClassLaw m committed a d p (Create k e class z size) (create_body k.seg e class z size)) (sym f)
          (create_within n m committed a n_small good agrees d k.seg e class (brackets_of pl.1) size, create_law n m committed a n_small good agrees d p pg k e class size pl.1 tests)
  class_law (Delete k e) body pl h = let same : delete_body d k.seg e ≡ body = cc in subst (ClassLaw m committed a d p (Delete k e)) same (delete_within n m committed a n_small good agrees d k.seg e, delete_law n m committed a n_small good agrees d p pg k e pl)
  class_law (SwapIn k) body pl h = let same : swap_in_body (pool_of a.shared d).frames k ≡ body = cc in subst (ClassLaw m committed a d p (SwapIn k)) same (swap_in_within n m committed a n_small good agrees d k (known_small k pl.0 pl.1) (pool_of a.shared d).frames, swap_in_law n m committed a n_small good agrees d p pg k pl)
  class_law (SwapOut k) body pl h = let same : swap_out_body (pool_of a.shared d).pages k ≡ body = cc in subst (ClassLaw m committed a d p (SwapOut k)) same (swap_out_within n m committed a n_small good agrees d k (known_small k pl.0 pl.1) (pool_of a.shared d).pages, swap_out_law n m committed a n_small good agrees d p pg k pl)
  class_law (MakeKnown k e mode) body pl h = cc
  class_law (Fetch k offset count pad) body pl h = cc
  class_law (Update k offset words) body pl h = cc
  class_law (Read k wanted t) body pl h = cc
  class_law (Advance k) body pl h = cc
  class_law (Ticket k) body pl h = cc
  class_law (Out value) body pl h = cc

  pub segment_law : (q : Request) (u : SegId) (body : Inner Outcome) → Planned a.shared p q → act a.shared d p.ring q ≡ SegmentTurn u body → SegmentLaw m committed a d p q u body
  segment_law (Update k offset words) u body pl h =
      let seg_is : k.seg ≡ u = cc in
      let same : update_body k.seg offset words ≡ body = cc in
      subst (λ z. SegmentLaw m committed a d p (Update k offset words) z body) seg_is
      (subst (SegmentLaw m committed a d p (Update k offset words) k.seg) same
      (update_within n m committed a n_small good agrees d k.seg offset words, update_law n m committed a n_small good agrees d p pg k offset words))
  segment_law (Create k e class b size) u body pl h = cc
  segment_law (Delete k e) u body pl h = cc
  segment_law (SwapIn k) u body pl h = cc
  segment_law (SwapOut k) u body pl h = cc
  segment_law (MakeKnown k e mode) u body pl h = cc
  segment_law (Fetch k offset count pad) u body pl h = cc
  segment_law (Read k wanted t) u body pl h = cc
  segment_law (Advance k) u body pl h = cc
  segment_law (Ticket k) u body pl h = cc
  segment_law (Out value) u body pl h = cc

  pub look_law : (q : Request) (x : ℕ) (g : Guard) (body : Loads Outcome) → Planned a.shared p q → act a.shared d p.ring q ≡ Look x g body → LookLaw m committed a d p q x g body
  look_law (MakeKnown k e mode) x g body pl h =
      let class_is : k.class ≡ x = cc in
      let guard_is : OfClass ≡ g = cc in
      let same : make_known_body a.shared.table d p.ring k e mode ≡ body = cc in
      subst (λ z. LookLaw m committed a d p (MakeKnown k e mode) z g body) class_is
      (subst (λ z. LookLaw m committed a d p (MakeKnown k e mode) k.class z body) guard_is
      (subst (LookLaw m committed a d p (MakeKnown k e mode) k.class OfClass) same ((refl, tt), make_known_law n m committed a n_small good agrees d p pg k e mode)))
  look_law (Fetch k offset count pad) x g body pl h =
      let class_is : k.class ≡ x = cc in
      let guard_is : OfSegment k.seg ≡ g = cc in
      let same : fetch_body k.seg offset count pad ≡ body = cc in
      subst (λ z. LookLaw m committed a d p (Fetch k offset count pad) z g body) class_is
      (subst (λ z. LookLaw m committed a d p (Fetch k offset count pad) k.class z body) guard_is
      (subst (LookLaw m committed a d p (Fetch k offset count pad) k.class (OfSegment k.seg)) same
      (fetch_within n m committed a n_small good agrees k.class k.seg offset count pad, fetch_law n m committed a n_small good agrees d p pg k offset count pad pl)))
  look_law (Create k e class b size) x g body pl h = cc
  look_law (Delete k e) x g body pl h = cc
  look_law (SwapIn k) x g body pl h = cc
  look_law (SwapOut k) x g body pl h = cc
  look_law (Update k offset words) x g body pl h = cc
  look_law (Read k wanted t) x g body pl h = cc
  look_law (Advance k) x g body pl h = cc
  look_law (Ticket k) x g body pl h = cc
  look_law (Out value) x g body pl h = cc

  once_law : (q : Request) → OnceLaw a.shared m (committed d) a d p.ring q (once_of a.shared q)
  once_law (Read k wanted t) = read_law n m committed a n_small good agrees d p.ring k wanted t
  once_law (Advance k) = advance_law n m committed a n_small good agrees d p.ring k
  once_law (Ticket k) = ticket_law n m committed a n_small good agrees d p.ring k
  once_law (Out value) = out_law n m committed a n_small good agrees d p.ring value
  once_law (MakeKnown k e mode) = tt
  once_law (Create k e class b size) = tt
  once_law (Delete k e) = tt
  once_law (SwapIn k) = tt
  once_law (SwapOut k) = tt
  once_law (Fetch k offset count pad) = tt
  once_law (Update k offset words) = tt

  pub laws_here : Laws a.shared m committed a d p
  laws_here = record {
    fair = record {
      of_class = λ q body e h. (class_law q body (planned a.shared d p q e) h).0;
      of_segment = λ q u body e h. (segment_law q u body (planned a.shared d p q e) h).0;
      look = λ q x g body e h. (look_law q x g body (planned a.shared d p q e) h).0;
    };
    once = λ q e. once_law q;
    look = λ q x g body e h. (look_law q x g body (planned a.shared d p q e) h).1;
    class_turn = λ q body e h. (class_law q body (planned a.shared d p q e) h).1;
    segment_turn = λ q u body e h. (segment_law q u body (planned a.shared d p q e) h).1;
  }

-- as the composition takes them, for any header
pub laws : (s : Shared) (m : ℕ → ClassPart) (n : ℕ) (committed : ℕ → GuardedWords) (a : State) → n < 2 ^ 64 - 1 → Good n a → Agrees s m committed a →
    (d p i : ℕ) (q : Process) → process_at a (record { processor = p; class = d; slot = i }) ≡ Some q → Laws s m committed a d q
laws s m n committed a small good agrees d p i q there = subst (λ z. Laws z m committed a d q) agrees.shared
    (laws_here n m committed a small good (standing s m committed a agrees) d q (good.processes (record { processor = p; class = d; slot = i }) q there))
