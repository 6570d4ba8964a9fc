-- An Ok fetch of n words takes n + 4 steps of its process.
use Rattle.std.proofs.Common.{ℕ, zero, suc, ◌+◌, ◌-◌, ◌≤◌, Bool, true, false, List, [], ◌∷◌, ◌++◌, ◌≡◌, refl, sym, ap, subst, ◌∙◌, Option, Some, None, arith, inl, inr}
use Rattle.std.specs.Prelude.{◌==◌, if◌then◌else◌}
use Rattle.words_layout.specs.Words.{Guard, OfSegment, GuardedWord, answer_to}
use Rattle.words_layout.specs.Coding.{home_of}
use Rattle.words_layout.specs.declared.coding.Home.{Home}
use Rattle.words_layout.specs.declared.coding.Home.TheVariants as H
use Rattle.words_layout.specs.declared.op.Event.{Event}
use Rattle.words_layout.specs.declared.segment.SegId.{SegId}
use Rattle.policy.specs.Outcome.{Outcome, Words}
use Rattle.turns.specs.Bodies.{Loads}
use Rattle.turns.specs.Doing.{Act, Look, Doing, Fresh, LookBody, Told, going, poll, done, look_told, doing_op, doing_told}
use Rattle.data_gates.specs.Data.{load_words, fetch_home, fetch_body}
use Rattle.class_model.specs.Process.{ProcName}
use Rattle.process.specs.Running.{Running, act}
use Rattle.machine.specs.Machine.{Machine, words_of, step, run}
use Rattle.look_laws.specs.Laws.{FetchesAreExact, LooksAreShort}
use Rattle.look_laws.specs.Looks.{LookInRun, at_first, behind_first, at_next, held, steps_through, told_in, LoadsAtMost}
use Rattle.look_laws.specs.Moments.{running_at, takes_step, own_steps, begun}
use Rattle.look_laws.proofs.Following.{LookAt, look_at}

-- wherever the body of a look shows words in the end, so many words are loaded before
abbrev OkAfter : Loads Outcome → ℕ → Type 0
OkAfter (Loads.Load w f) j = (answer : ℕ) → (i : ℕ) × (j ≡ i + 1) × OkAfter (f answer) i
OkAfter (Loads.Shows o) j = (at : ℕ) (words : List ℕ) → o ≡ Words at words → j ≡ 0

words_after : (f at n : ℕ) (got : List ℕ) (pad : ℕ) → OkAfter (load_words f at n got pad) n
words_after f at zero got pad = λ a words e. refl
words_after f at (suc n) got pad = λ w. (n, omega arith, words_after f (at + 1) n (got ++ w ∷ []) pad)

home_after : (offset n pad : ℕ) (h : Home) → OkAfter (fetch_home offset n pad h) n
home_after offset n pad (H.Resident f page size) = words_after f offset n [] pad
home_after offset n pad H.Deleted = λ a words e. cc
home_after offset n pad H.Never = λ a words e. cc
home_after offset n pad (H.Stored g size) = λ a words e. cc

body_after : (u : SegId) (offset n pad : ℕ) → OkAfter (fetch_body u offset n pad) (n + 1)
body_after u offset n pad w = (n, refl, home_after offset n pad (home_of w))

-- what is known after so many steps of a fetch that takes total steps before its last one
abbrev Spare : ℕ → ℕ → Loads Outcome → Type 0
Spare total n rest = (j : ℕ) × OkAfter rest j × (n + j ≡ total)

known_more : (total n : ℕ) (w : GuardedWord) (f : ℕ → Loads Outcome) (answer : ℕ) → Spare total n (Loads.Load w f) → Spare total (n + 1) (f answer)
known_more total n w f answer known = let more : (i : ℕ) × (known.0 ≡ i + 1) × OkAfter (f answer) i = known.1 answer in
    (more.0, more.2, omega (arith, more.1, known.2))

-- the last step of a look that is accepted with words
module _ (class : ℕ) (g : Guard) (s total n : ℕ) (at : ℕ) (words : List ℕ) where
  second_open : (body : Loads Outcome) (b : Bool) → (if b then going (LookBody class g s body) else poll Fresh) ≡ done (Words at words) → ⊥
  second_open body true e = let h : (let x : Option Outcome = None in x ≡ Some (Words at words)) = ap (λ (t : Told Outcome). t.takes) e in cc
  second_open body false e = let h : (let x : Option Outcome = None in x ≡ Some (Words at words)) = ap (λ (t : Told Outcome). t.takes) e in cc

  shown_is : (o : Outcome) (b : Bool) → (if b then done o else poll Fresh) ≡ done (Words at words) → o ≡ Words at words
  shown_is o true e = let h : Some o ≡ Some (Words at words) = ap (λ (t : Told Outcome). t.takes) e in cc
  shown_is o false e = let h : (let x : Option Outcome = None in x ≡ Some (Words at words)) = ap (λ (t : Told Outcome). t.takes) e in cc

  body_ends : (rest : Loads Outcome) (answer : ℕ) → Spare total n rest → look_told class g s rest answer ≡ done (Words at words) → n ≡ total
  body_ends (Loads.Load w f) answer known e = let h : (let x : Option Outcome = None in x ≡ Some (Words at words)) = ap (λ (t : Told Outcome). t.takes) e in cc
  body_ends (Loads.Shows o) answer known e =
      let none : known.0 ≡ 0 = known.1 at words (shown_is o (answer == s) e) in omega (arith, none, known.2)

  ends_at : (x : Doing Outcome) (answer : ℕ) → LookAt class g s (Spare total) n x → doing_told x answer ≡ done (Words at words) → n ≡ total
  ends_at x answer (inl a) = subst (λ y. doing_told y answer ≡ done (Words at words) → n ≡ total) (sym a.1) (λ e. absurd (second_open a.0 (answer == s) e))
  ends_at x answer (inr a) = subst (λ y. doing_told y answer ≡ done (Words at words) → n ≡ total) (sym a.1) (body_ends a.0 answer a.2)

abbrev tick : Bool → ℕ
tick b = if b then 1 else 0

own_append : (name : ProcName) (m : Machine) (events : List Event) (f : Event) →
    own_steps name m (events ++ f ∷ []) ≡ own_steps name m events + (if takes_step name (run m events) f then 1 else 0)
own_append name m [] f = omega arith
own_append name m (e ∷ events) f = let t = own_append name (step m e) events f in omega (arith, t)

some_is : (x y : Running) → Some x ≡ Some y → x ≡ y
some_is x y e = cc

-- a look from its first step through its next one
module _ (l : LookInRun) where
  abbrev m : Machine
  m = at_first l

  abbrev taken : ℕ
  taken = own_steps l.name (behind_first l) l.between

  through : steps_through l ≡ 1 + taken + 1
  through = omega (arith, first, next, own_append l.name (behind_first l) l.between l.next)
    where
      first : tick (takes_step l.name (at_first l) l.first) ≡ 1
      first = ap tick l.looks.first

      next : tick (takes_step l.name (at_next l) l.next) ≡ 1
      next = ap tick l.looks.next

  abbrev SoFar : (ℕ → Loads Outcome → Type 0) → Type 0
  SoFar Known = (last : Running) × (running_at (at_next l) l.name ≡ Some last) × (begun last.doing ≡ true) × LookAt l.class l.guard (held l) Known (1 + taken) last.doing

  so_far : (Known : ℕ → Loads Outcome → Type 0) → ((n : ℕ) (w : GuardedWord) (f : ℕ → Loads Outcome) (answer : ℕ) → Known n (Loads.Load w f) → Known (n + 1) (f answer)) → Known 2 l.body → SoFar Known
  so_far Known more known = look_at l.class l.guard (held l) Known more (at_first l) l.name l.request l.body l.first l.between l.next l.looks refl known

body_is : (class : ℕ) (g : Guard) (body : Loads Outcome) (x : ℕ) (h : Guard) (whole : Loads Outcome) → (let a : Act Outcome = Look x h whole in a ≡ Look class g body) → whole ≡ body
body_is class g body x h whole e = cc

pub fetches_are_exact : FetchesAreExact
fetches_are_exact l known offset n pad doing at words asks tells = omega (arith, ends, through l)
  where
    total : ℕ
    total = n + 3

    whole : fetch_body known.seg offset n pad ≡ l.body
    whole = body_is l.class l.guard l.body known.class (OfSegment known.seg) (fetch_body known.seg offset n pad)
        (ap (act (at_first l).shared l.name.class l.looks.begins.before.process.ring) (sym asks) ∙ l.looks.begins.done_so)

    far : SoFar l (Spare total)
    far = so_far l (Spare total) (known_more total) (n + 1, subst (λ b. OkAfter b (n + 1)) whole (body_after known.seg offset n pad), omega arith)

    told : told_in (at_next l) l.name.class far.0.doing ≡ done (Words at words)
    told = ap (told_in (at_next l) l.name.class) (sym (ap (λ (r : Running). r.doing) (some_is tells.running far.0 (sym tells.there ∙ far.1))) ∙ tells.so_far) ∙ tells.tells

    ends : 1 + taken l ≡ total
    ends = ends_at l.class l.guard (held l) total (1 + taken l) at words far.0.doing (answer_to (words_of (at_next l)) l.name.class (doing_op l.name.class far.0.doing)) far.3 told

-- what is known after so many steps of a look of at most total steps before its last one
abbrev Left : ℕ → ℕ → Loads Outcome → Type 0
Left total n rest = (j : ℕ) × LoadsAtMost rest j × (n + j ≤ total)

left_more : (total n : ℕ) (w : GuardedWord) (f : ℕ → Loads Outcome) (answer : ℕ) → Left total n (Loads.Load w f) → Left total (n + 1) (f answer)
left_more total n w f answer known = (known.0 - 1, known.1.1 answer, omega (arith, known.1.0, known.2))

pub looks_are_short : LooksAreShort
looks_are_short l n most = omega (arith, few far.3, through l)
  where
    far : SoFar l (Left (n + 2))
    far = so_far l (Left (n + 2)) (left_more (n + 2)) (n, most, omega arith)

    few : LookAt l.class l.guard (held l) (Left (n + 2)) (1 + taken l) far.0.doing → 1 + taken l ≤ n + 2
    few (inl a) = omega (arith, a.2.2)
    few (inr a) = omega (arith, a.2.2)
