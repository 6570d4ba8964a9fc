-- An order is cut at its first mark, and a log between two rounds.
use Rattle.std.proofs.Common.{◌≡◌, ◌≢◌, ℕ, suc, ◌+◌, ◌<◌, ◌≤◌, ◌==◌, Bool, true, false, List, [], ◌∷◌, ◌++◌, length, get_or, refl, sym, ap, ◌∙◌, subst, if◌then◌else◌, eq-eqb, ne_eqb, append-nil, append_assoc, lt_of_not-le, arith}
use native.Mathlib.Decide.{dec_le}
use Rattle.words_layout.specs.Ops.{list_after}
use Rattle.class_model.specs.Config.{Shared}
use Rattle.machine.specs.Processing.{Processing}
use Rattle.machine.specs.Banks.{vp_in}
use Rattle.shared_words.specs.declared.view.Entry.{Entry}
use Rattle.shared_words.specs.Order.{Line, entry, mark, IsSound, after, entries_of, marks}
use Rattle.round_laws.specs.Turns.{TurnsBy}
use Rattle.round_laws.specs.Logs.{Logs}
use Rattle.round_laws.proofs.Idle.{Kind, idle, busy, kind, op_of}
use Rattle.round_laws.proofs.Merge.{OneRound}

abbrev pub NoMark : List Line → Type 0
NoMark [] = Unit {0}
NoMark (entry q e ∷ lines) = NoMark lines
NoMark (mark ∷ lines) = ⊥

-- an order cut at its first mark
pub record Cut (ws : List ℕ) (r : ℕ) (lines : List Line) (n : ℕ) : Type 0 where
  pub piece : List Line
  pub rest : List Line
  pub one : NoMark piece
  pub left : IsSound ws r piece
  pub right : IsSound (after ws piece) (r + 1) rest
  pub words : after ws lines ≡ after (after ws piece) rest
  pub entries : (q : ℕ) → entries_of q lines ≡ entries_of q piece ++ entries_of q rest
  pub marks_are : marks rest ≡ n

entries_cut : (q p : ℕ) (e : Entry) (lines piece rest : List Line) → entries_of q lines ≡ entries_of q piece ++ entries_of q rest → entries_of q (entry p e ∷ lines) ≡ entries_of q (entry p e ∷ piece) ++ entries_of q rest
entries_cut q p e lines piece rest h =
    let P : Bool → Type 0 = λ b. (if b then e ∷ entries_of q lines else entries_of q lines) ≡ (if b then e ∷ entries_of q piece else entries_of q piece) ++ entries_of q rest in
    elim (p == q) as P [ true ↦ ap (λ (es : List Entry). e ∷ es) h | false ↦ h ]

pub cut : (ws : List ℕ) (r : ℕ) (lines : List Line) (n : ℕ) → marks lines ≡ n + 1 → IsSound ws r lines → Cut ws r lines n
cut ws r [] n m s = absurd (omega arith)
cut ws r (entry p e ∷ lines) n m s =
    let c = cut (list_after ws e.op) r lines n m s.2 in
    record {
      piece = entry p e ∷ c.piece;
      rest = c.rest;
      one = c.one;
      left = (s.0, s.1, c.left);
      right = c.right;
      words = c.words;
      entries = λ q. entries_cut q p e lines c.piece c.rest (c.entries q);
      marks_are = c.marks_are;
    }
cut ws r (mark ∷ lines) n m s = record { piece = []; rest = lines; one = tt; left = tt; right = s; words = refl; entries = λ q. refl; marks_are = omega arith }

own_line : (q : ℕ) (e : Entry) (lines : List Line) → entries_of q (entry q e ∷ lines) ≡ e ∷ entries_of q lines
own_line q e lines = rw (eq-eqb q q refl)

other_line : (q p : ℕ) (e : Entry) (lines : List Line) → p ≢ q → entries_of q (entry p e ∷ lines) ≡ entries_of q lines
other_line q p e lines n = rw (ne_eqb p q n)

not_none : (e : Entry) (es : List Entry) → e ∷ es ≡ [] → ⊥
not_none e es h = cc

low_at : (n q : ℕ) (e : Entry) (lines : List Line) → ((p : ℕ) → n ≤ p → entries_of p (entry q e ∷ lines) ≡ []) → Dec (n ≤ q) → q < n
low_at n q e lines h (yes high) = absurd (not_none e (entries_of q lines) (sym (own_line q e lines) ∙ h q high))
low_at n q e lines h (no low) = lt_of_not-le low

-- lines without a mark whose entries are all of numbers below n
pub one_round : (n : ℕ) (lines : List Line) → NoMark lines → ((p : ℕ) → n ≤ p → entries_of p lines ≡ []) → OneRound n lines
one_round n [] m h = tt
one_round n (entry q e ∷ lines) m h =
    let low : q < n = low_at n q e lines h (dec_le n q) in
    (low, one_round n lines m (λ p high. sym (other_line p q e lines (λ s. omega arith)) ∙ h p high))
one_round n (mark ∷ lines) m h = absurd m

-- no entry and no mark: no line
pub no_lines : (ws : List ℕ) (lines : List Line) → marks lines ≡ 0 → ((p : ℕ) → entries_of p lines ≡ []) → after ws lines ≡ ws
no_lines ws [] m h = refl
no_lines ws (entry q e ∷ lines) m h = absurd (not_none e (entries_of q lines) (sym (own_line q e lines) ∙ h q))
no_lines ws (mark ∷ lines) m h = absurd (omega arith)

-- entries of one round, and entries from a round on
abbrev pub AllIn : ℕ → List Entry → Type 0
AllIn r [] = Unit {0}
AllIn r (e ∷ es) = (e.round ≡ r) × AllIn r es

abbrev pub AllFrom : ℕ → List Entry → Type 0
AllFrom r [] = Unit {0}
AllFrom r (e ∷ es) = (r ≤ e.round) × AllFrom r es

in_cons : (r : ℕ) (q p : ℕ) (e : Entry) (lines : List Line) → e.round ≡ r → AllIn r (entries_of q lines) → AllIn r (entries_of q (entry p e ∷ lines))
in_cons r q p e lines h a =
    let P : Bool → Type 0 = λ b. AllIn r (if b then e ∷ entries_of q lines else entries_of q lines) in
    elim (p == q) as P [ true ↦ (h, a) | false ↦ a ]

from_cons : (r : ℕ) (q p : ℕ) (e : Entry) (lines : List Line) → r ≤ e.round → AllFrom r (entries_of q lines) → AllFrom r (entries_of q (entry p e ∷ lines))
from_cons r q p e lines h a =
    let P : Bool → Type 0 = λ b. AllFrom r (if b then e ∷ entries_of q lines else entries_of q lines) in
    elim (p == q) as P [ true ↦ (h, a) | false ↦ a ]

pub sound_in : (ws : List ℕ) (r : ℕ) (lines : List Line) (q : ℕ) → NoMark lines → IsSound ws r lines → AllIn r (entries_of q lines)
sound_in ws r [] q m s = tt
sound_in ws r (entry p e ∷ lines) q m s = in_cons r q p e lines s.0 (sound_in (list_after ws e.op) r lines q m s.2)
sound_in ws r (mark ∷ lines) q m s = absurd m

pub from_less : (r : ℕ) (es : List Entry) → AllFrom (r + 1) es → AllFrom r es
from_less r [] a = tt
from_less r (e ∷ es) a = (let h : r + 1 ≤ e.round = a.0 in omega arith, from_less r es a.1)

pub sound_from : (ws : List ℕ) (r : ℕ) (lines : List Line) (q : ℕ) → IsSound ws r lines → AllFrom r (entries_of q lines)
sound_from ws r [] q s = tt
sound_from ws r (entry p e ∷ lines) q s = from_cons r q p e lines (let h : e.round ≡ r = s.0 in omega arith) (sound_from (list_after ws e.op) r lines q s.2)
sound_from ws r (mark ∷ lines) q s = from_less r (entries_of q lines) (sound_from ws (r + 1) lines q s)

pub in_from : (r : ℕ) (xs ys : List Entry) → AllIn r xs → AllFrom (r + 1) ys → AllFrom r (xs ++ ys)
in_from r [] ys a b = from_less r ys b
in_from r (x ∷ xs) ys a b = (let h : x.round ≡ r = a.0 in omega arith, in_from r xs ys a.1 b)

late_head : (r : ℕ) (x : Entry) (xs ys zs : List Entry) → ys ≡ (x ∷ xs) ++ zs → x.round ≡ r → AllFrom (r + 1) ys → ⊥
late_head r x xs ys zs e h a =
    let b : AllFrom (r + 1) ((x ∷ xs) ++ zs) = subst (AllFrom (r + 1)) e a in
    let c : r + 1 ≤ x.round = b.0 in
    omega arith

tails_same : (x y : Entry) (xs ys : List Entry) → x ∷ xs ≡ y ∷ ys → xs ≡ ys
tails_same x y xs ys e = cc

heads_same : (x y : Entry) (xs ys : List Entry) → x ∷ xs ≡ y ∷ ys → x ≡ y
heads_same x y xs ys e = cc

-- where the entries of a round end is determined
pub same_cut : (r : ℕ) (xs ys zs us : List Entry) → xs ++ ys ≡ zs ++ us → AllIn r xs → AllIn r zs → AllFrom (r + 1) ys → AllFrom (r + 1) us → (xs ≡ zs) × (ys ≡ us)
same_cut r [] ys [] us e a b c d = (refl, e)
same_cut r [] ys (z ∷ zs) us e a b c d = absurd (late_head r z zs ys us e b.0 c)
same_cut r (x ∷ xs) ys [] us e a b c d = absurd (late_head r x xs us ys (sym e) a.0 d)
same_cut r (x ∷ xs) ys (z ∷ zs) us e a b c d =
    let t = same_cut r xs ys zs us (tails_same x z (xs ++ ys) (zs ++ us) e) a.1 b.1 c d in
    let h : x ≡ z = heads_same x z (xs ++ ys) (zs ++ us) e in
    (λ i. h i ∷ t.0 i, t.1)

-- a log of a round grows by entries of that round
pub log_grows : (round : ℕ) (s : Shared) (cs : List ℕ) (b b' : List Processing) (pre post : List Entry) → TurnsBy (Logs round) s cs b pre b' post → (more : List Entry) × (post ≡ pre ++ more) × AllIn round more
log_grows round s [] b b' pre post t = ([], t.1 ∙ sym (append-nil pre), tt)
log_grows round s (c ∷ cs) b b' pre post t =
    let k : Kind round s (vp_in b c) (op_of s (vp_in b c)) pre t.2.after t.1 t.2.effect = kind round s (vp_in b c) t.2.after pre t.1 t.2.effect t.2.step in
    let r = log_grows round s cs t.0 b' t.1 post t.3 in
    elim k [
      | idle e run ↦ (r.0, r.1 ∙ ap (λ (es : List Entry). es ++ r.0) e, r.2)
      | busy f e at run ↦ (f ∷ r.0, r.1 ∙ (ap (λ (es : List Entry). es ++ r.0) e ∙ append_assoc pre (f ∷ []) r.0), (at, r.2))
    ]

-- lists of lists that agree at every place
pub same_lists : (xs ys : List (List Processing)) → length xs ≡ length ys → ((p : ℕ) → p < length xs → get_or xs p [] ≡ get_or ys p []) → xs ≡ ys
same_lists [] [] e h = refl
same_lists [] (y ∷ ys) e h = absurd (omega arith)
same_lists (x ∷ xs) [] e h = absurd (omega arith)
same_lists (x ∷ xs) (y ∷ ys) e h =
    let a : x ≡ y = h 0 (omega arith) in
    let b = same_lists xs ys (omega arith) (λ p low. h (suc p) (omega arith)) in
    λ i. a i ∷ b i
