-- One line more at the end of an order.
use Rattle.std.proofs.Common.{◌≡◌, ◌≢◌, ℕ, ◌+◌, ◌<◌, ◌==◌, List, [], ◌∷◌, ◌++◌, if◌then◌else◌, Bool, true, false, zero, suc, length, get_or, set, refl, ap, eq-eqb, ne_eqb, arith}
use Rattle.words_layout.specs.Ops.{answer_on, list_after}
use Rattle.shared_words.specs.declared.view.Entry.{Entry}
use Rattle.shared_words.specs.Order.{Line, entry, mark, IsSound, after, entries_of, marks}

pub sound_entry : (ws : List ℕ) (round : ℕ) (lines : List Line) (q : ℕ) (e : Entry) → IsSound ws round lines → e.round ≡ round + marks lines → e.answer ≡ answer_on (after ws lines) e.op → IsSound ws round (lines ++ entry q e ∷ [])
sound_entry ws round [] q e s r a = (omega arith, a, tt)
sound_entry ws round (entry p f ∷ lines) q e s r a = (s.0, s.1, sound_entry (list_after ws f.op) round lines q e s.2 r a)
sound_entry ws round (mark ∷ lines) q e s r a = sound_entry ws (round + 1) lines q e s (omega arith) a

pub sound_mark : (ws : List ℕ) (round : ℕ) (lines : List Line) → IsSound ws round lines → IsSound ws round (lines ++ mark ∷ [])
sound_mark ws round [] s = tt
sound_mark ws round (entry p f ∷ lines) s = (s.0, s.1, sound_mark (list_after ws f.op) round lines s.2)
sound_mark ws round (mark ∷ lines) s = sound_mark ws (round + 1) lines s

pub after_entry : (ws : List ℕ) (lines : List Line) (q : ℕ) (e : Entry) → after ws (lines ++ entry q e ∷ []) ≡ list_after (after ws lines) e.op
after_entry ws [] q e = refl
after_entry ws (entry p f ∷ lines) q e = after_entry (list_after ws f.op) lines q e
after_entry ws (mark ∷ lines) q e = after_entry ws lines q e

pub after_mark : (ws : List ℕ) (lines : List Line) → after ws (lines ++ mark ∷ []) ≡ after ws lines
after_mark ws [] = refl
after_mark ws (entry p f ∷ lines) = after_mark (list_after ws f.op) lines
after_mark ws (mark ∷ lines) = after_mark ws lines

pub marks_entry : (lines : List Line) (q : ℕ) (e : Entry) → marks (lines ++ entry q e ∷ []) ≡ marks lines
marks_entry [] q e = refl
marks_entry (entry p f ∷ lines) q e = marks_entry lines q e
marks_entry (mark ∷ lines) q e = ap (λ n. n + 1) (marks_entry lines q e)

pub marks_mark : (lines : List Line) → marks (lines ++ mark ∷ []) ≡ marks lines + 1
marks_mark [] = refl
marks_mark (entry p f ∷ lines) = marks_mark lines
marks_mark (mark ∷ lines) = ap (λ n. n + 1) (marks_mark lines)

pub entries_same : (p : ℕ) (lines : List Line) (e : Entry) → entries_of p (lines ++ entry p e ∷ []) ≡ entries_of p lines ++ e ∷ []
entries_same p [] e = rw (eq-eqb p p refl)
entries_same p (entry q f ∷ lines) e =
    let P : Bool → Type 0 = λ b. (if b then f ∷ entries_of p (lines ++ entry p e ∷ []) else entries_of p (lines ++ entry p e ∷ [])) ≡ (if b then f ∷ entries_of p lines else entries_of p lines) ++ e ∷ [] in
    elim (q == p) as P [ true ↦ ap (λ es. f ∷ es) (entries_same p lines e) | false ↦ entries_same p lines e ]
entries_same p (mark ∷ lines) e = entries_same p lines e

pub entries_else : (p q : ℕ) (lines : List Line) (e : Entry) → q ≢ p → entries_of p (lines ++ entry q e ∷ []) ≡ entries_of p lines
entries_else p q [] e n = rw (ne_eqb q p n)
entries_else p q (entry r f ∷ lines) e n =
    let P : Bool → Type 0 = λ b. (if b then f ∷ entries_of p (lines ++ entry q e ∷ []) else entries_of p (lines ++ entry q e ∷ [])) ≡ (if b then f ∷ entries_of p lines else entries_of p lines) in
    elim (r == p) as P [ true ↦ ap (λ es. f ∷ es) (entries_else p q lines e n) | false ↦ entries_else p q lines e n ]
entries_else p q (mark ∷ lines) e n = entries_else p q lines e n

pub entries_mark : (p : ℕ) (lines : List Line) → entries_of p (lines ++ mark ∷ []) ≡ entries_of p lines
entries_mark p [] = refl
entries_mark p (entry r f ∷ lines) =
    let P : Bool → Type 0 = λ b. (if b then f ∷ entries_of p (lines ++ mark ∷ []) else entries_of p (lines ++ mark ∷ [])) ≡ (if b then f ∷ entries_of p lines else entries_of p lines) in
    elim (r == p) as P [ true ↦ ap (λ es. f ∷ es) (entries_mark p lines) | false ↦ entries_mark p lines ]
entries_mark p (mark ∷ lines) = entries_mark p lines

-- lists by places
pub get_set : {A : Type 0} (l : List A) (i : ℕ) (x d : A) → i < length l → get_or (set l i x) i d ≡ x
get_set [] i x d h = absurd (omega arith)
get_set (y ∷ ys) zero x d h = refl
get_set (y ∷ ys) (suc i) x d h = get_set ys i x d (omega arith)

pub get_set_else : {A : Type 0} (l : List A) (i j : ℕ) (x d : A) → j ≢ i → get_or (set l i x) j d ≡ get_or l j d
get_set_else [] i j x d n = refl
get_set_else (y ∷ ys) zero zero x d n = absurd (n refl)
get_set_else (y ∷ ys) zero (suc j) x d n = refl
get_set_else (y ∷ ys) (suc i) zero x d n = refl
get_set_else (y ∷ ys) (suc i) (suc j) x d n = get_set_else ys i j x d (λ e. n (ap suc e))

pub set_own : {A : Type 0} (l : List A) (i : ℕ) (d : A) → set l i (get_or l i d) ≡ l
set_own [] i d = refl
set_own (y ∷ ys) zero d = refl
set_own (y ∷ ys) (suc i) d = ap (λ zs. y ∷ zs) (set_own ys i d)
