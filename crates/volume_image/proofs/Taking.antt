-- The steps of reading, in both directions: what is taken off the front is a field's spelling, and a spelling in front is taken.
use Rattle.std.proofs.Common.{◌≡◌, ℕ, suc, ◌+◌, ◌^◌, ◌<◌, ◌≤◌, Bool, true, false, cond, ltb, List, [], ◌∷◌, ◌++◌, length, get_or, take, drop, Result, Ok, Err, refl, sym, ap, subst, ◌∙◌, append_assoc, arith, inl, inr}
use Rattle.std.specs.Int.{Width, w16, w64, byte_len, from_be_bytes, to_be_bytes}
use Rattle.std.proofs.lemmas.Bool.{cases_lt, ltb-false, le-ltb}
use Rattle.std.proofs.lemmas.List.{take_at, drop_at, take-append-drop, length-append, length-take, get_or-drop, get_or-take, get_or_past}
use Rattle.std.proofs.lemmas.Nat.{be_bytes_2, be_bytes_8, from_be_bytes-to_be_bytes_2, from_be_bytes-to_be_bytes_8}
use Rattle.rings.specs.Brackets.{Brackets}
use Rattle.words_layout.specs.declared.segment.SegId.{SegId}
use Rattle.volume_image.specs.declared.fault.Code.TheVariants.{Short}
use Rattle.volume_image.specs.Written.{identity_bytes, brackets_bytes}
use Rattle.volume_image.specs.Steps.{Fault, Step, Tests, ◌>>=◌, judged, field, passed, byte_at, front_at, number_at, identity_at}
use Rattle.volume_image.specs.Fields.{rings_at}

-- ---- bytes

abbrev pub IsBytes : List ℕ → Type 0
IsBytes bytes = (i : ℕ) → get_or bytes i 0 < 256

IsBytes-drop : (n : ℕ) (bytes : List ℕ) → IsBytes bytes → IsBytes (drop n bytes)
IsBytes-drop n bytes h i = rw get_or-drop (h (n + i))

IsBytes-take : (n : ℕ) (bytes : List ℕ) → IsBytes bytes → IsBytes (take n bytes)
IsBytes-take n bytes h i =
    elim (cases_lt i n) [
      | inl lt ↦ rw (get_or-take n bytes i 0 lt) (h i)
      | inr le ↦ rw (get_or_past (take n bytes) i 0 (omega (arith, length-take n bytes))) (omega arith)
    ]

IsBytes-rest : (b : ℕ) (bytes : List ℕ) → IsBytes (b ∷ bytes) → IsBytes bytes
IsBytes-rest b bytes h i = h (suc i)

-- what a step took from the front
pub record Takes (bytes text rest : List ℕ) : Type 0 where
  pub parts : bytes ≡ text ++ rest
  pub rest_fits : IsBytes rest

pub Takes-then : (a x b y c : List ℕ) → Takes a x b → Takes b y c → Takes a (x ++ y) c
Takes-then a x b y c p q = record { parts = p.parts ∙ ap (λ (t : List ℕ). x ++ t) q.parts ∙ sym (append_assoc x y c); rest_fits = q.rest_fits }

-- ---- steps

abbrev done : {A : Type 0} → A → Result A Fault
done x = Ok x

pub ok_is : {A : Type 0} (x y : A) → done x ≡ done y → x ≡ y
ok_is x y e = cc

-- the value of a step that did not fail
pub bind_ok : {A B : Type 0} (r : Result A Fault) (f : A → Result B Fault) (y : B) → (r >>= f) ≡ Ok y → (x : A) × (r ≡ Ok x) × (f x ≡ Ok y)
bind_ok (Ok x) f y e = (x, refl, e)
bind_ok (Err d) f y e = absurd cc

-- likewise, for what is to be shown of the answer
pub bind_then : {A B : Type 0} (r : Result A Fault) (f : A → Result B Fault) (y : B) (P : B → Type 0) → (r >>= f) ≡ Ok y → ((x : A) → r ≡ Ok x → f x ≡ Ok y → P y) → P y
bind_then (Ok x) f y P e h = h x refl e
bind_then (Err d) f y P e h = absurd cc

pub carry : {A : Type 0} (P : A → Type 0) (x y : A) → x ≡ y → P x → P y
carry P x y e p = subst P e p

-- none of the tests holds
abbrev pub AllFail : Tests → Type 0
AllFail [] = Unit {0}
AllFail (t ∷ ts) = (t.0 ≡ false) × AllFail ts

judged_test : {A : Type 0} (b : Bool) (f : Fault) (r : Result A Fault) (y : A) → cond b (Err f) r ≡ Ok y → (b ≡ false) × (r ≡ Ok y)
judged_test true f r y e = absurd cc
judged_test false f r y e = (refl, e)

pub judged_ok : {A : Type 0} (left : ℕ) (ts : Tests) (x y : A) → judged left ts x ≡ Ok y → AllFail ts × (x ≡ y)
judged_ok left [] x y e = (tt, ok_is x y e)
judged_ok left (t ∷ ts) x y e =
    let g = judged_test t.0 (record { left = left; code = t.1 }) (judged left ts x) y e in
    let h = judged_ok left ts x y g.1 in
    ((g.0, h.0), h.1)

pub judged_pass : {A : Type 0} (left : ℕ) (ts : Tests) (x : A) → AllFail ts → judged left ts x ≡ Ok x
judged_pass left [] x h = refl
judged_pass left (t ∷ ts) x h = rw h.0 (judged_pass left ts x h.1)

pub field_ok : {A : Type 0} (read : List ℕ → Step A) (tests : A → Tests) (bytes : List ℕ) (y : A × List ℕ) → field read tests bytes ≡ Ok y → (read bytes ≡ Ok y) × AllFail (tests y.0)
field_ok {A} read tests bytes y e =
    let b = bind_ok (read bytes) (λ x. judged (length bytes) (tests x.0) x) y e in
    let j = judged_ok (length bytes) (tests b.0.0) b.0 y b.2 in
    subst (λ (x : A × List ℕ). (read bytes ≡ Ok x) × AllFail (tests x.0)) j.1 (b.1, j.0)

pub field_again : {A : Type 0} (read : List ℕ → Step A) (tests : A → Tests) (bytes : List ℕ) (x : A × List ℕ) → read bytes ≡ Ok x → AllFail (tests x.0) → field read tests bytes ≡ Ok x
field_again {A} read tests bytes x h t =
    ap (λ (r : Step A). r >>= λ y. judged (length bytes) (tests y.0) y) h ∙ judged_pass (length bytes) (tests x.0) x t

pub passed_ok : {A : Type 0} (read : List ℕ → Step A) (tests : A → Tests) (bytes rest : List ℕ) → passed read tests bytes ≡ Ok rest → (x : A × List ℕ) × (read bytes ≡ Ok x) × AllFail (tests x.0) × (x.1 ≡ rest)
passed_ok read tests bytes rest e =
    let b = bind_ok (read bytes) (λ x. judged (length bytes) (tests x.0) x.1) rest e in
    let j = judged_ok (length bytes) (tests b.0.0) b.0.1 rest b.2 in
    (b.0, b.1, j.0, j.1)

pub passed_again : {A : Type 0} (read : List ℕ → Step A) (tests : A → Tests) (bytes : List ℕ) (x : A × List ℕ) → read bytes ≡ Ok x → AllFail (tests x.0) → passed read tests bytes ≡ Ok x.1
passed_again {A} read tests bytes x h t =
    ap (λ (r : Step A). r >>= λ y. judged (length bytes) (tests y.0) y.1) h ∙ judged_pass (length bytes) (tests x.0) x.1 t

-- ---- values

pub byte_takes : (bytes : List ℕ) (x : ℕ × List ℕ) → IsBytes bytes → byte_at bytes ≡ Ok x → Takes bytes (x.0 ∷ []) x.1
byte_takes [] x fits e = absurd cc
byte_takes (b ∷ bytes) x fits e =
    subst (λ (y : ℕ × List ℕ). Takes (b ∷ bytes) (y.0 ∷ []) y.1) (ok_is (b, bytes) x e) (record { parts = refl; rest_fits = IsBytes-rest b bytes fits })

pub identity_takes : (bytes : List ℕ) (x : SegId × List ℕ) → IsBytes bytes → identity_at bytes ≡ Ok x → Takes bytes (identity_bytes x.0) x.1
identity_takes [] x fits e = absurd cc
identity_takes (m ∷ []) x fits e = absurd cc
identity_takes (m ∷ s ∷ bytes) x fits e =
    subst (λ (y : SegId × List ℕ). Takes (m ∷ s ∷ bytes) (identity_bytes y.0) y.1) (ok_is (record { mentor = m; serial = s }, bytes) x e)
    (record { parts = refl; rest_fits = IsBytes-rest s bytes (IsBytes-rest m (s ∷ bytes) fits) })

pub rings_takes : (bytes : List ℕ) (x : Brackets × List ℕ) → IsBytes bytes → rings_at bytes ≡ Ok x → Takes bytes (brackets_bytes x.0) x.1
rings_takes [] x fits e = absurd cc
rings_takes (a ∷ []) x fits e = absurd cc
rings_takes (a ∷ b ∷ []) x fits e = absurd cc
rings_takes (a ∷ b ∷ c ∷ bytes) x fits e =
    subst (λ (y : Brackets × List ℕ). Takes (a ∷ b ∷ c ∷ bytes) (brackets_bytes y.0) y.1) (ok_is (record { r1 = a; r2 = b; r3 = c }, bytes) x e)
    (record { parts = refl; rest_fits = IsBytes-rest c bytes (IsBytes-rest b (c ∷ bytes) (IsBytes-rest a (b ∷ c ∷ bytes) fits)) })

short_fault : Fault
short_fault = record { left = 0; code = Short }

pub front_takes : (n : ℕ) (bytes : List ℕ) (x : List ℕ × List ℕ) → IsBytes bytes → front_at n bytes ≡ Ok x → Takes bytes x.0 x.1 × (length x.0 ≡ n)
front_takes n bytes x fits e =
    let g = judged_test (ltb (length bytes) n) (record { left = 0; code = Short }) (Ok (take n bytes, drop n bytes)) x e in
    let long : n ≤ length bytes = ltb-false _ _ g.0 in
    subst (λ (y : List ℕ × List ℕ). Takes bytes y.0 y.1 × (length y.0 ≡ n)) (ok_is (take n bytes, drop n bytes) x g.1)
    (record { parts = sym (take-append-drop n bytes); rest_fits = IsBytes-drop n bytes fits }, omega (arith, length-take n bytes))

pub front_again : (text rest : List ℕ) (n : ℕ) → length text ≡ n → front_at n (text ++ rest) ≡ Ok (text, rest)
front_again text rest n len =
    let long : ltb (length (text ++ rest)) n ≡ false = le-ltb _ _ (omega (arith, length-append text rest)) in
    rw (long, take_at text rest n len, drop_at text rest n len) refl

-- ---- numbers

pub record IsWide (w : Width) (limit : ℕ) : Type 0 where
  pub len : (n : ℕ) → length (to_be_bytes w n) ≡ byte_len w
  pub back : (bytes : List ℕ) → length bytes ≡ byte_len w → IsBytes bytes → to_be_bytes w (from_be_bytes w bytes) ≡ bytes
  pub again : (n : ℕ) → n < limit → from_be_bytes w (to_be_bytes w n) ≡ n
  pub below : (bytes : List ℕ) → IsBytes bytes → from_be_bytes w bytes < limit

pub wide16 : IsWide w16 (2 ^ 16)
wide16 = record {
  len = λ n. refl;
  back = λ bytes len fits. be_bytes_2 bytes _ len fits refl;
  again = λ n lt. from_be_bytes-to_be_bytes_2 n lt;
  below = λ bytes fits. omega (arith, fits 0, fits 1);
}

pub wide64 : IsWide w64 (2 ^ 64)
wide64 = record {
  len = λ n. refl;
  back = λ bytes len fits. be_bytes_8 bytes _ len fits refl;
  again = λ n lt. from_be_bytes-to_be_bytes_8 n lt;
  below = λ bytes fits. omega (arith, fits 0, fits 1, fits 2, fits 3, fits 4, fits 5, fits 6, fits 7);
}

pub number_takes : (w : Width) (limit : ℕ) (wide : IsWide w limit) (bytes : List ℕ) (x : ℕ × List ℕ) → IsBytes bytes → number_at w bytes ≡ Ok x → Takes bytes (to_be_bytes w x.0) x.1 × (x.0 < limit)
number_takes w limit wide bytes x fits e =
    let g = judged_test (ltb (length bytes) (byte_len w)) (record { left = 0; code = Short }) (Ok (from_be_bytes w (take (byte_len w) bytes), drop (byte_len w) bytes)) x e in
    let long : byte_len w ≤ length bytes = ltb-false _ _ g.0 in
    let front : to_be_bytes w (from_be_bytes w (take (byte_len w) bytes)) ≡ take (byte_len w) bytes =
    wide.back (take (byte_len w) bytes) (omega (arith, length-take (byte_len w) bytes)) (IsBytes-take (byte_len w) bytes fits) in
    subst (λ (y : ℕ × List ℕ). Takes bytes (to_be_bytes w y.0) y.1 × (y.0 < limit)) (ok_is (from_be_bytes w (take (byte_len w) bytes), drop (byte_len w) bytes) x g.1)
    (record { parts = rw front (sym (take-append-drop (byte_len w) bytes)); rest_fits = IsBytes-drop (byte_len w) bytes fits }, wide.below (take (byte_len w) bytes) (IsBytes-take (byte_len w) bytes fits))

pub number_again : (w : Width) (limit : ℕ) (wide : IsWide w limit) (n : ℕ) (rest : List ℕ) → n < limit → number_at w (to_be_bytes w n ++ rest) ≡ Ok (n, rest)
number_again w limit wide n rest lt =
    let len = wide.len n in
    let long : ltb (length (to_be_bytes w n ++ rest)) (byte_len w) ≡ false = le-ltb _ _ (omega (arith, length-append (to_be_bytes w n) rest)) in
    rw (long, take_at (to_be_bytes w n) rest (byte_len w) len, drop_at (to_be_bytes w n) rest (byte_len w) len, wide.again n lt) refl
