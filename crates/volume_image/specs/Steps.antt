-- Steps of reading: each takes a field off the front of the bytes that are left, or is at fault there.
use Rattle.std.specs.Prelude.{◌≡◌, ℕ, Bool, List, [], ◌∷◌, length, take, drop, Result, Ok, Err, nat_lt, if◌then◌else◌}
use Rattle.std.specs.Int.{Width, byte_len, from_be_bytes}
use Rattle.words_layout.specs.Segments.{seg}
use Rattle.words_layout.specs.declared.segment.SegId.{SegId}
use Rattle.volume_image.specs.declared.fault.Code.{Code}
use Rattle.volume_image.specs.declared.fault.Code.TheVariants.{Short}
use Rattle.volume_image.specs.declared.fault.Stop.{Stop}
use Rattle.volume_image.specs.declared.fault.Stop.TheVariants as stop

-- a field at fault: how many bytes are left from its first one on, and its code
pub record Fault : Type 0 where
  pub left : ℕ
  pub code : Code

-- what a step answers: a value with the bytes behind the field, or the fault
abbrev pub Step : Type 0 → Type 0
Step X = Result (X × List ℕ) Fault

infixl 10 ◌>>=◌
-- the next step, where this one is not at fault
abbrev pub ◌>>=◌ : {A B : Type 0} → Result A Fault → (A → Result B Fault) → Result B Fault
(Ok x) >>= f = f x
(Err e) >>= f = Err e

-- The bytes end before the field does. Nothing is left then.
abbrev pub short : {A : Type 0} → Result A Fault
short = Err (record { left = 0; code = Short })

-- tests that must not hold, with their codes
abbrev pub Tests : Type 0
Tests = List (Bool × Code)

-- The value, or the code of the first test that holds, at the field from which so many bytes are left.
abbrev pub judged : {A : Type 0} → ℕ → Tests → A → Result A Fault
judged left [] x = Ok x
judged left (t ∷ ts) x = if t.0 then Err (record { left = left; code = t.1 }) else judged left ts x

-- a field: what is read there, and the tests of its value
abbrev pub field : {A : Type 0} → (List ℕ → Step A) → (A → Tests) → List ℕ → Step A
field read tests bytes = read bytes >>= λ x. judged (length bytes) (tests x.0) x

-- a field whose value nothing else depends on: only the bytes behind it are kept
abbrev pub passed : {A : Type 0} → (List ℕ → Step A) → (A → Tests) → List ℕ → Result (List ℕ) Fault
passed read tests bytes = read bytes >>= λ x. judged (length bytes) (tests x.0) x.1

-- a byte
abbrev pub byte_at : List ℕ → Step ℕ
byte_at [] = short
byte_at (b ∷ rest) = Ok (b, rest)

-- so many bytes
abbrev pub front_at : ℕ → List ℕ → Step (List ℕ)
front_at count bytes = if nat_lt (length bytes) count then short else Ok (take count bytes, drop count bytes)

-- a number
abbrev pub number_at : Width → List ℕ → Step ℕ
number_at w bytes = if nat_lt (length bytes) (byte_len w) then short else Ok (from_be_bytes w (take (byte_len w) bytes), drop (byte_len w) bytes)

-- an identity
abbrev pub identity_at : List ℕ → Step SegId
identity_at (m ∷ s ∷ rest) = Ok (seg m s, rest)
identity_at _ = short

-- ---- what a function of the program answers

-- It stopped at this fault, or memory ran out.
abbrev pub Fails : {Y : Type 0} → Stop → Result Y Fault → Type 0
Fails stop.Memory read = Unit {0}
Fails (stop.Fault left code) read = read ≡ Err (record { left = left; code = code })

-- It answered what reading gives, unless memory ran out.
abbrev pub Gives : {X Y : Type 0} → (X → Y) → Result X Stop → Result Y Fault → Type 0
Gives view (Ok x) read = read ≡ Ok (view x)
Gives view (Err e) read = Fails e read
