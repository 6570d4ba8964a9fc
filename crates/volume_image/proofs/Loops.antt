-- Reading classes, words and records one after the other, as a loop does.
use Rattle.std.proofs.Common.{◌≡◌, ℕ, suc, ◌-◌, ◌+◌, ◌≤◌, ◌<◌, List, [], ◌∷◌, ◌++◌, length, drop, Result, Ok, Err, refl, sym, ap, ◌∙◌, append_assoc, add-one, drop-cons, arith}
use Rattle.std.proofs.lemmas.List.{append-nil, drop_all}
use Rattle.std.specs.Int.{w64}
use Rattle.labels.specs.Label.{ClassEntry, class_at, no_class}
use Rattle.words_layout.specs.declared.segment.SegId.{SegId}
use Rattle.class_model.specs.Config.{SegRecord}
use Rattle.volume_image.specs.declared.fault.Stop.{Stop}
use Rattle.volume_image.specs.declared.fault.Stop.TheVariants as stop
use Rattle.volume_image.specs.declared.head.Format.{Format}
use Rattle.volume_image.specs.Steps.{Fault, Step, ◌>>=◌, Fails, number_at}
use Rattle.volume_image.specs.Fields.{class_fields, classes_at, words_at, record_at, records_at}

-- ---- classes

next_class : (table : List ClassEntry) (i : ℕ) → i < length table → drop i table ≡ class_at table i ∷ drop (i + 1) table
next_class table i lt = rw add-one (drop-cons table i no_class lt)

pub class_goes_on : (f : Format) (table : List ClassEntry) (i : ℕ) (bytes after : List ℕ) (total : Result (List ℕ) Fault) → i < length table →
    class_fields f (class_at table i) bytes ≡ Ok after → classes_at f (drop i table) bytes ≡ total → classes_at f (drop (i + 1) table) after ≡ total
unfolding classes_at
class_goes_on f table i bytes after total lt h so_far =
    let one : classes_at f (drop i table) bytes ≡ classes_at f (drop (i + 1) table) after =
    ap (λ (cs : List ClassEntry). classes_at f cs bytes) (next_class table i lt) ∙ ap (λ (r : Result (List ℕ) Fault). r >>= classes_at f (drop (i + 1) table)) h in
    sym one ∙ so_far

pub class_ends : (e : Stop) (f : Format) (table : List ClassEntry) (i : ℕ) (bytes : List ℕ) (total : Result (List ℕ) Fault) → i < length table →
    Fails e (class_fields f (class_at table i) bytes) → classes_at f (drop i table) bytes ≡ total → Fails e total
unfolding classes_at
class_ends stop.Memory f table i bytes total lt h so_far = tt
class_ends (stop.Fault left code) f table i bytes total lt h so_far =
    let one : classes_at f (drop i table) bytes ≡ Err (record { left = left; code = code }) =
    ap (λ (cs : List ClassEntry). classes_at f cs bytes) (next_class table i lt) ∙ ap (λ (r : Result (List ℕ) Fault). r >>= classes_at f (drop (i + 1) table)) h in
    sym so_far ∙ one

pub classes_done : (f : Format) (table : List ClassEntry) (i : ℕ) (bytes : List ℕ) (total : Result (List ℕ) Fault) → length table ≤ i →
    classes_at f (drop i table) bytes ≡ total → total ≡ Ok bytes
unfolding classes_at
classes_done f table i bytes total le so_far =
    let one : classes_at f (drop i table) bytes ≡ Ok bytes = ap (λ (cs : List ClassEntry). classes_at f cs bytes) (drop_all i table le) in
    sym so_far ∙ one

-- ---- words and records

-- what was read before, and what is still read
abbrev pub with_front : {X : Type 0} → List X → Step (List X) → Step (List X)
with_front front read = read >>= λ x. Ok (front ++ x.0, x.1)

regroup : {X : Type 0} (front : List X) (n : X) (read : Step (List X)) → with_front front (read >>= λ x. Ok (n ∷ x.0, x.1)) ≡ with_front (front ++ n ∷ []) read
regroup {X} front n (Ok x) = ap (λ (ns : List X). Ok (ns, x.1)) (simp append_assoc)
regroup front n (Err f) = refl

nothing_more : {X : Type 0} (front : List X) (bytes : List ℕ) → with_front front (Ok ([], bytes)) ≡ Ok (front, bytes)
nothing_more {X} front bytes = ap (λ (ns : List X). Ok (ns, bytes)) (append-nil front)

pub word_goes_on : (front : List ℕ) (count i : ℕ) (bytes : List ℕ) (n : ℕ) (after : List ℕ) (total : Step (List ℕ)) → i < count → number_at w64 bytes ≡ Ok (n, after)
    → with_front front (words_at (count - i) bytes) ≡ total → with_front (front ++ n ∷ []) (words_at (count - (i + 1)) after) ≡ total
unfolding words_at
word_goes_on front count i bytes n after total lt h so_far =
    let k : count - i ≡ suc (count - (i + 1)) = omega arith in
    let one : with_front front (words_at (count - i) bytes) ≡ with_front (front ++ n ∷ []) (words_at (count - (i + 1)) after) = rw (k, h) (regroup front n (words_at (count - (i + 1)) after)) in
    sym one ∙ so_far

pub word_ends : (e : Stop) (front : List ℕ) (count i : ℕ) (bytes : List ℕ) (total : Step (List ℕ)) → i < count → Fails e (number_at w64 bytes)
    → with_front front (words_at (count - i) bytes) ≡ total → Fails e total
unfolding words_at
word_ends stop.Memory front count i bytes total lt h so_far = tt
word_ends (stop.Fault left code) front count i bytes total lt h so_far =
    let k : count - i ≡ suc (count - (i + 1)) = omega arith in
    let one : with_front front (words_at (count - i) bytes) ≡ Err (record { left = left; code = code }) = rw (k, h) refl in
    sym so_far ∙ one

pub words_done : (front : List ℕ) (count i : ℕ) (bytes : List ℕ) (total : Step (List ℕ)) → count ≤ i → with_front front (words_at (count - i) bytes) ≡ total → total ≡ Ok (front, bytes)
unfolding words_at
words_done front count i bytes total le so_far =
    let k : count - i ≡ 0 = omega arith in
    let one : with_front front (words_at (count - i) bytes) ≡ Ok (front, bytes) = rw k (nothing_more front bytes) in
    sym so_far ∙ one

pub record_goes_on : (f : Format) (table : List ClassEntry) (before : SegId) (front : List SegRecord) (count i : ℕ) (bytes : List ℕ) (r : SegRecord) (after : List ℕ) (total : Step (List SegRecord)) →
    i < count → record_at f table before bytes ≡ Ok (r, after) → with_front front (records_at f table before (count - i) bytes) ≡ total →
    with_front (front ++ r ∷ []) (records_at f table r.seg (count - (i + 1)) after) ≡ total
unfolding records_at
record_goes_on f table before front count i bytes r after total lt h so_far =
    let k : count - i ≡ suc (count - (i + 1)) = omega arith in
    let one : with_front front (records_at f table before (count - i) bytes) ≡ with_front (front ++ r ∷ []) (records_at f table r.seg (count - (i + 1)) after) =
    rw (k, h) (regroup front r (records_at f table r.seg (count - (i + 1)) after)) in
    sym one ∙ so_far

pub record_ends : (e : Stop) (f : Format) (table : List ClassEntry) (before : SegId) (front : List SegRecord) (count i : ℕ) (bytes : List ℕ) (total : Step (List SegRecord)) →
    i < count → Fails e (record_at f table before bytes) → with_front front (records_at f table before (count - i) bytes) ≡ total → Fails e total
unfolding records_at
record_ends stop.Memory f table before front count i bytes total lt h so_far = tt
record_ends (stop.Fault left code) f table before front count i bytes total lt h so_far =
    let k : count - i ≡ suc (count - (i + 1)) = omega arith in
    let one : with_front front (records_at f table before (count - i) bytes) ≡ Err (record { left = left; code = code }) = rw (k, h) refl in
    sym so_far ∙ one

pub records_done : (f : Format) (table : List ClassEntry) (before : SegId) (front : List SegRecord) (count i : ℕ) (bytes : List ℕ) (total : Step (List SegRecord)) →
    count ≤ i → with_front front (records_at f table before (count - i) bytes) ≡ total → total ≡ Ok (front, bytes)
unfolding records_at
records_done f table before front count i bytes total le so_far =
    let k : count - i ≡ 0 = omega arith in
    let one : with_front front (records_at f table before (count - i) bytes) ≡ Ok (front, bytes) = rw k (nothing_more front bytes) in
    sym so_far ∙ one
