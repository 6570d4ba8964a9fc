-- What is read is spelled so, what is spelled so is read, and what is answered where the reading stops.
use Rattle.std.proofs.Common.{◌≡◌, ℕ, ◌-◌, ◌^◌, ◌≤◌, not, eqb, List, [], ◌∷◌, ◌++◌, length, Result, Ok, Err, refl, sym, ap, ◌∙◌, append_assoc, arith}
use Rattle.std.specs.Int.{w16, to_be_bytes}
use Rattle.std.specs.List.{flat_map}
use Rattle.std.proofs.lemmas.Bool.{eqb-true, not-false}
use Rattle.std.proofs.lemmas.List.{append-nil, nil_from_length}
use Rattle.labels.specs.Label.{ClassEntry}
use Rattle.labels.specs.Table.{IsTable}
use Rattle.words_layout.specs.Segments.{seg}
use Rattle.class_model.specs.Config.{SegRecord}
use Rattle.volume_image.specs.declared.head.Format.{Format}
use Rattle.volume_image.specs.declared.head.Format.TheVariants.{Two}
use Rattle.volume_image.specs.declared.fault.Code.TheVariants as code
use Rattle.volume_image.specs.declared.fault.Stop.{Stop}
use Rattle.volume_image.specs.declared.fault.Stop.TheVariants as stop
use Rattle.volume_image.specs.Written.{header, record_bytes, spelling, written, front}
use Rattle.volume_image.specs.Steps.{Fault, Tests, ◌>>=◌, judged, number_at, Fails}
use Rattle.volume_image.specs.Fields.{header_at, records_at, volume_at}
use Rattle.volume_image.specs.Volumes.{Spells, IsFault, Answers, IsReadAs, IsRefusedWith, error_of, code_number}
use Rattle.volume_image.proofs.Bounds.{fault_within}
use Rattle.volume_image.proofs.Counting.{few_records}
use Rattle.volume_image.proofs.Taking.{IsBytes, Takes-then, bind_ok, carry, ok_is, judged_ok, wide16, number_takes, number_again}
use Rattle.volume_image.proofs.HeadLaws.{header_takes, header_again}
use Rattle.volume_image.proofs.RecordLaws.{records_take, records_again}

abbrev end_tests : List ℕ → Tests
end_tests rest = (not (eqb (length rest) 0), code.Behind) ∷ []

pub volume_takes : (table : List ClassEntry) (bytes : List ℕ) (rs : List SegRecord) → IsBytes bytes → volume_at table bytes ≡ Ok rs → Spells table bytes rs
unfolding volume_at spelling
volume_takes table bytes rs fits e =
    let f = bind_ok (header_at table bytes) (λ f. number_at w16 f.1 >>= λ n. records_at f.0 table (seg 0 0) n.0 n.1 >>= λ x. judged (length x.1) (end_tests x.1) x.0) rs e in
    let n = bind_ok (number_at w16 f.0.1) (λ n. records_at f.0.0 table (seg 0 0) n.0 n.1 >>= λ x. judged (length x.1) (end_tests x.1) x.0) rs f.2 in
    let x = bind_ok (records_at f.0.0 table (seg 0 0) n.0.0 n.0.1) (λ x. judged (length x.1) (end_tests x.1) x.0) rs n.2 in
    let j = judged_ok (length x.0.1) (end_tests x.0.1) x.0.0 rs x.2 in
    let tf = header_takes table bytes f.0 fits f.1 in
    let tn = number_takes w16 (2 ^ 16) wide16 f.0.1 n.0 tf.0.rest_fits n.1 in
    let tx = records_take f.0.0 table (seg 0 0) n.0.0 n.0.1 x.0 tn.0.rest_fits x.1 in
    let nothing : x.0.1 ≡ [] = nil_from_length x.0.1 (eqb-true _ _ (not-false _ j.0.0)) in
    let tnx = Takes-then f.0.1 (to_be_bytes w16 n.0.0) n.0.1 (flat_map record_bytes x.0.0) x.0.1 tn.0 tx.0 in
    let body = to_be_bytes w16 n.0.0 ++ flat_map record_bytes x.0.0 in
    let all = (Takes-then bytes (header f.0.0 table) f.0.1 body x.0.1 tf.0 tnx).parts in
    let whole : bytes ≡ spelling f.0.0 table x.0.0 =
    all ∙ ap (λ (r : List ℕ). (header f.0.0 table ++ body) ++ r) nothing ∙ append-nil (header f.0.0 table ++ body)
    ∙ ap (λ (k : ℕ). header f.0.0 table ++ (to_be_bytes w16 k ++ flat_map record_bytes x.0.0)) (sym tx.1) in
    carry (Spells table bytes) x.0.0 rs j.1 (f.0.0, record { room = tf.1; records = tx.2 }, whole)

volume_from : (f : Format) (table : List ClassEntry) (rs : List SegRecord) (b0 b1 b2 : List ℕ) → header_at table b0 ≡ Ok (f, b1) → number_at w16 b1 ≡ Ok (length rs, b2) →
    records_at f table (seg 0 0) (length rs) b2 ≡ Ok (rs, []) → volume_at table b0 ≡ Ok rs
unfolding volume_at
volume_from f table rs b0 b1 b2 h0 h1 h2 = rw (h0, h1, h2) refl

pub volume_again : (table : List ClassEntry) (bytes : List ℕ) (rs : List SegRecord) → IsTable table → Spells table bytes rs → volume_at table bytes ≡ Ok rs
unfolding spelling
volume_again table bytes rs ok s =
    let f = s.0 in
    let b2 = flat_map record_bytes rs in
    let b1 = to_be_bytes w16 (length rs) ++ b2 in
    let last : records_at f table (seg 0 0) (length rs) b2 ≡ Ok (rs, []) =
    ap (records_at f table (seg 0 0) (length rs)) (sym (append-nil b2)) ∙ records_again f table (seg 0 0) rs [] s.1.records in
    ap (volume_at table) s.2
    ∙ volume_from f table rs (header f table ++ b1) b1 b2 (header_again f table b1 ok s.1.room) (number_again w16 (2 ^ 16) wide16 (length rs) b2 (few_records f table rs ok s.1.records)) last

pub ok_right : (table : List ClassEntry) (bytes : List ℕ) (rs v : List SegRecord) → v ≡ rs → IsBytes bytes → volume_at table bytes ≡ Ok rs → Spells table bytes v
ok_right table bytes rs v is fits e = carry (Spells table bytes) rs v (sym is) (volume_takes table bytes rs fits e)

-- What is spelled is read as nothing else.
pub ok_only : (table : List ClassEntry) (bytes : List ℕ) (rs v : List SegRecord) → IsTable table → volume_at table bytes ≡ Ok rs → Spells table bytes v → rs ≡ v
ok_only table bytes rs v ok e s = ok_is rs v (sym e ∙ volume_again table bytes v ok s)

fault_clash : (f : Fault) (rs : List SegRecord) (r : Result (List SegRecord) Fault) → r ≡ Err f → r ≡ Ok rs → ⊥
fault_clash f rs r e h = absurd cc

pub err_only : (table : List ClassEntry) (bytes : List ℕ) (s : Stop) → IsTable table → Fails s (volume_at table bytes) → (v : List SegRecord) → Spells table bytes v → IsReadAs v (Err (error_of (length bytes) s))
err_only table bytes stop.Memory ok h v spelled = tt
err_only table bytes (stop.Fault left c) ok h v spelled = fault_clash (record { left = left; code = c }) v (volume_at table bytes) h (volume_again table bytes v ok spelled)

-- ---- what is written

pub front_written : (table : List ClassEntry) (rs : List SegRecord) → [] ++ (front table (length rs) ++ flat_map record_bytes rs) ≡ written table rs
unfolding front spelling
front_written table rs = append_assoc (header Two table) (to_be_bytes w16 (length rs)) (flat_map record_bytes rs)

-- ---- faults

pub err_right : (table : List ClassEntry) (bytes : List ℕ) (s : Stop) → Fails s (volume_at table bytes) → Answers table bytes (Err (error_of (length bytes) s))
err_right table bytes stop.Memory h = tt
err_right table bytes (stop.Fault left c) h =
    let within : left ≤ length bytes = fault_within table bytes (record { left = left; code = c }) h in
    (left, c, omega (arith, within), refl, h)

same_fault : (f g : Fault) (r : Result (List SegRecord) Fault) → r ≡ Err f → r ≡ Err g → f ≡ g
same_fault f g r e h = cc

-- A text has one first fault.
pub one_fault : (table : List ClassEntry) (bytes : List ℕ) (o n p m : ℕ) → IsFault table bytes o n → IsFault table bytes p m → (o ≡ p) × (n ≡ m)
one_fault table bytes o n p m a b =
    let same = same_fault (record { left = a.0; code = a.1 }) (record { left = b.0; code = b.1 }) (volume_at table bytes) a.4 b.4 in
    let left : a.0 ≡ b.0 = ap (λ (f : Fault). f.left) same in
    let number : code_number a.1 ≡ code_number b.1 = ap (λ (f : Fault). code_number f.code) same in
    (omega (arith, left, a.2, b.2), a.3 ∙ number ∙ sym b.3)

pub ok_refused : (table : List ClassEntry) (bytes : List ℕ) (rs : List SegRecord) → volume_at table bytes ≡ Ok rs → (o n : ℕ) → IsFault table bytes o n → ⊥
ok_refused table bytes rs h o n b = fault_clash (record { left = b.0; code = b.1 }) rs (volume_at table bytes) b.4 h

pub err_refused : (table : List ClassEntry) (bytes : List ℕ) (s : Stop) → Fails s (volume_at table bytes) → (o n : ℕ) → IsFault table bytes o n → IsRefusedWith o n (Err (error_of (length bytes) s))
err_refused table bytes stop.Memory h o n b = tt
err_refused table bytes (stop.Fault left c) h o n b =
    one_fault table bytes (length bytes - left) (code_number c) o n (err_right table bytes (stop.Fault left c) h) b
