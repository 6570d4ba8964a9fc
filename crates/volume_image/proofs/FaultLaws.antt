-- What a first fault has to do with the bytes before and behind it.
use Rattle.std.proofs.Common.{◌≡◌, ℕ, ◌+◌, ◌<◌, Bool, true, false, not, cond, eqb, List, [], ◌∷◌, ◌++◌, length, Result, Ok, Err, refl, sym, ap, ◌∙◌, length-append, arith, inl, inr}
use Rattle.std.specs.Prelude.{◌≢◌}
use Rattle.std.proofs.lemmas.Bool.{ne_eqb, eqb-true, not-false}
use Rattle.labels.specs.Label.{ClassEntry}
use Rattle.labels.specs.Table.{IsTable}
use Rattle.class_model.specs.Config.{SegRecord}
use Rattle.volume_image.specs.declared.fault.Code.TheVariants as code
use Rattle.volume_image.specs.Steps.{Fault, Step, ◌>>=◌}
use Rattle.volume_image.specs.Fields.{volume_at}
use Rattle.volume_image.specs.Volumes.{Spells, IsFault, code_number}
use Rattle.volume_image.proofs.Taking.{bind_ok, ok_is, judged_ok}
use Rattle.volume_image.proofs.Growing.{no_value, err_is, as_err, early, grown, Grows, with, body_at, body_local, ended, volume_is}
use Rattle.volume_image.proofs.Whole.{volume_again}

abbrev Body : Type 0
Body = Step (List SegRecord)

abbrev with_end : Body → Result (List SegRecord) Fault
with_end r = r >>= ended

-- what is read of a spelled image, up to its end
spelled_body : (table : List ClassEntry) (bytes : List ℕ) (v : List SegRecord) → IsTable table → Spells table bytes v → (x : List SegRecord × List ℕ) × (body_at table bytes ≡ Ok x) × (length x.1 ≡ 0)
spelled_body table bytes v ok s =
    let b = bind_ok (body_at table bytes) ended v (volume_is table bytes ∙ volume_again table bytes v ok s) in
    let j = judged_ok (length b.0.1) ((not (eqb (length b.0.1) 0), code.Behind) ∷ []) b.0.0 v b.2 in
    (b.0, b.1, eqb-true _ _ (not-false _ j.0.0))

err_fault : (table : List ClassEntry) (bytes : List ℕ) (f : Fault) (o : ℕ) → o + f.left ≡ length bytes → volume_at table bytes ≡ Err f → IsFault table bytes o (code_number f.code)
err_fault table bytes f o place e = (f.left, f.code, place, refl, e)

-- ---- more behind a spelled image

more_is : (more : List ℕ) (x : List SegRecord × List ℕ) (r q : Body) → 0 < length more → r ≡ Ok x → length x.1 ≡ 0 → Grows (with more) (length more) r q → with_end q ≡ Err (record { left = length more; code = code.Behind })
more_is more x r q some e nothing h =
    elim h [
      | inl bad ↦ absurd (no_value x early r e bad)
      | inr good ↦ (
          let q-is : q ≡ Ok (with more x) = good ∙ ap (grown (with more) (length more)) e in
          let len : length (x.1 ++ more) ≡ length more = omega (arith, length-append x.1 more, nothing) in
          let full : eqb (length more) 0 ≡ false = ne_eqb _ _ (λ z. omega (arith, z, some)) in
          rw (q-is, len, full) refl)
    ]

pub more_follows : (table : List ClassEntry) (bytes more : List ℕ) (v : List SegRecord) → IsTable table → 0 < length more → Spells table bytes v → IsFault table (bytes ++ more) (length bytes) 12
more_follows table bytes more v ok some s =
    let b = spelled_body table bytes v ok s in
    let e = more_is more b.0 (body_at table bytes) (body_at table (bytes ++ more)) some b.1 b.2 (body_local table bytes more) in
    err_fault table (bytes ++ more) (record { left = length more; code = code.Behind }) (length bytes) (sym (length-append bytes more)) (sym (volume_is table (bytes ++ more)) ∙ e)

-- ---- a front of it

front_is : (more : List ℕ) (x : List SegRecord × List ℕ) (r q : Body) → 0 < length more → q ≡ Ok x → length x.1 ≡ 0 → Grows (with more) (length more) r q → with_end r ≡ Err early
front_is more x (Ok y) q some e nothing h =
    elim h [
      | inl bad ↦ absurd (no_value y early (Ok y) refl bad)
      | inr good ↦ (
          let same : with more y ≡ x = ok_is (with more y) x (sym good ∙ e) in
          absurd (omega (arith, ap (λ (z : List SegRecord × List ℕ). length z.1) same, nothing, length-append y.1 more, some)))
    ]
front_is more x (Err f) q some e nothing h =
    elim h [
      | inl bad ↦ ap (as_err {B = List SegRecord}) (err_is f early (as_err {B = List SegRecord × List ℕ} f) refl bad)
      | inr good ↦ absurd (no_value x (record { left = f.left + length more; code = f.code }) q e good)
    ]

pub front_ends : (table : List ClassEntry) (bytes more : List ℕ) (v : List SegRecord) → IsTable table → 0 < length more → Spells table (bytes ++ more) v → IsFault table bytes (length bytes) 1
front_ends table bytes more v ok some s =
    let b = spelled_body table (bytes ++ more) v ok s in
    let e = front_is more b.0 (body_at table bytes) (body_at table (bytes ++ more)) some b.1 b.2 (body_local table bytes more) in
    err_fault table bytes early (length bytes) (omega arith) (sym (volume_is table bytes) ∙ e)

-- ---- a fault in between

end_fault : (b : Bool) (f g : Fault) (v : List SegRecord) → cond b (Err f) (Ok v) ≡ Err g → f ≡ g
end_fault true f g v e = cc
end_fault false f g v e = absurd cc

stays_is : (more : List ℕ) (f : Fault) (r q : Body) → with_end r ≡ Err f → code_number f.code ≢ 1 → code_number f.code ≢ 12 → Grows (with more) (length more) r q →
    with_end q ≡ Err (record { left = f.left + length more; code = f.code })
stays_is more f (Ok x) q e a b h =
    let same = end_fault (not (eqb (length x.1) 0)) (record { left = length x.1; code = code.Behind }) f x.0 e in
    absurd (b (ap (λ (g : Fault). code_number g.code) (sym same)))
stays_is more f (Err d) q e a b h =
    let same : d ≡ f = err_is d f (as_err {B = List SegRecord} d) refl e in
    elim h [
      | inl bad ↦ absurd (a (ap (λ (g : Fault). code_number g.code) (sym same ∙ err_is d early (as_err {B = List SegRecord × List ℕ} d) refl bad)))
      | inr good ↦ rw good (ap (λ (g : Fault). as_err {B = List SegRecord} (record { left = g.left + length more; code = g.code })) same)
    ]

pub fault_stays : (table : List ClassEntry) (bytes more : List ℕ) (o n : ℕ) → n ≢ 1 → n ≢ 12 → IsFault table bytes o n → IsFault table (bytes ++ more) o n
fault_stays table bytes more o n a b s =
    let e = stays_is more (record { left = s.0; code = s.1 }) (body_at table bytes) (body_at table (bytes ++ more)) (volume_is table bytes ∙ s.4) (λ z. a (s.3 ∙ z)) (λ z. b (s.3 ∙ z)) (body_local table bytes more) in
    (s.0 + length more, s.1, omega (arith, s.2, length-append bytes more), s.3, sym (volume_is table (bytes ++ more)) ∙ e)
