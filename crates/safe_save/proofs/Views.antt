-- The calls that a record stands for.
use Rattle.std.proofs.Common.{◌≡◌, ◌⊎◌, inl, inr, ℕ, zero, suc, ◌<◌, ◌≤◌, min, List, [], ◌∷◌, ◌++◌, All, length, map, take, refl, sym, ◌∙◌, ap, arith}
use Rattle.std.proofs.lemmas.List.{map-append, take_all}
use Rattle.std.proofs.lemmas.List.Elements.{All-head, All-tail, All-cons, All-nil}
use Rattle.std.proofs.lemmas.Bool.{cases_lt}
use Rattle.std.proofs.Math.Seq.{drop-append_seam, take-length}
use Rattle.lists.specs.Lists.{part_of}
use Rattle.safe_save.specs.declared.record.Entry.{Entry}
use Rattle.safe_save.specs.declared.record.Entry.TheVariants as entry
use Rattle.safe_save.specs.Memory.{Call, Wrote}
use Rattle.safe_save.specs.Entries.{call_of, IsKnown}
use Rattle.safe_save.proofs.Images.{part_front}

-- an entry that is known keeps its bytes when others are added
call_more : (payload more : List ℕ) (e : Entry) → IsKnown (length payload) e → call_of (payload ++ more) e ≡ call_of payload e
call_more payload more (entry.Wrote at from count) known = ap (Wrote at) (part_front payload more from count known)
call_more payload more entry.Synced known = refl
call_more payload more entry.Idle known = refl

calls_more : (payload more : List ℕ) (entries : List Entry) → All (IsKnown (length payload)) entries → map (call_of (payload ++ more)) entries ≡ map (call_of payload) entries
calls_more payload more [] known = refl
calls_more payload more (e ∷ entries) known =
    ap (λ (call : Call). call ∷ map (call_of (payload ++ more)) entries) (call_more payload more e (All-head (IsKnown (length payload)) e entries known))
    ∙ ap (λ (calls : List Call). call_of payload e ∷ calls) (calls_more payload more entries (All-tail (IsKnown (length payload)) e entries known))

-- a write is one call more
pub wrote_more : (payload bytes : List ℕ) (at : ℕ) (entries : List Entry) → All (IsKnown (length payload)) entries
    → map (call_of (payload ++ bytes)) (entries ++ entry.Wrote at (length payload) (length bytes) ∷ []) ≡ map (call_of payload) entries ++ Wrote at bytes ∷ []
wrote_more payload bytes at entries known =
    map-append (call_of (payload ++ bytes)) entries (entry.Wrote at (length payload) (length bytes) ∷ [])
    ∙ (ap (λ (calls : List Call). calls ++ Wrote at (part_of (payload ++ bytes) (length payload) (length bytes)) ∷ []) (calls_more payload bytes entries known)
    ∙ ap (λ (xs : List ℕ). map (call_of payload) entries ++ Wrote at xs ∷ []) (ap (λ (l : List ℕ). take (length bytes) l) (drop-append_seam payload bytes) ∙ take-length bytes))

-- of calls and of the entries that stand for them
pub unmapped : {X : Type 0} (P : Call → Type 0) (call : X → Call) (entries : List X) → All P (map call entries) → All (λ e. P (call e)) entries
unmapped P call [] all = All-nil (λ e. P (call e))
unmapped P call (e ∷ entries) all = All-cons (λ x. P (call x)) e entries (All-head P (call e) (map call entries) all) (unmapped P call entries (All-tail P (call e) (map call entries) all))

pub map_take : {X : Type 0} (call : X → Call) (n : ℕ) (xs : List X) → map call (take n xs) ≡ take n (map call xs)
map_take call zero xs = refl
map_take call (suc n) [] = refl
map_take call (suc n) (x ∷ xs) = ap (λ (calls : List Call). call x ∷ calls) (map_take call n xs)

pub take_some : (k n : ℕ) (calls : List Call) → k ≡ min (length calls) n → take k calls ≡ take n calls
take_some k n calls is = by_size (cases_lt n (length calls))
  where
    by_size : (n < length calls) ⊎ (length calls ≤ n) → take k calls ≡ take n calls
    by_size (inl few) = let same : k ≡ n = omega arith in ap (λ (m : ℕ). take m calls) same
    by_size (inr all) = let whole : length calls ≤ k = omega arith in take_all k calls whole ∙ sym (take_all n calls all)
