-- The last sync of a record.
use Rattle.std.proofs.Common.{◌≡◌, ℕ, ◌+◌, ◌-◌, ◌<◌, ◌≤◌, List, [], ◌∷◌, ◌++◌, length, get_or, map, take, drop, refl, sym, ◌∙◌, ap, subst, arith}
use Rattle.std.proofs.lemmas.List.{map-append, drop_more, take_more}
use Rattle.safe_save.specs.declared.record.Entry.{Entry}
use Rattle.safe_save.specs.declared.record.Entry.TheVariants as entry
use Rattle.safe_save.specs.Memory.{Synced, after_calls, fresh, IsSettled, HasNoSync}
use Rattle.safe_save.specs.Entries.{call_of}
use Rattle.safe_save.proofs.Drawing.{settled_after}

one_more : (payload : List ℕ) (e : Entry) (rest : List Entry) → (e ≡ entry.Synced → ⊥) → HasNoSync (map (call_of payload) rest) → HasNoSync (map (call_of payload) (e ∷ rest))
one_more payload (entry.Wrote at from count) rest none others = others
one_more payload entry.Synced rest none others = none refl
one_more payload entry.Idle rest none others = others

-- an entry more that is no sync
pub no_sync_more : (payload : List ℕ) (entries : List Entry) (count : ℕ) (e : Entry) → 0 < count → count ≤ length entries → (get_or entries (count - 1) e ≡ entry.Synced → ⊥)
    → HasNoSync (map (call_of payload) (drop count entries)) → HasNoSync (map (call_of payload) (drop (count - 1) entries))
no_sync_more payload entries count e some within none others =
    let back : count ≡ count - 1 + 1 = omega arith in
    subst (λ (rest : List Entry). HasNoSync (map (call_of payload) rest)) (sym (drop_more entries (count - 1) e (omega arith)))
    (one_more payload (get_or entries (count - 1) e) (drop (count - 1 + 1) entries) none (subst (λ (n : ℕ). HasNoSync (map (call_of payload) (drop n entries))) back others))

-- the entries up to a sync
pub settled_to : (payload image : List ℕ) (entries : List Entry) (count : ℕ) (e : Entry) → 0 < count → count ≤ length entries → get_or entries (count - 1) e ≡ entry.Synced
    → IsSettled (after_calls (map (call_of payload) (take count entries)) (fresh image))
settled_to payload image entries count e some within is =
    let back : count - 1 + 1 ≡ count = omega arith in
    let front = take (count - 1) entries in
    let last : take count entries ≡ front ++ entry.Synced ∷ [] = ap (λ (n : ℕ). take n entries) (sym back) ∙ (take_more entries (count - 1) e (omega arith) ∙ ap (λ (x : Entry). front ++ x ∷ []) is) in
    let calls : map (call_of payload) (take count entries) ≡ map (call_of payload) front ++ Synced ∷ [] = ap (map (call_of payload)) last ∙ map-append (call_of payload) front (entry.Synced ∷ []) in
    subst (λ cs. IsSettled (after_calls cs (fresh image))) (sym calls) (settled_after (map (call_of payload) front) (fresh image))

-- all of the entries
pub none_before : (payload : List ℕ) (entries : List Entry) (count : ℕ) → count ≤ 0 → HasNoSync (map (call_of payload) (drop count entries)) → HasNoSync (map (call_of payload) entries)
none_before payload entries count none others = let is : count ≡ 0 = omega arith in subst (λ (n : ℕ). HasNoSync (map (call_of payload) (drop n entries))) is others
