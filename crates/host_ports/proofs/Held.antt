-- One port of a host in memory is changed.
use Rattle.std.proofs.Common.{◌≡◌, ℕ, ◌<◌, ◌≤◌, List, [], ◌∷◌, ◌++◌, All, length, map, get_or, set, sym, ap, subst, ◌∙◌}
use Rattle.std.proofs.lemmas.List.{map-set, map-append, get_or-map}
use Rattle.std.proofs.lemmas.List.Elements.{All-push}
use Rattle.std.specs.Global.{Vec}
use Rattle.host_ports.specs.Memory.{Held, Kept, fresh, fresh_each, kept_at, with_kept}

-- the port that was read, by whatever default
pub kept_read : (pipes : List Held) (p : ℕ) (x : Held) → p < length pipes → x ≡ get_or pipes p x → kept_at (map (λ h. h.kept) pipes) p ≡ x.kept
kept_read pipes p x h e = get_or-map (λ (t : Held). t.kept) pipes p x (fresh []) h ∙ ap (λ (t : Held). t.kept) (sym e)

-- the ports after one of them was changed
pub kept_set : (pipes : List Held) (p : ℕ) (x new : Held) (change : Kept → Kept) → p < length pipes → x ≡ get_or pipes p x → new.kept ≡ change x.kept
    → map (λ h. h.kept) (set pipes p new) ≡ with_kept (map (λ h. h.kept) pipes) p change
kept_set pipes p x new change h e k =
    map-set (λ (t : Held). t.kept) pipes p new ∙ ap (λ (v : Kept). set (map (λ (t : Held). t.kept) pipes) p v) (k ∙ ap change (sym (kept_read pipes p x h e)))

-- the ports after one more was made
pub kept_more : (pipes after : List Held) (inputs : List (Vec ℕ)) (pipe : Held) (input : Vec ℕ) → after ≡ pipes ++ pipe ∷ [] → map (λ h. h.kept) pipes ≡ fresh_each inputs → pipe.kept ≡ fresh input.items
    → map (λ h. h.kept) after ≡ fresh_each (inputs ++ input ∷ [])
kept_more pipes after inputs pipe input made same e =
    ap (map (λ (t : Held). t.kept)) made ∙ (map-append (λ (t : Held). t.kept) pipes (pipe ∷ []) ∙ (ap (λ (l : List Kept). l ++ pipe.kept ∷ []) same
    ∙ (ap (λ (k : Kept). fresh_each inputs ++ k ∷ []) e ∙ sym (map-append (λ (v : Vec ℕ). fresh v.items) inputs (input ∷ [])))))

-- each port has that room still
pub room_more : (room : ℕ) (pipes after : List Held) (pipe : Held) → after ≡ pipes ++ pipe ∷ [] → All (λ h. room ≤ h.spare) pipes → room ≤ pipe.spare → All (λ h. room ≤ h.spare) after
room_more room pipes after pipe made all more = subst (λ (l : List Held). All (λ h. room ≤ h.spare) l) (sym made) (All-push (λ (h : Held). room ≤ h.spare) pipes pipe all more)
