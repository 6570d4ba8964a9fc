-- Lines as their words, and what is pushed part by part.
use Rattle.std.proofs.Common.{◌≡◌, ℕ, suc, ◌+◌, ◌<◌, ◌≤◌, List, [], ◌∷◌, ◌++◌, length, take, get_or, map, refl, sym, ap, subst, ◌∙◌, arith, append_assoc, length-append}
use Rattle.std.proofs.lemmas.List.{append-nil, take-append-le, take_all, map_more, flat_map_more}
use Rattle.std.specs.Fmt.{decimal}
use Rattle.std.specs.List.{flat_map, join_with_byte}
use Rattle.std.specs.Prelude.{Some, None, codes, Result, Ok, Err, IsErr}
use Rattle.host_ports.specs.Ports.{Port, Told, PushKeeps, IsPrefixTaken, Rose, with_bytes}
use Rattle.report.specs.Printing.{Pushed, Torn, Prints}
use Rattle.report.specs.declared.printing.WriteFault.{WriteFault}

abbrev pub blanked : List ℕ → List ℕ
blanked w = 32 ∷ w

-- the first word, and each other behind a blank
pub join-first : (w : List ℕ) (ws : List (List ℕ)) → join_with_byte 32 (w ∷ ws) ≡ w ++ flat_map blanked ws
join-first w [] = sym (append-nil w)
join-first w (x ∷ ws) = ap (λ (t : List ℕ). w ++ 32 ∷ t) (join-first x ws)

with_more : (b : Told) (xs ys : List ℕ) → with_bytes (with_bytes b xs) ys ≡ with_bytes b (xs ++ ys)
with_more None xs ys = refl
with_more (Some taken) xs ys = ap Some (append_assoc taken xs ys)

with_none : (b : Told) → b ≡ with_bytes b []
with_none None = refl
with_none (Some taken) = ap Some (sym (append-nil taken))

keeps_on : (before now after : ℕ → Port) → PushKeeps 0 before now → PushKeeps 0 now after → PushKeeps 0 before after
keeps_on before now after f g = record { left = g.left ∙ f.left; pulls = g.pulls ∙ f.pulls; others = λ p n. g.others p n ∙ f.others p n }

-- nothing is pushed yet
pub pushed_none : (before : ℕ → Port) → Pushed before before []
pushed_none before = record { taken = with_none (before 0).taken; keeps = record { left = refl; pulls = refl; others = λ p n. refl }; stays = refl }

-- one part, and then the next
pub pushed_then : (before now after : ℕ → Port) (xs ys : List ℕ) → Pushed before now xs → Pushed now after ys → Pushed before after (xs ++ ys)
pushed_then before now after xs ys f g = record {
  taken = g.taken ∙ (ap (λ (t : Told). with_bytes t ys) f.taken ∙ with_more (before 0).taken xs ys);
  keeps = keeps_on before now after f.keeps g.keeps;
  stays = g.stays ∙ f.stays;
}

rose_on : (a b c : ℕ) → b ≡ a → Rose b c → Rose a c
rose_on a b c e r = subst (λ (m : ℕ). Rose m c) e r

prefix_on : (b m a : Told) (xs ys : List ℕ) → m ≡ with_bytes b xs → IsPrefixTaken m a ys → IsPrefixTaken b a (xs ++ ys)
prefix_on b m a xs ys e p = record {
  count = length xs + p.count;
  proper = let h = p.proper in omega (arith, length-append xs ys);
  took = p.took ∙ (ap (λ (t : Told). with_bytes t (take p.count ys)) e ∙ (with_more b xs (take p.count ys) ∙ ap (with_bytes b) (sym (take_behind xs ys p.count))));
}
  where
    take_behind : (xs ys : List ℕ) (n : ℕ) → take (length xs + n) (xs ++ ys) ≡ xs ++ take n ys
    take_behind [] ys n = let z : 0 + n ≡ n = omega arith in ap (λ (m : ℕ). take m ys) z
    take_behind (x ∷ xs) ys n = let z : suc (length xs) + n ≡ suc (length xs + n) = omega arith in ap (λ (m : ℕ). take m (x ∷ (xs ++ ys))) z ∙ ap (λ (t : List ℕ). x ∷ t) (take_behind xs ys n)

-- a fault in the next part
pub pushed_torn : (before now after : ℕ → Port) (xs ys : List ℕ) → Pushed before now xs → Torn now after ys → Torn before after (xs ++ ys)
pushed_torn before now after xs ys f g = record {
  taken = prefix_on (before 0).taken (now 0).taken (after 0).taken xs ys f.taken g.taken;
  keeps = keeps_on before now after f.keeps g.keeps;
  rose = rose_on (before 0).pushes (now 0).pushes (after 0).pushes f.stays g.rose;
}

-- a fault before more that is due
pub torn_more : (before after : ℕ → Port) (xs ys : List ℕ) → Torn before after xs → Torn before after (xs ++ ys)
torn_more before after xs ys f = let p = f.taken in record {
  taken = record {
    count = p.count;
    proper = let h = p.proper in omega (arith, length-append xs ys);
    took = p.took ∙ ap (with_bytes (before 0).taken) (sym (take-append-le p.count xs ys (let h = p.proper in omega arith)));
  };
  keeps = f.keeps;
  rose = f.rose;
}

-- one register more
pub register_more : (line next : List ℕ) (xs : List ℕ) (i : ℕ) → i < length xs → line ≡ codes "regs" ++ flat_map blanked (map decimal (take i xs)) → next ≡ line ++ 32 ∷ decimal (get_or xs i 0)
    → next ≡ codes "regs" ++ flat_map blanked (map decimal (take (i + 1) xs))
register_more line next xs i h e n =
    n ∙ (ap (λ (t : List ℕ). t ++ 32 ∷ decimal (get_or xs i 0)) e
    ∙ (flat_map_more blanked (codes "regs") (map decimal (take i xs)) (decimal (get_or xs i 0))
    ∙ ap (λ (t : List (List ℕ)). codes "regs" ++ flat_map blanked t) (sym (map_more decimal xs i 0 h))))

-- all registers, and the line feed
pub registers_end : (line next : List ℕ) (xs : List ℕ) (i : ℕ) → length xs ≤ i → line ≡ codes "regs" ++ flat_map blanked (map decimal (take i xs)) → next ≡ line ++ 10 ∷ []
    → next ≡ join_with_byte 32 (codes "regs" ∷ map decimal xs) ++ 10 ∷ []
registers_end line next xs i h e n =
    n ∙ ap (λ (t : List ℕ). t ++ 10 ∷ []) (e ∙ (ap (λ (ys : List ℕ). codes "regs" ++ flat_map blanked (map decimal ys)) (take_all i xs h) ∙ sym (join-first (codes "regs") (map decimal xs))))

pub err_prints : (before after : ℕ → Port) (text : List ℕ) (r : Result (Unit {0}) WriteFault) → IsErr r → Torn before after text → Prints before after text r
err_prints before after text (Ok x) h t = cc
err_prints before after text (Err e) h t = t

-- one part, and then the last one
pub prints_then : (before now after : ℕ → Port) (xs ys : List ℕ) (r : Result (Unit {0}) WriteFault) → Pushed before now xs → Prints now after ys r → Prints before after (xs ++ ys) r
prints_then before now after xs ys (Ok x) p q = pushed_then before now after xs ys p q
prints_then before now after xs ys (Err e) p q = pushed_torn before now after xs ys p q

-- a fault in the first of two parts, or the second
pub torn_first : (before after : ℕ → Port) (xs ys zs : List ℕ) → Torn before after xs → Torn before after (xs ++ ys ++ zs)
torn_first before after xs ys zs t = torn_more before after (xs ++ ys) zs (torn_more before after xs ys t)

pub torn_second : (before now after : ℕ → Port) (xs ys zs : List ℕ) → Pushed before now xs → Torn now after ys → Torn before after (xs ++ ys ++ zs)
torn_second before now after xs ys zs p t = torn_more before after (xs ++ ys) zs (pushed_torn before now after xs ys p t)

-- two parts, and then the last one
pub prints_last : (before one two after : ℕ → Port) (xs ys zs : List ℕ) (r : Result (Unit {0}) WriteFault) → Pushed before one xs → Pushed one two ys → Prints two after zs r → Prints before after (xs ++ ys ++ zs) r
prints_last before one two after xs ys zs r p q l = prints_then before two after (xs ++ ys) zs r (pushed_then before one two xs ys p q) l

-- the same text, told otherwise
pub pushed_as : (before after : ℕ → Port) (s t : List ℕ) → s ≡ t → Pushed before after s → Pushed before after t
pushed_as before after s t e p = subst (Pushed before after) e p

pub torn_as : (before after : ℕ → Port) (s t : List ℕ) → s ≡ t → Torn before after s → Torn before after t
torn_as before after s t e p = subst (Torn before after) e p

pub prints_as : (before after : ℕ → Port) (s t : List ℕ) (r : Result (Unit {0}) WriteFault) → s ≡ t → Prints before after s r → Prints before after t r
prints_as before after s t r e p = subst (λ (x : List ℕ). Prints before after x r) e p

-- nothing is due, and nothing is pushed
pub nothing_due : (before : ℕ → Port) (text : List ℕ) → text ≡ [] → Pushed before before text
nothing_due before text e = subst (Pushed before before) (sym e) (pushed_none before)
