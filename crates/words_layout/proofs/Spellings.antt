-- A word is unpacked to the one value that it spells, and to none exactly where it spells no value.
use Rattle.std.proofs.Common.{ℕ, Bool, true, false, cond, ◌&&◌, ◌≡◌, refl, ap, ◌∙◌, sym, subst, Option, Some, None, ◌↔◌}
use Rattle.std.specs.Prelude.{◌==◌, IsNone}
use Rattle.std.specs.Option.{option_and_then}
use Rattle.std.proofs.lemmas.Bool.{and_parts, eqb-true, cases_Bool}
use Rattle.words_layout.specs.Coding.{home_in_range, pack_home, home_as_read, home_spelled, unpack_home, alias_in_range, alias_read, alias_spelled, pack_entry, pack_alias, unpack_alias}
use Rattle.words_layout.specs.Spelling.{SpellsHome, entry_in_range, SpellsEntry}
use Rattle.words_layout.specs.declared.coding.Home.{Home}
use Rattle.words_layout.specs.declared.coding.Alias.{Alias}
use Rattle.words_layout.proofs.CodingLaws.{unpack_home-pack_home, unpack_alias-pack_entry}

same_some : {A : Type 0} (x y : A) → Some x ≡ Some y → x ≡ y
same_some x y e = cc

-- a home that is read from a word and spelled by it
home_spelled-Some : (word : ℕ) (x h : Home) → home_spelled word x ≡ Some h → SpellsHome h word
home_spelled-Some word x h e = at (home_in_range x && pack_home x == word) refl e
  where
    at : (b : Bool) → (home_in_range x && pack_home x == word) ≡ b → (cond b (Some x) None) ≡ Some h → SpellsHome h word
    at true is e =
        let same : x ≡ h = same_some x h e in
        let parts = and_parts (home_in_range x) (pack_home x == word) is in
        record { range = sym (ap home_in_range same) ∙ parts.0; packed = sym (ap pack_home same) ∙ eqb-true (pack_home x) word parts.1 }
    at false is e = cc

pub spells_unpacked : (word : ℕ) (h : Home) → unpack_home word ≡ Some h → SpellsHome h word
spells_unpacked word h e = home_spelled-Some word (home_as_read word) h e

pub unpacked_spelling : (word : ℕ) (h : Home) → SpellsHome h word → unpack_home word ≡ Some h
unpacked_spelling word h s = ap unpack_home (sym s.packed) ∙ unpack_home-pack_home h s.range

-- exactly the home that the word spells
pub unpack_home-exact : (word : ℕ) (h : Home) → (unpack_home word ≡ Some h) ↔ SpellsHome h word
unpack_home-exact word h = (spells_unpacked word h, unpacked_spelling word h)

no_some : {A : Type 0} {P : A → Type 0} (o : Option A) → ((x : A) → (o ≡ Some x) ↔ P x) → IsNone o ↔ ((x : A) → P x → ⊥)
no_some None each = (λ n x p. let e = (each x).1 p in absurd (cc), λ h. refl)
no_some (Some y) each = (λ n. absurd (cc), λ h. absurd (h y ((each y).0 refl)))

-- and none exactly where it spells no home
pub unpack_home-none : (word : ℕ) → IsNone (unpack_home word) ↔ ((h : Home) → SpellsHome h word → ⊥)
unpack_home-none word = no_some {P = λ h. SpellsHome h word} (unpack_home word) (unpack_home-exact word)

-- an alias that is read from a word and spelled by it
some_alias : (word : ℕ) (x : Alias) (entry : Option Alias) → option_and_then (λ a. Some (Some a)) (alias_spelled word x) ≡ Some entry → SpellsEntry entry word
some_alias word x entry e = at (alias_in_range x && pack_entry x == word) refl e
  where
    at : (b : Bool) → (alias_in_range x && pack_entry x == word) ≡ b → option_and_then (λ a. Some (Some a)) (cond b (Some x) None) ≡ Some entry → SpellsEntry entry word
    at true is e =
        let same : Some x ≡ entry = same_some (Some x) entry e in
        let parts = and_parts (alias_in_range x) (pack_entry x == word) is in
        record { range = sym (ap entry_in_range same) ∙ parts.0; packed = sym (ap pack_alias same) ∙ eqb-true (pack_entry x) word parts.1 }
    at false is e = cc

spells_entry : (word : ℕ) (entry : Option Alias) → unpack_alias word ≡ Some entry → SpellsEntry entry word
spells_entry word entry e = at (word == 0) refl e
  where
    at : (b : Bool) → (word == 0) ≡ b → cond b (Some None) (option_and_then (λ a. Some (Some a)) (alias_spelled word (alias_read word))) ≡ Some entry → SpellsEntry entry word
    at true is e =
        let same : None ≡ entry = same_some None entry e in
        record { range = sym (ap entry_in_range same); packed = sym (ap pack_alias same) ∙ sym (eqb-true word 0 is) }
    at false is e = some_alias word (alias_read word) entry e

unpacked_entry : (word : ℕ) (entry : Option Alias) → SpellsEntry entry word → unpack_alias word ≡ Some entry
unpacked_entry word None s = ap unpack_alias (sym s.packed)
unpacked_entry word (Some a) s = ap unpack_alias (sym s.packed) ∙ unpack_alias-pack_entry a s.range

-- exactly the entry that the word spells
pub unpack_alias-exact : (word : ℕ) (entry : Option Alias) → (unpack_alias word ≡ Some entry) ↔ SpellsEntry entry word
unpack_alias-exact word entry = (spells_entry word entry, unpacked_entry word entry)

-- and none exactly where it spells no entry
pub unpack_alias-none : (word : ℕ) → IsNone (unpack_alias word) ↔ ((entry : Option Alias) → SpellsEntry entry word → ⊥)
unpack_alias-none word = no_some {P = λ e. SpellsEntry e word} (unpack_alias word) (unpack_alias-exact word)

-- likewise of an answer that is the same
pub none_of_same : (word : ℕ) (o : Option (Option Alias)) → o ≡ unpack_alias word → IsNone o ↔ ((entry : Option Alias) → SpellsEntry entry word → ⊥)
none_of_same word o e = let P : Option (Option Alias) → Type 0 = λ o. IsNone o ↔ ((entry : Option Alias) → SpellsEntry entry word → ⊥) in subst P (sym e) (unpack_alias-none word)

pub entries_come_back : (entry : Option Alias) → entry_in_range entry ≡ true → unpack_alias (pack_alias entry) ≡ Some entry
entries_come_back entry range = unpacked_entry (pack_alias entry) entry (record { range = range; packed = refl })
