-- An entry that a word spells is within the limits.
use Rattle.std.proofs.Common.{ℕ, ◌≡◌, ◌<◌, true, false, Bool, ◌&&◌, refl, subst, Option, Some, None}
use Rattle.std.specs.Prelude.{◌==◌, if◌then◌else◌, nat_lt, unwrap_or, IfSome, List, length}
use Rattle.std.specs.Option.{option_and_then}
use Rattle.std.proofs.lemmas.Bool.{and_parts, ltb-true}
use Rattle.words_layout.specs.Coding.{alias_in_range, alias_read, pack_entry, entry_of}
use Rattle.words_layout.specs.declared.coding.Alias.{Alias}
use Rattle.labels.specs.Label.{ClassEntry}
use Rattle.rings.specs.Brackets.{in_order}
use Rattle.policy.specs.Known.{alias_brackets, in_table}
use Rattle.tree_gates.specs.MakeKnownRest.{IsEntry}

fits_by : (zero inside same : Bool) (r a : Alias) → alias_in_range r ≡ inside →
    unwrap_or (if zero then Some None else option_and_then (λ x. Some (Some x)) (if inside && same then Some r else None)) None ≡ Some a → alias_in_range a ≡ true
fits_by true inside same r a e h = cc
fits_by false false same r a e h = cc
fits_by false true false r a e h = cc
fits_by false true true r a e h = let P : Option Alias → Type 0 = λ o. IfSome o (λ x. alias_in_range x ≡ true) in subst P h e

pub entry_fits : (word : ℕ) (a : Alias) → entry_of word ≡ Some a → alias_in_range a ≡ true
entry_fits word a h = fits_by (word == 0) (alias_in_range (alias_read word)) (pack_entry (alias_read word) == word) (alias_read word) a refl h

pub serial_fits : (word : ℕ) (a : Alias) → entry_of word ≡ Some a → a.serial < 64
serial_fits word a h = ltb-true a.serial 64 (and_parts _ _ (entry_fits word a h)).1

-- an entry that counts in the table is the one that was spelled, and its brackets are in order
counted : (table : List ClassEntry) (o : Option Alias) (a : Alias) → in_table table o ≡ Some a → (o ≡ Some a) × (in_order (alias_brackets a) ≡ true)
counted table None a e = cc
counted table (Some x) a e = by_tests (nat_lt x.class (length table)) (in_order (alias_brackets x)) refl e
  where
    by_tests : (b c : Bool) → in_order (alias_brackets x) ≡ c → (if b && c then Some x else None) ≡ Some a → (Some x ≡ Some a) × (in_order (alias_brackets a) ≡ true)
    by_tests false c is h = cc
    by_tests true false is h = cc
    by_tests true true is h = let P : Option Alias → Type 0 = λ o. IfSome o (λ y. in_order (alias_brackets y) ≡ true) in (h, subst P h is)

pub entry_learnt : (table : List ClassEntry) (word : ℕ) (a : Alias) → in_table table (entry_of word) ≡ Some a → IsEntry a
entry_learnt table word a e = let parts = counted table (entry_of word) a e in (entry_fits word a parts.0, parts.1)
