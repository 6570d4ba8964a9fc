-- A text spells one configuration or has one first fault, and never both: what is answered to its lines decides which.
use Rattle.std.proofs.Common.{◌≡◌, ℕ, ◌↔◌, ◌⊎◌, List, Result, Ok, Err, refl, sym, ap, subst, ◌∙◌, inl, inr}
use Rattle.std.specs.Result.{result_err}
use Rattle.std.proofs.lemmas.Option.{some_pair_parts}
use Rattle.text_lines.specs.Lines.{lines}
use Rattle.text_lines.proofs.FirstFault.{first_fault, first_fault_read, faultless, faultless_read}
use Rattle.config_text.specs.declared.config.Config.{Config}
use Rattle.config_text.specs.declared.fault.Code.{Code}
use Rattle.config_text.specs.Codes.{code_number}
use Rattle.config_text.specs.Place.{Place, start, config_in}
use Rattle.config_text.specs.Rules.{config_rules}
use Rattle.config_text.specs.Reading.{fault_at, lines_answer_from}
use Rattle.config_text.specs.Text.{Spells, Says, IsFault, SpellsOne, HasFault}
use Rattle.config_text.proofs.Faults.{rising, apart}
use Rattle.config_text.proofs.Headed.{value_is}
use Rattle.config_text.proofs.Whole.{end_place, spelled_is_read, only_value, fault_value}

-- what is answered to the lines of a text
abbrev answer_of : List ℕ → Result Place (ℕ × Code)
answer_of text = lines_answer_from start 1 (lines text)

says_spells : (text : List ℕ) (k : Config) → Says text k → Spells text k
says_spells text k s = subst (λ c. Spells text c) s.2 (value_is text s.0 (faultless_read config_rules (lines text) start 1 s.0 s.1))

spells_says : (text : List ℕ) (k : Config) → Spells text k → Says text k
spells_says text k s =
    let q : Place = end_place k s.groups in
    let reads = spelled_is_read text k s in
    (q, faultless config_rules (lines text) start 1 q reads, only_value text q reads k s)

pub both_ways : (text : List ℕ) (k : Config) → Says text k ↔ Spells text k
both_ways text k = (says_spells text k, spells_says text k)

pub one_config : (text : List ℕ) (a b : Config) → Spells text a → Spells text b → a ≡ b
one_config text a b s t =
    let q : Place = end_place a s.groups in
    let reads = spelled_is_read text a s in
    sym (only_value text q reads a s) ∙ only_value text q reads b t

pub never_both : (text : List ℕ) (a : Config) (line code : ℕ) → Spells text a → IsFault text line code → ⊥
never_both text a line code s f = fault_value text (end_place a s.groups) (spelled_is_read text a s) line code f

outcome : (text : List ℕ) (a : Result Place (ℕ × Code)) → answer_of text ≡ a → SpellsOne text ⊎ HasFault text
outcome text (Ok q) e = inl (config_in q, value_is text q e)
outcome text (Err f) e = inr (f.0, code_number f.1, (f.1, refl, first_fault config_rules rising start (lines text) f.0 f.1 e))

pub one_or_fault : (text : List ℕ) → SpellsOne text ⊎ HasFault text
one_or_fault text = outcome text (answer_of text) refl

fault_read : (text : List ℕ) (line code : ℕ) → (f : IsFault text line code) → answer_of text ≡ fault_at line f.0
fault_read text line code f = first_fault_read config_rules rising apart start (lines text) line f.0 f.2

pub one_fault : (text : List ℕ) (l c m d : ℕ) → IsFault text l c → IsFault text m d → (l ≡ m) × (c ≡ d)
one_fault text l c m d f g =
    let both : fault_at l f.0 ≡ fault_at m g.0 = sym (fault_read text l c f) ∙ fault_read text m d g in
    let parts = some_pair_parts l m f.0 g.0 (ap result_err both) in
    (parts.0, f.1 ∙ ap code_number parts.1 ∙ sym g.1)
