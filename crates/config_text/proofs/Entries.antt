-- Looking for a name or a label among the classes so far.
use Rattle.std.proofs.Common.{◌≡◌, ℕ, ◌||◌, List, [], ◌∷◌, refl}
use Rattle.std.specs.Prelude.{map}
use Rattle.std.specs.List.{list_any}
use Rattle.std.specs.Str.{bytes_eq}
use Rattle.arrayvec.specs.ArrayString.{ArrayString}
use Rattle.labels.specs.Label.{Label}
use Rattle.labels.specs.Table.{entry_of}
use Rattle.config_text.specs.Rules.{same_label, stood_before}

pub any_entry : (es : List (ArrayString × Label)) (name : List ℕ) (l : Label) → stood_before (map entry_of es) name l ≡ list_any (λ (e : ArrayString × Label). bytes_eq e.0.bytes name || same_label e.1 l) es
any_entry [] name l = refl
any_entry (e ∷ es) name l = rw (any_entry es name l) refl
