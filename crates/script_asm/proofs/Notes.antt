-- A name noted in the map.
use Rattle.std.proofs.Common.{◌≡◌, ℕ, true, false, cond, List, Option, Some, None, refl, sym, ap, ◌∙◌}
use Rattle.std.specs.Borrow.{Bor}
use Rattle.std.specs.Str.{bytes_eq}
use Rattle.std.specs.Map.{update}
use Rattle.std.proofs.lemmas.Slice.Eq.{bytes_eq-Decides}
use Rattle.indexmap.specs.IndexMap.{IndexMap}
use Rattle.script_asm.specs.declared.named.Named.{Named}
use Rattle.script_asm.specs.Operand.{Word}
use Rattle.script_asm.specs.Noting.{place_in, noted}

stands : (o : Option Named) (n : Named) → noted o false n ≡ o
stands (Some old) n = refl
stands None n = refl

pub note_new : {S : Type 0} (old new : IndexMap (Bor (List ℕ)) Named S) (word w : Word) (n : Named) → place_in old word ≡ None → place_in new w ≡ update bytes_eq (place_in old) word (Some n) w → place_in new w ≡ noted (place_in old w) (bytes_eq word w) n
note_new old new word w n none changed = changed ∙
    elim (bytes_eq word w) as (λ b. bytes_eq word w ≡ b → cond b (Some n) (place_in old w) ≡ noted (place_in old w) b n) [
      | true ↦ λ e.
          let same : word ≡ w = (bytes_eq-Decides word w).0 e in
          let here : place_in old w ≡ None = ap (place_in old) (sym same) ∙ none in
          rw here refl
      | false ↦ λ e. sym (stands (place_in old w) n)
    ] refl
