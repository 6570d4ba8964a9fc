-- How a list of categories is printed, one after the other. Only private functions speak of it.
use Rattle.std.specs.Prelude.{ℕ, List, [], ◌∷◌, Bool, true, false}
use Rattle.std.specs.Fmt.{decimal}

-- whether there is a number
abbrev pub has_any : List ℕ → Bool
has_any [] = false
has_any (n ∷ ns) = true

-- what one more category adds to a list
abbrev pub addition : Bool → Bool → ℕ → List ℕ
addition any false n = []
addition false true n = decimal n
addition true true n = 44 ∷ decimal n
