-- The classes of the words that an operation names.
use Rattle.std.specs.Prelude.{ℕ, ◌≡◌, List}
use Rattle.std.specs.List.{Contains}
use Rattle.words_layout.specs.Words.{class_of}
use Rattle.words_layout.specs.declared.op.Op.{Op}
use Rattle.words_layout.specs.declared.op.Op.TheVariants as O

-- a word that the operation names is of class d
abbrev pub NamesOnly : (d : ℕ) → Op → Type 0
NamesOnly d O.Nothing = Unit {0}
NamesOnly d (O.Load a) = class_of a.0 ≡ d
NamesOnly d (O.Store a v) = class_of a.0 ≡ d
NamesOnly d (O.Add a v) = class_of a.0 ≡ d

-- it changes no word, and a word that it loads is of class x
abbrev pub LoadsOnly : (x : ℕ) → Op → Type 0
LoadsOnly x O.Nothing = Unit {0}
LoadsOnly x (O.Load a) = class_of a.0 ≡ x
LoadsOnly x (O.Store a v) = ⊥
LoadsOnly x (O.Add a v) = ⊥

-- it changes no word, and a word that it loads is of one of these classes
abbrev pub LoadsAmong : (classes : List ℕ) → Op → Type 0
LoadsAmong classes O.Nothing = Unit {0}
LoadsAmong classes (O.Load a) = Contains classes (class_of a.0)
LoadsAmong classes (O.Store a v) = ⊥
LoadsAmong classes (O.Add a v) = ⊥
