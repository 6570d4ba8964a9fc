-- How many steps makeknown, create and delete take by themselves, on words on which no turn is under way.
use Rattle.std.specs.Prelude.{ℕ, ◌+◌, ◌<◌, ◌≡◌, List, Option, Some, None}
use Rattle.labels.specs.Label.{ClassEntry}
use Rattle.rings.specs.Brackets.{Brackets}
use Rattle.words_layout.specs.Segments.{seg}
use Rattle.words_layout.specs.Words.{Words, NextSerial, HomeOf, EntryOf}
use Rattle.words_layout.specs.Coding.{home_of, entry_of}
use Rattle.words_layout.specs.declared.segment.SegId.{SegId}
use Rattle.words_layout.specs.declared.coding.Home.{Home}
use Rattle.words_layout.specs.declared.coding.Home.TheVariants as H
use Rattle.words_layout.specs.declared.coding.Alias.{Alias}
use Rattle.policy.specs.Known.{Known}
use Rattle.turns.specs.Doing.{ClassTurn}
use Rattle.turns.specs.Alone.{NoTurns, TakesSteps}
use Rattle.tree_gates.specs.Tree.{create_body, delete_body}
use Rattle.tree_gates.specs.MakingKnown.{make_known_by}

-- the entry of a segment, on these words
abbrev pub entry_in : Words → SegId → ℕ → Option Alias
entry_in w u e = entry_of (w.guarded (EntryOf u e))

-- the home of a segment, on these words
abbrev pub home_in : Words → SegId → Home
home_in w u = home_of (w.guarded (HomeOf u))

-- a makeknown: 4
abbrev pub MakeKnownSteps : Type 0
MakeKnownSteps = (table : List ClassEntry) (d ring entry mode : ℕ) (k : Known) (w : Words) → NoTurns w →
    TakesSteps 4 d (make_known_by table d ring entry mode k) w

-- a create in an empty entry of a mentor that isn't deleted, while serials are left: 9
abbrev pub CreateSteps : Type 0
CreateSteps = (d : ℕ) (u : SegId) (e class : ℕ) (b : Brackets) (size : ℕ) (w : Words) → NoTurns w →
    (home_in w u ≡ H.Deleted → ⊥) → entry_in w u e ≡ None → w.guarded NextSerial < 64 → TakesSteps 9 d (ClassTurn (create_body u e class b size)) w

-- a delete of a child of another class: 6
abbrev pub DeleteUpgradedSteps : Type 0
DeleteUpgradedSteps = (d : ℕ) (u : SegId) (e : ℕ) (a : Alias) (w : Words) → NoTurns w → entry_in w u e ≡ Some a → (a.class ≡ d → ⊥) →
    TakesSteps 6 d (ClassTurn (delete_body d u e)) w

-- how many tenants a home names
abbrev pub tenants_of : Home → ℕ
tenants_of H.Never = 0
tenants_of (H.Stored g size) = 1
tenants_of (H.Resident f None size) = 1
tenants_of (H.Resident f (Some g) size) = 2
tenants_of H.Deleted = 0

-- a delete of a child of the own class that has no entries: 20, and one for each tenant
abbrev pub DeleteOwnSteps : Type 0
DeleteOwnSteps = (d : ℕ) (u : SegId) (e : ℕ) (a : Alias) (w : Words) → NoTurns w → entry_in w u e ≡ Some a → a.class ≡ d →
    ((i : ℕ) → i < 8 → entry_in w (seg d a.serial) i ≡ None) →
    TakesSteps (20 + tenants_of (home_in w (seg d a.serial))) d (ClassTurn (delete_body d u e)) w
