-- Homes within the limits of the layout, and the page of a home that is kept in parts.
use Rattle.std.specs.Prelude.{ℕ, ◌<◌, ◌≤◌, Bool, true, false, Option, Some, None}
use Rattle.words_layout.specs.declared.coding.Home.{Home}
use Rattle.words_layout.specs.declared.coding.Home.TheVariants as H

-- a page is below 32
abbrev pub IsPage : Option ℕ → Type 0
IsPage None = Unit {0}
IsPage (Some g) = g < 32

-- the frame, the page and the size that the home names are within the limits
abbrev pub IsHome : Home → Type 0
IsHome H.Never = Unit {0}
IsHome (H.Stored g size) = (g < 32) × (1 ≤ size) × (size ≤ 64)
IsHome (H.Resident f page size) = (f < 16) × IsPage page × (1 ≤ size) × (size ≤ 64)
IsHome H.Deleted = Unit {0}

-- the page, where there is one
abbrev pub page_of : Bool → ℕ → Option ℕ
page_of true g = Some g
page_of false g = None
