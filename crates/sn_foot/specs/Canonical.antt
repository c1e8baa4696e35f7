-- The one list of extents that a set of words has.
use Rattle.std.specs.Prelude.{ℕ, ◌+◌, ◌-◌, ◌≤◌, ◌<◌, max, nat_le, nat_lt, List, [], ◌∷◌, ◌++◌, if◌then◌else◌}
use Rattle.sn_mem.specs.declared.extents.Extent.{Extent}

-- Each has a word, and begins at a place or after it; after each there is a word before the next one begins.
abbrev pub AreApart : ℕ → List Extent → Type 0
AreApart from [] = Unit {0}
AreApart from (e ∷ es) = (from ≤ e.at) × (0 < e.len) × AreApart (e.at + e.len + 1) es

-- in the order of their places, each with a word, and no two that touch
abbrev pub IsCanonical : List Extent → Type 0
IsCanonical es = AreApart 0 es

-- its words have numbers
abbrev pub Ends : Extent → Type 0
Ends e = e.at + e.len < 4294967296

-- an extent in its place among others, and all of them in the order of their places
abbrev pub with_extent : Extent → List Extent → List Extent
with_extent e [] = e ∷ []
with_extent e (x ∷ xs) = if nat_le e.at x.at then e ∷ x ∷ xs else x ∷ with_extent e xs

abbrev pub in_order : List Extent → List Extent
in_order [] = []
in_order (e ∷ es) = with_extent e (in_order es)

abbrev pub where_some : Extent → List Extent
where_some e = if nat_lt 0 e.len then e ∷ [] else []

-- each begins where the one before it begins, or after that, and none before a place
abbrev pub AreRising : ℕ → List Extent → Type 0
AreRising from [] = Unit {0}
AreRising from (e ∷ es) = (from ≤ e.at) × AreRising e.at es

-- two extents as one, if the second begins in the first or right after it
abbrev pub both : Extent → Extent → Extent
both a b = record { at = a.at; len = max a.len (b.at + b.len - a.at) }

-- extents in the order of their places, after one: those that touch are one
unfoldable pub merged : Extent → List Extent → List Extent
merged a [] = where_some a
merged a (e ∷ es) = if nat_le e.at (a.at + a.len) then merged (both a e) es else where_some a ++ merged e es

abbrev pub nothing : Extent
nothing = record { at = 0; len = 0 }

-- the words of all extents
abbrev pub canonical : List Extent → List Extent
canonical es = merged nothing (in_order es)
