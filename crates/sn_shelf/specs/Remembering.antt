-- What is known of the file that was read last.
use Rattle.std.specs.Prelude.{◌≡◌, ℕ, List, Option, Some, None, IfSome, option_map}
use Rattle.sn_shelf.specs.Files.{File, bytes_named, within_limit}
use Rattle.sn_shelf.specs.declared.reader.Last.{Last}

-- there is a file that was read last, and it has this name
abbrev pub IsNamed : List ℕ → Option Last → Type 0
IsNamed name last = (l : Last) × (last ≡ Some l) × (l.name.bytes ≡ name)

-- what it holds, if there is such a file that isn't too long
abbrev pub found_in : Option Last → Option (List ℕ)
found_in None = None
found_in (Some last) = option_map (λ t. t.bytes) last.bytes

-- it is what the shelf has of its name
abbrev pub IsKnown : List File → Option Last → Type 0
IsKnown files last = IfSome last (λ l. option_map (λ t. t.bytes) l.bytes ≡ within_limit (bytes_named l.name.bytes files))

abbrev pub Knows : Option (List File) → Option Last → Type 0
Knows files last = IfSome files (λ fs. IsKnown fs last)
