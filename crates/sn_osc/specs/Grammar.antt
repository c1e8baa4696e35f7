-- Packets of Open Sound Control 1.0, as bytes: which bytes spell which packet.
use Rattle.std.specs.Prelude.{◌≡◌, ◌<◌, ◌^◌, ◌%◌, ℕ, zero, suc, ℤ, List, [], ◌∷◌, ◌++◌, length, map, not, IsTrue}
use Rattle.std.specs.List.{list_all}
use Rattle.std.specs.Int.{w32, w64, to_be_bytes}
use Rattle.sn_ports.specs.Limits.{most_bundles}
use Rattle.sn_osc.specs.Shape.{Argument, int, string, blob, BodyShape, bare, arguments, foreign, MessageShape, Shape, Shapes, message, bundle, none, more}
use Rattle.sn_osc.specs.Bytes.{int_bytes, string_bytes, blob_bytes, tag_of, bundle_head, has_no_null, begins_with, fits_int, is_argument_tag, counts_as, is_early}

-- 4 bytes, big-endian, two's complement
abbrev pub SpellsInt : ℤ → List ℕ → Type 0
SpellsInt n bytes = IsTrue (fits_int n) × (bytes ≡ int_bytes n)

-- bytes that are not null, one null byte, and null bytes up to a multiple of 4
abbrev pub SpellsString : List ℕ → List ℕ → Type 0
SpellsString s bytes = IsTrue (has_no_null s) × (bytes ≡ string_bytes s)

-- a size, that many bytes, and zero bytes up to a multiple of 4
abbrev pub SpellsBlob : List ℕ → List ℕ → Type 0
SpellsBlob b bytes = (length b < 2 ^ 31) × (bytes ≡ blob_bytes b)

abbrev pub SpellsArgument : Argument → List ℕ → Type 0
SpellsArgument (int n) = SpellsInt n
SpellsArgument (string s) = SpellsString s
SpellsArgument (blob b) = SpellsBlob b

-- one after the other
abbrev pub SpellsArguments : List Argument → List ℕ → Type 0
SpellsArguments [] bytes = bytes ≡ []
SpellsArguments (x ∷ xs) bytes = (front : List ℕ) × (rest : List ℕ) × SpellsArgument x front × SpellsArguments xs rest × (bytes ≡ front ++ rest)

-- After the address comes one of three things: nothing; a comma with the arguments' tags, and the arguments; or a comma
-- with tags of which one is neither `i` nor `s` nor `b`, and bytes that are not read.
abbrev pub SpellsBody : BodyShape → List ℕ → Type 0
SpellsBody bare bytes = bytes ≡ []
SpellsBody (arguments xs) bytes = (tags : List ℕ) × (rest : List ℕ) × SpellsString (44 ∷ map tag_of xs) tags × SpellsArguments xs rest × (bytes ≡ tags ++ rest)
SpellsBody (foreign ts rest) bytes = (tags : List ℕ) × SpellsString (44 ∷ ts) tags × IsTrue (not (list_all is_argument_tag ts)) × (length rest % 4 ≡ 0) × (bytes ≡ tags ++ rest)

-- an address that begins with a slash, and a body
abbrev pub SpellsMessage : MessageShape → List ℕ → Type 0
SpellsMessage m bytes = (address : List ℕ) × (rest : List ℕ) × IsTrue (begins_with 47 m.address) × SpellsString m.address address × SpellsBody m.body rest × (bytes ≡ address ++ rest)

abbrev mutual
  -- A message, or a head, a time tag and elements. The packet stands in a bundle that counts as around, and bundles may
  -- nest so deep in it.
  pub SpellsWithin : ℕ → ℕ → Shape → List ℕ → Type 0
  SpellsWithin deep around (message m) bytes = SpellsMessage m bytes
  SpellsWithin zero around (bundle tag inner) bytes = ⊥
  SpellsWithin (suc deep) around (bundle tag inner) bytes = (rest : List ℕ) × (tag < 2 ^ 64) × IsTrue (not (is_early around tag)) × SpellsElements deep (counts_as around tag) inner rest
      × (bytes ≡ bundle_head ++ to_be_bytes w64 tag ++ rest)

  -- each a size and a packet of that size
  pub SpellsElements : ℕ → ℕ → Shapes → List ℕ → Type 0
  SpellsElements deep around none bytes = bytes ≡ []
  SpellsElements deep around (more x xs) bytes = (front : List ℕ) × (rest : List ℕ) × (length front < 2 ^ 31) × SpellsWithin deep around x front × SpellsElements deep around xs rest
      × (bytes ≡ to_be_bytes w32 (length front) ++ front ++ rest)

-- Bundles nest at most 8 deep, and an outermost bundle may have any tag.
abbrev pub Spells : Shape → List ℕ → Type 0
Spells = SpellsWithin most_bundles 1

-- the packet has a spelling shorter than 2 ^ 31 bytes
abbrev pub IsSpellable : Shape → Type 0
IsSpellable x = (bytes : List ℕ) × Spells x bytes × (length bytes < 2 ^ 31)
