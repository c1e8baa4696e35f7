-- The first fault of a packet's bytes: whole data that the grammar allows, and then a datum that is at fault. The bytes
-- here begin at a place of the packet.
use Rattle.std.specs.Prelude.{◌≡◌, ◌≢◌, ◌≤◌, ◌<◌, ◌+◌, ◌-◌, ◌%◌, ◌⊎◌, ℕ, zero, suc, ℤ, pos, negsuc, List, [], ◌∷◌, ◌++◌, length, drop, map, replicate, not, IsTrue}
use Rattle.std.specs.List.{list_all}
use Rattle.std.specs.Int.{w32, to_be_bytes}
use Rattle.sn_osc.specs.declared.fault.PacketKind.{PacketKind}
use Rattle.sn_osc.specs.declared.fault.PacketKind.TheVariants.{Size, Start, Unended, Padding, NoTags, ShortArgs, LongArgs, BlobSize, ElementSize, Head, NestedEarly, TooDeep}
use Rattle.sn_osc.specs.Shape.{Argument, Shapes}
use Rattle.sn_osc.specs.Bytes.{tag_of, has_no_null, begins_with, is_argument_tag, counts_as, is_early}
use Rattle.sn_osc.specs.Grammar.{SpellsString, SpellsArguments, SpellsElements}
use Rattle.sn_osc.specs.Reading.{int_in, size_in, tag_in, is_headed, is_packet_size}

-- ---- the data of a message

-- Of so many bytes of padding one is not null; all before it are.
pub record BadPadding (at room : ℕ) (bytes : List ℕ) (place : ℕ) : Type 0 where
  pub nulls : ℕ
  pub other : ℕ
  pub rest : List ℕ
  pub parts : bytes ≡ replicate nulls 0 ++ other ∷ rest
  pub not_null : other ≢ 0
  pub inside : nulls < room
  pub there : place ≡ at + nulls

-- no null byte before the end of the message; or bytes that are not null, a null byte, and padding of which a byte is
-- not null
abbrev pub StringFault : ℕ → List ℕ → PacketKind → ℕ → Type 0
StringFault at bytes Unended place = IsTrue (has_no_null bytes) × (place ≡ at)
StringFault at bytes Padding place = (text : List ℕ) × (rest : List ℕ) × IsTrue (has_no_null text) × (bytes ≡ text ++ 0 ∷ rest) × BadPadding (at + length text + 1) (3 - length text % 4) rest place
StringFault at bytes kind place = ⊥

-- a size that is negative or more than the bytes left after it
abbrev pub IsOver : ℤ → ℕ → Type 0
IsOver (pos size) left = left < size
IsOver (negsuc n) left = Unit {0}

-- a size that no blob may have; or a size, so many bytes, and padding of which a byte is not null
abbrev pub BlobFault : ℕ → List ℕ → PacketKind → ℕ → Type 0
BlobFault at bytes BlobSize place = (4 ≤ length bytes) × IsOver (int_in bytes) (length (drop 4 bytes)) × (place ≡ at)
BlobFault at bytes Padding place = (blob : List ℕ) × (rest : List ℕ) × (bytes ≡ to_be_bytes w32 (length blob) ++ blob ++ rest) × BadPadding (at + 4 + length blob) ((4 - length blob % 4) % 4) rest place
BlobFault at bytes kind place = ⊥

-- The argument of a tag begins at the end of the message, or is itself at fault.
abbrev pub ArgumentFault : ℕ → ℕ → List ℕ → PacketKind → ℕ → Type 0
ArgumentFault at tag [] kind place = (kind ≡ ShortArgs) × (place ≡ at)
ArgumentFault at tag (b ∷ bytes) kind place = ((tag ≡ 115) × StringFault at (b ∷ bytes) kind place) ⊎ ((tag ≡ 98) × BlobFault at (b ∷ bytes) kind place)

-- the argument of the first tag that is left, or bytes after the last argument
abbrev pub NextArgumentFault : ℕ → List ℕ → List ℕ → PacketKind → ℕ → Type 0
NextArgumentFault at [] bytes kind place = (0 < length bytes) × (kind ≡ LongArgs) × (place ≡ at)
NextArgumentFault at (tag ∷ tags) bytes kind place = ArgumentFault at tag bytes kind place

-- the arguments of the first tags, and then a fault
pub record ArgumentsFault (at : ℕ) (tags bytes : List ℕ) (kind : PacketKind) (place : ℕ) : Type 0 where
  pub before : List Argument
  pub front : List ℕ
  pub rest : List ℕ
  pub left : List ℕ
  pub spelled : SpellsArguments before front
  pub parts : bytes ≡ front ++ rest
  pub tagged : tags ≡ map tag_of before ++ left
  pub why : NextArgumentFault (at + length front) left rest kind place

-- The string after the address: it has no null byte before the end, it begins with no comma, or its padding is bad.
abbrev pub TagsFault : ℕ → List ℕ → PacketKind → ℕ → Type 0
TagsFault at bytes NoTags place = IsTrue (not (has_no_null bytes)) × IsTrue (not (begins_with 44 bytes)) × (place ≡ at)
TagsFault at bytes Padding place = IsTrue (begins_with 44 bytes) × StringFault at bytes Padding place
TagsFault at bytes kind place = StringFault at bytes kind place

-- a comma with tags that are all of arguments, and then a fault of the arguments
pub record BehindTagsFault (at : ℕ) (bytes : List ℕ) (kind : PacketKind) (place : ℕ) : Type 0 where
  pub tags : List ℕ
  pub front : List ℕ
  pub rest : List ℕ
  pub spelled : SpellsString (44 ∷ tags) front
  pub known : IsTrue (list_all is_argument_tag tags)
  pub parts : bytes ≡ front ++ rest
  pub why : ArgumentsFault (at + length front) tags rest kind place

abbrev pub BodyFault : ℕ → List ℕ → PacketKind → ℕ → Type 0
BodyFault at bytes kind place = (0 < length bytes) × (TagsFault at bytes kind place ⊎ BehindTagsFault at bytes kind place)

-- an address, and then a fault of the body
pub record BehindAddressFault (at : ℕ) (bytes : List ℕ) (kind : PacketKind) (place : ℕ) : Type 0 where
  pub address : List ℕ
  pub front : List ℕ
  pub rest : List ℕ
  pub spelled : SpellsString address front
  pub parts : bytes ≡ front ++ rest
  pub why : BodyFault (at + length front) rest kind place

abbrev pub MessageFault : ℕ → List ℕ → PacketKind → ℕ → Type 0
MessageFault at bytes kind place = StringFault at bytes kind place ⊎ BehindAddressFault at bytes kind place

-- ---- packets

-- below 4, no multiple of 4, or more than the bytes left after it, as each negative size is when it is read without its
-- sign
abbrev pub IsBadSize : List ℕ → Type 0
IsBadSize bytes = (size_in bytes < 4) ⊎ ((size_in bytes % 4 ≢ 0) ⊎ (length (drop 4 bytes) < size_in bytes))

-- a size that no element may have, or an element with a size that it may have, whose packet is at fault in the way that
-- is given
abbrev pub NextElementFault : (ℕ → List ℕ → PacketKind → ℕ → Type 0) → ℕ → List ℕ → PacketKind → ℕ → Type 0
NextElementFault Inner at bytes kind place = (4 ≤ length bytes)
    × ((IsBadSize bytes × (kind ≡ ElementSize) × (place ≡ at)) ⊎ ((packet : List ℕ) × (rest : List ℕ) × (4 ≤ length packet) × (length packet % 4 ≡ 0) × (bytes ≡ to_be_bytes w32 (length packet) ++ packet ++ rest) × Inner (at + 4) packet kind place))

-- elements, and then one at fault
pub record ElementsFault (deep around : ℕ) (Inner : ℕ → List ℕ → PacketKind → ℕ → Type 0) (at : ℕ) (bytes : List ℕ) (kind : PacketKind) (place : ℕ) : Type 0 where
  pub before : Shapes
  pub front : List ℕ
  pub rest : List ℕ
  pub spelled : SpellsElements deep around before front
  pub parts : bytes ≡ front ++ rest
  pub why : NextElementFault Inner (at + length front) rest kind place

-- The packet begins with neither a slash nor `#`, is a message at fault, or begins with `#` and has no head of a
-- bundle.
abbrev pub StartFault : ℕ → List ℕ → PacketKind → ℕ → Type 0
StartFault at bytes kind place = (IsTrue (not (begins_with 47 bytes)) × IsTrue (not (begins_with 35 bytes)) × (kind ≡ Start) × (place ≡ at))
    ⊎ ((IsTrue (begins_with 47 bytes) × MessageFault at bytes kind place) ⊎ (IsTrue (begins_with 35 bytes) × IsTrue (not (is_headed bytes)) × (kind ≡ Head) × (place ≡ at)))

-- A packet that stands in a bundle that counts as around, and in which bundles may nest so deep: its start is at fault;
-- or it is a bundle. The bundle stands too deep, has an earlier tag than it may, or has an element that is at fault.
abbrev pub FaultWithin : ℕ → ℕ → ℕ → List ℕ → PacketKind → ℕ → Type 0
FaultWithin zero around at bytes kind place = StartFault at bytes kind place ⊎ (IsTrue (is_headed bytes) × (kind ≡ TooDeep) × (place ≡ at))
FaultWithin (suc deep) around at bytes kind place =
    StartFault at bytes kind place
    ⊎ (IsTrue (is_headed bytes)
    × ((IsTrue (is_early around (tag_in bytes)) × (kind ≡ NestedEarly) × (place ≡ at + 8))
    ⊎ (IsTrue (not (is_early around (tag_in bytes)))
    × ElementsFault deep (counts_as around (tag_in bytes)) (FaultWithin deep (counts_as around (tag_in bytes))) (at + 16) (drop 16 bytes) kind place)))

-- The bytes are none, more than 65,536 or no multiple of 4; or they are a packet at fault.
unfoldable pub FirstFault : List ℕ → PacketKind → ℕ → Type 0
FirstFault bytes kind place = (IsTrue (not (is_packet_size (length bytes))) × (kind ≡ Size) × (place ≡ 0)) ⊎ (IsTrue (is_packet_size (length bytes)) × FaultWithin 8 1 0 bytes kind place)
