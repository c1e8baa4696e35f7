-- Reading a score line by line, up to the first fault.
use Rattle.std.specs.Prelude.{◌+◌, ◌-◌, ℕ, List, [], ◌∷◌, ◌++◌, length, codes, Option, Some, None, Result, Ok, Err, Bool, not, nat_lt, nat_le, ◌==◌, ◌&&◌, if◌then◌else◌}
use Rattle.std.specs.List.{slice_split}
use Rattle.std.specs.Str.{bytes_eq}
use Rattle.sn_ports.specs.Limits.{most_packet, most_bundles}
use Rattle.sn_osc.specs.Shape.{MessageShape, Shape, message, bundle, shapes_from}
use Rattle.sn_osc.specs.Bytes.{are_octets, begins_with, message_bytes, is_message, counts_as, is_early}
use Rattle.sn_score.specs.Lines.{message_line, bundle_line}
use Rattle.sn_score.specs.Fields.{message_at, tag_at}

-- packets one after the other: those of the score, or the elements of a bundle, with its tag and the tag that it counts
-- as
pub record Row : Type 0 where
  pub tag : ℕ
  pub around : ℕ
  pub elements : List Shape

-- How far reading has come: the innermost bundle that is open, or the score; those around it, the nearest first; and by
-- how many bytes the open packet may still grow.
pub record Reached : Type 0 where
  pub row : Row
  pub outer : List Row
  pub room : ℕ

abbrev pub score_row : Row
score_row = record { tag = 1; around = 1; elements = [] }

abbrev pub at_start : Reached
at_start = record { row = score_row; outer = []; room = 0 }

-- one element more
abbrev pub put : Shape → Row → Row
put x row = record { tag = row.tag; around = row.around; elements = row.elements ++ x ∷ [] }

-- A packet of the score has room for as many bytes as a packet may have.
abbrev pub room_of : Reached → ℕ
room_of s = if length s.outer == 0 then most_packet else s.room

-- An element stands after the 4 bytes of its size.
abbrev pub need_of : Reached → ℕ → ℕ
need_of s bytes = if length s.outer == 0 then bytes else 4 + bytes

-- a packet of so many bytes has room
abbrev pub has_room : Reached → ℕ → Bool
has_room s bytes = nat_le (need_of s bytes) (room_of s)

-- the room that is left after it
abbrev pub room_after : Reached → ℕ → ℕ
room_after s bytes = room_of s - need_of s bytes

-- one more packet, of so many bytes, if there is room for it
abbrev pub with_packet : Reached → Shape → ℕ → Option Reached
with_packet s x bytes = if has_room s bytes then Some (record { row = put x s.row; outer = s.outer; room = room_after s bytes }) else None

-- a bundle's elements, of which none has come, among these
abbrev pub inside : Row → ℕ → Row
inside row tag = record { tag = tag; around = counts_as row.around tag; elements = [] }

-- one more bundle is open
abbrev pub opened : Reached → ℕ → Reached
opened s tag = record { row = inside s.row tag; outer = s.row ∷ s.outer; room = room_after s 16 }

abbrev pub bundle_of : Row → Shape
bundle_of row = bundle row.tag (shapes_from row.elements)

-- the innermost bundle is whole
abbrev pub closed : Row → List Row → ℕ → Option Reached
closed row [] room = None
closed row (next ∷ outer) room = Some (record { row = put (bundle_of row) next; outer = outer; room = room })

-- the message spells in no more bytes than a packet may have
abbrev pub is_spelled : MessageShape → Bool
is_spelled m = is_message m && are_octets (message_bytes m) && nat_le (length (message_bytes m)) most_packet

-- the line of this message, if it spells in no more bytes than a packet may have, and has room
unfoldable pub after_message_line : Reached → MessageShape → List ℕ → Option Reached
after_message_line s m line = if bytes_eq (message_line m) line && is_spelled m then with_packet s (message m) (length (message_bytes m)) else None

-- the line of a message
abbrev pub after_message : Reached → List ℕ → Option Reached
after_message s line = after_message_line s (message_at line) line

-- a bundle of this tag may stand here, and has room
abbrev pub has_place : Reached → ℕ → Bool
has_place s tag = nat_lt (length s.outer) most_bundles && not (is_early s.row.around tag) && has_room s 16

-- the first line of a bundle
unfoldable pub after_opening : Reached → List ℕ → Option Reached
after_opening s line = if bytes_eq (bundle_line (tag_at line)) line && has_place s (tag_at line) then Some (opened s (tag_at line)) else None

-- how far reading comes with one more line; none if it is at fault
unfoldable pub after_line : Reached → List ℕ → Option Reached
after_line s line =
    if bytes_eq line (codes "]") then closed s.row s.outer s.room else
    if begins_with 91 line then after_opening s line else after_message s line

abbrev pub Read : Type 0
Read = Result (List Shape) ℕ

-- the packets, if no bundle is open
abbrev pub packets_of : Reached → Option (List Shape)
packets_of s = if length s.outer == 0 then Some s.row.elements else None

abbrev pub or_at : Option (List Shape) → ℕ → Read
or_at None number = Err number
or_at (Some packets) number = Ok packets

-- What follows the last line feed is no line. It is empty, and no bundle is open.
unfoldable pub at_end : Reached → ℕ → List ℕ → Read
at_end s number rest = if length rest == 0 then or_at (packets_of s) number else Err number

abbrev pub and_then : Option Reached → ℕ → (Reached → Read) → Read
and_then None number more = Err number
and_then (Some s) number more = more s

-- the lines from this number on, of which the last is no whole line
unfoldable pub lines_at : Reached → ℕ → List (List ℕ) → Read
lines_at s number [] = Err number
lines_at s number (line ∷ lines) = if length lines == 0 then at_end s number line else and_then (after_line s line) number (λ next. lines_at next (number + 1) lines)

-- what stands between line feeds
abbrev pub pieces : List ℕ → List (List ℕ)
pieces text = slice_split (λ b. b == 10) text

-- the packets, or the number of the line at fault
unfoldable pub read : List ℕ → Read
read text = lines_at at_start 1 (pieces text)
