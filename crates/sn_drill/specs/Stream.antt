-- The packets of a drill: notes that are drawn from a seed, one before each eighth block.
use Rattle.std.specs.Prelude.{ℕ, zero, suc, ◌+◌, ◌-◌, ◌*◌, ◌/◌, ◌%◌, ◌^◌, ◌==◌, pos, negsuc, if◌then◌else◌, List, [], ◌∷◌, ◌++◌, codes}
use Rattle.sn_osc.specs.Shape.{Argument, int, string, blob, arguments, Shape, message, bundle, shapes_from}
use Rattle.sn_queue.specs.Time.{at}
use Rattle.sn_drill.specs.Definitions.{voice, mix8}

-- ---- what is drawn

-- the number after a number
abbrev pub following : ℕ → ℕ
following r = (r * 1664525 + 1013904223) % 2 ^ 32

-- the number after so many steps from the seed
unfoldable pub number_at : ℕ → ℕ → ℕ
number_at seed zero = seed
number_at seed (suc n) = following (number_at seed n)

-- the upper 16 bits of a number
abbrev pub drawn : ℕ → ℕ
drawn r = r / 65536

-- what the draw with this number gives, from 1
abbrev pub draw : ℕ → ℕ → ℕ
draw seed n = drawn (number_at seed n)

-- ---- messages

abbrev pub number : ℕ → Argument
number n = int (pos n)

abbrev pub message_of : List ℕ → List Argument → Shape
message_of address args = message (record { address = address; body = arguments args })

-- in millihertz
abbrev pub frequency : ℕ → ℕ
frequency y = 100000 + 10 * y

-- all voices of the group go over to a frequency
abbrev pub retuning : ℕ → Shape
retuning freq = message_of (codes "/n_set") (number 1 ∷ string (codes "freq") ∷ number freq ∷ [])

-- a voice begins at the end of the group, onto a bus
abbrev pub beginning : ℕ → ℕ → Shape
beginning freq bus =
    message_of (codes "/s_new")
    (string (codes "voice") ∷ int (negsuc 0) ∷ number 1 ∷ number 1 ∷ string (codes "freq") ∷ number freq ∷ string (codes "out") ∷ number bus ∷ [])

-- what two draws choose
abbrev pub note : ℕ → ℕ → Shape
note x y = if x % 4 == 3 then retuning (frequency y) else beginning (frequency y) (16 + x / 4 % 8)

-- ---- packets

-- both definitions, the parallel group of the voices, and the mix after it
abbrev pub opening : Shape
opening = bundle 0 (shapes_from (
    message_of (codes "/d_recv") (blob voice ∷ [])
    ∷ message_of (codes "/d_recv") (blob mix8 ∷ [])
    ∷ message_of (codes "/p_new") (number 1 ∷ number 0 ∷ number 0 ∷ [])
    ∷ message_of (codes "/s_new") (string (codes "mix8") ∷ number 2 ∷ number 1 ∷ number 0 ∷ [])
    ∷ []))

-- a message before a block
abbrev pub before : ℕ → ℕ → Shape → Shape
before rate block m = bundle (at block 0 rate) (shapes_from (m ∷ []))

-- the note with this index, from 0: before block 8, 16 and so on
abbrev pub note_at : ℕ → ℕ → ℕ → Shape
note_at seed rate index = before rate (8 * index + 8) (note (draw seed (2 * index + 1)) (draw seed (2 * index + 2)))

-- the first notes, so many of them
unfoldable pub notes : ℕ → ℕ → ℕ → List Shape
notes seed rate zero = []
notes seed rate (suc n) = notes seed rate n ++ note_at seed rate n ∷ []

-- nothing happens before the last block, but it is waited for
abbrev pub closing : ℕ → ℕ → Shape
closing rate block = bundle (at block 0 rate) (shapes_from [])

-- the drill of so many blocks, with a note before each eighth block below them
abbrev pub drill_stream : ℕ → ℕ → ℕ → List Shape
drill_stream seed blocks rate = opening ∷ notes seed rate ((blocks - 1) / 8) ++ closing rate blocks ∷ []
