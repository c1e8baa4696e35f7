-- What `/b_allocRead` with the path of a file becomes: the command that carries the samples.
use Rattle.std.specs.Prelude.{◌-◌, ◌*◌, ◌/◌, ◌==◌, ◌||◌, ◌&&◌, ℕ, ℤ, Bool, pos, negsuc, nat_lt, if◌then◌else◌, List, [], ◌∷◌, length, take, drop, Option, Some, None, is_some, option_map, option_to_list, unwrap_or, codes, bytes_eq}
use Rattle.std.specs.List.{flat_map}
use Rattle.sn_ports.specs.Limits.{most_samples}
use Rattle.sn_osc.specs.Shape.{Argument, int, string, blob, BodyShape, bare, arguments, foreign, MessageShape, Shape, Shapes, message, bundle, none, more}
use Rattle.sn_osc.specs.Bytes.{int_bytes}
use Rattle.sn_shelf.specs.Files.{File, bytes_named}
use Rattle.sn_shelf.specs.Waves.{Wave, wave_in}

infixl 10 ◌>>=◌
abbrev pub ◌>>=◌ : {A B : Type 0} → Option A → (A → Option B) → Option B
(Some x) >>= f = f x
None >>= f = None

-- ---- requests: a number, a path, a first frame and how many frames, and a completion message

pub record Request : Type 0 where
  pub number : ℤ
  pub path : List ℕ
  pub start : ℤ
  pub frames : ℤ
  pub completion : Option (List ℕ)

-- the first argument if it is an integer, else 0; and what follows
abbrev pub optional_int : List Argument → ℤ × List Argument
optional_int [] = (pos 0, [])
optional_int (int n ∷ xs) = (n, xs)
optional_int (string s ∷ xs) = (pos 0, string s ∷ xs)
optional_int (blob b ∷ xs) = (pos 0, blob b ∷ xs)

-- at most one blob
abbrev pub completion_in : List Argument → Option (Option (List ℕ))
completion_in [] = Some None
completion_in (blob b ∷ []) = Some (Some b)
completion_in (blob b ∷ x ∷ xs) = None
completion_in (int n ∷ xs) = None
completion_in (string s ∷ xs) = None

abbrev pub with_range : ℤ → List ℕ → ℤ × List Argument → ℤ × List Argument → Option Request
with_range number path start frames = option_map (λ c. record { number = number; path = path; start = start.0; frames = frames.0; completion = c }) (completion_in frames.1)

abbrev pub with_path : ℤ → List ℕ → List Argument → Option Request
with_path number path rest = with_range number path (optional_int rest) (optional_int (optional_int rest).1)

abbrev pub after_number : ℤ → List Argument → Option Request
after_number number [] = None
after_number number (string path ∷ rest) = with_path number path rest
after_number number (int n ∷ rest) = None
after_number number (blob b ∷ rest) = None

abbrev pub requested : List Argument → Option Request
requested [] = None
requested (int number ∷ rest) = after_number number rest
requested (string s ∷ rest) = None
requested (blob b ∷ rest) = None

abbrev pub requested_by : BodyShape → Option Request
requested_by bare = None
requested_by (arguments xs) = requested xs
requested_by (foreign tags rest) = None

-- an integer, a string, up to two integers, and at most one blob
abbrev pub request_of : MessageShape → Option Request
request_of m = if bytes_eq m.address (codes "/b_allocRead") then requested_by m.body else None

-- ---- parts of what is heard

abbrev pub natural : ℤ → Option ℕ
natural (pos n) = Some n
natural (negsuc n) = None

abbrev pub frames_of : Wave → ℕ
frames_of w = length w.samples / w.channels

-- how many of the frames that are left: as many as wanted, or all if no number is wanted or there are fewer
abbrev pub frames_taken : ℕ → ℕ → ℕ
frames_taken left wanted = if (wanted == 0) || nat_lt left wanted then left else wanted

-- so many frames from a first one on
abbrev pub part_of : Wave → ℕ → ℕ → Wave
part_of w start frames = record { channels = w.channels; samples = take (frames * w.channels) (drop (start * w.channels) w.samples) }

abbrev pub within_room : ℕ → Wave → Option Wave
within_room room part = if nat_lt room (length part.samples) then None else Some part

-- from a frame of the wave on, as many as there is room for
unfoldable pub part_within : ℕ → Wave → ℕ → ℕ → Option Wave
part_within room w start wanted =
    if nat_lt start (frames_of w) then within_room room (part_of w start (frames_taken (frames_of w - start) wanted)) else None

unfoldable pub part_in : ℕ → List ℕ → ℤ → ℤ → Option Wave
part_in room bytes first count = do
  start ← natural first
  wanted ← natural count
  w ← wave_in bytes
  part_within room w start wanted

-- some file can meet a request with these numbers: both are at least 0, and there is room
abbrev pub is_possible : ℕ → ℤ → ℤ → Bool
is_possible room first count = is_some (natural first) && is_some (natural count) && nat_lt 0 room

-- ---- messages and packets

-- the number, the frames, the channels, the samples as big-endian integers, and the completion message
abbrev pub with_samples : Request → Wave → List Argument
with_samples r part =
    int r.number ∷ int (pos (frames_of part)) ∷ int (pos part.channels) ∷ blob (flat_map int_bytes part.samples) ∷ option_to_list (option_map blob r.completion)

-- what a request is given with so much room
abbrev pub given : List File → ℕ → Request → Option Wave
given files room r = do
  bytes ← bytes_named r.path files
  part_in room bytes r.start r.frames

-- a message, or another in its place, and the room that is left
abbrev pub filled : MessageShape → ℕ → Request → Wave → MessageShape × ℕ
filled m room r part = (record { address = m.address; body = arguments (with_samples r part) }, room - length part.samples)

abbrev pub expansion : List File → ℕ → MessageShape → Option (MessageShape × ℕ)
expansion files room m = do
  r ← request_of m
  part ← given files room r
  Some (filled m room r part)

abbrev pub expanded_message : List File → ℕ → MessageShape → MessageShape × ℕ
expanded_message files room m = unwrap_or (expansion files room m) (m, room)

abbrev mutual
  -- the messages of a packet, in reading order
  pub expanded : List File → ℕ → Shape → Shape × ℕ
  expanded files room (message m) = (message (expanded_message files room m).0, (expanded_message files room m).1)
  expanded files room (bundle tag inner) = (bundle tag (expanded_elements files room inner).0, (expanded_elements files room inner).1)

  pub expanded_elements : List File → ℕ → Shapes → Shapes × ℕ
  expanded_elements files room none = (none, room)
  expanded_elements files room (more x xs) = let first = expanded files room x in let others = expanded_elements files first.1 xs in (more first.0 others.0, others.1)

-- packets in order, and the room that is left
abbrev pub expanded_list : List File → ℕ → List Shape → List Shape × ℕ
expanded_list files room [] = ([], room)
expanded_list files room (x ∷ xs) = let first = expanded files room x in let others = expanded_list files first.1 xs in (first.0 ∷ others.0, others.1)

-- the packets of a stream
abbrev pub expanded_packets : List File → List Shape → List Shape
expanded_packets files xs = (expanded_list files most_samples xs).0
