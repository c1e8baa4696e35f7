-- Notes in the order in which they were put: whose frames they carry, and how they are numbered.
use Rattle.std.specs.Prelude.{◌≡◌, ℕ, ◌==◌, if◌then◌else◌, List, [], ◌∷◌, ◌++◌, length, take, Some, slice_get}
use Rattle.sn_clients.specs.declared.notes.Note.{Note}

-- the frames of one client, in order
abbrev pub frames_of : ℕ → List Note → List (List ℕ)
frames_of client [] = []
frames_of client (note ∷ notes) = if note.client == client then note.frame.bytes ∷ frames_of client notes else frames_of client notes

-- each note's number is how many notes of its client stand before it
abbrev pub AreNumbered : List Note → Type 0
AreNumbered notes = (at : ℕ) (note : Note) → slice_get notes at ≡ Some note → note.number ≡ length (frames_of note.client (take at notes))

-- some frames are the first of others
abbrev pub IsFront : List (List ℕ) → List (List ℕ) → Type 0
IsFront some all = (rest : List (List ℕ)) × (all ≡ some ++ rest)
