-- The rule of the queue: what an inlet put is its client's frames among the notes that were taken, followed by those
-- among the notes that wait.
use Rattle.std.specs.Prelude.{◌≡◌, ℕ, ◌+◌, ◌<◌, ◌≤◌, List, [], ◌++◌, length, All}
use mathlib.Core.Option.{some}
use lib.ListN.{get_elem?}
use Rattle.sn_clients.specs.declared.notes.Note.{Note}
use Rattle.sn_clients.specs.declared.ends.Sender.{Sender}
use Rattle.sn_clients.specs.declared.ends.End.{End}
use Rattle.sn_clients.specs.declared.ends.End.TheVariants.{Out, In, Gone}
use Rattle.sn_clients.specs.Notes.{frames_of, AreNumbered, IsFront}
use Rattle.sn_clients.specs.Ends.{clients_in, gathered_in, taken_in, with_put, with_taken}

-- what was put is the client's frames among the notes
abbrev pub HasPut : List Note → Sender → Type 0
HasPut notes s = s.frames ≡ frames_of s.client notes

-- the place of an inlet is one after its client's number, and is given up when it is gathered
abbrev pub Gives : List Note → List End → Sender → Type 0
Gives notes ends s = HasPut notes s × (get_elem? ends (s.client + 1) ≡ some Gone)

-- the ends know what the notes show
pub record Fits (notes : List Note) (clients : ℕ) (gathered : List Sender) (ends : List End) : Type 0 where
  pub count : length ends ≡ clients + 1
  pub inlets : (place : ℕ) (s : Sender) → get_elem? ends place ≡ some (In s) → (place ≡ s.client + 1) × HasPut notes s
  pub ended : All (Gives notes ends) gathered
  pub numbered : AreNumbered notes
  pub others : (client : ℕ) → clients ≤ client → frames_of client notes ≡ []

-- the first end is the outlet, and all ends fit what it took and what waits
pub record Delivers (waiting : List Note) (ends : List End) : Type 0 where
  pub clients : ℕ
  pub taken : List Note
  pub gathered : List Sender
  pub outlet : get_elem? ends 0 ≡ some (Out clients taken gathered)
  pub fits : Fits (taken ++ waiting) clients gathered ends

-- ---- what each step tells

-- an inlet put a note
abbrev pub Put : End → Note → End → Type 0
Put e note f = f ≡ with_put e note.frame.bytes

-- One moment of a relay: the end at this place knows this, and these notes wait. What each inlet has put is its
-- client's frames among the notes that were taken and these.
pub record Moment (place : ℕ) (e : End) (waiting : List Note) : Type 0 where
  pub ends : List End
  pub knows : get_elem? ends place ≡ some e
  pub delivers : Delivers waiting ends

-- one at which an inlet has put this
abbrev pub InletMoment : Sender → List Note → Type 0
InletMoment s waiting = Moment (s.client + 1) (In s) waiting

-- of each client that was gathered, the frames that were taken are the first of those that it put
abbrev pub AreFronts : End → Type 0
AreFronts e = All (λ (s : Sender). IsFront (frames_of s.client (taken_in e)) s.frames) (gathered_in e)

-- the outlet took a note, whose number is how many of its client were taken before
pub record Taken (e : End) (note : Note) (f : End) : Type 0 where
  pub end : f ≡ with_taken e note
  pub client : note.client < clients_in e
  pub number : note.number ≡ length (frames_of note.client (taken_in e))
  pub fronts : AreFronts f

-- the frames of each client that was gathered were taken
abbrev pub AllWereTaken : End → Type 0
AllWereTaken e = All (HasPut (taken_in e)) (gathered_in e)
