-- What the ends of a relay know of its queue, and how that changes.
use Rattle.std.specs.Prelude.{◌≡◌, ℕ, ◌+◌, List, [], ◌∷◌, ◌++◌, length}
use Rattle.sn_clients.specs.declared.notes.Note.{Note}
use Rattle.sn_clients.specs.declared.ends.Sender.{Sender}
use Rattle.sn_clients.specs.declared.ends.End.{End}
use Rattle.sn_clients.specs.declared.ends.End.TheVariants.{Out, In, Gone}

-- a client that has put nothing
abbrev pub new_sender : ℕ → Sender
new_sender client = record { client = client; frames = [] }

-- one more frame was put
abbrev pub with_frame : Sender → List ℕ → Sender
with_frame s frame = record { client = s.client; frames = s.frames ++ frame ∷ [] }

-- how many inlets were made
abbrev pub clients_in : End → ℕ
clients_in (Out clients taken gathered) = clients
clients_in (In s) = 0
clients_in Gone = 0

-- the notes that the outlet took
abbrev pub taken_in : End → List Note
taken_in (Out clients taken gathered) = taken
taken_in (In s) = []
taken_in Gone = []

-- what each inlet that was gathered had put
abbrev pub gathered_in : End → List Sender
gathered_in (Out clients taken gathered) = gathered
gathered_in (In s) = []
gathered_in Gone = []

-- what an inlet has put
abbrev pub sender_in : End → Sender
sender_in (Out clients taken gathered) = new_sender 0
sender_in (In s) = s
sender_in Gone = new_sender 0

abbrev pub new_outlet : End
new_outlet = Out 0 [] []

-- the outlet after an inlet is made, and that inlet
abbrev pub with_inlet : End → End
with_inlet e = Out (clients_in e + 1) (taken_in e) (gathered_in e)

abbrev pub next_inlet : End → End
next_inlet e = In (new_sender (clients_in e))

-- an inlet puts a frame
abbrev pub with_put : End → List ℕ → End
with_put e frame = In (with_frame (sender_in e) frame)

-- the outlet takes a note
abbrev pub with_taken : End → Note → End
with_taken e note = Out (clients_in e) (taken_in e ++ note ∷ []) (gathered_in e)

-- the outlet gathers an inlet that has put this
abbrev pub with_gathered : End → Sender → End
with_gathered e s = Out (clients_in e) (taken_in e) (gathered_in e ++ s ∷ [])

abbrev pub gone : End
gone = Gone

-- an inlet of this client that has put `count` frames
abbrev pub HasPutAs : ℕ → ℕ → End → Type 0
HasPutAs client count e = (e ≡ In (sender_in e)) × ((sender_in e).client ≡ client) × (length (sender_in e).frames ≡ count)
