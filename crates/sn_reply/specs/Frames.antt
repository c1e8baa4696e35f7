-- Replies as the bytes that a client is sent.
use Rattle.std.specs.Prelude.{ℕ, ◌+◌, ◌≤◌, Bool, true, ◌==◌, if◌then◌else◌, List, [], ◌∷◌, ◌++◌}
use Rattle.sn_ports.specs.Octets.{Octets}
use Rattle.sn_ports.specs.Transfer.{Before}
use Rattle.sn_osc.specs.Bytes.{message_bytes, frame_bytes}
use Rattle.sn_reply.specs.Replies.{ReplyShape}
use Rattle.sn_reply.specs.declared.replies.To.{To}
use Rattle.sn_reply.specs.declared.replies.To.TheVariants.{Client, All}

-- whether a client is among those that a reply goes to
abbrev pub goes_to : ℕ → To → Bool
goes_to client (Client c) = c == client
goes_to client All = true

-- the size and the spelling of a reply's message
abbrev pub frame_to : ℕ → ReplyShape → List ℕ
frame_to client r = if goes_to client r.to then frame_bytes (message_bytes r.message) else []

-- the frames of the replies to a client, in order
abbrev pub frames_to : ℕ → List ReplyShape → List ℕ
frames_to client [] = []
frames_to client (r ∷ rs) = frame_to client r ++ frames_to client rs

-- what is still to be sent to the clients from a number on, with the frame of one more reply
abbrev pub with_frame : ℕ → ReplyShape → List (List ℕ) → List (List ℕ)
with_frame client r [] = []
with_frame client r (bytes ∷ others) = (bytes ++ frame_to client r) ∷ with_frame (client + 1) r others

-- with the frames of more replies, one after another
abbrev pub with_frames : ℕ → List ReplyShape → List (List ℕ) → List (List ℕ)
with_frames client [] out = out
with_frames client (r ∷ rs) out = with_frames client rs (with_frame client r out)

-- what is to be sent to each client has room for so many more bytes
abbrev pub EachHasRoom : ℕ → List Octets → Type 0
EachHasRoom n [] = Unit {0}
EachHasRoom n (t ∷ ts) = (n ≤ t.spare) × EachHasRoom n ts

-- Each client has what it had, and perhaps more after it.
abbrev pub EachBegins : List (List ℕ) → List (List ℕ) → Type 0
EachBegins [] [] = Unit {0}
EachBegins [] (bytes ∷ others) = ⊥
EachBegins (bytes ∷ others) [] = ⊥
EachBegins (bytes ∷ others) (more ∷ rest) = Before bytes more × EachBegins others rest
