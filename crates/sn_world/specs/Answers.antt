-- What the answer of a command says.
use Rattle.std.specs.Prelude.{◌≡◌, List, ◌++◌, Option, Some, None, Result, Ok, Err}
use Rattle.sn_ports.specs.declared.failed.NoMemory.{NoMemory}
use Rattle.sn_osc.specs.Shape.{MessageShape, message_of}
use Rattle.sn_reply.specs.declared.reason.Reason.{Reason}
use Rattle.sn_reply.specs.Replies.{ReplyShape}
use Rattle.sn_world.specs.declared.command.Handled.{Handled}
use Rattle.sn_world.specs.declared.command.Handled.TheVariants.{Done, Completion, Quit, ClearSched, Failed, NotMine}
use Rattle.sn_world.specs.Ending.{Next, nothing, quitting, clearing, completing}
use Rattle.sn_world.specs.World.{Turn}

-- What a message came to by the rows of some commands. It is done, with the turn after it, or refused for a reason; it
-- is nothing if the message is no such command.
abbrev pub Handles : Result Handled NoMemory → Option (Result Turn Reason) → Turn → Type 0
Handles (Ok Done) outcome after = outcome ≡ Some (Ok after)
Handles (Ok (Completion m)) outcome after = outcome ≡ Some (Ok after)
Handles (Ok Quit) outcome after = outcome ≡ Some (Ok after)
Handles (Ok ClearSched) outcome after = outcome ≡ Some (Ok after)
Handles (Ok (Failed reason)) outcome after = outcome ≡ Some (Err reason)
Handles (Ok NotMine) outcome after = outcome ≡ None
Handles (Err e) outcome after = Unit {0}

-- a fact for a message that was not carried out
abbrev pub UnlessDone : Result Handled NoMemory → Type 0 → Type 0
UnlessDone (Ok Done) P = Unit {0}
UnlessDone (Ok (Completion m)) P = Unit {0}
UnlessDone (Ok Quit) P = Unit {0}
UnlessDone (Ok ClearSched) P = Unit {0}
UnlessDone (Ok (Failed reason)) P = P
UnlessDone (Ok NotMine) P = P
UnlessDone (Err e) P = P

-- what is done besides, if the message was carried out
abbrev pub IsNext : Result Handled NoMemory → Next → Type 0
IsNext (Ok Done) n = n ≡ nothing
IsNext (Ok (Completion m)) n = n ≡ completing (message_of m)
IsNext (Ok Quit) n = n ≡ quitting
IsNext (Ok ClearSched) n = n ≡ clearing
IsNext (Ok (Failed reason)) n = Unit {0}
IsNext (Ok NotMine) n = Unit {0}
IsNext (Err e) n = Unit {0}

-- what is done besides, if a message was handled so: nothing if it was not carried out
abbrev pub next_told : Handled → Next
next_told Done = nothing
next_told (Completion m) = completing (message_of m)
next_told Quit = quitting
next_told ClearSched = clearing
next_told (Failed reason) = nothing
next_told NotMine = nothing

abbrev pub TellsNext : Result Handled NoMemory → Next → Type 0
TellsNext (Ok handled) n = n ≡ next_told handled
TellsNext (Err e) n = Unit {0}

-- nothing is done besides
abbrev pub AsksNothing : Result Handled NoMemory → Type 0
AsksNothing (Ok Done) = Unit {0}
AsksNothing (Ok (Completion m)) = ⊥
AsksNothing (Ok Quit) = ⊥
AsksNothing (Ok ClearSched) = ⊥
AsksNothing (Ok (Failed reason)) = Unit {0}
AsksNothing (Ok NotMine) = Unit {0}
AsksNothing (Err e) = Unit {0}

-- what holds of the completion message that is to act next, if there is one
abbrev pub NextHas : (MessageShape → Type 0) → Result Handled NoMemory → Type 0
NextHas P (Ok Done) = Unit {0}
NextHas P (Ok (Completion m)) = P (message_of m)
NextHas P (Ok Quit) = Unit {0}
NextHas P (Ok ClearSched) = Unit {0}
NextHas P (Ok (Failed reason)) = Unit {0}
NextHas P (Ok NotMine) = Unit {0}
NextHas P (Err e) = Unit {0}

-- the same of one row: done, or refused for a reason
abbrev pub Follows : Result (Option Reason) NoMemory → Result Turn Reason → Turn → Type 0
Follows (Ok None) outcome after = outcome ≡ Ok after
Follows (Ok (Some reason)) outcome after = outcome ≡ Err reason
Follows (Err e) outcome after = Unit {0}

abbrev pub UnlessFollowed : Result (Option Reason) NoMemory → Type 0 → Type 0
UnlessFollowed (Ok None) P = Unit {0}
UnlessFollowed (Ok (Some reason)) P = P
UnlessFollowed (Err e) P = P

-- replies that begin with others
abbrev pub Continues : List ReplyShape → List ReplyShape → Type 0
Continues old new = (more : List ReplyShape) × (new ≡ old ++ more)
