-- Completion messages: what a command carries after its own arguments.
use Rattle.std.specs.Prelude.{ℕ, ◌-◌, List, [], ◌∷◌, length, take, Option, Some, None, Result, Ok, Err}
use Rattle.sn_osc.specs.Shape.{Argument, int, blob, MessageShape, Shape, message, bundle}
use Rattle.sn_osc.specs.Reading.{read}
use Rattle.sn_osc.specs.declared.fault.PacketFault.{PacketFault}
use Rattle.sn_world.specs.declared.command.ServerCommand.{ServerCommand}
use Rattle.sn_world.specs.declared.command.ServerCommand.TheVariants as server

-- ---- the blob after the arguments of a command, which their kinds tell

abbrev pub behind_frames : List Argument → Option (List ℕ)
behind_frames (int n ∷ int frames ∷ blob b ∷ []) = Some b
behind_frames (int n ∷ int frames ∷ int channels ∷ blob b ∷ []) = Some b
behind_frames _ = None

-- after the samples
abbrev pub behind_samples : List Argument → Option (List ℕ)
behind_samples (int n ∷ int frames ∷ int channels ∷ blob samples ∷ blob b ∷ []) = Some b
behind_samples _ = None

abbrev pub behind_number : List Argument → Option (List ℕ)
behind_number (int n ∷ blob b ∷ []) = Some b
behind_number _ = None

abbrev pub behind_text : List Argument → Option (List ℕ)
behind_text (blob text ∷ blob b ∷ []) = Some b
behind_text _ = None

-- `/b_alloc`, `/b_allocRead`, `/b_free`, `/b_zero` and `/d_recv` may carry one; not `/b_allocRead` with a path
abbrev pub carried : ServerCommand → List Argument → Option (List ℕ)
carried server.AllocBuffer = behind_frames
carried server.ReadBuffer = behind_samples
carried server.FreeBuffer = behind_number
carried server.ZeroBuffer = behind_number
carried server.Receive = behind_text
carried _ = λ xs. None

-- the arguments before it
abbrev pub own : List Argument → List Argument
own xs = take (length xs - 1) xs

-- ---- the message that a blob spells, if it spells one

abbrev pub one_message : Result Shape PacketFault → Option MessageShape
one_message (Ok (message m)) = Some m
one_message (Ok (bundle tag inner)) = None
one_message (Err fault) = None

abbrev pub message_in : Option (List ℕ) → Option MessageShape
message_in None = None
message_in (Some b) = one_message (read b)
