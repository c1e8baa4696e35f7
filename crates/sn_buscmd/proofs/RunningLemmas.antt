-- A message that is run by its row.
use Rattle.std.proofs.Common.{◌≡◌, ℕ, List, [], Option, Some, None, Result, Ok, Err, ap, refl, subst, ◌∙◌}
use Rattle.std.specs.Prelude.{OnErr}
use Rattle.sn_ports.specs.declared.failed.NoMemory.{NoMemory}
use Rattle.sn_osc.specs.Shape.{Argument, BodyShape, bare, arguments, foreign}
use Rattle.sn_reply.specs.declared.reason.Reason.{Reason}
use Rattle.sn_world.specs.declared.command.ServerCommand.{ServerCommand}
use Rattle.sn_world.specs.World.{Turn}
use Rattle.sn_world.specs.declared.stage.Stage.{Stage}
use Rattle.sn_world.specs.Commands.{ArgumentsOf, with_arguments, carrying_row, whole_row, server_outcome, completion_in, next_with, next_of}
use Rattle.sn_world.specs.Completing.{carried, message_in}
use Rattle.sn_world.specs.Answers.{UnlessFollowed}
use Rattle.sn_buscmd.specs.Refusing.{IfRefused}

with-given : (body : BodyShape) (given : Option (List Argument)) (xs : List Argument) (run : List Argument → Turn → Result Turn Reason) (t : Turn) → ArgumentsOf body given → given ≡ Some xs → with_arguments body run t ≡ run xs t
with-given bare given xs run t is e = let same : xs ≡ [] = cc in ap (λ ys. run ys t) cc
with-given (arguments ys) given xs run t is e = let same : Some xs ≡ Some ys = cc in ap (λ zs. run zs t) cc
with-given (foreign tags rest) given xs run t is e = absurd cc

-- the outcome of a message is that of its command's row
pub outcome-of_row : (asked : Option ServerCommand) (command : ServerCommand) (from : ℕ) (body : BodyShape) (given : Option (List Argument)) (xs : List Argument) (t : Turn) (r : Result Turn Reason)
    → asked ≡ Some command → ArgumentsOf body given → given ≡ Some xs → whole_row command from xs t ≡ r → server_outcome asked from body t ≡ Some r
outcome-of_row asked command from body given xs t r is_command is_body is_given is =
    ap (λ o. server_outcome o from body t) is_command ∙ ap Some (with-given body given xs (whole_row command from) t is_body is_given ∙ is)

-- with the blob that it carries, if it carries one
pub outcome-with : (asked : Option ServerCommand) (command : ServerCommand) (from : ℕ) (body : BodyShape) (given : Option (List Argument)) (xs : List Argument) (o : Option (List ℕ)) (t : Turn)
    → asked ≡ Some command → ArgumentsOf body given → given ≡ Some xs → carried command xs ≡ o → server_outcome asked from body t ≡ Some (carrying_row command o from xs t)
outcome-with asked command from body given xs o t is_command is_body is_given carries =
    outcome-of_row asked command from body given xs t _ is_command is_body is_given (ap (λ (b : Option (List ℕ)). carrying_row command b from xs t) carries)

-- and what is done besides
completion-given : (command : ServerCommand) (body : BodyShape) (given : Option (List Argument)) (xs : List Argument) → ArgumentsOf body given → given ≡ Some xs → completion_in (Some command) body ≡ message_in (carried command xs)
completion-given command bare given xs is e = let same : xs ≡ [] = cc in ap (λ ys. message_in (carried command ys)) cc
completion-given command (arguments ys) given xs is e = let same : Some xs ≡ Some ys = cc in ap (λ zs. message_in (carried command zs)) cc
completion-given command (foreign tags rest) given xs is e = absurd cc

pub next-given : (asked : Option ServerCommand) (command : ServerCommand) (body : BodyShape) (given : Option (List Argument)) (xs : List Argument) (o : Option (List ℕ))
    → asked ≡ Some command → ArgumentsOf body given → given ≡ Some xs → carried command xs ≡ o → next_of asked body ≡ next_with command (message_in o)
next-given asked command body given xs o is_command is_body is_given carries =
    ap (λ c. next_of c body) is_command ∙ ap (next_with command) (completion-given command body given xs is_body is_given ∙ ap message_in carries)

-- ---- how it is told

-- what holds if a command is refused, and what follows from it
pub unless-followed : (P Q : Type 0) (r : Result (Option Reason) NoMemory) → (P → Q) → UnlessFollowed r P → UnlessFollowed r Q
unless-followed P Q (Ok None) f p = tt
unless-followed P Q (Ok (Some reason)) f p = f p
unless-followed P Q (Err e) f p = f p

-- `NoMemory` leaves a stage as it was, except for how its definitions are kept
pub stage_still : (r : Result (Option Reason) NoMemory) (s : Stage) → OnErr r (s ≡ record s { defs = s.defs })
stage_still (Ok x) s = tt
stage_still (Err e) s = refl

pub stage-kept : (r : Result (Option Reason) NoMemory) (old new : Stage) → UnlessFollowed r (new ≡ old) → OnErr r (new ≡ record old { defs = new.defs })
stage-kept (Ok x) old new same = tt
stage-kept (Err e) old new same = subst (λ (s : Stage). new ≡ record s { defs = new.defs }) same refl

pub stage-but : (r : Result (Option Reason) NoMemory) (P : Type 0) → P → OnErr r P
stage-but (Ok x) P p = tt
stage-but (Err e) P p = p

pub if-refused : (P : Type 0) (r : Result (Option Reason) NoMemory) → UnlessFollowed r P → IfRefused r P
if-refused P (Ok None) p = tt
if-refused P (Ok (Some reason)) p = p
if-refused P (Err e) p = tt
