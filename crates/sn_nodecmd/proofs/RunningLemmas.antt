-- A message that is run by its row.
use Rattle.std.proofs.Common.{◌≡◌, ℕ, List, [], Option, Some, Result, ap, ◌∙◌}
use Rattle.sn_osc.specs.Shape.{Argument, BodyShape, bare, arguments, foreign}
use Rattle.sn_reply.specs.declared.reason.Reason.{Reason}
use Rattle.sn_world.specs.declared.command.NodeCommand.{NodeCommand}
use Rattle.sn_world.specs.World.{Turn}
use Rattle.sn_world.specs.Commands.{ArgumentsOf, with_arguments, node_row, node_outcome}

with-given : (body : BodyShape) (given : Option (List Argument)) (xs : List Argument) (run : List Argument → Turn → Result Turn Reason) (t : Turn) → ArgumentsOf body given → given ≡ Some xs → with_arguments body run t ≡ run xs t
with-given bare given xs run t is e = let same : xs ≡ [] = cc in ap (λ ys. run ys t) cc
with-given (arguments ys) given xs run t is e = let same : Some xs ≡ Some ys = cc in ap (λ zs. run zs t) cc
with-given (foreign tags rest) given xs run t is e = absurd cc

-- the outcome of a message is that of its command's row
pub outcome-of_row : (asked : Option NodeCommand) (command : NodeCommand) (from : ℕ) (body : BodyShape) (given : Option (List Argument)) (xs : List Argument) (t : Turn) (r : Result Turn Reason)
    → asked ≡ Some command → ArgumentsOf body given → given ≡ Some xs → node_row command from xs t ≡ r → node_outcome asked from body t ≡ Some r
outcome-of_row asked command from body given xs t r is_command is_body is_given is =
    ap (λ o. node_outcome o from body t) is_command ∙ ap Some (with-given body given xs (node_row command from) t is_body is_given ∙ is)
