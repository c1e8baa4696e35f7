use Rattle.std.proofs.Common.{◌≡◌, ℕ, List, Option, Some, None, Result, subst, sym, ap, ◌∙◌, map}
use Rattle.std.specs.Option.{option_map}
use Rattle.std.specs.Borrow.{Bor}
use Rattle.sn_osc.specs.declared.packet.Arg.{Arg}
use Rattle.sn_osc.specs.Shape.{Argument, argument_of, body_of, message_of}
use Rattle.sn_reply.specs.declared.reason.Reason.{Reason}
use Rattle.sn_world.specs.Ending.{Next}
use Rattle.sn_world.specs.World.{Turn, turn_of}
use Rattle.sn_world.specs.Completing.{carried}
use Rattle.sn_world.specs.Addresses.{server_command_of}
use Rattle.sn_world.specs.Answers.{Handles, IsNext}
use Rattle.sn_buscmd.proofs.RunningLemmas.{outcome-with, next-given}
use Rattle.sn_buscmd.proofs.dispatch.run_bus_command.Goals as goal

pub returns-in-None-clause-row : goal.returns-in-None-clause-row
returns-in-None-clause-row g c =
    let xs : List Argument = map argument_of c.in-Some-arguments_of.arguments.now in
    let asked : server_command_of (message_of c.args.message.now).address ≡ Some c.in-Some.command = ap server_command_of (sym c.as_slice.ensures) ∙ sym c.server_command_of.ensures ∙ c.in-Some.is in
    let none : carried c.in-Some.command xs ≡ None = sym c.carried.ensures ∙ ap (option_map (λ (b : Bor (List ℕ)). b.now)) c.in-None.is in
    let outcome = outcome-with _ c.in-Some.command c.args.from (body_of c.args.message.now.body) _ xs None (turn_of c.args.stage.now (g.P.Port.words c.args.port.now) c.args.replies.now) asked c.arguments_of.ensures.arguments
    (ap (option_map (λ (ys : Bor (List Arg)). map argument_of ys.now)) c.in-Some-arguments_of.is) none in
    subst (λ (o : Option (Result Turn Reason)). Handles c.run_alone.result o (turn_of c.run_alone.new.stage (g.P.Port.words c.run_alone.new.port) c.run_alone.new.replies)) (sym outcome) c.run_alone.ensures.row

pub returns-in-None-clause-next : goal.returns-in-None-clause-next
returns-in-None-clause-next g c =
    let xs : List Argument = map argument_of c.in-Some-arguments_of.arguments.now in
    let asked : server_command_of (message_of c.args.message.now).address ≡ Some c.in-Some.command = ap server_command_of (sym c.as_slice.ensures) ∙ sym c.server_command_of.ensures ∙ c.in-Some.is in
    let none : carried c.in-Some.command xs ≡ None = sym c.carried.ensures ∙ ap (option_map (λ (b : Bor (List ℕ)). b.now)) c.in-None.is in
    let next = next-given _ c.in-Some.command (body_of c.args.message.now.body) _ xs None asked c.arguments_of.ensures.arguments
    (ap (option_map (λ (ys : Bor (List Arg)). map argument_of ys.now)) c.in-Some-arguments_of.is) none in
    subst (λ (n : Next). IsNext c.run_alone.result n) (sym next) c.run_alone.ensures.next

pub returns-in-Some-carried-clause-row : goal.returns-in-Some-carried-clause-row
returns-in-Some-carried-clause-row g c =
    let xs : List Argument = map argument_of c.in-Some-arguments_of.arguments.now in
    let asked : server_command_of (message_of c.args.message.now).address ≡ Some c.in-Some.command = ap server_command_of (sym c.as_slice.ensures) ∙ sym c.server_command_of.ensures ∙ c.in-Some.is in
    let blob : carried c.in-Some.command xs ≡ Some c.in-Some-carried.blob.now = sym c.carried.ensures ∙ ap (option_map (λ (b : Bor (List ℕ)). b.now)) c.in-Some-carried.is in
    let outcome = outcome-with _ c.in-Some.command c.args.from (body_of c.args.message.now.body) _ xs (Some c.in-Some-carried.blob.now) (turn_of c.args.stage.now (g.P.Port.words c.args.port.now) c.args.replies.now) asked c.arguments_of.ensures.arguments
    (ap (option_map (λ (ys : Bor (List Arg)). map argument_of ys.now)) c.in-Some-arguments_of.is) blob in
    subst (λ (o : Option (Result Turn Reason)). Handles c.run_carrying.result o (turn_of c.run_carrying.new.stage (g.P.Port.words c.run_carrying.new.port) c.run_carrying.new.replies)) (sym outcome) c.run_carrying.ensures.row

pub returns-in-Some-carried-clause-next : goal.returns-in-Some-carried-clause-next
returns-in-Some-carried-clause-next g c =
    let xs : List Argument = map argument_of c.in-Some-arguments_of.arguments.now in
    let asked : server_command_of (message_of c.args.message.now).address ≡ Some c.in-Some.command = ap server_command_of (sym c.as_slice.ensures) ∙ sym c.server_command_of.ensures ∙ c.in-Some.is in
    let blob : carried c.in-Some.command xs ≡ Some c.in-Some-carried.blob.now = sym c.carried.ensures ∙ ap (option_map (λ (b : Bor (List ℕ)). b.now)) c.in-Some-carried.is in
    let next = next-given _ c.in-Some.command (body_of c.args.message.now.body) _ xs (Some c.in-Some-carried.blob.now) asked c.arguments_of.ensures.arguments
    (ap (option_map (λ (ys : Bor (List Arg)). map argument_of ys.now)) c.in-Some-arguments_of.is) blob in
    subst (λ (n : Next). IsNext c.run_carrying.result n) (sym next) c.run_carrying.ensures.next
