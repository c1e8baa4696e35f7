use Rattle.std.proofs.Common.{rules, ◌≡◌, refl, List, Some, Err, map, ap, sym, ◌∙◌}
use Rattle.std.specs.Option.{option_map}
use Rattle.std.specs.Borrow.{Bor}
use Rattle.sn_osc.specs.declared.packet.Arg.{Arg}
use Rattle.sn_osc.specs.Shape.{Argument, argument_of, body_of, message_of}
use Rattle.sn_world.specs.World.{Turn, turn_of}
use Rattle.sn_world.specs.Addresses.{node_command_of}
use Rattle.sn_world.specs.Commands.{node_row}
use Rattle.sn_nodecmd.proofs.RunningLemmas.{outcome-of_row}
use Rattle.sn_nodecmd.proofs.dispatch.run_node_command.Goals as goal

pub returns-in-Some-2-clause-row : goal.returns-in-Some-2-clause-row
returns-in-Some-2-clause-row g c =
    let xs : List Argument = map argument_of c.in-Some-arguments_of.arguments.now in
    let t : Turn = turn_of c.args.stage.now (g.P.Port.words c.args.port.now) c.args.replies.now in
    let asked : node_command_of (message_of c.args.message.now).address ≡ Some c.in-Some.command = ap node_command_of (sym c.as_slice.ensures) ∙ sym c.node_command_of.ensures ∙ c.in-Some.is in
    let refused : node_row c.in-Some.command c.args.from xs t ≡ Err c.in-Some-2.reason = search rules in
    outcome-of_row _ c.in-Some.command c.args.from (body_of c.args.message.now.body) _ xs t (Err c.in-Some-2.reason) asked c.arguments_of.ensures.arguments
    (ap (option_map (λ (ys : Bor (List Arg)). map argument_of ys.now)) c.in-Some-arguments_of.is) refused

pub returns-in-Some-2-clause-unchanged : goal.returns-in-Some-2-clause-unchanged
returns-in-Some-2-clause-unchanged g c =
    let stage : c.run_row.new.stage ≡ c.args.stage.now = search rules in
    let words : g.P.Port.words c.run_row.new.port ≡ g.P.Port.words c.args.port.now = search rules in
    let untold : c.run_row.new.replies ≡ c.args.replies.now = search rules in
    rw (stage, words, untold) refl
