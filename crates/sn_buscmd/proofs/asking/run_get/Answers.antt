use Rattle.std.proofs.Common.{◌≡◌, ◌≤◌, Some, ◌∙◌, ap, map, length, arith}
use Rattle.sn_osc.specs.Shape.{argument_of}
use Rattle.sn_world.specs.Rows.{singles, some_of}
use Rattle.sn_world.specs.Buses.{bus_number}
use Rattle.sn_world.proofs.Parsing.{singles-few_of}
use Rattle.sn_buscmd.proofs.asking.run_get.Goals as goal

pub answer-requires-clause-few : goal.answer-requires-clause-few
answer-requires-clause-few g c =
    let read : Some c.deref-2.result.now ≡ some_of (singles bus_number (map argument_of c.args.arguments.now)) = ap Some c.deref-2.ensures.value ∙ c.in-Some.ensures ∙ ap some_of c.in_ok-singles.ensures in
    let few : length c.deref-2.result.now ≤ length c.args.arguments.now = singles-few_of bus_number c.args.arguments.now c.deref-2.result.now read in
    omega arith
