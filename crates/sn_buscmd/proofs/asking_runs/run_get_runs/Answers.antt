use Rattle.std.proofs.Common.{◌≡◌, ◌≤◌, Some, ◌∙◌, ap, map, length, arith}
use Rattle.sn_osc.specs.Shape.{argument_of}
use Rattle.sn_world.specs.Rows.{pairs, some_of}
use Rattle.sn_world.specs.Runs.{place_run}
use Rattle.sn_world.proofs.Parsing.{pairs-few_of}
use Rattle.sn_buscmd.proofs.asking_runs.run_get_runs.Goals as goal

pub answer-requires-clause-few : goal.answer-requires-clause-few
answer-requires-clause-few g c =
    let read : Some c.deref-3.result.now ≡ some_of (pairs place_run (map argument_of c.args.arguments.now)) = ap Some c.deref-3.ensures.value ∙ c.in-Some.ensures ∙ ap some_of c.in_ok-pairs.ensures in
    let few : length c.deref-3.result.now ≤ length c.args.arguments.now = pairs-few_of place_run c.args.arguments.now c.deref-3.result.now read in
    omega arith
