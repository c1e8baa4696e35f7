use Rattle.std.proofs.Common.{◌≤◌, length, sym, ap, ◌∙◌, arith}
use Rattle.std.proofs.lemmas.Grind.{common_steps}
use Rattle.sn_world.specs.Moving.{move_from}
use Rattle.sn_world.proofs.Parsing.{after, pairs-one}
use Rattle.sn_nodecmd.proofs.moving.moves.Goals as goal

pub returns-else-is_empty : goal.returns-else-is_empty
returns-else-is_empty c =
    let some : 1 ≤ length c.loop-rest.rest.now = grind (arith, common_steps) in
    sym (ap (after c.loop-rest.found.items) (pairs-one (move_from c.args.action) c.loop-rest.rest.now some (omega arith))) ∙ c.loop-rest.invariant
