use Rattle.std.proofs.Common.{◌≤◌, length, sym, ap, ◌∙◌, arith}
use Rattle.std.proofs.lemmas.Grind.{common_steps}
use Rattle.sn_world.specs.NewNodes.{new_group}
use Rattle.sn_world.proofs.Parsing.{after, triples-few}
use Rattle.sn_nodecmd.proofs.groups.groups_of.Goals as goal

pub returns-else-is_empty : goal.returns-else-is_empty
returns-else-is_empty c =
    let some : 1 ≤ length c.loop-rest.rest.now = grind (arith, common_steps) in
    sym (ap (after c.loop-rest.found.items) (triples-few (new_group c.args.parallel) c.loop-rest.rest.now some (omega arith))) ∙ c.loop-rest.invariant
