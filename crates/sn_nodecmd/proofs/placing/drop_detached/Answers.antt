use Rattle.std.proofs.Common.{ap, arith}
use Rattle.sn_tree.specs.Trees.{count}
use Rattle.sn_tree.specs.Model.{NodeTree}
use Rattle.sn_world.specs.declared.stage.Held.{Held}
use Rattle.sn_world.proofs.FreedLemmas.{first_count}
use Rattle.sn_nodecmd.proofs.placing.drop_detached.Goals as goal

pub loop-ended-smaller-in-Some : goal.loop-ended-smaller-in-Some
loop-ended-smaller-in-Some c = omega (arith, first_count c.loop-ended.tree.detached c.in-Some._ended c.in-Some.ensures.value, ap (λ (t : NodeTree Held). count t.detached) c.in-Some.ensures.rest)

pub loop-ended-smaller : goal.loop-ended-smaller
loop-ended-smaller c = omega (arith, first_count c.loop-ended.tree.detached c.in-Some._ended c.in-Some.ensures.value, ap (λ (t : NodeTree Held). count t.detached) c.in-Some.ensures.rest)
