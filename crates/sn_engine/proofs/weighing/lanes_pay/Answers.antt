use Rattle.std.proofs.Common.{◌-◌, ap, sym, ◌∙◌}
use Rattle.sn_engine.specs.Weighing.{all_more}
use Rattle.sn_world.specs.World.{world_of}
use Rattle.sn_engine.proofs.WeighingLemmas.{nodes_more, pays}
use Rattle.sn_engine.proofs.weighing.lanes_pay.Goals as goal

pub returns-then-workers-ge2 : goal.returns-then-workers-ge2
returns-then-workers-ge2 c = λ words.
    pays c.args.workers c.units_left.result (all_more (world_of c.args.stage.now words).nodes) c.if-workers-ge2.true
    (c.units_left.ensures ∙ ap (λ n. 128 - n) (sym (nodes_more words c.args.stage.now.tree.attached)))
