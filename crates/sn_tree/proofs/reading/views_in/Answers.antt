use Rattle.sn_tree.specs.Reading.{views_by}
use Rattle.sn_tree.proofs.ReadLaws.{views_step}
use Rattle.sn_tree.proofs.reading.views_in.Goals as goal

pub loop-row-preserved : goal.loop-row-preserved
loop-row-preserved c =
    views_step c.args.forest.now (views_by c.args.forest.now c.args.rows) c.loop-row.views.items c.add_view.new.views.items c.loop-row.row-iterator _ c.in-Some.row.key c.in-Some.row.item.now c.in-Some.ensures.steps c.loop-row.invariant c.in_ok-add_view.ensures
