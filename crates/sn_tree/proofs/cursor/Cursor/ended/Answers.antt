use Rattle.sn_tree.proofs.WalkLaws.{cursor_end, root_used}
use Rattle.sn_tree.proofs.cursor.Cursor.ended.Goals as goal

pub invariant_of-result : goal.invariant_of-result
invariant_of-result c = (cursor_end c.args.forest.now c.root-top.result, root_used c.args.forest.now c.root-top.result c.root-top.ensures)
