use Rattle.sn_tree.proofs.WalkLaws.{cursor_start, cursor_all}
use Rattle.sn_tree.proofs.cursor.Cursor.new.Goals as goal

pub invariant_of-result : goal.invariant_of-result
invariant_of-result c = (cursor_start c.args.forest.now c.args.top c.keys_differ.ensures c.requires, c.requires)

pub returns : goal.returns
returns c = cursor_all c.args.forest.now c.args.top c.keys_differ.ensures c.requires
