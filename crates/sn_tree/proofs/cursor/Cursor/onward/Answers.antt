use Rattle.std.proofs.Common.{◌≤◌, ap, subst, sym}
use Rattle.sn_forest.specs.Trees.{uses}
use Rattle.sn_forest.specs.Walking.{from}
use Rattle.sn_tree.proofs.WalkLaws.{cursor_at, root_used, subtree_root}
use Rattle.sn_tree.proofs.cursor.Cursor.onward.Goals as goal

pub invariant_of-result : goal.invariant_of-result
invariant_of-result c =
    let u = root_used c.args.forest.now c.root-top.result c.root-top.ensures in
    (cursor_at c.args.forest.now c.root-top.result c.keys_differ.ensures u c.args.key (subst (λ t. 1 ≤ uses c.args.key t) (sym (subtree_root c.args.forest.now c.root-top.result c.root-top.ensures)) c.requires), u)

pub returns : goal.returns
returns c = ap (from c.args.key) (subtree_root c.args.forest.now c.root-top.result c.root-top.ensures)
