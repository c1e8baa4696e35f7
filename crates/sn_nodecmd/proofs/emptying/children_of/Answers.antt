use Rattle.std.proofs.Common.{pos, w32, rules}
use mir.Val.{SFits}
use Rattle.std.proofs.lemmas.Int.{to_z-of_z}
use Rattle.sn_tree.specs.Trees.{children}
use Rattle.sn_tree.specs.Below.{top_ids}
use Rattle.sn_tree.proofs.Gathering.{tops_apart}
use Rattle.sn_nodecmd.proofs.EmptyingLemmas.{all_apart}
use Rattle.sn_nodecmd.proofs.emptying.children_of.Goals as goal

pub returns-clause-apart : goal.returns-clause-apart
returns-clause-apart c =
    let fit : SFits w32 c.args.group.now.id = search rules in
    all_apart c.children.result (λ ids. ids.items) (top_ids (children c.args.group.now.id c.args.tree.now.attached))
    (tops_apart (pos 0) (children c.args.group.now.id c.args.tree.now.attached) (simp to_z-of_z at c.root_is_on_top.ensures))
    (simp to_z-of_z at c.children.ensures)
