-- A node that is added to a tree.
use Rattle.std.specs.Prelude.{ℤ, Bool, true, false}
use Rattle.sn_tree.specs.declared.node.NodeKind.{NodeKind}
use Rattle.sn_tree.specs.declared.node.AddAction.{AddAction}
use Rattle.sn_tree.specs.Model.{NodeTree}
use Rattle.sn_tree.specs.Steps.{inserted, detached}
use Rattle.sn_world.specs.declared.stage.Held.{Held}

-- If it takes the place of its target, that one is detached with all below it.
abbrev pub added : Bool → ℤ → NodeKind → AddAction → ℤ → Held → NodeTree Held → NodeTree Held
added true id kind action target held tree = detached target (inserted id kind action target held tree)
added false id kind action target held tree = inserted id kind action target held tree
