-- `/g_queryTree`: what stands below groups.
use Rattle.std.specs.Prelude.{ℕ, zero, suc, ℤ, pos, negsuc, List, [], ◌∷◌, ◌++◌, Option, Some, None, Result, codes}
use Rattle.sn_osc.specs.Shape.{Argument, int, string, blob, arguments, MessageShape}
use Rattle.sn_reply.specs.declared.reason.Reason.{Reason}
use Rattle.sn_tree.specs.Trees.{Nodes, none, node, children}
use Rattle.sn_tree.specs.Members.{tops}
use Rattle.sn_world.specs.declared.tree_query.TreeQuery.{TreeQuery}
use Rattle.sn_world.specs.Nodes.{Content, group, synth}
use Rattle.sn_world.specs.World.{World, Turn, replied}
use Rattle.sn_world.specs.Emptying.{group_refusal}
use Rattle.sn_world.specs.Rows.{row, pairs, some_of}

-- a group, and the flag 0
abbrev pub tree_query : Argument → Argument → Option TreeQuery
tree_query (int id) (int (pos zero)) = Some (record { group = id })
tree_query (int id) (int (pos (suc n))) = None
tree_query (int id) (int (negsuc n)) = None
tree_query (int id) (string s) = None
tree_query (int id) (blob b) = None
tree_query (string s) y = None
tree_query (blob b) y = None

abbrev pub judge_tree : World → TreeQuery → Option Reason
judge_tree w r = group_refusal r.group w.nodes

-- a group and the number of its children, or a synth, -1 and the name of its definition
abbrev pub node_arguments : ℤ → Content → ℕ → List Argument
node_arguments id group children = int id ∷ int (pos children) ∷ []
node_arguments id (synth s) children = int id ∷ int (negsuc 0) ∷ string s.definition.name ∷ []

-- each of these nodes, in the order of the walk
abbrev pub listed : Nodes Content → List Argument
listed none = []
listed (node label below after) = node_arguments label.id label.payload (tops below) ++ (listed below ++ listed after)

-- `/g_queryTree.reply` 0, a group, the number of its children, and each node below it
abbrev pub tree_message : ℤ → Nodes Content → MessageShape
tree_message id below = record {
  address = codes "/g_queryTree.reply";
  body = arguments (int (pos 0) ∷ int id ∷ int (pos (tops below)) ∷ listed below);
}

abbrev pub act_tree : ℕ → TreeQuery → Turn → Turn
act_tree from r t = replied from (tree_message r.group (children r.group t.world.nodes)) t

-- `/g_queryTree` (group 0)..
abbrev pub tree_row : ℕ → List Argument → Turn → Result Turn Reason
tree_row from xs = row judge_tree (act_tree from) (some_of (pairs tree_query xs))
