-- The labels of the nodes of a walk, each with the number of nodes just below it.
use Rattle.std.specs.Prelude.{ℕ}
use Rattle.sn_tree.specs.Trees.{Label}
use Rattle.sn_world.specs.declared.stage.Held.{Held}
use Rattle.sn_tree.specs.declared.members.Member.{Member}

abbrev pub label_in : Member Held → Label Held
label_in m = record { id = m.id; kind = m.kind; running = m.running; payload = m.payload.now }

abbrev pub row_of : Member Held → Label Held × ℕ
row_of m = (label_in m, m.children)
