-- How much of the journal's room is taken by nodes that are taken out.
use Rattle.std.specs.Prelude.{◌+◌, ◌≤◌}
use Rattle.sn_tree.specs.Trees.{count}
use Rattle.sn_tree.specs.Model.{NodeTree}
use Rattle.sn_world.specs.declared.stage.Held.{Held}
use Rattle.sn_nodecmd.specs.Folding.{room_in}

-- no more than there are nodes that were taken out
abbrev pub SparesRoom : NodeTree Held → NodeTree Held → Type 0
SparesRoom old new = room_in old.journal + count new.attached ≤ room_in new.journal + count old.attached
