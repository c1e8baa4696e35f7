-- `/status`: how much the server holds.
use Rattle.std.specs.Prelude.{ℕ, ◌+◌, pos, if◌then◌else◌, nat_le, List, [], ◌∷◌, length, Result, Ok, Err, codes}
use Rattle.std.specs.FinMap as finite
use Rattle.sn_osc.specs.Shape.{Argument, int, arguments, MessageShape}
use Rattle.sn_reply.specs.declared.reason.Reason.{Reason}
use Rattle.sn_reply.specs.declared.reason.Reason.TheVariants.{Arguments}
use Rattle.sn_tree.specs.Trees.{Nodes, none, node}
use Rattle.sn_world.specs.Nodes.{Content, group, synth}
use Rattle.sn_world.specs.World.{World, Turn, replied}

abbrev pub units_of : Content → ℕ
units_of group = 0
units_of (synth s) = length s.definition.units

abbrev pub synths_of : Content → ℕ
synths_of group = 0
synths_of (synth s) = 1

abbrev pub groups_of : Content → ℕ
groups_of group = 1
groups_of (synth s) = 0

-- of all nodes together, running or not
abbrev pub total : (Content → ℕ) → Nodes Content → ℕ
total weight none = 0
total weight (node label below after) = weight label.payload + (total weight below + total weight after)

-- a count as a reply says it
abbrev pub capped : ℕ → ℕ
capped n = if nat_le n 2147483647 then n else 2147483647

-- `/status.reply` 1 and how many units, synths, groups with the root, and definitions there are
abbrev pub status_message : World → MessageShape
status_message w = record {
  address = codes "/status.reply";
  body = arguments (int (pos 1) ∷ int (pos (capped (total units_of w.nodes))) ∷ int (pos (capped (total synths_of w.nodes))) ∷ int (pos (capped (total groups_of w.nodes))) ∷ int (pos (capped (finite.len w.definitions))) ∷ []);
}

-- `/status`
abbrev pub status_row : ℕ → List Argument → Turn → Result Turn Reason
status_row from [] t = Ok (replied from (status_message t.world) t)
status_row from (x ∷ xs) t = Err Arguments
