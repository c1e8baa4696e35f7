-- Nodes of which nothing is told and nothing is done when a block is settled.
use Rattle.std.specs.Prelude.{Bool, true, false, not, ◌||◌, ◌&&◌, if◌then◌else◌, ℤ, Option, Some, None}
use Rattle.std.specs.List.{list_all}
use Rattle.sn_def.specs.declared.unit.Unit.{Unit as UnitLine}
use Rattle.sn_def.specs.Facts.{sends, done_action}
use Rattle.sn_tree.specs.Trees.{Nodes, none, node}
use Rattle.sn_def.specs.Defs.{definition_of}
use Rattle.sn_world.specs.declared.stage.Held.{Held}
use Rattle.sn_world.specs.declared.stage.Held.TheVariants as held
use Rattle.sn_world.specs.Nodes.{Content, group, synth}
use Rattle.sn_world.specs.Settling.{frees, pauses}

-- a unit that ends with this action pauses or frees its synth
abbrev pub acts : Option ℤ → Bool
acts None = false
acts (Some action) = pauses action || frees action

-- it sends no triggers, and neither pauses nor frees its synth
abbrev pub is_quiet_unit : UnitLine → Bool
is_quiet_unit u = not (sends u.kind) && not (acts (done_action u.kind u.inputs))

abbrev pub is_quiet_content : Content → Bool
is_quiet_content group = true
is_quiet_content (synth s) = list_all is_quiet_unit s.definition.units

abbrev pub is_quiet_held : Held → Bool
is_quiet_held held.Group = true
is_quiet_held (held.Synth def controls state) = list_all is_quiet_unit (definition_of def.value).units

-- each synth that runs is quiet
abbrev pub are_quiet : Nodes Content → Bool
are_quiet none = true
are_quiet (node label below after) = (if label.running then is_quiet_content label.payload && are_quiet below else true) && are_quiet after
