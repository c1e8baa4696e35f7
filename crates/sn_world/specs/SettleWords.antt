-- What happens after a block, as what it reads of the memory words and does to them.
use Rattle.std.specs.Prelude.{ℕ, ◌+◌, ℤ, Option, Some, None, if◌then◌else◌, List, [], ◌∷◌, ◌++◌}
use Rattle.sn_def.specs.declared.unit.Unit.{Unit as UnitLine}
use Rattle.sn_def.specs.Defs.{definition_of}
use Rattle.sn_def.specs.Facts.{sends, done_action}
use Rattle.sn_reply.specs.declared.events.Notice.{Notice}
use Rattle.sn_tree.specs.Trees.{Label}
use Rattle.sn_world.specs.declared.stage.Held.{Held}
use Rattle.sn_world.specs.declared.stage.Held.TheVariants as held
use Rattle.sn_world.specs.declared.endings.Ending.{Ending}
use Rattle.sn_world.specs.Settling.{unit_triggers, unit_endings, settled_units}

abbrev pub held_triggers : ℕ → ℕ → ℤ → Held → List ℕ → List Notice
held_triggers rate b id held.Group ws = []
held_triggers rate b id (held.Synth def controls state) ws = unit_triggers rate b id (definition_of def.value).units state.at ws

abbrev pub held_endings : ℕ → ℤ → Held → List ℕ → List Ending
held_endings rate id held.Group ws = []
held_endings rate id (held.Synth def controls state) ws = unit_endings rate id (definition_of def.value).units state.at ws

abbrev pub settled_held : ℕ → Held → List ℕ → List ℕ
settled_held rate held.Group ws = ws
settled_held rate (held.Synth def controls state) ws = settled_units rate (definition_of def.value).units state.at ws

-- of nodes that run, one after the other
abbrev pub walk_triggers : ℕ → ℕ → List (Label Held) → List ℕ → List Notice
walk_triggers rate b [] ws = []
walk_triggers rate b (l ∷ ls) ws = held_triggers rate b l.id l.payload ws ++ walk_triggers rate b ls ws

abbrev pub walk_endings : ℕ → List (Label Held) → List ℕ → List Ending
walk_endings rate [] ws = []
walk_endings rate (l ∷ ls) ws = held_endings rate l.id l.payload ws ++ walk_endings rate ls ws

abbrev pub settled_walk : ℕ → List (Label Held) → List ℕ → List ℕ
settled_walk rate [] ws = ws
settled_walk rate (l ∷ ls) ws = settled_walk rate ls (settled_held rate l.payload ws)

-- ---- how much may come of a block

abbrev pub one_if_some : {A : Type 0} → Option A → ℕ
one_if_some None = 0
one_if_some (Some x) = 1

-- a unit that sends gives one trigger, and one that ends has one end
abbrev pub unit_room : UnitLine → ℕ
unit_room u = (if sends u.kind then 1 else 0) + one_if_some (done_action u.kind u.inputs)

abbrev pub units_room : List UnitLine → ℕ
units_room [] = 0
units_room (u ∷ us) = unit_room u + units_room us

abbrev pub held_room : Held → ℕ
held_room held.Group = 0
held_room (held.Synth def controls state) = units_room (definition_of def.value).units

abbrev pub walk_room : List (Label Held) → ℕ
walk_room [] = 0
walk_room (l ∷ ls) = held_room l.payload + walk_room ls
