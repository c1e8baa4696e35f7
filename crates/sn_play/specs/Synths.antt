-- The synths of the walk.
use Rattle.std.specs.Prelude.{List, map, Option}
use Rattle.std.specs.List.{filter}
use Rattle.sn_mem.specs.declared.buffers.BufferPlace.{BufferPlace}
use Rattle.sn_tree.specs.Trees.{Label, running_labels}
use Rattle.sn_world.specs.Pictures.{has_synth}
use Rattle.sn_world.specs.declared.stage.Held.{Held}
use Rattle.sn_world.specs.declared.stage.Stage.{Stage}
use Rattle.sn_graph.specs.declared.nodes.Voice.{Voice}
use Rattle.sn_graph.specs.Stages.{voice_of}

-- those of these nodes that hold a synth, in their order
abbrev pub synths_in : List (Label Held) → List (Label Held)
synths_in ls = filter (λ l. has_synth l.payload) ls

-- the synths that the walk of a stage runs
abbrev pub walk_synths : Stage → List (Label Held)
walk_synths stage = synths_in (running_labels stage.tree.attached)

-- synths with the words that they may touch
abbrev pub voices_of : List (Option BufferPlace) → List (Label Held) → List Voice
voices_of buffers ls = map (λ l. voice_of buffers l.id l.payload) ls
