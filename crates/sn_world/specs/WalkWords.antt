-- The walk of a block, as what it does to the memory words.
use Rattle.std.specs.Prelude.{ℕ, ℤ, List, [], ◌∷◌, Option}
use Rattle.sn_def.specs.Defs.{definition_of}
use Rattle.sn_mem.specs.declared.buffers.BufferPlace.{BufferPlace}
use Rattle.sn_synth.specs.Words.{synth_words}
use Rattle.sn_tree.specs.Trees.{Label}
use Rattle.sn_world.specs.declared.stage.Held.{Held}
use Rattle.sn_world.specs.declared.stage.Held.TheVariants as held

-- the words after a node ran by itself, with the buffers at their places
abbrev pub held_words : ℕ → ℕ → ℤ → List (Option BufferPlace) → Held → List ℕ → List ℕ
held_words rate b id places held.Group ws = ws
held_words rate b id places (held.Synth def controls state) ws = synth_words rate b id (definition_of def.value) controls places state.at ws

-- after nodes that run, one after the other
abbrev pub walk_words : ℕ → ℕ → List (Option BufferPlace) → List (Label Held) → List ℕ → List ℕ
walk_words rate b places [] ws = ws
walk_words rate b places (l ∷ ls) ws = walk_words rate b places ls (held_words rate b l.id places l.payload ws)
