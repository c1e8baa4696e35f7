-- Nodes that run by their ids.
use Rattle.std.specs.Prelude.{ℕ, ℤ, List, [], ◌∷◌, Option, Some, None}
use Rattle.std.specs.Option.{option_map}
use Rattle.sn_mem.specs.declared.extents.Foot.{Foot}
use Rattle.sn_tree.specs.Trees.{label_of}
use Rattle.sn_world.specs.Pictures.{IsApart, IsHeld}
use Rattle.sn_world.specs.WalkWords.{held_words}
use Rattle.sn_world.specs.declared.stage.Held.{Held}
use Rattle.sn_world.specs.declared.stage.Held.TheVariants as held
use Rattle.sn_world.specs.declared.stage.Stage.{Stage}
use Rattle.sn_foot.specs.Suffices.{Suffices}

abbrev pub or_group : Option Held → Held
or_group None = held.Group
or_group (Some h) = h

-- what the attached node of an id holds: nothing, as of a group, if there is no such node
abbrev pub held_at : Stage → ℤ → Held
held_at stage id = or_group (option_map (λ l. l.payload) (label_of id stage.tree.attached))

-- the words after the nodes of some ids ran in block b, one after the other
abbrev pub words_by_ids : Stage → ℕ → List ℤ → List ℕ → List ℕ
words_by_ids stage b [] ws = ws
words_by_ids stage b (id ∷ ids) ws = words_by_ids stage b ids (held_words stage.rate b id stage.buffers (held_at stage id) ws)

-- what a node of a stage holds can run over a foot
pub record CanRun (stage : Stage) (foot : Foot) (h : Held) : Type 0 where
  pub is_held : IsHeld stage.rate stage.pool.region h
  pub is_apart : IsApart stage.buffers h
  pub suffices : Suffices foot stage.buffers h
