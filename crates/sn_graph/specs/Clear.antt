-- When members of a group clash, and when none do.
use Rattle.std.specs.Prelude.{◌≡◌, ◌⊎◌, ℤ, true, false, List, map, Option, Some}
use Rattle.std.specs.Option.{option_map}
use Rattle.sn_mem.specs.declared.buffers.BufferPlace.{BufferPlace}
use Rattle.sn_tree.specs.declared.node.NodeKind.TheVariants.{Parallel}
use Rattle.sn_tree.specs.Trees.{Nodes, none, node, children, label_of, running_labels}
use Rattle.sn_world.specs.declared.stage.Held.{Held}
use Rattle.sn_foot.specs.Footprints.{Clash, footprint_of, is_reached}
use Rattle.sn_graph.specs.Plans.{is_listed}

-- what the walk finds there
abbrev pub held_of : Nodes Held → List Held
held_of nodes = map (λ l. l.payload) (running_labels nodes)

module _ (buffers : List (Option BufferPlace)) where
  -- these clash with none of the nodes beside each other, each with all below it
  abbrev pub ClashesWithNone : List Held → Nodes Held → Type 0
  ClashesWithNone hs none = Unit {0}
  ClashesWithNone hs (node label below after) = (Clash (footprint_of buffers hs) (footprint_of buffers (held_of (node label below none))) → ⊥) × ClashesWithNone hs after

  -- no two of the nodes beside each other clash
  abbrev pub NoneClash : Nodes Held → Type 0
  NoneClash none = Unit {0}
  NoneClash (node label below after) = ClashesWithNone (held_of (node label below none)) after × NoneClash after

  -- Each parallel group that the walk reaches and of which two members clash is listed.
  abbrev pub AreListed : List ℤ → Nodes Held → Type 0
  AreListed clashing none = Unit {0}
  AreListed clashing (node label below after) =
      (label.running ≡ true → (label.kind ≡ Parallel → is_listed clashing label.id ≡ false → NoneClash below) × AreListed clashing below)
      × AreListed clashing after

  -- these clash with one of the nodes beside each other, with all below it
  abbrev pub ClashesWithOne : List Held → Nodes Held → Type 0
  ClashesWithOne hs none = ⊥
  ClashesWithOne hs (node label below after) = Clash (footprint_of buffers hs) (footprint_of buffers (held_of (node label below none))) ⊎ ClashesWithOne hs after

  -- two of the nodes beside each other clash, each with all below it
  abbrev pub TwoClash : Nodes Held → Type 0
  TwoClash none = ⊥
  TwoClash (node label below after) = ClashesWithOne (held_of (node label below none)) after ⊎ TwoClash after

  -- The node with this id is a parallel group that the walk reaches, and two of its members clash.
  pub record IsClashing (nodes : Nodes Held) (id : ℤ) : Type 0 where
    pub reached : is_reached id nodes ≡ true
    pub parallel : option_map (λ l. l.kind) (label_of id nodes) ≡ Some Parallel
    pub two : TwoClash (children id nodes)
