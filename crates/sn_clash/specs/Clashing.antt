-- Which members of parallel groups clash.
use Rattle.std.specs.Prelude.{ℤ, Bool, true, false, ◌&&◌, if◌then◌else◌, List, [], ◌∷◌, ◌++◌, map, take}
use Rattle.std.specs.List.{filter, list_any}
use Rattle.sn_ports.specs.Limits.{audio_bus_count, control_bus_count, buffer_count}
use Rattle.sn_mem.specs.Blocks.{table}
use Rattle.sn_def.specs.declared.control.Control.{Control as SynthControl}
use Rattle.sn_def.specs.declared.unit.Unit.{Unit as UnitLine}
use Rattle.sn_tree.specs.declared.node.NodeKind.{NodeKind}
use Rattle.sn_tree.specs.declared.node.NodeKind.TheVariants as kinds
use Rattle.sn_tree.specs.Trees.{Label, Nodes, none, node, running_labels}
use Rattle.sn_world.specs.declared.stage.Stage.{Stage}
use Rattle.sn_world.specs.Nodes.{Content, group, synth}
use Rattle.sn_world.specs.World.{World}
use Rattle.sn_foot.specs.declared.resource.Resource.{Resource}
use Rattle.sn_foot.specs.declared.resource.Resource.TheVariants.{Audio, Control, Buffer}
use Rattle.sn_foot.specs.declared.uses.Role.{Role}
use Rattle.sn_foot.specs.declared.uses.Role.TheVariants.{Read, Write, Mix}
use Rattle.sn_foot.specs.Footprints.{Footprint, clash_on, is_there, synth_mixes, synth_reads, synth_writes}
use Rattle.sn_foot.specs.Uses.{held_uses}
use Rattle.sn_clash.specs.declared.clash.Clash.{Clash}

-- ---- resources

-- audio buses, control buses, and buffers, each by their numbers
unfoldable pub resources : List Resource
resources = table Audio audio_bus_count ++ (table Control control_bus_count ++ table Buffer buffer_count)

-- ---- members of a group

-- a member of a group, and what is used by all that the walk finds at it and below it
pub record Member : Type 0 where
  pub id : ℤ
  pub uses : Footprint

-- the clashes of a member with each of those after it, by the resources in their order
abbrev pub clashes_with : ℤ → Member → List Member → List Clash
clashes_with id a [] = []
clashes_with id a (b ∷ bs) =
    map (λ r. record { group = id; first = a.id; second = b.id; resource = r }) (filter (clash_on a.uses b.uses) resources)
    ++ clashes_with id a bs

-- all clashes of members, those of the first of them first
abbrev pub clashes_among : ℤ → List Member → List Clash
clashes_among id [] = []
clashes_among id (a ∷ bs) = clashes_with id a bs ++ clashes_among id bs

-- ---- nodes

abbrev pub is_parallel : NodeKind → Bool
is_parallel kinds.Synth = false
is_parallel kinds.Group = false
is_parallel kinds.Parallel = true

-- nodes with payloads of some sort, of which a test tells what each reads, writes and mixes
module _ {P : Type 0} (there : Resource → Bool) (uses : Role → P → Resource → Bool) where
  -- the resources that are there and that one of these reads, those that one of them writes, and those that one of them
  -- mixes
  abbrev pub footprint : List (Label P) → Footprint
  footprint labels = record {
    reads = λ r. there r && list_any (λ l. uses Read l.payload r) labels;
    writes = λ r. there r && list_any (λ l. uses Write l.payload r) labels;
    mixes = λ r. there r && list_any (λ l. uses Mix l.payload r) labels;
  }

  -- nodes beside each other: a paused one uses nothing
  abbrev pub members : Nodes P → List Member
  members none = []
  members (node label below after) = record { id = label.id; uses = footprint (running_labels (node label below none)) } ∷ members after

  -- the first clash of the members of each parallel group that the walk reaches, in the order of the walk
  abbrev pub clashes : Nodes P → List Clash
  clashes none = []
  clashes (node label below after) =
      if label.running
      then (if is_parallel label.kind then take 1 (clashes_among label.id (members below)) else []) ++ (clashes below ++ clashes after)
      else clashes after

-- ---- a world and a stage

abbrev pub synth_uses : Role → List UnitLine → List SynthControl → Resource → Bool
synth_uses Read units controls r = synth_reads units controls r
synth_uses Write units controls r = synth_writes units controls r
synth_uses Mix units controls r = synth_mixes units controls r

abbrev pub content_uses : Role → Content → Resource → Bool
content_uses role group r = false
content_uses role (synth s) r = synth_uses role s.definition.units s.controls r

abbrev pub clashes_of : World → List Clash
clashes_of w = clashes (is_there w.buffers) content_uses w.nodes

abbrev pub clashes_in : Stage → List Clash
clashes_in stage = clashes (is_there stage.buffers) held_uses stage.tree.attached
