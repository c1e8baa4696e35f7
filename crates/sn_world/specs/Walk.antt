-- One block of the walk over all nodes.
use Rattle.std.specs.Prelude.{ℕ, ℤ, if◌then◌else◌}
use Rattle.sn_mem.specs.Buffers.{Resources}
use Rattle.sn_synth.specs.Synths.{synth_block}
use Rattle.sn_tree.specs.Trees.{Nodes, none, node, with_payload}
use Rattle.sn_world.specs.Nodes.{Content, group, synth}
use Rattle.sn_world.specs.World.{World}

-- what a node holds after it ran by itself, and the buses and buffers
abbrev pub content_after : ℕ → ℕ → ℤ → Content → Resources → Content × Resources
content_after rate b id group resources = (group, resources)
content_after rate b id (synth s) resources =
    let r = synth_block rate b id s.definition s.controls resources s.state in
    (synth (record s { state = r.state }), r.resources)

-- nodes after their block, and the buses and buffers
pub record Walked : Type 0 where
  pub nodes : Nodes Content
  pub resources : Resources

-- A node that is paused changes nothing, and nothing below it runs. Any other runs by itself, and then the nodes below
-- it, in order.
abbrev pub walk_nodes : ℕ → ℕ → Nodes Content → Resources → Walked
walk_nodes rate b none resources = record { nodes = none; resources = resources }
walk_nodes rate b (node label below after) resources =
    if label.running
    then (let here = content_after rate b label.id label.payload resources in
    let inner = walk_nodes rate b below here.1 in
    let rest = walk_nodes rate b after inner.resources in
    record { nodes = node (with_payload here.0 label) inner.nodes rest.nodes; resources = rest.resources })
    else (let rest = walk_nodes rate b after resources in
    record { nodes = node label below rest.nodes; resources = rest.resources })

abbrev pub resources_in : World → Resources
resources_in w = record { buses = record { audio = w.audio_buses; control = w.control_buses }; buffers = w.buffers }

abbrev pub with_walked : World → Walked → World
with_walked w r = record w { nodes = r.nodes; audio_buses = r.resources.buses.audio; control_buses = r.resources.buses.control; buffers = r.resources.buffers }

-- the world after block b
abbrev pub walk : ℕ → World → World
walk b w = with_walked w (walk_nodes w.rate b w.nodes (resources_in w))
