-- The nodes that the planner is given, as the value that the definitions speak of.
use Rattle.std.specs.Prelude.{◌≡◌}
use Rattle.sn_ports.specs.Limits.{audio_bus_count}
use Rattle.sn_mem.specs.Blocks.{table}
use Rattle.sn_graph.specs.declared.nodes.HeardNodes as given
use Rattle.sn_graph.specs.declared.nodes.HeardNodes.{HeardNodes as Given}
use Rattle.sn_graph.specs.Voices.{HeardNodes, none, synth, group}
use Rattle.sn_graph.specs.Sharing.{two_mix}

abbrev pub nodes_of : Given → HeardNodes
nodes_of (given.None) = none
nodes_of (given.Synth' s p rest) = synth s (nodes_of rest)
nodes_of (given.Group' joint p inner q rest) = group joint.lanes (nodes_of inner) (nodes_of rest)

-- each group knows the buses that two of its members mix
abbrev pub AreNoted : Given → Type 0
AreNoted (given.None) = Unit {0}
AreNoted (given.Synth' s p rest) = AreNoted rest
AreNoted (given.Group' joint p inner q rest) = (joint.shared ≡ table (two_mix (nodes_of inner)) audio_bus_count) × (AreNoted inner × AreNoted rest)
