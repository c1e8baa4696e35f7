-- What messages from client 0 do, one after the other, in a world that was just opened: at 48,000 frames a second, with
-- 65,536 words in the pool, for one client.
use Prim.Native.String.{String}
use Rattle.std.specs.Prelude.{List, [], ◌∷◌, map, ℤ, codes}
use Rattle.sn_osc.specs.Shape.{MessageShape, int, string, arguments}
use Rattle.sn_tree.specs.Trees.{ids}
use Rattle.sn_world.specs.World.{Turn}
use Rattle.sn_world.specs.Opening.{opening}
use Rattle.sn_world.specs.Commands.{command}
use Rattle.sn_world.specs.Buses.{value_of}
use Rattle.sn_examples.specs.Values.{samples}

-- a message of whole numbers, and one of strings
abbrev pub called : String → String → MessageShape
called address numbers = record { address = codes address; body = arguments (map int (samples numbers)) }

abbrev pub saying : String → List String → MessageShape
saying address words = record { address = codes address; body = arguments (map (λ word. string (codes word)) words) }

abbrev pub opened : Turn
opened = record { world = opening 48000 65536 1; replies = [] }

abbrev pub after : List MessageShape → Turn → Turn
after [] t = t
after (m ∷ ms) t = after ms (command 0 m t)

-- the messages that are sent back
abbrev pub answers : List MessageShape → List MessageShape
answers ms = map (λ reply. reply.message) (after ms opened).replies

-- the value of a control bus after them
abbrev pub bus_after : List MessageShape → ℤ → ℤ
bus_after ms bus = value_of (after ms opened).world.control_buses bus

-- the ids of all nodes after them, in the order in which nodes run
abbrev pub nodes_after : List MessageShape → List ℤ
nodes_after ms = ids (after ms opened).world.nodes
