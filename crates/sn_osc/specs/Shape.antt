-- What a packet is, without where it lies in memory.
use Rattle.std.specs.Prelude.{ℕ, ℤ, List, [], ◌∷◌, map}
use Rattle.sn_osc.specs.declared.packet.Arg.{Arg}
use Rattle.sn_osc.specs.declared.packet.Arg.TheVariants as args
use Rattle.sn_osc.specs.declared.packet.Body.{Body}
use Rattle.sn_osc.specs.declared.packet.Body.TheVariants as bodies
use Rattle.sn_osc.specs.declared.packet.Message.{Message as PacketMessage}
use Rattle.sn_osc.specs.declared.packet.Packet.{Packet, Message, Bundle', Row_of-Packet, end_of-Packet, more_of-Packet}

pub data Argument : Type 0 where
  int : ℤ → Argument
  string : List ℕ → Argument
  blob : List ℕ → Argument

-- what follows a message's address: nothing, arguments, or tags of which some are foreign, with the bytes after them
pub data BodyShape : Type 0 where
  bare : BodyShape
  arguments : List Argument → BodyShape
  foreign : List ℕ → List ℕ → BodyShape

pub record MessageShape : Type 0 where
  pub address : List ℕ
  pub body : BodyShape

mutual
  -- a message, or a bundle: its time tag and its elements
  pub data Shape : Type 0 where
    message : MessageShape → Shape
    bundle : ℕ → Shapes → Shape

  pub data Shapes : Type 0 where
    none : Shapes
    more : Shape → Shapes → Shapes

abbrev pub argument_of : Arg → Argument
argument_of (args.Int n) = int n
argument_of (args.Text t) = string t.bytes
argument_of (args.Blob t) = blob t.bytes

abbrev pub body_of : Body → BodyShape
body_of bodies.Bare = bare
body_of (bodies.Args xs) = arguments (map argument_of xs)
body_of (bodies.Foreign tags rest) = foreign tags.bytes rest.bytes

abbrev pub message_of : PacketMessage → MessageShape
message_of m = record { address = m.address.bytes; body = body_of m.body }

abbrev pub shapes_from : List Shape → Shapes
shapes_from [] = none
shapes_from (x ∷ xs) = more x (shapes_from xs)

abbrev mutual
  -- the shape of a packet
  pub shape : Packet → Shape
  shape (Message m) = message (message_of m)
  shape (Bundle' tag room all) = bundle tag (row_shapes all)

  pub row_shapes : {m : _} → Row_of-Packet m → Shapes
  row_shapes end_of-Packet = none
  row_shapes (more_of-Packet packet rest) = more (shape packet) (row_shapes rest)

-- the shapes of a bundle's elements
abbrev pub shapes : List Packet → Shapes
shapes packets = shapes_from (map shape packets)
