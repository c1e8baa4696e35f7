use Rattle.std.proofs.Common.{map, subst}
use Rattle.sn_osc.specs.Shape.{shape}
use Rattle.sn_osc.specs.Frames.{Frames}
use Rattle.sn_render.proofs.gathering.gathered.Goals as goal

pub returns-in-Ok-decode_stream-clause-packets : goal.returns-in-Ok-decode_stream-clause-packets
returns-in-Ok-decode_stream-clause-packets g c = record {
  bytes = c.in-Ok.bytes.items;
  told = c.in-Ok.ensures.bytes;
  size = c.in-Ok.ensures.size;
  frames = subst (Frames (map shape c.in-Ok-decode_stream.packets.items)) c.deref.ensures.value c.in-Ok-decode_stream.ensures.found;
}
