-- The bytes read so far are the frames of the packets so far.
use Rattle.std.proofs.Common.{◌≡◌, ◌≤◌, List, ℕ, ◌++◌, length, map}
use Rattle.sn_osc.specs.Shape.{shape}
use Rattle.sn_osc.specs.Frames.{Frames}
use Rattle.sn_render.proofs.stream.decode_frames.Given as goal

abbrev pub invariant-loop-rest : goal.invariant-loop-rest
invariant-loop-rest l = record {
  front : List ℕ;
  parts : l.bytes ≡ front ++ l.rest;
  frames : Frames (map shape l.packets.items) front;
  few : length l.packets.items ≤ length front;
}

abbrev pub decreases-loop-rest : goal.decreases-loop-rest
decreases-loop-rest l = length l.rest
