use Rattle.sn_mem.specs.Blocks.{window}
use Rattle.sn_io.specs.BuffersOverWords.{place_frames}
use Rattle.sn_io.proofs.Bounds.{play_within}
use Rattle.sn_io.proofs.buffers.play.Goals as goal

pub gather-requires-clause-frames : goal.gather-requires-clause-frames
gather-requires-clause-frames g c = play_within (place_frames c.usable-place.result) c.frames_in.result (window (g.P.Port.words c.args.port.now) c.args.at 4) c.args.inputs.now c.walk_frames-frames.result c.frames_in.ensures c.walk_frames-frames.ensures.frames
