use Rattle.sn_mem.specs.Blocks.{window}
use Rattle.sn_io.specs.BuffersOverWords.{place_frames}
use Rattle.sn_io.proofs.Bounds.{record_within}
use Rattle.sn_io.proofs.buffers.record.Goals as goal

pub scatter-requires-clause-frames : goal.scatter-requires-clause-frames
scatter-requires-clause-frames g c = record_within (place_frames c.usable-place.result) c.frames_in.result (window (g.P.Port.words c.args.port.now) c.args.at 2) c.args.inputs.now c.walk_frames-frames.result c.frames_in.ensures c.walk_frames-frames.ensures.frames
