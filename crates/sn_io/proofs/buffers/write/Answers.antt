use Rattle.sn_io.specs.BuffersOverWords.{place_frames}
use Rattle.sn_io.proofs.Bounds.{indexed_within}
use Rattle.sn_io.proofs.buffers.write.Goals as goal

pub scatter-requires-clause-frames : goal.scatter-requires-clause-frames
scatter-requires-clause-frames g c = indexed_within (place_frames c.usable-place.result) c.frames_in.result c.args.inputs.now c.indexed-frames.result c.frames_in.ensures c.indexed-frames.ensures
