use Rattle.sn_io.specs.BuffersOverWords.{place_frames}
use Rattle.sn_io.proofs.Bounds.{scaled_within}
use Rattle.sn_io.proofs.buffers.read_between.Goals as goal

pub gather_between-requires-clause-points : goal.gather_between-requires-clause-points
gather_between-requires-clause-points g c = scaled_within (place_frames c.usable-place.result) c.frames_in.result c.args.inputs.now c.scaled_points-points.result c.frames_in.ensures c.scaled_points-points.ensures
