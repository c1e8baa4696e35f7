use Rattle.sn_mem.specs.Blocks.{window}
use Rattle.sn_io.specs.BuffersOverWords.{place_frames}
use Rattle.sn_io.proofs.Bounds.{placing_within}
use Rattle.sn_io.proofs.buffers.play_between.Goals as goal

pub gather_between-requires-clause-points : goal.gather_between-requires-clause-points
gather_between-requires-clause-points g c = placing_within (place_frames c.usable-place.result) c.frames_in.result (window (g.P.Port.words c.args.port.now) c.args.at 4) c.args.inputs.now c.play_points-points.result c.frames_in.ensures c.play_points-points.ensures.points
