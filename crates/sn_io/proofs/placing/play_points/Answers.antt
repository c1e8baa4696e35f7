use Rattle.std.proofs.Common.{◌<◌, length, refl, sym, arith}
use Rattle.sn_io.specs.Between.{play_buf_l}
use Rattle.sn_io.proofs.Walking.{walk_none, walk_step, long_set}
use Rattle.sn_io.proofs.placing.play_points.Goals as goal

pub loop-frame-init : goal.loop-frame-init
loop-frame-init g c = (refl, sym (walk_none (play_buf_l c.args.frames) c.load-state.result c.args.inputs.now))

pub loop-frame-preserved : goal.loop-frame-preserved
loop-frame-preserved g c =
    let i = c.loop-frame.invariant in
    let lt : c.loop-frame.frame < length c.loop-frame.points = omega (arith, i.0) in (
      long_set c.loop-frame.points c.loop-frame.frame c.next_point-point.result.1 64 i.0,
      walk_step (play_buf_l c.args.frames) c.load-state.result c.loop-frame.state c.next_point-point.result.0 c.next_point-point.result.1 c.args.inputs.now c.loop-frame.frame c.loop-frame.points lt i.1 c.next_point-point.ensures,
    )
