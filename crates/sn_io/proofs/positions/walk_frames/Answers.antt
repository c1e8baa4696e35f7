use Rattle.std.proofs.Common.{◌<◌, length, refl, sym, arith}
use Rattle.sn_io.proofs.Walking.{walk_none, walk_step, long_set}
use Rattle.sn_io.proofs.positions.walk_frames.Goals as goal

pub loop-frame-init : goal.loop-frame-init
loop-frame-init g c = (refl, sym (walk_none (g.U.FrameStep.step c.args.unit.now) c.load-state.result c.args.inputs.now))

pub loop-frame-preserved : goal.loop-frame-preserved
loop-frame-preserved g c =
    let i = c.loop-frame.invariant in
    let lt : c.loop-frame.frame < length c.loop-frame.frames = omega (arith, i.0) in (
      long_set c.loop-frame.frames c.loop-frame.frame c.next-after.result.1 64 i.0,
      walk_step (g.U.FrameStep.step c.args.unit.now) c.load-state.result c.loop-frame.state c.next-after.result.0 c.next-after.result.1 c.args.inputs.now c.loop-frame.frame c.loop-frame.frames lt i.1 c.next-after.ensures,
    )
