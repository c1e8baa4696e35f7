-- What was written and what the engine still holds play on to the same end.
use Rattle.std.proofs.Common.{◌≡◌, ◌≤◌, ◌-◌}
use Rattle.sn_render.specs.Going.{IsGoing}
use Rattle.sn_render.specs.Faults.{NothingFailed}
use Rattle.sn_render.proofs.rendering.render_blocks.Given as goal

abbrev pub invariant-loop-done : goal.invariant-loop-done
invariant-loop-done g l = record {
  count : l.done ≡ l.engine.running.block;
  going : IsGoing l.fn.engine.running l.blocks (l.blocks - l.done) (g.O.Sink.taken l.fn.sound) (g.O.Sink.taken l.sound) (g.R.Sink.taken l.fn.replies) (g.R.Sink.taken l.replies) l.engine.running;
  sound_later : g.O.Sink.faults l.fn.sound ≤ g.O.Sink.faults l.sound;
  reply_later : g.R.Sink.faults l.fn.replies ≤ g.R.Sink.faults l.replies;
  still : NothingFailed (g.O.Sink.faults l.fn.sound) (g.O.Sink.faults l.sound) (g.R.Sink.faults l.fn.replies) (g.R.Sink.faults l.replies);
}

abbrev pub decreases-loop-done : goal.decreases-loop-done
decreases-loop-done g l = l.blocks - l.done
