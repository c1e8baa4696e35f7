-- The blocks that are left give what all of them gave at first.
use Rattle.std.proofs.Common.{◌≡◌, ◌+◌, ℕ, List, Option, length}
use Rattle.sn_engine.specs.Running.{Running}
use Rattle.sn_engine.specs.declared.standing.Standing.TheVariants.{Settled}
use Rattle.sn_clients.specs.Written.{IsGoing}
use Rattle.sn_clients.proofs.TickLemmas.{TicksLeft}
use Rattle.sn_clients.proofs.playing.play_blocks.Given as goal

abbrev pub invariant-loop : goal.invariant-loop
invariant-loop g l = record {
  plays : (sinks_first : List g.row.R.Denot) (sound_first : Option (List ℕ)) (r : Running) → IsGoing g.R.Sink.taken g.R.Sink.faults sinks_first l.fn.sinks l.fn.failed sound_first (g.O.Sink.taken l.fn.sound) r l.fn.engine.running
      → TicksLeft g.R.Sink.taken g.R.Sink.faults sinks_first l.sinks l.failed sound_first (g.O.Sink.taken l.sound) l.count l.counter r l.engine.running;
  settled : l.engine.running.standing ≡ Settled;
  block : l.engine.running.block ≡ l.fn.engine.running.block + l.counter;
  puts : l.engine.running.waiting.puts ≡ l.fn.engine.running.waiting.puts;
  clients : length l.engine.running.replies ≡ length l.fn.engine.running.replies;
  flags : length l.failed ≡ length l.fn.failed;
  sinks : length l.sinks ≡ length l.fn.sinks;
  still : g.O.Sink.faults l.sound ≡ g.O.Sink.faults l.fn.sound;
}
