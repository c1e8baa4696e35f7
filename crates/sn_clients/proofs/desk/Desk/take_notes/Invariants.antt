use Rattle.std.proofs.Common.{◌≡◌, ℕ, Bool, List, Option, length}
use Rattle.sn_clients.specs.Answers.{IsOutletOf, end_of, has_stopped}
use Rattle.sn_clients.specs.Looping.{IsPlaying, IsSteady, SameInlets}
use Rattle.sn_clients.specs.PlayMany.{Played}
use Rattle.sn_clients.proofs.desk.Desk.take_notes.Given as goal

abbrev pub invariant-loop : goal.invariant-loop
invariant-loop g l = record {
  outlet : IsOutletOf l.relay l.self.outlet;
  plays : (first : Played) (sinks_first : List g.row.R.Denot) (sound_first sound left_first left : Option (List ℕ)) (at_zero : Bool) → IsPlaying g.R.Sink.taken g.R.Sink.faults first sinks_first l.fn.sinks sound_first sound at_zero left_first left l.fn.self
      → IsPlaying g.R.Sink.taken g.R.Sink.faults first sinks_first l.sinks sound_first sound at_zero left_first left l.self;
  steady : IsSteady l.most (length l.sinks) l.self;
  inlets : SameInlets (end_of l.fn.self.outlet) (end_of l.self.outlet);
  stopped : has_stopped l.self.outlet ≡ has_stopped l.fn.self.outlet;
}
