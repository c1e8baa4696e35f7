use Rattle.std.proofs.Common.{◌≡◌, ℕ, List, Option, length}
use Rattle.sn_clients.specs.Answers.{IsInletOf, sender_of}
use Rattle.sn_clients.specs.Reading.{IsReading}
use Rattle.sn_clients.proofs.reading.put_frames.Given as goal

abbrev pub invariant-loop-framer : goal.invariant-loop-framer
invariant-loop-framer g l = record {
  inlet : IsInletOf l.relay l.inlet;
  client : (sender_of l.inlet).client ≡ (sender_of l.initial.inlet).client;
  read : (first left : Option (List ℕ)) → IsReading first left (sender_of l.initial.inlet).frames l.initial.framer → IsReading first left (sender_of l.inlet).frames l.framer;
}

abbrev pub decreases-loop-framer : goal.decreases-loop-framer
decreases-loop-framer g l = length l.framer.kept
