use Rattle.std.proofs.Common.{◌≡◌}
use Rattle.sn_clients.specs.Answers.{IsInletOf, sender_of}
use Rattle.sn_clients.proofs.reading.put_frame.Given as goal

abbrev pub invariant-loop : goal.invariant-loop
invariant-loop g l = IsInletOf l.relay l.inlet × (sender_of l.inlet ≡ sender_of l.fn.inlet) × (l.frame ≡ l.fn.frame)
