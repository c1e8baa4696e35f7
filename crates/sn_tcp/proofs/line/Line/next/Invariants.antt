-- Nothing was consumed and nothing was given so far.
use Rattle.std.proofs.Common.{◌≡◌}
use Rattle.std.specs.Io.KnownBytes.{Keeps}
use Rattle.sn_tcp.proofs.line.Line.next.Given as goal

abbrev pub invariant-loop : goal.invariant-loop
invariant-loop g l = record {
  kept : Keeps (g.S.Read.remaining l.fn.self.socket) (g.S.Read.remaining l.self.socket);
  rate : l.self.pace.rate ≡ l.fn.self.pace.rate;
  given : l.self.pace.given ≡ l.fn.self.pace.given;
}
