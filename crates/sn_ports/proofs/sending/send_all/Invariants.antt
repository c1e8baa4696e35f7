-- What is gone from the rest was sent, and no event was taken.
use Rattle.std.proofs.Common.{◌≡◌, ◌≤◌, ℕ, List, ◌++◌, length}
use Rattle.std.specs.Io.KnownBytes.{Appends}
use Rattle.sn_ports.specs.Links.{KeepsEvents}
use Rattle.sn_ports.proofs.sending.send_all.Given as goal

abbrev pub invariant-loop-rest : goal.invariant-loop-rest
invariant-loop-rest g l = record {
  done : List ℕ;
  parts : l.piece ≡ done ++ l.rest;
  taken : Appends (g.L.Link.sent l.fn.link) (g.L.Link.sent l.link) done;
  events : KeepsEvents (g.L.Link.left l.fn.link) (g.L.Link.left l.link);
  later : g.L.Link.faults l.fn.link ≤ g.L.Link.faults l.link;
  still : g.L.Link.faults l.link ≡ g.L.Link.faults l.fn.link;
  unasked : length l.piece ≡ 0 → l.link ≡ l.fn.link;
}

abbrev pub decreases-loop-rest : goal.decreases-loop-rest
decreases-loop-rest g l = length l.rest
