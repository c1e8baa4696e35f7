-- The units so far are settled, and what is left of them makes of the words what all of them make of the first.
use Rattle.std.proofs.Common.{◌≡◌, drop}
use Rattle.sn_world.specs.Settling.{settled_units}
use Rattle.sn_settle.proofs.Reading.{place_of}
use Rattle.sn_settle.proofs.words.settle_units.Given as goal

abbrev pub invariant-loop-unit : goal.invariant-loop-unit
invariant-loop-unit g l = record {
  words : settled_units l.rate (drop l.unit-index l.units) (place_of l.rate l.units l.at l.unit-index) (g.P.Port.words l.port) ≡ settled_units l.rate l.units l.at (g.P.Port.words l.fn.port);
  count : l.number ≡ l.unit-index;
  foot : g.P.Port.foot l.port ≡ g.P.Port.foot l.fn.port;
  rest : g.P.Port.rest l.port ≡ g.P.Port.rest l.fn.port;
}
