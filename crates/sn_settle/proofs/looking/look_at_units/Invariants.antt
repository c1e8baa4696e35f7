-- What the units so far have left, and what is left to look at.
use Rattle.std.proofs.Common.{◌≡◌, drop}
use Rattle.sn_world.specs.Settling.{unit_triggers, unit_endings}
use Rattle.sn_settle.proofs.Sending.{IsUnderway}
use Rattle.sn_settle.proofs.Reading.{place_of}
use Rattle.sn_settle.proofs.looking.look_at_units.Given as goal

abbrev pub invariant-loop-unit : goal.invariant-loop-unit
invariant-loop-unit g l =
    let ws = g.P.Port.words l.fn.port in
    let now = l.now in
    let here = place_of now.rate l.units l.at l.unit-index in
    record {
      underway : IsUnderway l.flags (unit_triggers now.rate now.block now.node l.units l.at ws) (unit_triggers now.rate now.block now.node (drop l.unit-index l.units) here ws) (unit_endings now.rate now.node l.units l.at ws) (unit_endings now.rate now.node (drop l.unit-index l.units) here ws) l.fn.outs l.outs l.fn.endings l.endings;
      count : l.number ≡ l.unit-index;
      words : g.P.Port.words l.port ≡ ws;
      foot : g.P.Port.foot l.port ≡ g.P.Port.foot l.fn.port;
      rest : g.P.Port.rest l.port ≡ g.P.Port.rest l.fn.port;
    }
