use Rattle.std.proofs.Common.{◌≡◌, ◌≤◌, ◌+◌, take, drop, length}
use Rattle.sn_def.specs.StateWords.{units_words}
use Rattle.sn_synth.specs.Words.{after_units, begun, Going}
use Rattle.sn_synth.proofs.Stepping.{Ahead}
use Rattle.sn_synth.proofs.units.run_units.Given as goal

abbrev pub invariant-loop-unit : goal.invariant-loop-unit
invariant-loop-unit g l = record {
  going : ◌≡◌ {A = Going} (record { words = g.P.Port.words l.port; wires = l.scratch.wires; at = l.place; number = l.number })
      (after_units l.now.rate l.now.block l.now.node l.buffers l.initial.scratch.values (take l.unit-index l.units) (begun (g.P.Port.words l.initial.port) l.at));
  ahead : Ahead l.now.rate (length l.initial.scratch.values) (length l.scratch.wires) l.place (l.at + units_words l.now.rate l.units) (drop l.unit-index l.units);
  low : l.at ≤ l.place;
  count : l.number ≡ l.unit-index;
  values : l.scratch.values ≡ l.initial.scratch.values;
  foot : g.P.Port.foot l.port ≡ g.P.Port.foot l.initial.port;
  rest : g.P.Port.rest l.port ≡ g.P.Port.rest l.initial.port;
}
