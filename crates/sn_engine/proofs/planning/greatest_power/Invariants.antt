-- A power so far.
use Rattle.std.proofs.Common.{◌≤◌, ◌-◌}
use Rattle.sn_engine.proofs.planning.greatest_power.Given as goal

abbrev pub invariant-loop-power : goal.invariant-loop-power
invariant-loop-power l = record {
  some : 2 ≤ l.power;
  most : l.power ≤ l.most;
}

abbrev pub decreases-loop-power : goal.decreases-loop-power
decreases-loop-power l = l.most - l.power
