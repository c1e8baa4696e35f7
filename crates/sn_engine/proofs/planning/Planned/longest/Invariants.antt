use Rattle.std.proofs.Common.{◌≤◌}
use Rattle.sn_engine.proofs.planning.Planned.longest.Given as goal

abbrev pub invariant-loop-span : goal.invariant-loop-span
invariant-loop-span l = l.longest ≤ l.most
