-- What was put, and what is left.
use Rattle.std.proofs.Common.{◌≡◌, ◌++◌, drop}
use Rattle.sn_calls.proofs.rounds.predecessors.Given as goal

abbrev pub invariant-loop-number : goal.invariant-loop-number
invariant-loop-number l = l.jobs ++ drop l.number-index l.numbers ≡ l.numbers
