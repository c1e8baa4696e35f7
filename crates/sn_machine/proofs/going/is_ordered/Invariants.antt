use Rattle.sn_machine.proofs.going.is_ordered.Given as goal

abbrev pub invariant-loop-before : goal.invariant-loop-before
invariant-loop-before l = Unit {0}
