use Rattle.std.proofs.Common.{◌≡◌, take}
use Rattle.sn_machine.specs.Steps.{debts_of}
use Rattle.sn_machine.proofs.worker.debts_of.Given as goal

abbrev pub invariant-loop-successor : goal.invariant-loop-successor
invariant-loop-successor l = l.debts ≡ debts_of l.job (take l.successor-index l.successors)
