use Rattle.std.proofs.Common.{◌≡◌, ◌++◌}
use Rattle.sn_nodecmd.specs.Describing.{described, HaveFew}
use Rattle.sn_nodecmd.proofs.describing.push_members.Given as goal

abbrev pub invariant-loop-member : goal.invariant-loop-member
invariant-loop-member l = record {
  few : HaveFew l.member-iterator;
  told : l.answer ++ described l.member-iterator ≡ l.fn.answer ++ described l.fn.members;
}
