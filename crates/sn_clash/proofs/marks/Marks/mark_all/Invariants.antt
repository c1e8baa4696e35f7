-- What the uses that are left make of the marks is what all of them made of the first.
use Rattle.std.proofs.Common.{◌≡◌, drop}
use Rattle.sn_clash.specs.Marking.{mark_uses}
use Rattle.sn_clash.proofs.marks.Marks.mark_all.Given as goal

abbrev pub invariant-loop-used : goal.invariant-loop-used
invariant-loop-used l = mark_uses (drop l.used-index l.uses) l.self ≡ mark_uses l.uses l.fn.self
