use Rattle.std.proofs.Common.{◌≡◌, ◌++◌, drop}
use Rattle.sn_report.specs.Reports.{more_words}
use Rattle.sn_report.proofs.words.put_more.Given as goal

abbrev pub invariant-loop-resource : goal.invariant-loop-resource
invariant-loop-resource l = l.out.bytes ++ more_words (drop l.resource-index l.resources) ≡ l.fn.out.bytes ++ more_words l.resources
