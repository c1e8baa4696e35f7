use Rattle.std.proofs.Common.{◌≡◌, ◌++◌, drop}
use Rattle.sn_report.specs.Reports.{id_words}
use Rattle.sn_report.proofs.words.put_ids.Given as goal

abbrev pub invariant-loop-id : goal.invariant-loop-id
invariant-loop-id l = l.out.bytes ++ id_words (drop l.id-index l.ids) ≡ l.fn.out.bytes ++ id_words l.ids
