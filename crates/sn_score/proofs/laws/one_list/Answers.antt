use Rattle.std.proofs.Common.{sym, ◌∙◌}
use Rattle.sn_score.proofs.Running.{score_read}
use Rattle.sn_score.proofs.Answering.{ok_is}
use Rattle.sn_score.proofs.laws.one_list.Goals as goal

pub returns : goal.returns
returns c = λ text xs ys a b. ok_is xs ys (sym (score_read text xs a) ∙ score_read text ys b)
