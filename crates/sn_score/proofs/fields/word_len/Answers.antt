use Rattle.std.proofs.Common.{◌==◌, length, unwrap_or, ap, ◌∙◌}
use Rattle.sn_osc.proofs.FirstPlace.{first_or_len}
use Rattle.sn_score.proofs.fields.word_len.Goals as goal

pub returns-clause-value : goal.returns-clause-value
returns-clause-value c =
    c.unwrap_or.ensures ∙ ap (λ o. unwrap_or o (length c.args.bytes.now)) c.first_space.ensures ∙ first_or_len (λ b. b == 32) c.args.bytes.now
