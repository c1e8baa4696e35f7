use Rattle.std.proofs.Common.{◌≡◌, sym, subst, ◌∙◌}
use Rattle.sn_osc.specs.Frames.{Frames}
use Rattle.sn_score.proofs.Answering.{ok_is}
use Rattle.sn_score.proofs.Running.{score_read}
use Rattle.sn_score.proofs.Streaming.{one_stream}
use Rattle.sn_score.proofs.laws.back_again.Goals as goal

pub returns : goal.returns
returns c = λ stream text again xs ys a s t b.
    let same : ys ≡ xs = ok_is ys xs (sym (score_read text ys t) ∙ score_read text xs s) in
    one_stream xs again stream (subst (λ zs. Frames zs again) same b) a
