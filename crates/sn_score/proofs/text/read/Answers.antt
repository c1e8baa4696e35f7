use Rattle.std.proofs.Common.{◌≡◌, length, sym, ap, ◌∙◌, arith}
use Rattle.sn_score.specs.Reached.{pieces}
use Rattle.sn_score.specs.Answers.{texts}
use Rattle.sn_score.proofs.Answering.{as_many, few_pieces}
use Rattle.sn_score.proofs.text.read.Goals as goal

pub read_lines-requires : goal.read_lines-requires
read_lines-requires c =
    let lines = c.deref.result.now in
    let same : texts lines ≡ pieces c.args.text.now = ap texts c.deref.ensures.value ∙ c.in_ok-pieces.ensures in
    let count : length lines ≡ length (pieces c.args.text.now) = sym (as_many lines) ∙ ap length same in
    omega (arith, c.requires, few_pieces c.args.text.now, count)
