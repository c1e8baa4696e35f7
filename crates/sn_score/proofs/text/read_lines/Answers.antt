use Rattle.std.proofs.Common.{◌≡◌, ◌<◌, ◌≤◌, ◌+◌, length, ap, sym, subst, ◌∙◌, arith, map}
use Rattle.std.proofs.lemmas.Result.{err_from_is_err_and}
use Rattle.sn_osc.specs.Shape.{shape}
use Rattle.sn_score.specs.Reached.{at_end}
use Rattle.sn_score.specs.Answers.{Reads, reached, texts}
use Rattle.sn_score.proofs.Answering.{as_many, text_there, fault_from}
use Rattle.sn_score.proofs.Loops.{last_line, goes_on, no_line}
use Rattle.sn_score.proofs.text.read_lines.Goals as goal

pub returns-then-at-lines : goal.returns-then-at-lines
returns-then-at-lines c =
    let lines = c.args.lines.now in
    let i = c.loop-at.at in
    let last : i + 1 ≡ length (texts lines) = omega (arith, as_many lines, c.if-at-lines.true) in
    let is = last_line (reached c.loop-at.draft) (texts lines) i c.loop-at.number _ last c.loop-at.invariant.read in
    subst (Reads (λ v. map shape v.items) c.end.result) (sym (is ∙ ap (at_end (reached c.loop-at.draft) c.loop-at.number) (text_there lines i))) c.end.ensures

pub returns-in_err-draft : goal.returns-in_err-draft
returns-in_err-draft c =
    let p = err_from_is_err_and c.from_residual.result c.from_residual.ensures.1 in
    let lines = c.args.lines.now in
    let i = c.loop-at.at in
    let more : i + 1 < length (texts lines) = omega (arith, as_many lines, c.loop-at-test.true, c.if-at-lines.false) in
    rw (p.1, p.2) (fault_from _ (reached c.loop-at.draft) (texts lines) i c.loop-at.number _ more (rw (text_there lines i) c.in_err-draft.ensures) c.loop-at.invariant.read)

pub loop-at-preserved : goal.loop-at-preserved
loop-at-preserved c =
    let lines = c.args.lines.now in
    let i = c.loop-at.at in
    let more : i + 1 < length (texts lines) = omega (arith, as_many lines, c.loop-at-test.true, c.if-at-lines.false) in
    record {
      read = goes_on (reached c.loop-at.draft) (reached c.in_ok-draft.draft) (texts lines) i c.loop-at.number _ more (rw (text_there lines i) c.in_ok-draft.ensures) c.loop-at.invariant.read;
      count = omega (arith, c.loop-at.invariant.count);
    }

pub returns : goal.returns
returns c =
    let lines = c.args.lines.now in
    let le : length (texts lines) ≤ c.loop-at.at = omega (arith, as_many lines, c.loop-at-test.false) in
    no_line (reached c.loop-at.draft) (texts lines) c.loop-at.at c.loop-at.number _ le c.loop-at.invariant.read
