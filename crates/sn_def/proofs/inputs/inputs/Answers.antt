use Rattle.std.proofs.Common.{◌<◌, ◌≤◌, length, sym}
use Rattle.std.proofs.lemmas.Result.{err_from_is_err_and}
use Rattle.sn_def.specs.declared.fault.Refused.TheVariants as refused
use Rattle.sn_def.specs.Answers.{texts}
use Rattle.sn_def.proofs.Fielding.{text_there, as_many}
use Rattle.sn_def.proofs.InputLoop.{goes_on, ends, is_done}
use Rattle.sn_def.proofs.inputs.inputs.Goals as goal

pub returns-in_err-input : goal.returns-in_err-input
returns-in_err-input c =
    let p = err_from_is_err_and c.from_residual.result c.from_residual.ensures.1 in
    let fields = c.args.fields.now in
    let lt : c.loop-at.at < length (texts fields) = rw (as_many fields) c.loop-at-test.true in
    rw (p.1, p.2) (ends (refused.Because _) c.args.draft.now c.args.marks.now c.loop-at.inputs.items (texts fields) c.loop-at.at _ lt (rw (text_there fields c.loop-at.at, ← c.mark_at.ensures) (sym c.in_err-input.ensures)) c.loop-at.invariant)

pub loop-at-preserved : goal.loop-at-preserved
loop-at-preserved c =
    let fields = c.args.fields.now in
    let lt : c.loop-at.at < length (texts fields) = rw (as_many fields) c.loop-at-test.true in
    rw c.in_ok-push.ensures.items (goes_on c.args.draft.now c.args.marks.now c.loop-at.inputs.items (texts fields) c.loop-at.at _ _ lt (rw (text_there fields c.loop-at.at, ← c.mark_at.ensures) (sym c.in_ok-input.ensures)) c.loop-at.invariant)

pub returns : goal.returns
returns c =
    let le : length (texts c.args.fields.now) ≤ c.loop-at.at = rw (as_many c.args.fields.now) c.loop-at-test.false in
    rw c.from_vec.ensures (is_done c.args.draft.now c.args.marks.now c.loop-at.inputs.items (texts c.args.fields.now) c.loop-at.at _ le c.loop-at.invariant)
