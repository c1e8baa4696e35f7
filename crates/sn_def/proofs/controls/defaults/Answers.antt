use Rattle.std.proofs.Common.{◌≡◌, ◌<◌, ◌≤◌, ◌∷◌, ◌++◌, [], length, sym, ap, ◌∙◌}
use Rattle.std.specs.Int.{w32}
use Rattle.std.proofs.lemmas.Int.{to_z-of_z}
use Rattle.std.proofs.lemmas.Result.{err_from_is_err_and}
use Rattle.sn_def.specs.declared.fault.Refused.TheVariants as refused
use Rattle.sn_def.specs.Answers.{texts}
use Rattle.sn_def.proofs.Fielding.{text_there, as_many}
use Rattle.sn_def.proofs.DefaultsLoop.{goes_on, ends, is_done}
use Rattle.sn_def.proofs.controls.defaults.Goals as goal

pub returns-in_err-value : goal.returns-in_err-value
returns-in_err-value c =
    let p = err_from_is_err_and c.from_residual.result c.from_residual.ensures.1 in
    let fields = c.args.literals.now in
    let lt : c.loop-field.field-index < length (texts fields) = rw (as_many fields) c.loop-field-test.true in
    rw (p.1, p.2) (ends (refused.Because _) c.loop-field.values.items (texts fields) c.loop-field.field-index _ lt (rw (text_there fields c.loop-field.field-index) (sym c.in_err-value.ensures.value)) c.loop-field.invariant)

pub loop-field-preserved : goal.loop-field-preserved
loop-field-preserved c =
    let fields = c.args.literals.now in
    let lt : c.loop-field.field-index < length (texts fields) = rw (as_many fields) c.loop-field-test.true in
    let x = c.in_ok-value.value in
    let pushed : c.push.new.self.items ≡ c.loop-field.values.items ++ x ∷ [] = c.in_ok-push.ensures.items ∙ ap (λ v. c.loop-field.values.items ++ v ∷ []) (to_z-of_z w32 x c.in_ok-value.ensures.fits) in
    rw pushed (goes_on c.loop-field.values.items (texts fields) c.loop-field.field-index x _ lt (rw (text_there fields c.loop-field.field-index) (sym c.in_ok-value.ensures.value)) c.loop-field.invariant)

pub returns : goal.returns
returns c =
    let le : length (texts c.args.literals.now) ≤ c.loop-field.field-index = rw (as_many c.args.literals.now) c.loop-field-test.false in
    is_done c.loop-field.values.items (texts c.args.literals.now) c.loop-field.field-index _ le c.loop-field.invariant
