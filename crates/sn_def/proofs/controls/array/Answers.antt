use Rattle.std.proofs.Common.{◌≡◌, length, ap, ◌∙◌, arith}
use Rattle.sn_def.specs.Answers.{texts}
use Rattle.sn_def.proofs.Fielding.{as_many}
use Rattle.sn_def.proofs.Forming.{as_many_defaults}
use Rattle.sn_def.proofs.controls.array.Goals as goal

pub with_array-requires-clause-some : goal.with_array-requires-clause-some
with_array-requires-clause-some c =
    let fields = c.args.literals.now in
    let many = as_many_defaults (texts fields) c.in_ok-defaults.defaults.items c.in_ok-defaults.ensures in
    let same : length c.deref.result.now ≡ length fields = ap length c.deref.ensures.value ∙ many ∙ as_many fields in
    omega (arith, same, c.requires)

pub with_array-requires-clause-few : goal.with_array-requires-clause-few
with_array-requires-clause-few c =
    let fields = c.args.literals.now in
    let many = as_many_defaults (texts fields) c.in_ok-defaults.defaults.items c.in_ok-defaults.ensures in
    let same : length c.deref.result.now ≡ length fields = ap length c.deref.ensures.value ∙ many ∙ as_many fields in
    omega (arith, same, c.in_ok-judge_array.ensures.few)

pub with_array-requires-clause-room : goal.with_array-requires-clause-room
with_array-requires-clause-room c =
    let fields = c.args.literals.now in
    let many = as_many_defaults (texts fields) c.in_ok-defaults.defaults.items c.in_ok-defaults.ensures in
    let same : length c.deref.result.now ≡ length fields = ap length c.deref.ensures.value ∙ many ∙ as_many fields in
    omega (arith, same, c.in_ok-judge_array.ensures.room)
