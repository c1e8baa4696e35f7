use Rattle.std.proofs.Common.{SFits, w32, rules, ap, ◌∙◌, unsigned_abs}
use Rattle.std.proofs.lemmas.Int.{to_z-of_z}
use Rattle.sn_filt.proofs.PlainLoops.{size_of_equal}
use Rattle.sn_filt.proofs.blockwise.size.Goals as goal

pub returns-in-Some : goal.returns-in-Some
returns-in-Some c =
    let value_fits : SFits w32 c.in-Some.value = search rules in
    size_of_equal c.args.inputs.now c.args.number c.in-Some.value c.unsigned_abs.result c.in-Some.ensures (c.unsigned_abs.ensures.value ∙ ap unsigned_abs (to_z-of_z w32 c.in-Some.value value_fits))
