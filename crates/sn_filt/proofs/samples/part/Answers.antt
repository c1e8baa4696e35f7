use Rattle.std.proofs.Common.{◌≡◌, ℤ, ◌*ℤ◌, SFits, w32, w64, to_z, of_z, rules, ap, ◌∙◌}
use Rattle.std.proofs.lemmas.Int.{to_z-of_z}
use Rattle.sn_fixed.specs.Fixed.{floor}
use Rattle.sn_filt.proofs.PlainLoops.{read_times}
use Rattle.sn_filt.proofs.Limits.{part_is}
use Rattle.sn_filt.proofs.samples.part.Goals as goal

pub returns : goal.returns
returns c =
    let product : to_z w64 (of_z w64 c.times.result) ≡ c.args.x *ℤ c.args.gain = read_times c.args.x c.args.gain c.times.result c.ranges.x c.ranges.gain c.times.ensures.value in
    let fits : SFits w32 c.scaled_down.result = search rules in
    to_z-of_z w32 c.scaled_down.result fits ∙ (c.scaled_down.ensures ∙ (ap (λ (z : ℤ). floor z 16777216) product ∙ part_is c.args.x c.args.gain c.ranges.x c.requires.low c.requires.high))
