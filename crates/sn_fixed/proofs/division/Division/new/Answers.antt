use Rattle.std.proofs.Common.{◌≡◌, pos, unsigned_abs, SFits, w64, to_z, of_z, arith, rules, ◌∙◌}
use Rattle.std.specs.Int.{int_rem_euclid}
use Rattle.std.proofs.lemmas.Int.{to_z-of_z}
use Rattle.sn_fixed.specs.Fixed.{floor}
use Rattle.sn_fixed.proofs.Multiples.{divided_at}
use Rattle.sn_fixed.proofs.division.Division.new.Goals as goal

pub returns : goal.returns
returns c =
    let fits : SFits w64 c.part.result = search rules in
    let whole : SFits w64 c.args.whole = c.ranges.whole in
    let quotient : c.part.result ≡ floor c.args.whole c.args.n = grind (arith, to_z-of_z) in
    let rest : c.remainder.result ≡ unsigned_abs (int_rem_euclid c.args.whole (pos c.args.n)) = grind (arith, to_z-of_z) in
    divided_at c.args.whole (to_z w64 (of_z w64 c.part.result)) c.args.n c.remainder.result c.requires.some (to_z-of_z w64 c.part.result fits ∙ quotient) rest
