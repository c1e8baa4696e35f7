use Rattle.std.proofs.Common.{◌≡◌, pos, ◌*ℤ◌, unsigned_abs, SFits, w64, to_z, of_z, arith, rules, ◌∙◌}
use Rattle.std.specs.Int.{int_rem_euclid, w128}
use Rattle.std.proofs.lemmas.Int.{to_z-of_z}
use Rattle.sn_fixed.specs.Fixed.{floor}
use Rattle.sn_fixed.proofs.Multiples.{divided_at}
use Rattle.sn_fixed.proofs.division.Division.of_multiple.Goals as goal

pub returns : goal.returns
returns c =
    let fits : SFits w64 c.portion.result = search rules in
    let wide : SFits w128 c.multiple.result = record { sfits = c.multiple.type_inv } in
    let whole : SFits w64 c.args.whole = c.ranges.whole in
    let height : c.portion.result ≡ floor (c.args.whole *ℤ pos c.args.k) c.args.n = grind (arith, to_z-of_z) in
    let rest : c.wide_remainder.result ≡ unsigned_abs (int_rem_euclid (c.args.whole *ℤ pos c.args.k) (pos c.args.n)) = grind (arith, to_z-of_z) in
    divided_at (c.args.whole *ℤ pos c.args.k) (to_z w64 (of_z w64 c.portion.result)) c.args.n c.wide_remainder.result c.requires.some (to_z-of_z w64 c.portion.result fits ∙ height) rest
