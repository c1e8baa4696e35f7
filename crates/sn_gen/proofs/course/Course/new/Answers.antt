use Rattle.std.proofs.Common.{◌≡◌, ℤ, ◌-ℤ◌, SFits, w32, w64, to_z, of_z, arith, rules, subst, ◌∙◌}
use Rattle.std.proofs.lemmas.Int.{to_z-of_z}
use Rattle.sn_fixed.specs.Divisions.{IsDivided}
use Rattle.sn_fixed.proofs.Multiples.{of_whole}
use Rattle.sn_gen.proofs.course.Course.new.Goals as goal

pub invariant_of-result : goal.invariant_of-result
invariant_of-result c =
    let start : SFits w32 c.args.line.start = search rules in
    let end : SFits w32 c.args.line.end = search rules in
    let fits : SFits w64 c.distance-whole.result = search rules in
    let whole : c.distance-whole.result ≡ c.args.line.end -ℤ c.args.line.start = grind (arith, to_z-of_z) in
    let w : ℤ = to_z w64 (of_z w64 c.distance-whole.result) in
    let d : ℤ = c.args.line.end -ℤ c.args.line.start in
    let n = c.args.line.frames in
    let is : w ≡ d = to_z-of_z w64 c.distance-whole.result fits ∙ whole in
    record {
      within = c.requires.within;
      reached = of_whole w d c.args.line.frame n c.of_multiple-gone.result.remainder c.of_multiple-gone.result.quotient is c.of_multiple-gone.ensures;
      grows = subst (λ z. IsDivided z n c.new-each.result.quotient c.new-each.result.remainder) is c.new-each.ensures;
    }
