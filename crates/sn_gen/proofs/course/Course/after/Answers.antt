use Rattle.std.proofs.Common.{◌≡◌, ℤ, pos, ◌+◌, ◌-ℤ◌, ◌*ℤ◌, SFits, w32, to_z, of_z, arith, rules, ap, sym, subst, ◌∙◌}
use Rattle.std.proofs.lemmas.Int.{to_z-of_z}
use Rattle.sn_fixed.specs.Divisions.{IsDivided}
use Rattle.sn_fixed.proofs.Multiples.{far, bounded, next_part, once}
use Rattle.sn_gen.proofs.course.Course.after.Goals as goal

pub plus-requires-clause-first : goal.plus-requires-clause-first
plus-requires-clause-first c =
    let s = c.args.self in
    let start : SFits w32 c.args.self.line.start = search rules in
    let end : SFits w32 c.args.self.line.end = search rules in
    bounded (s.line.end -ℤ s.line.start) s.gone.quotient s.line.frame s.line.frames s.gone.remainder 8589934592 s.within (far s.line.start s.line.end start end) s.reached

pub plus-requires-clause-second : goal.plus-requires-clause-second
plus-requires-clause-second c =
    let s = c.args.self in
    let start : SFits w32 c.args.self.line.start = search rules in
    let end : SFits w32 c.args.self.line.end = search rules in
    once (s.line.end -ℤ s.line.start) s.each.quotient s.line.frames s.each.remainder 8589934592 (far s.line.start s.line.end start end) s.grows

pub invariant_of-result : goal.invariant_of-result
invariant_of-result c =
    let s = c.args.self in
    let start : SFits w32 c.args.self.line.start = search rules in
    let end : SFits w32 c.args.self.line.end = search rules in
    let d : ℤ = s.line.end -ℤ s.line.start in
    let same : d ≡ to_z w32 (of_z w32 s.line.end) -ℤ to_z w32 (of_z w32 s.line.start) =
    ap (λ e. e -ℤ s.line.start) (sym (to_z-of_z w32 s.line.end end)) ∙ ap (λ a. to_z w32 (of_z w32 s.line.end) -ℤ a) (sym (to_z-of_z w32 s.line.start start)) in
    record {
      within = omega (arith, c.requires);
      reached = subst (λ d. IsDivided (d *ℤ pos (s.line.frame + 1)) s.line.frames c.plus.result.quotient c.plus.result.remainder) same
          (next_part d s.each.quotient s.gone.quotient c.plus.result.quotient s.line.frame s.line.frames s.each.remainder s.gone.remainder c.plus.result.remainder s.grows s.reached c.plus.ensures.under c.plus.ensures.over);
      grows = subst (λ d. IsDivided d s.line.frames s.each.quotient s.each.remainder) same s.grows;
    }
