use Rattle.std.proofs.Common.{◌-◌, ◌-ℤ◌, SFits, w32, arith, rules}
use Rattle.sn_fixed.proofs.Multiples.{far, bounded, last_part, once}
use Rattle.sn_fixed.proofs.slopes.Slope.before.Goals as goal

pub minus-requires-clause-first : goal.minus-requires-clause-first
minus-requires-clause-first c =
    let s = c.args.self in
    let start : SFits w32 c.args.self.ends.start = search rules in
    let end : SFits w32 c.args.self.ends.end = search rules in
    bounded (s.ends.end -ℤ s.ends.start) s.gone.quotient s.frame s.frames s.gone.remainder 8589934592 s.within (far s.ends.start s.ends.end start end) s.reached

pub minus-requires-clause-second : goal.minus-requires-clause-second
minus-requires-clause-second c =
    let s = c.args.self in
    let start : SFits w32 c.args.self.ends.start = search rules in
    let end : SFits w32 c.args.self.ends.end = search rules in
    once (s.ends.end -ℤ s.ends.start) s.each.quotient s.frames s.each.remainder 8589934592 (far s.ends.start s.ends.end start end) s.grows

pub invariant_of-result : goal.invariant_of-result
invariant_of-result c =
    let s = c.args.self in
    record {
      within = omega (arith, s.within);
      reached = last_part (s.ends.end -ℤ s.ends.start) s.each.quotient s.gone.quotient c.minus.result.quotient (s.frame - 1) s.frame s.frames s.each.remainder s.gone.remainder c.minus.result.remainder (omega (arith, c.requires)) s.grows s.reached c.minus.ensures.over c.minus.ensures.under;
      grows = s.grows;
    }
