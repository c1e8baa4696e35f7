use Rattle.std.proofs.Common.{◌-ℤ◌, SFits, w32, arith, rules}
use Rattle.sn_fixed.proofs.Multiples.{far, bounded, next_part, once}
use Rattle.sn_fixed.proofs.slopes.Slope.after.Goals as goal

pub plus-requires-clause-first : goal.plus-requires-clause-first
plus-requires-clause-first c =
    let s = c.args.self in
    let start : SFits w32 c.args.self.ends.start = search rules in
    let end : SFits w32 c.args.self.ends.end = search rules in
    bounded (s.ends.end -ℤ s.ends.start) s.gone.quotient s.frame s.frames s.gone.remainder 8589934592 s.within (far s.ends.start s.ends.end start end) s.reached

pub plus-requires-clause-second : goal.plus-requires-clause-second
plus-requires-clause-second c =
    let s = c.args.self in
    let start : SFits w32 c.args.self.ends.start = search rules in
    let end : SFits w32 c.args.self.ends.end = search rules in
    once (s.ends.end -ℤ s.ends.start) s.each.quotient s.frames s.each.remainder 8589934592 (far s.ends.start s.ends.end start end) s.grows

pub invariant_of-result : goal.invariant_of-result
invariant_of-result c =
    let s = c.args.self in
    record {
      within = omega (arith, c.requires);
      reached = next_part (s.ends.end -ℤ s.ends.start) s.each.quotient s.gone.quotient c.plus.result.quotient s.frame s.frames s.each.remainder s.gone.remainder c.plus.result.remainder s.grows s.reached c.plus.ensures.under c.plus.ensures.over;
      grows = s.grows;
    }
