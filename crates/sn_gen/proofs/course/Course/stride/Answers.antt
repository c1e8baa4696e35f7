use Rattle.std.proofs.Common.{ℤ, pos, ◌-ℤ◌, ◌*ℤ◌, SFits, w32, arith, rules}
use Rattle.sn_fixed.specs.Divisions.{IsDivided}
use Rattle.sn_fixed.proofs.Multiples.{far, once, bounded}
use Rattle.sn_gen.proofs.Points.{sum_part, single}
use Rattle.sn_gen.proofs.course.Course.stride.Goals as goal

pub plus-two-requires-clause-first : goal.plus-two-requires-clause-first
plus-two-requires-clause-first c =
    let s = c.args.self in
    let start : SFits w32 c.args.self.line.start = search rules in
    let end : SFits w32 c.args.self.line.end = search rules in
    once (s.line.end -ℤ s.line.start) s.each.quotient s.line.frames s.each.remainder 8589934592 (far s.line.start s.line.end start end) s.grows

pub plus-two-requires-clause-second : goal.plus-two-requires-clause-second
plus-two-requires-clause-second c =
    let s = c.args.self in
    let start : SFits w32 c.args.self.line.start = search rules in
    let end : SFits w32 c.args.self.line.end = search rules in
    once (s.line.end -ℤ s.line.start) s.each.quotient s.line.frames s.each.remainder 8589934592 (far s.line.start s.line.end start end) s.grows

pub plus-four-requires-clause-first : goal.plus-four-requires-clause-first
plus-four-requires-clause-first c =
    let s = c.args.self in
    let start : SFits w32 c.args.self.line.start = search rules in
    let end : SFits w32 c.args.self.line.end = search rules in
    let d : ℤ = s.line.end -ℤ s.line.start in
    let one : IsDivided (d *ℤ pos 1) s.line.frames s.each.quotient s.each.remainder = single d s.line.frames s.each.quotient s.each.remainder s.grows in
    let two : IsDivided (d *ℤ pos 2) s.line.frames c.plus-two.result.quotient c.plus-two.result.remainder = sum_part d s.each.quotient s.each.quotient c.plus-two.result.quotient 1 1 s.line.frames s.each.remainder s.each.remainder c.plus-two.result.remainder one one c.plus-two.ensures.under c.plus-two.ensures.over in
    bounded d c.plus-two.result.quotient 2 s.line.frames c.plus-two.result.remainder 8589934592 (omega (arith, c.requires)) (far s.line.start s.line.end start end) two

pub plus-four-requires-clause-second : goal.plus-four-requires-clause-second
plus-four-requires-clause-second c =
    let s = c.args.self in
    let start : SFits w32 c.args.self.line.start = search rules in
    let end : SFits w32 c.args.self.line.end = search rules in
    let d : ℤ = s.line.end -ℤ s.line.start in
    let one : IsDivided (d *ℤ pos 1) s.line.frames s.each.quotient s.each.remainder = single d s.line.frames s.each.quotient s.each.remainder s.grows in
    let two : IsDivided (d *ℤ pos 2) s.line.frames c.plus-two.result.quotient c.plus-two.result.remainder = sum_part d s.each.quotient s.each.quotient c.plus-two.result.quotient 1 1 s.line.frames s.each.remainder s.each.remainder c.plus-two.result.remainder one one c.plus-two.ensures.under c.plus-two.ensures.over in
    bounded d c.plus-two.result.quotient 2 s.line.frames c.plus-two.result.remainder 8589934592 (omega (arith, c.requires)) (far s.line.start s.line.end start end) two

pub plus-way-requires-clause-first : goal.plus-way-requires-clause-first
plus-way-requires-clause-first c =
    let s = c.args.self in
    let start : SFits w32 c.args.self.line.start = search rules in
    let end : SFits w32 c.args.self.line.end = search rules in
    let d : ℤ = s.line.end -ℤ s.line.start in
    let one : IsDivided (d *ℤ pos 1) s.line.frames s.each.quotient s.each.remainder = single d s.line.frames s.each.quotient s.each.remainder s.grows in
    let two : IsDivided (d *ℤ pos 2) s.line.frames c.plus-two.result.quotient c.plus-two.result.remainder = sum_part d s.each.quotient s.each.quotient c.plus-two.result.quotient 1 1 s.line.frames s.each.remainder s.each.remainder c.plus-two.result.remainder one one c.plus-two.ensures.under c.plus-two.ensures.over in
    let four : IsDivided (d *ℤ pos 4) s.line.frames c.plus-four.result.quotient c.plus-four.result.remainder = sum_part d c.plus-two.result.quotient c.plus-two.result.quotient c.plus-four.result.quotient 2 2 s.line.frames c.plus-two.result.remainder c.plus-two.result.remainder c.plus-four.result.remainder two two c.plus-four.ensures.under c.plus-four.ensures.over in
    bounded d c.plus-four.result.quotient 4 s.line.frames c.plus-four.result.remainder 8589934592 (omega (arith, c.requires)) (far s.line.start s.line.end start end) four

pub plus-way-requires-clause-second : goal.plus-way-requires-clause-second
plus-way-requires-clause-second c =
    let s = c.args.self in
    let start : SFits w32 c.args.self.line.start = search rules in
    let end : SFits w32 c.args.self.line.end = search rules in
    let d : ℤ = s.line.end -ℤ s.line.start in
    let one : IsDivided (d *ℤ pos 1) s.line.frames s.each.quotient s.each.remainder = single d s.line.frames s.each.quotient s.each.remainder s.grows in
    let two : IsDivided (d *ℤ pos 2) s.line.frames c.plus-two.result.quotient c.plus-two.result.remainder = sum_part d s.each.quotient s.each.quotient c.plus-two.result.quotient 1 1 s.line.frames s.each.remainder s.each.remainder c.plus-two.result.remainder one one c.plus-two.ensures.under c.plus-two.ensures.over in
    let four : IsDivided (d *ℤ pos 4) s.line.frames c.plus-four.result.quotient c.plus-four.result.remainder = sum_part d c.plus-two.result.quotient c.plus-two.result.quotient c.plus-four.result.quotient 2 2 s.line.frames c.plus-two.result.remainder c.plus-two.result.remainder c.plus-four.result.remainder two two c.plus-four.ensures.under c.plus-four.ensures.over in
    bounded d c.plus-four.result.quotient 4 s.line.frames c.plus-four.result.remainder 8589934592 (omega (arith, c.requires)) (far s.line.start s.line.end start end) four

pub returns-clause-way : goal.returns-clause-way
returns-clause-way c =
    let s = c.args.self in
    let d : ℤ = s.line.end -ℤ s.line.start in
    let one : IsDivided (d *ℤ pos 1) s.line.frames s.each.quotient s.each.remainder = single d s.line.frames s.each.quotient s.each.remainder s.grows in
    let two : IsDivided (d *ℤ pos 2) s.line.frames c.plus-two.result.quotient c.plus-two.result.remainder = sum_part d s.each.quotient s.each.quotient c.plus-two.result.quotient 1 1 s.line.frames s.each.remainder s.each.remainder c.plus-two.result.remainder one one c.plus-two.ensures.under c.plus-two.ensures.over in
    let four : IsDivided (d *ℤ pos 4) s.line.frames c.plus-four.result.quotient c.plus-four.result.remainder = sum_part d c.plus-two.result.quotient c.plus-two.result.quotient c.plus-four.result.quotient 2 2 s.line.frames c.plus-two.result.remainder c.plus-two.result.remainder c.plus-four.result.remainder two two c.plus-four.ensures.under c.plus-four.ensures.over in
    sum_part d c.plus-four.result.quotient c.plus-four.result.quotient c.plus-way.result.quotient 4 4 s.line.frames c.plus-four.result.remainder c.plus-four.result.remainder c.plus-way.result.remainder four four c.plus-way.ensures.under c.plus-way.ensures.over
