use Rattle.std.proofs.Common.{◌≡◌, ◌<◌, ◌≤◌, ◌+◌, ◌-◌, ℕ, pos, ◌-ℤ◌, ◌*ℤ◌, length, replicate, SFits, w32, to_z, of_z, rules, arith, sym, subst, ap, ◌∙◌}
use Rattle.std.proofs.lemmas.Int.{to_z-of_z}
use Rattle.sn_fixed.specs.Divisions.{IsDivided}
use Rattle.sn_fixed.specs.Lines.{line_at}
use Rattle.sn_fixed.proofs.Multiples.{far, bounded}
use Rattle.sn_mem.proofs.Steps.{length-set_at}
use Rattle.sn_mem.proofs.Tables.{table_none, table_step}
use Rattle.sn_gen.specs.declared.line.Sweep.{Sweep}
use Rattle.sn_gen.specs.declared.course.Point.{Point}
use Rattle.sn_gen.specs.Points.{IsPoint}
use Rattle.sn_gen.proofs.Points.{on_line, fits_below, fits_above, eight_on, point_in, point_before, points_none, points_more}
use Rattle.sn_gen.proofs.course.run_course.Goals as goal

pub loop-frame-init : goal.loop-frame-init
loop-frame-init c =
    let s = c.args.line in
    let here : s.frame ≡ s.frame + 0 = omega arith in
    record {
      long = search rules;
      beside = search rules;
      made = sym (table_none (λ k. line_at s.start s.end (s.frame + k) s.frames));
      points = points_none s c.args.samples.now (replicate 64 0);
      goes = c.new-course.ensures ∙ ap (λ (m : ℕ). record s { frame = m }) here;
      same = record {
        way = subst (λ (t : Sweep). IsDivided ((t.end -ℤ t.start) *ℤ pos 8) t.frames c.stride-stride.result.way.quotient c.stride-stride.result.way.remainder) c.new-course.ensures c.stride-stride.ensures.way;
        all = c.stride-stride.ensures.room ∙ ap (λ (t : Sweep). t.frames) c.new-course.ensures;
      };
    }

pub loop-frame-preserved : goal.loop-frame-preserved
loop-frame-preserved c =
    let s = c.args.line in
    let i = c.loop-frame.invariant in
    let k = c.loop-frame.frame in
    let fits : SFits w32 c.point-point.result.sample = search rules in
    let lt : k < length c.loop-frame.samples = omega arith in
    let lt' : k < length c.loop-frame.remainders = omega arith in
    let next : s.frame + k + 1 ≡ s.frame + (k + 1) = omega arith in
    let p : Point = record { sample = to_z w32 (of_z w32 c.point-point.result.sample); remainder = c.point-point.result.remainder } in
    let there : IsPoint s (s.frame + k) c.point-point.result = subst (λ (t : Sweep). IsPoint t t.frame c.point-point.result) i.goes c.point-point.ensures in
    let new : IsPoint s (s.frame + k) p = subst (λ y. IsPoint s (s.frame + k) (record { sample = y; remainder = c.point-point.result.remainder })) (sym (to_z-of_z w32 c.point-point.result.sample fits)) there in
    record {
      long = length-set_at c.loop-frame.samples k p.sample 64 i.long;
      beside = length-set_at c.loop-frame.remainders k p.remainder 64 i.beside;
      made = table_step (λ k. line_at s.start s.end (s.frame + k) s.frames) c.loop-frame.samples k p.sample lt i.made (on_line s (s.frame + k) p new);
      points = points_more s k c.loop-frame.samples c.loop-frame.remainders p lt lt' i.points new;
      goes = c.after-course.ensures ∙ (ap (λ (t : Sweep). record t { frame = t.frame + 1 }) i.goes ∙ ap (λ (m : ℕ). record s { frame = m }) next);
      same = i.same;
    }

pub on-point-requires-clause-way : goal.on-point-requires-clause-way
on-point-requires-clause-way c =
    let s = c.args.line in
    let way = c.loop-frame-2.invariant.same.way in
    let start : SFits w32 c.args.line.start = search rules in
    let end : SFits w32 c.args.line.end = search rules in
    bounded (s.end -ℤ s.start) c.stride-stride.result.way.quotient 8 s.frames c.stride-stride.result.way.remainder 8589934592 (omega (arith, c.requires)) (far s.start s.end start end) way

pub on-point-requires-clause-low : goal.on-point-requires-clause-low
on-point-requires-clause-low c =
    let s = c.args.line in
    let i = c.loop-frame-2.invariant in
    let k = c.loop-frame-2.frame in
    let start : SFits w32 c.args.line.start = search rules in
    let end : SFits w32 c.args.line.end = search rules in
    let before : k - 8 < k = omega (arith, i.from) in
    let within : s.frame + (k - 8) + 8 ≤ s.frames = omega (arith, c.requires, i.from) in
    fits_below s (s.frame + (k - 8)) (point_in c.loop-frame-2.samples c.loop-frame-2.remainders (k - 8)) c.stride-stride.result.way.quotient c.stride-stride.result.way.remainder c.stride-stride.result.room start end within i.same.all
    (point_before s k c.loop-frame-2.samples c.loop-frame-2.remainders start end before within i.points) i.same.way

pub on-point-requires-clause-high : goal.on-point-requires-clause-high
on-point-requires-clause-high c =
    let s = c.args.line in
    let i = c.loop-frame-2.invariant in
    let k = c.loop-frame-2.frame in
    let start : SFits w32 c.args.line.start = search rules in
    let end : SFits w32 c.args.line.end = search rules in
    let before : k - 8 < k = omega (arith, i.from) in
    let within : s.frame + (k - 8) + 8 ≤ s.frames = omega (arith, c.requires, i.from) in
    fits_above s (s.frame + (k - 8)) (point_in c.loop-frame-2.samples c.loop-frame-2.remainders (k - 8)) c.stride-stride.result.way.quotient c.stride-stride.result.way.remainder c.stride-stride.result.room start end within i.same.all
    (point_before s k c.loop-frame-2.samples c.loop-frame-2.remainders start end before within i.points) i.same.way

pub loop-frame-2-preserved : goal.loop-frame-2-preserved
loop-frame-2-preserved c =
    let s = c.args.line in
    let i = c.loop-frame-2.invariant in
    let k = c.loop-frame-2.frame in
    let start : SFits w32 c.args.line.start = search rules in
    let end : SFits w32 c.args.line.end = search rules in
    let fits : SFits w32 c.on-point.result.sample = search rules in
    let lt : k < length c.loop-frame-2.samples = omega arith in
    let lt' : k < length c.loop-frame-2.remainders = omega arith in
    let before : k - 8 < k = omega (arith, i.from) in
    let within : s.frame + (k - 8) + 8 ≤ s.frames = omega (arith, c.requires, i.from) in
    let here : s.frame + (k - 8) + 8 ≡ s.frame + k = omega (arith, i.from) in
    let p : Point = record { sample = to_z w32 (of_z w32 c.on-point.result.sample); remainder = c.on-point.result.remainder } in
    let there : IsPoint s (s.frame + k) c.on-point.result = eight_on s (s.frame + (k - 8)) (s.frame + k) (point_in c.loop-frame-2.samples c.loop-frame-2.remainders (k - 8)) c.on-point.result c.stride-stride.result.way.quotient c.stride-stride.result.way.remainder c.stride-stride.result.room here i.same.all
    (point_before s k c.loop-frame-2.samples c.loop-frame-2.remainders start end before within i.points) i.same.way c.on-point.ensures.under c.on-point.ensures.over in
    let new : IsPoint s (s.frame + k) p = subst (λ y. IsPoint s (s.frame + k) (record { sample = y; remainder = c.on-point.result.remainder })) (sym (to_z-of_z w32 c.on-point.result.sample fits)) there in
    record {
      long = length-set_at c.loop-frame-2.samples k p.sample 64 i.long;
      beside = length-set_at c.loop-frame-2.remainders k p.remainder 64 i.beside;
      from = omega (arith, i.from);
      made = table_step (λ k. line_at s.start s.end (s.frame + k) s.frames) c.loop-frame-2.samples k p.sample lt i.made (on_line s (s.frame + k) p new);
      points = points_more s k c.loop-frame-2.samples c.loop-frame-2.remainders p lt lt' i.points new;
      same = i.same;
    }
