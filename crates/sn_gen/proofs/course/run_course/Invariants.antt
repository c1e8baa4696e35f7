use Rattle.std.proofs.Common.{◌≡◌, ◌≤◌, ◌+◌, take, length}
use Rattle.sn_fixed.specs.Lines.{line_at}
use Rattle.sn_mem.specs.Blocks.{table}
use Rattle.sn_gen.proofs.Points.{ArePoints, IsStride}
use Rattle.sn_gen.proofs.course.run_course.Given as goal

abbrev pub invariant-loop-frame : goal.invariant-loop-frame
invariant-loop-frame l =
    record {
      long : length l.samples ≡ 64;
      beside : length l.remainders ≡ 64;
      made : take l.frame l.samples ≡ table (λ k. line_at l.fn.line.start l.fn.line.end (l.fn.line.frame + k) l.fn.line.frames) l.frame;
      points : ArePoints l.fn.line l.frame l.samples l.remainders;
      goes : l.course.line ≡ record l.fn.line { frame = l.fn.line.frame + l.frame };
      same : IsStride l.fn.line l.stride.way.quotient l.stride.way.remainder l.stride.room;
    }

abbrev pub invariant-loop-frame-2 : goal.invariant-loop-frame-2
invariant-loop-frame-2 l =
    record {
      long : length l.samples ≡ 64;
      beside : length l.remainders ≡ 64;
      from : 8 ≤ l.frame;
      made : take l.frame l.samples ≡ table (λ k. line_at l.fn.line.start l.fn.line.end (l.fn.line.frame + k) l.fn.line.frames) l.frame;
      points : ArePoints l.fn.line l.frame l.samples l.remainders;
      same : IsStride l.fn.line l.stride.way.quotient l.stride.way.remainder l.stride.room;
    }
