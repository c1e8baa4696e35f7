use Rattle.std.proofs.Common.{rules, arith}
use Rattle.sn_mem.proofs.Steadies.{no_marks}
use Rattle.sn_mem.proofs.blocks.Blocks.new.Goals as goal

pub invariant_of-result : goal.invariant_of-result
invariant_of-result c = (
  search rules,
  search rules,
  search rules,
  λ e k d lt. absurd (omega arith),
  no_marks 512 c.in_ok-marks.marks.items c.in_ok-items.items.items (c.in_ok-marks.ensures.items_if_clones_equal (λ y e. e)),
)
