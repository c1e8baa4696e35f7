use Rattle.std.proofs.Common.{length, sym, ap, ◌∙◌, arith}
use Rattle.sn_pool.specs.Pools.{times}
use Rattle.sn_pool.proofs.Runs.{no_runs, none_times}
use Rattle.sn_pool.proofs.holes.Holes.new.Goals as goal

pub invariant_of-holes : goal.invariant_of-holes
invariant_of-holes c = record {
  by_place = c.new.ensures.order;
  by_size = c.new-2.ensures.order;
  same = λ e. ap (times e) (c.new-2.ensures.items ∙ sym c.new.ensures.items);
  len = ap length (c.new-2.ensures.items ∙ sym c.new.ensures.items);
  runs = no_runs c.new.result.items c.new.ensures.items;
}

pub add-requires-clause-parted : goal.add-requires-clause-parted
add-requires-clause-parted c = λ e some one. absurd (omega (arith, some, none_times e c.reserve.new.self.runs (c.in_ok-reserve.ensures.runs ∙ c.new.ensures.items)))
