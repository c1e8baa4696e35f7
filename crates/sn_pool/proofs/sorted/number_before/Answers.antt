use Rattle.std.proofs.Common.{rules}
use Rattle.std.proofs.lemmas.List.Sorted.{IsPartitionPoint-from_clause}
use Rattle.sn_pool.specs.Sorting.{before}
use Rattle.sn_pool.proofs.Orders.{parted_by}
use Rattle.sn_pool.proofs.sorted.number_before.Goals as goal

pub returns-clause-parted : goal.returns-clause-parted
returns-clause-parted c =
    IsPartitionPoint-from_clause (λ x. before c.args.order x c.args.extent) _ _ c.partition_point.ensures.partitioned (parted_by c.args.order c.args.extent c.args.extents.now c.requires) (λ a r q k. search rules)
