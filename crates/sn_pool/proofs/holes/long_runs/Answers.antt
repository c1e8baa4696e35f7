use Rattle.std.proofs.Common.{◌<◌, ◌≤◌, List, sym, subst, ltb, rules}
use Rattle.std.proofs.lemmas.List.Sorted.{IsPartitionPoint-from_clause}
use Rattle.sn_mem.specs.declared.extents.Extent.{Extent}
use Rattle.sn_pool.specs.Pools.{times}
use Rattle.sn_pool.proofs.Searching.{parted_by_size, rest_long, rest_some, rest_all, to_the_end}
use Rattle.sn_pool.proofs.holes.long_runs.Goals as goal

pub returns-clause-long : goal.returns-clause-long
returns-clause-long c =
    let runs = c.args.runs.now in
    let n = c.args.n in
    let point = IsPartitionPoint-from_clause (λ (x : Extent). ltb x.len n) _ _ c.partition_point-short.ensures.partitioned (parted_by_size runs c.requires n) (λ a r q k. search rules) in
    subst (λ (l : List Extent). (e : Extent) → 0 < times e l → n ≤ e.len) (sym (to_the_end c.partition_point-short.result runs)) (rest_long runs n c.partition_point-short.result c.partition_point-short.ensures.bound point)

pub returns-clause-some : goal.returns-clause-some
returns-clause-some c =
    let runs = c.args.runs.now in
    let n = c.args.n in
    let point = IsPartitionPoint-from_clause (λ (x : Extent). ltb x.len n) _ _ c.partition_point-short.ensures.partitioned (parted_by_size runs c.requires n) (λ a r q k. search rules) in
    subst (λ (l : List Extent). (e : Extent) → 0 < times e l → 0 < times e runs) (sym (to_the_end c.partition_point-short.result runs)) (rest_some runs n c.partition_point-short.result c.partition_point-short.ensures.bound point)

pub returns-clause-all : goal.returns-clause-all
returns-clause-all c =
    let runs = c.args.runs.now in
    let n = c.args.n in
    let point = IsPartitionPoint-from_clause (λ (x : Extent). ltb x.len n) _ _ c.partition_point-short.ensures.partitioned (parted_by_size runs c.requires n) (λ a r q k. search rules) in
    subst (λ (l : List Extent). (e : Extent) → 0 < times e runs → n ≤ e.len → 0 < times e l) (sym (to_the_end c.partition_point-short.result runs)) (rest_all runs n c.partition_point-short.result c.partition_point-short.ensures.bound point)
