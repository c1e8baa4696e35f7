use Rattle.std.proofs.Common.{◌≡◌, true, false, leb, subst, arith, rules}
use Rattle.std.specs.List.Sorted.{IsPartitionPoint}
use Rattle.std.proofs.lemmas.List.Sorted.{IsPartitionPoint-from_clause}
use Rattle.sn_mem.specs.declared.extents.Extent.{Extent}
use Rattle.sn_pool.proofs.Searching.{parted_by_place, last_none, last_some}
use Rattle.sn_pool.proofs.holes.last_to.Goals as goal

pub returns-then-number-eq0 : goal.returns-then-number-eq0
returns-then-number-eq0 c =
    let runs = c.args.runs.now in
    let place = c.args.place in
    let point = IsPartitionPoint-from_clause (λ (x : Extent). leb x.at place) _ _ c.partition_point-number.ensures.partitioned (parted_by_place runs c.requires place) (λ a r q k. search rules) in
    last_none runs c.requires place (subst (λ i. IsPartitionPoint (λ (x : Extent). leb x.at place ≡ true) (λ (x : Extent). leb x.at place ≡ false) runs i) c.if-number-eq0.true point)

pub returns-else-number-eq0 : goal.returns-else-number-eq0
returns-else-number-eq0 c =
    let runs = c.args.runs.now in
    let place = c.args.place in
    let point = IsPartitionPoint-from_clause (λ (x : Extent). leb x.at place) _ _ c.partition_point-number.ensures.partitioned (parted_by_place runs c.requires place) (λ a r q k. search rules) in
    last_some runs c.requires place c.partition_point-number.result _ (omega (arith, c.if-number-eq0.false)) c.partition_point-number.ensures.bound point
