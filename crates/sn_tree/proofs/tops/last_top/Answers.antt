use Rattle.std.proofs.Common.{◌<◌, Some, None, sym, subst, w32, of_z, to_z}
use Rattle.std.proofs.lemmas.Int.{to_z-of_z}
use Rattle.sn_tree.specs.Stored.{IsLastTop}
use Rattle.sn_tree.proofs.TopLaws.{IsSeeking, tops_left, seek_start, seek_ends, seek_found, seek_next, seek_none}
use Rattle.sn_tree.proofs.tops.last_top.Goals as goal

pub loop-next-init : goal.loop-next-init
loop-next-init c = seek_start c.args.forest.now (to_z w32 (of_z w32 c.args.id)) c.end-next.result c.end-next.ensures

pub returns-then-key-root : goal.returns-then-key-root
returns-then-key-root c =
    let s : IsSeeking c.args.forest.now c.args.id (Some c.in-Some.key) =
    subst (λ z. IsSeeking c.args.forest.now z (Some c.in-Some.key)) (to_z-of_z w32 c.args.id c.ranges.id) (subst (IsSeeking c.args.forest.now (to_z w32 (of_z w32 c.args.id))) c.in-Some.is c.loop-next.invariant) in
    seek_ends c.args.forest.now c.args.id c.root-root.result c.keys_differ.ensures c.root-root.ensures c.in-Some.key s c.if-key-root.true

pub returns-then-has_id : goal.returns-then-has_id
returns-then-has_id c =
    let s : IsSeeking c.args.forest.now (to_z w32 (of_z w32 c.args.id)) (Some c.in-Some.key) = subst (IsSeeking c.args.forest.now (to_z w32 (of_z w32 c.args.id))) c.in-Some.is c.loop-next.invariant in
    subst (λ z. IsLastTop c.args.forest.now z c.in-Some.key) (to_z-of_z w32 c.args.id c.ranges.id)
    (seek_found c.args.forest.now (to_z w32 (of_z w32 c.args.id)) c.root-root.result c.keys_differ.ensures c.root-root.ensures c.in-Some.key s c.has_id.result c.if-key-root.false c.has_id.ensures c.if-has_id.true)

pub loop-next-preserved : goal.loop-next-preserved
loop-next-preserved c =
    let s : IsSeeking c.args.forest.now (to_z w32 (of_z w32 c.args.id)) (Some c.in-Some.key) = subst (IsSeeking c.args.forest.now (to_z w32 (of_z w32 c.args.id))) c.in-Some.is c.loop-next.invariant in
    (seek_next c.args.forest.now (to_z w32 (of_z w32 c.args.id)) c.root-root.result c.keys_differ.ensures c.root-root.ensures c.in-Some.key s c.has_id.result c.previous_of-next.result c.has_id.ensures c.if-has_id.false c.previous_of-next.ensures).0

pub loop-next-smaller : goal.loop-next-smaller
loop-next-smaller c =
    let s : IsSeeking c.args.forest.now (to_z w32 (of_z w32 c.args.id)) (Some c.in-Some.key) = subst (IsSeeking c.args.forest.now (to_z w32 (of_z w32 c.args.id))) c.in-Some.is c.loop-next.invariant in
    subst (λ n. tops_left c.args.forest.now c.previous_of-next.result < tops_left c.args.forest.now n) (sym c.in-Some.is)
    (seek_next c.args.forest.now (to_z w32 (of_z w32 c.args.id)) c.root-root.result c.keys_differ.ensures c.root-root.ensures c.in-Some.key s c.has_id.result c.previous_of-next.result c.has_id.ensures c.if-has_id.false c.previous_of-next.ensures).1

pub returns : goal.returns
returns c =
    let s : IsSeeking c.args.forest.now c.args.id None =
    subst (λ z. IsSeeking c.args.forest.now z None) (to_z-of_z w32 c.args.id c.ranges.id) (subst (IsSeeking c.args.forest.now (to_z w32 (of_z w32 c.args.id))) c.in_default.is c.loop-next.invariant) in
    seek_none c.args.forest.now c.args.id s
