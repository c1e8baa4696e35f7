use Rattle.std.proofs.Common.{◌<◌, None, sym, subst, arith}
use Rattle.sn_forest.specs.Trees.{Trees, count, subtree}
use Rattle.sn_tree.specs.declared.item.Item.{Item}
use Rattle.sn_tree.specs.Keyed.{left_at}
use Rattle.sn_tree.proofs.Sums.{count_sum, out_all}
use Rattle.sn_tree.proofs.MeetLaws.{IsCounting, count_start, count_found, count_few, count_next}
use Rattle.sn_tree.proofs.meets.newcomers.Goals as goal

pub loop-next-init : goal.loop-next-init
loop-next-init c = count_start c.args.forest.now c.args.top c.args.ids.now.pairs c.keys_differ.ensures c.requires

pub returns-then-is_noted : goal.returns-then-is_noted
returns-then-is_noted c =
    count_found c.args.forest.now c.args.top c.args.ids.now.pairs c.keys_differ.ensures c.requires c.loop-next.count c.in-Some.key
    (subst (λ n. IsCounting c.args.forest.now c.args.top c.args.ids.now.pairs n c.loop-next.count) c.in-Some.is c.loop-next.invariant) c.is_noted.result c.is_noted.ensures c.if-is_noted.true

pub prove-unreachable-requires : goal.prove-unreachable-requires
prove-unreachable-requires c =
    omega (
      arith,
      c.if-prove.true,
      count_few c.args.forest.now c.args.top c.args.ids.now.pairs c.keys_differ.ensures c.requires c.loop-next.count c.in-Some.key
          (subst (λ n. IsCounting c.args.forest.now c.args.top c.args.ids.now.pairs n c.loop-next.count) c.in-Some.is c.loop-next.invariant),
      c.len-all.ensures,
      out_all (λ (t : Trees Item). count t) count_sum c.args.top c.args.forest.now c.keys_differ.ensures c.requires,
    )

pub loop-next-preserved : goal.loop-next-preserved
loop-next-preserved c =
    (count_next c.args.forest.now c.args.top c.args.ids.now.pairs c.keys_differ.ensures c.requires c.loop-next.count c.in-Some.key
    (subst (λ n. IsCounting c.args.forest.now c.args.top c.args.ids.now.pairs n c.loop-next.count) c.in-Some.is c.loop-next.invariant) c.is_noted.result c.step-next.result c.is_noted.ensures c.if-is_noted.false c.step-next.ensures).0

pub loop-next-smaller : goal.loop-next-smaller
loop-next-smaller c =
    subst (λ n. count (left_at c.step-next.result (subtree c.args.top c.args.forest.now)) < count (left_at n (subtree c.args.top c.args.forest.now))) (sym c.in-Some.is)
    (count_next c.args.forest.now c.args.top c.args.ids.now.pairs c.keys_differ.ensures c.requires c.loop-next.count c.in-Some.key
    (subst (λ n. IsCounting c.args.forest.now c.args.top c.args.ids.now.pairs n c.loop-next.count) c.in-Some.is c.loop-next.invariant) c.is_noted.result c.step-next.result c.is_noted.ensures c.if-is_noted.false c.step-next.ensures).1

pub returns : goal.returns
returns c =
    let h : IsCounting c.args.forest.now c.args.top c.args.ids.now.pairs None c.loop-next.count =
    subst (λ n. IsCounting c.args.forest.now c.args.top c.args.ids.now.pairs n c.loop-next.count) c.in_default.is c.loop-next.invariant in
    (h.free, omega (arith, h.number))
