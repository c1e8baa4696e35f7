use Rattle.std.proofs.Common.{◌<◌, ◌∙◌, refl, length, false, rules}
use Rattle.sn_nodecmd.proofs.LatestLemmas.{unmarked-pushed, items-next, unmarked-judged}
use Rattle.sn_nodecmd.proofs.latest.unjudged.Goals as goal

pub loop-one-preserved : goal.loop-one-preserved
loop-one-preserved g c =
    let within : c.loop-one.one-index < length c.args.items.now = search rules in
    record {
      none = unmarked-pushed c.loop-one.judged.items _ _ c.in_ok-push.ensures.items refl c.loop-one.invariant.none;
      items = items-next c.loop-one.judged.items _ c.one-item.result false c.args.items.now c.loop-one.one-index within c.in_ok-push.ensures.items c.one-item.is ∙ c.loop-one.invariant.items;
    }

pub returns-clause-judged : goal.returns-clause-judged
returns-clause-judged g c = unmarked-judged g.T.Covering.covered c.loop-one.judged.items c.loop-one.invariant.none
