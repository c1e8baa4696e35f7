use Rattle.std.proofs.Common.{◌≡◌}
use Rattle.sn_nodecmd.specs.Covering.{AreJudged, items_in}
use Rattle.sn_nodecmd.proofs.latest.mark_all.Given as goal

abbrev pub invariant-loop-next : goal.invariant-loop-next
invariant-loop-next g l = record {
  judged : AreJudged g.T.Covering.covered l.judged;
  items : items_in l.judged ≡ items_in l.fn.judged;
}
