use Rattle.sn_engine.proofs.OpeningLemmas.{one_more_silent}
use Rattle.sn_engine.proofs.engine.silent.Goals as goal

pub loop-preserved : goal.loop-preserved
loop-preserved c = one_more_silent c.loop.counter c.loop.texts.items c.push.new.self.items c.new.result c.loop.invariant c.in_ok-push.ensures.items c.new.ensures
