use Rattle.sn_engine.proofs.SeekingLemmas.{one_more}
use Rattle.sn_engine.proofs.before.keys_of.Goals as goal

pub loop-clash-preserved : goal.loop-clash-preserved
loop-clash-preserved c = one_more c.loop-clash.keys c.insert.new.self c.key_of.result c.args.clashes.now c.loop-clash.clash-index _ c.loop-clash-test.true c.key_of.ensures c.in_ok-insert.ensures.updates c.loop-clash.invariant
