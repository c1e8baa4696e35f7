use Rattle.std.proofs.Common.{refl, arith, sym, ◌∙◌}
use Rattle.sn_mem.proofs.Steps.{put_none, put_step}
use Rattle.sn_mem.proofs.port.Port.store_run.Goals as goal

pub loop-i-init : goal.loop-i-init
loop-i-init g c = (sym (put_none (g.Self.Port.words c.args.self.now) c.args.at), refl, refl)

pub loop-i-preserved : goal.loop-i-preserved
loop-i-preserved g c = let i = c.loop-i.invariant in (c.store.ensures.changed ∙ put_step (g.Self.Port.words c.args.self.now) (g.Self.Port.words c.loop-i.self) c.args.at c.loop-i.i c.args.run.now (omega arith) i.0, c.store.ensures.foot ∙ i.1, c.store.ensures.rest ∙ i.2)
