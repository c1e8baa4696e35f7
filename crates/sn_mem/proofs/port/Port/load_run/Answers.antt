use Rattle.std.proofs.Common.{ℕ, ◌+◌, List, get_or, refl, arith, ap, sym, ◌∙◌}
use Rattle.sn_mem.proofs.Steps.{window_none, window_step}
use Rattle.sn_mem.proofs.port.Port.load_run.Goals as goal

pub loop-i-init : goal.loop-i-init
loop-i-init g c = (refl, refl, refl, sym (window_none (g.Self.Port.words c.args.self.now) c.args.at))

pub loop-i-preserved : goal.loop-i-preserved
loop-i-preserved g c = let i = c.loop-i.invariant in (c.load.ensures.same ∙ i.0, c.load.ensures.foot ∙ i.1, c.load.ensures.rest ∙ i.2, window_step (g.Self.Port.words c.args.self.now) c.loop-i.into c.args.at c.loop-i.i c.load.result (omega arith) i.3 (c.load.ensures.word ∙ ap (λ (ws : List ℕ). get_or ws (c.args.at + c.loop-i.i) 0) i.0))
