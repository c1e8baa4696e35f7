use Rattle.std.proofs.Common.{refl, ap, sym, ◌∙◌, ◌+◌, ℕ, List, set}
use Rattle.sn_nodecmd.proofs.Clearing.{cleared_none, cleared_more}
use Rattle.sn_nodecmd.proofs.placing.clear.Goals as goal

pub loop-i-init : goal.loop-i-init
loop-i-init g c = (sym (cleared_none (g.P.Port.words c.args.port.now) c.args.state.at), refl, refl)

pub loop-i-preserved : goal.loop-i-preserved
loop-i-preserved g c =
    let i = c.loop-i.invariant in
    (c.store.ensures.changed ∙ ap (λ (ws : List ℕ). set ws (c.args.state.at + c.loop-i.i) 0) i.0 ∙ cleared_more (g.P.Port.words c.args.port.now) c.args.state.at c.loop-i.i, c.store.ensures.foot ∙ i.1, c.store.ensures.rest ∙ i.2)
