use Rattle.std.proofs.Common.{◌≡◌, ℕ, List, length, ap, subst, sym, ◌∙◌}
use Rattle.sn_mem.specs.declared.extents.Foot.{Foot}
use Rattle.sn_mem.specs.declared.local.LocalRest.{LocalRest}
use Rattle.sn_mem.specs.ThroughFoot.{outside}
use Rattle.sn_mem.specs.Copies.{localized}
use Rattle.sn_graph.specs.Plans.{runs_of}
use Rattle.sn_play.specs.Steps.{CanMoveAll, lane_steps}
use Rattle.sn_play.proofs.Copied.{seen_outside}
use Rattle.sn_play.proofs.playing.run_in_copy.Goals as goal

pub run_nodes-requires-clause-nodes : goal.run_nodes-requires-clause-nodes
run_nodes-requires-clause-nodes g c =
    let f = g.P.Port.foot c.args.port.now in
    let base = g.P.Port.words c.args.port.now in
    let first = c.new-local.result in
    let seen : localized (g.P.Port.foot first.port.now) (g.P.Port.words first.port.now) first.copy.now ≡ base =
    ap (λ (h : Foot). localized h (g.P.Port.words first.port.now) first.copy.now) c.new-local.ensures.foot
    ∙ (ap (λ (ws : List ℕ). localized f ws first.copy.now) c.new-local.ensures.port ∙ c.new-local.ensures.words) in
    subst (λ (n : ℕ). CanMoveAll c.args.stage.now c.args.block c.args.nodes.now c.args.moves.now (g.P.Port.foot first.port.now) n) (sym (ap (λ (ws : List ℕ). length ws) seen))
    (subst (λ (h : Foot). CanMoveAll c.args.stage.now c.args.block c.args.nodes.now c.args.moves.now h (length base)) (sym c.new-local.ensures.foot) c.requires.nodes)

pub flush-requires-clause-outside : goal.flush-requires-clause-outside
flush-requires-clause-outside g c =
    let f = g.P.Port.foot c.args.port.now in
    let base = g.P.Port.words c.args.port.now in
    let first = c.new-local.result in
    let last = c.run_nodes.new.port in
    let change : List ℕ → List ℕ = λ (ws : List ℕ). lane_steps c.args.stage.now c.args.block (runs_of c.args.nodes.now c.args.moves.now) ws in
    let seen : localized (g.P.Port.foot first.port.now) (g.P.Port.words first.port.now) first.copy.now ≡ base =
    ap (λ (h : Foot). localized h (g.P.Port.words first.port.now) first.copy.now) c.new-local.ensures.foot
    ∙ (ap (λ (ws : List ℕ). localized f ws first.copy.now) c.new-local.ensures.port ∙ c.new-local.ensures.words) in
    let now : localized (g.P.Port.foot last.port.now) (g.P.Port.words last.port.now) last.copy.now ≡ change base = c.run_nodes.ensures.words ∙ ap change seen in
    let kept : outside (g.P.Port.foot last.port.now) (g.P.Port.words last.port.now) ≡ outside (g.P.Port.foot first.port.now) (g.P.Port.words first.port.now) = ap (λ (r : LocalRest g.row.P-Rest.Denot). r.outside) c.run_nodes.ensures.port.1 in
    let there : outside (g.P.Port.foot first.port.now) (g.P.Port.words first.port.now) ≡ outside f base =
    ap (λ (h : Foot). outside h (g.P.Port.words first.port.now)) c.new-local.ensures.foot ∙ ap (outside f) c.new-local.ensures.port in
    seen_outside f (g.P.Port.foot last.port.now) change base
    (localized (g.P.Port.foot last.port.now) (g.P.Port.words last.port.now) last.copy.now) (g.P.Port.words last.port.now)
    (c.run_nodes.ensures.port.0 ∙ c.new-local.ensures.foot) c.requires.by_foot now (kept ∙ there)
