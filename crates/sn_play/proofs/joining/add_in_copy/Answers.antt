use Rattle.std.proofs.Common.{◌≡◌, ℕ, List, ap, subst, sym, ◌∙◌}
use Rattle.std.specs.List.{All}
use Rattle.sn_mem.specs.declared.extents.Foot.{Foot}
use Rattle.sn_mem.specs.declared.local.LocalRest.{LocalRest}
use Rattle.sn_mem.specs.ThroughFoot.{outside}
use Rattle.sn_mem.specs.Copies.{localized}
use Rattle.sn_io.specs.Joints.{MayAdd, with_lanes}
use Rattle.sn_io.proofs.JointWords.{lanes_by_foot}
use Rattle.sn_play.proofs.Copied.{seen_outside}
use Rattle.sn_play.proofs.joining.add_in_copy.Goals as goal

pub add_lanes-requires-clause-may : goal.add_lanes-requires-clause-may
add_lanes-requires-clause-may g c = subst (λ (h : Foot). All (MayAdd h) c.args.lanes.now) (sym c.new-local.ensures.foot) c.requires.may

pub flush-requires-clause-outside : goal.flush-requires-clause-outside
flush-requires-clause-outside g c =
    let f = g.P.Port.foot c.args.port.now in
    let base = g.P.Port.words c.args.port.now in
    let first = c.new-local.result in
    let last = c.add_lanes.new.port in
    let change : List ℕ → List ℕ = with_lanes c.args.block c.args.lanes.now in
    let seen : localized (g.P.Port.foot first.port.now) (g.P.Port.words first.port.now) first.copy.now ≡ base =
    ap (λ (h : Foot). localized h (g.P.Port.words first.port.now) first.copy.now) c.new-local.ensures.foot
    ∙ (ap (λ (ws : List ℕ). localized f ws first.copy.now) c.new-local.ensures.port ∙ c.new-local.ensures.words) in
    let now : localized (g.P.Port.foot last.port.now) (g.P.Port.words last.port.now) last.copy.now ≡ change base = c.add_lanes.ensures.words ∙ ap change seen in
    let kept : outside (g.P.Port.foot last.port.now) (g.P.Port.words last.port.now) ≡ outside (g.P.Port.foot first.port.now) (g.P.Port.words first.port.now) = ap (λ (r : LocalRest g.row.P-Rest.Denot). r.outside) c.add_lanes.ensures.port.1 in
    let there : outside (g.P.Port.foot first.port.now) (g.P.Port.words first.port.now) ≡ outside f base =
    ap (λ (h : Foot). outside h (g.P.Port.words first.port.now)) c.new-local.ensures.foot ∙ ap (outside f) c.new-local.ensures.port in
    seen_outside f (g.P.Port.foot last.port.now) change base
    (localized (g.P.Port.foot last.port.now) (g.P.Port.words last.port.now) last.copy.now) (g.P.Port.words last.port.now)
    (c.add_lanes.ensures.port.0 ∙ c.new-local.ensures.foot) (lanes_by_foot f c.args.block c.args.lanes.now c.requires.may) now (kept ∙ there)
