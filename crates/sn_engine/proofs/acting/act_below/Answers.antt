use Rattle.std.proofs.Common.{◌≡◌, ◌∙◌, ℕ, Bool, List, drop, sym, ap, subst, rules}
use Rattle.std.specs.Prelude.{IfOk}
use Rattle.sn_mem.specs.declared.below.BelowRest.{BelowRest}
use Rattle.sn_mem.specs.declared.extents.Foot.{Foot}
use Rattle.sn_mem.specs.Under.{foot_below}
use Rattle.sn_world.specs.Pictures.{Pictures, WritesWorld}
use Rattle.sn_world.specs.World.{turn_of}
use Rattle.sn_engine.specs.Boundary.{due_at, entries_ask}
use Rattle.sn_engine.proofs.LaneLemmas.{below_writes, kept_outside}
use Rattle.sn_engine.proofs.acting.act_below.Goals as goal

pub act_due-requires-clause-pictures : goal.act_due-requires-clause-pictures
act_due-requires-clause-pictures g c = subst (λ (ws : List ℕ). Pictures c.args.stage.now ws) (sym (ap g.P.Port.words c.new-below.ensures.same)) c.requires.pictures

pub act_due-requires-clause-foot : goal.act_due-requires-clause-foot
act_due-requires-clause-foot g c =
    let region = c.args.stage.now.pool.region in
    let below = c.new-below.result in
    subst (λ (f : Foot). WritesWorld (foot_below below.end f) region) (sym (ap g.P.Port.foot c.new-below.ensures.same))
    (below_writes (g.P.Port.foot c.args.port.now) region below.end c.requires.pictures.base (c.new-below.ensures.end ∙ c.requires.end) c.requires.foot)

pub returns-clause-quit : goal.returns-clause-quit
returns-clause-quit g c =
    subst (λ (ws : List ℕ). IfOk c.act_due.result (λ (q : Bool). q ≡ (entries_ask (due_at c.args.now c.args.queue.now) (turn_of c.args.stage.now ws c.args.replies.now)).quit)) (ap g.P.Port.words c.new-below.ensures.same) c.act_due.ensures.quit

pub returns-clause-port : goal.returns-clause-port
returns-clause-port g c =
    let given : c.port-1.given.0 ≡ c.act_due.new.port.port.now = search rules in
    let kept = c.act_due.ensures.port.1 in (
      ap g.P.Port.foot given ∙ ap (λ (r : BelowRest g.row.P-Rest.Denot). r.foot) kept ∙ ap g.P.Port.foot c.new-below.ensures.same,
      ap g.P.Port.rest given ∙ ap (λ (r : BelowRest g.row.P-Rest.Denot). r.rest) kept ∙ ap g.P.Port.rest c.new-below.ensures.same,
    )

pub returns-clause-others : goal.returns-clause-others
returns-clause-others g c =
    let given : c.port-1.given.0 ≡ c.act_due.new.port.port.now = search rules in
    let first = c.new-below.result in
    let last = c.act_due.new.port in
    let kept = c.act_due.ensures.port.1 in
    let ends : last.end ≡ first.end = ap (λ (r : BelowRest g.row.P-Rest.Denot). r.end) kept in
    let past : drop last.end (g.P.Port.words last.port.now) ≡ drop first.end (g.P.Port.words first.port.now) = ap (λ (r : BelowRest g.row.P-Rest.Denot). r.past) kept in
    kept_outside c.args.stage.now.pool.region first.end (g.P.Port.words c.args.port.now) (g.P.Port.words c.port-1.given.0) c.requires.pictures.base (c.new-below.ensures.end ∙ c.requires.end)
    (ap (λ p. drop first.end (g.P.Port.words p)) given
    ∙ ap (λ (n : ℕ). drop n (g.P.Port.words last.port.now)) (sym ends)
    ∙ past
    ∙ ap (λ p. drop first.end (g.P.Port.words p)) c.new-below.ensures.same)
