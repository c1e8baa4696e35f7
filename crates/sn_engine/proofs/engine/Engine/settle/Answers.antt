use Rattle.std.proofs.Common.{◌≡◌, ◌≤◌, List, length, refl, ap, sym, ◌∙◌, subst, arith, rules}
use Rattle.std.specs.Vec.{with_items}
use Rattle.std.proofs.lemmas.Bool.{not-true}
use Rattle.std.proofs.lemmas.List.{with_items_is, places}
use Rattle.sn_ports.specs.Octets.{Octets}
use Rattle.sn_world.specs.declared.stage.Stage.{Stage}
use Rattle.sn_engine.specs.Holding.{AreClashesOf}
use Rattle.sn_engine.specs.Planning.{IsPlannedFor}
use Rattle.sn_engine.specs.Playing.{Playing}
use Rattle.sn_engine.proofs.LaneLemmas.{rest_on, still_laned}
use Rattle.sn_engine.proofs.Pasts.{past_is, rounds_kept}
use Rattle.sn_engine.proofs.RowLemmas.{still_copied}
use Rattle.sn_engine.proofs.engine.Engine.settle.Goals.{then-self, else-self}
use Rattle.sn_engine.proofs.engine.Engine.settle.Goals as goal

pub invariant_of-self : goal.invariant_of-self
invariant_of-self c =
    let i = c.self.invariant in
    let e = c.self.inside in
    let out = with_items e.replies c.settle_before-ended.new.replies in
    let is : out.items ≡ c.settle_before-ended.new.replies = with_items_is e.replies c.settle_before-ended.new.replies (search (rules, places)) in
    let first : c.deref_mut.result.now ≡ e.replies.items = search rules in
    let few : length out.items ≤ 4 = omega (arith, ap (λ (ts : List Octets). length ts) is, c.settle_before-ended.ensures.clients, ap (λ (ts : List Octets). length ts) first, i.5) in (
      c.settle_before-ended.ensures.pictures,
      i.1,
      tt,
      tt,
      omega arith,
      few,
      λ on. elim c.if-self.branch [
        | then-self w ↦ subst (λ (s : Stage). AreClashesOf s e.clashes) (sym (c.settle_before-ended.ensures.same (not-true c.settle_before-ended.result (sym w.self-is ∙ on)))) (i.6 w.if-self.true)
        | else-self w ↦ absurd cc
      ],
      λ on. elim c.if-self.branch [
        | then-self w ↦ subst (λ (s : Stage). IsPlannedFor e.settings.workers s e.planned.jobs e.planned.quiet e.planned.eventful) (sym (c.settle_before-ended.ensures.same (not-true c.settle_before-ended.result (sym w.self-is ∙ on)))) (i.7 w.if-self.true)
        | else-self w ↦ absurd cc
      ],
      λ e. absurd cc,
      λ on. elim c.if-self.branch [
        | then-self w ↦ i.9 w.if-self.true
        | else-self w ↦ absurd cc
      ],
      still_copied e.settings.channels e.stage c.settle_before-ended.new.stage e.memory.words c.settle_before-ended.new.port.words e.outputs e.copies c.settle_before-ended.ensures.region c.settle_before-ended.ensures.len i.10,
      still_laned e.stage c.settle_before-ended.new.stage e.memory.words c.settle_before-ended.new.port.words c.settle_before-ended.ensures.region c.settle_before-ended.ensures.len i.11,
      rest_on e.stage c.settle_before-ended.new.stage e.block e.memory.words c.settle_before-ended.new.port.words i.0.base c.settle_before-ended.ensures.region c.settle_before-ended.ensures.others i.12,
      λ e. absurd cc,
    )

pub settle_before-ended-requires-clause-eventful : goal.settle_before-ended-requires-clause-eventful
settle_before-ended-requires-clause-eventful c =
    let i = c.self.invariant in
    (i.7 (i.13 (ap (λ (p : Playing). p.running.standing) c.self.view_is ∙ c.requires.rendered))).eventful_is

pub returns-clause-past : goal.returns-clause-past
returns-clause-past c =
    let e = c.self.inside in
    rounds_kept _ c.args.self.now.past (past_is c.self.view_is) e.planned.jobs c.settle_before-ended.new.port.rounds c.settle_before-ended.new.port.stores (length e.crew.hands.items) c.settle_before-ended.ensures.port.1 refl refl
