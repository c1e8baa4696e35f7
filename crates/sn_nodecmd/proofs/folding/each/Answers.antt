use Rattle.std.proofs.Common.{◌≡◌, ◌-◌, ◌+◌, ◌∙◌, sym, ap, subst, arith, length, Ok}
use Rattle.sn_world.specs.declared.stage.Stage.{Stage}
use Rattle.sn_world.specs.Pictures.{Pictures}
use Rattle.sn_world.specs.Rows.{steps}
use Rattle.sn_world.proofs.Continuing.{continues_same, continues_then}
use Rattle.sn_world.specs.World.{turn_of}
use Rattle.sn_nodecmd.specs.Folding.{IsUnderway}
use Rattle.sn_nodecmd.proofs.Repeating.{step_done, steps_all, unless_any, underway_next}
use Rattle.sn_nodecmd.proofs.folding.each.Goals as goal

pub loop-repetition-init : goal.loop-repetition-init
loop-repetition-init g c = record {
  underway = subst (λ n. IsUnderway n c.in_ok-mark.mark c.args.stage.now c.begin.new.stage) (let e : length c.args.repetitions.now ≡ length c.args.repetitions.now - 0 = omega arith in e) c.in_ok-mark.ensures.begun;
  row = λ words. ap (steps g.R.Repetition.judge g.R.Repetition.act c.args.repetitions.now) (c.in_ok-mark.ensures.same words c.args.replies.now);
  continues = continues_same c.args.replies.now;
}

pub undo-requires : goal.undo-requires
undo-requires g c = (
  length c.args.repetitions.now - (c.loop-repetition.repetition-index + 1),
  c.args.stage.now,
  underway_next c.args.repetitions.now c.loop-repetition.repetition-index c.loop-repetition-test.true c.loop-repetition.invariant.underway c.step.ensures.keeps,
  c.requires.rest,
)

pub returns-in_default-clause-unchanged : goal.returns-in_default-clause-unchanged
returns-in_default-clause-unchanged g c =
    unless_any _ (c.undo.new.stage ≡ c.args.stage.now)
    (c.undo.ensures _ _ (underway_next c.args.repetitions.now c.loop-repetition.repetition-index c.loop-repetition-test.true c.loop-repetition.invariant.underway c.step.ensures.keeps) c.requires.rest)

pub returns-in_default-clause-pictures : goal.returns-in_default-clause-pictures
returns-in_default-clause-pictures g c = λ words p.
    subst (λ (s : Stage). Pictures s words)
    (sym (c.undo.ensures _ _ (underway_next c.args.repetitions.now c.loop-repetition.repetition-index c.loop-repetition-test.true c.loop-repetition.invariant.underway c.step.ensures.keeps) c.requires.rest)) p

pub returns-in_default-clause-region : goal.returns-in_default-clause-region
returns-in_default-clause-region g c =
    ap (λ (s : Stage). s.pool.region)
    (c.undo.ensures _ _ (underway_next c.args.repetitions.now c.loop-repetition.repetition-index c.loop-repetition-test.true c.loop-repetition.invariant.underway c.step.ensures.keeps) c.requires.rest)

pub returns-in_default-clause-clients : goal.returns-in_default-clause-clients
returns-in_default-clause-clients g c =
    ap (λ (s : Stage). s.notify)
    (c.undo.ensures _ _ (underway_next c.args.repetitions.now c.loop-repetition.repetition-index c.loop-repetition-test.true c.loop-repetition.invariant.underway c.step.ensures.keeps) c.requires.rest)

pub loop-repetition-preserved : goal.loop-repetition-preserved
loop-repetition-preserved g c = record {
  underway = underway_next c.args.repetitions.now c.loop-repetition.repetition-index c.loop-repetition-test.true c.loop-repetition.invariant.underway c.step.ensures.keeps;
  row = λ words.
      step_done g.R.Repetition.judge g.R.Repetition.act c.args.repetitions.now c.loop-repetition.repetition-index c.repetition-item.result (turn_of c.loop-repetition.stage words c.loop-repetition.replies) (turn_of c.step.new.stage words c.step.new.replies)
      c.step.result c.loop-repetition-test.true c.repetition-item.is (c.step.ensures.row words) (c.in-Ok-None.is ∙ ap Ok c.in-Ok-None.field-0-is) ∙ c.loop-repetition.invariant.row words;
  continues = continues_then c.args.replies.now c.loop-repetition.replies c.step.new.replies c.loop-repetition.invariant.continues c.step.ensures.continues;
}

pub returns-clause-row : goal.returns-clause-row
returns-clause-row g c = λ words.
    sym (c.loop-repetition.invariant.row words)
    ∙ steps_all g.R.Repetition.judge g.R.Repetition.act c.args.repetitions.now c.loop-repetition.repetition-index (turn_of c.loop-repetition.stage words c.loop-repetition.replies) (omega (arith, c.loop-repetition-test.false))
    ∙ ap Ok (sym (c.commit.ensures.same words c.loop-repetition.replies))

pub returns-clause-pictures : goal.returns-clause-pictures
returns-clause-pictures g c = λ words p. c.commit.ensures.pictures (length c.args.repetitions.now - c.loop-repetition.repetition-index) c.args.stage.now words c.loop-repetition.invariant.underway p

pub returns-clause-clients : goal.returns-clause-clients
returns-clause-clients g c = c.commit.ensures.clients ∙ c.loop-repetition.invariant.underway.notify
