use Rattle.std.proofs.Common.{reverse, sym, subst, arith}
use Rattle.std.proofs.lemmas.List.{nil_from_length}
use Rattle.sn_tree.proofs.StepLaws.{IsUndoing, undoing_start, undoing_can, undoing_next, undoing_end}
use Rattle.sn_tree.proofs.steps.undo_all.Goals as goal

pub loop-step-init : goal.loop-step-init
loop-step-init c = undoing_start (reverse c.args.steps.items) c.args.store.now c.requires

pub undo_step-requires : goal.undo_step-requires
undo_step-requires c = undoing_can (reverse c.args.steps.items) c.args.store.now c.loop-step.store c.loop-step.steps.items c.pop.new.self.items c.in-Some.step c.loop-step.invariant c.in-Some.ensures.items

pub loop-step-preserved : goal.loop-step-preserved
loop-step-preserved c =
    subst (λ t. IsUndoing (reverse c.args.steps.items) c.args.store.now (reverse c.pop.new.self.items) t) (sym c.undo_step.ensures)
    (undoing_next (reverse c.args.steps.items) c.args.store.now c.loop-step.store c.loop-step.steps.items c.pop.new.self.items c.in-Some.step c.loop-step.invariant c.in-Some.ensures.items)

pub returns : goal.returns
returns c =
    let left = c.loop-step.steps in
    undoing_end (reverse c.args.steps.items) c.args.store.now c.loop-step.store left.items c.loop-step.invariant (nil_from_length left.items (omega (arith, left.ok.0, c.in_default.ensures.cases.0)))
