use Rattle.std.proofs.Common.{◌∙◌, ap, sym, subst}
use Rattle.sn_tree.specs.Undoing.{CanUndo, undone}
use Rattle.sn_tree.proofs.steps.undo_step.Goals as goal

pub remove-requires-clause-node : goal.remove-requires-clause-node
remove-requires-clause-node c = (subst (λ s. CanUndo s c.args.store.now) c.in-Inserted.is c.requires).0.used

pub remove-requires-clause-inner : goal.remove-requires-clause-inner
remove-requires-clause-inner c = (subst (λ s. CanUndo s c.args.store.now) c.in-Inserted.is c.requires).0.inner

pub remove-requires-clause-leaf : goal.remove-requires-clause-leaf
remove-requires-clause-leaf c = (subst (λ s. CanUndo s c.args.store.now) c.in-Inserted.is c.requires).1

pub shift-requires-clause-node : goal.shift-requires-clause-node
shift-requires-clause-node c = (subst (λ s. CanUndo s c.args.store.now) c.in-Moved.is c.requires).0.used

pub shift-requires-clause-inner : goal.shift-requires-clause-inner
shift-requires-clause-inner c = (subst (λ s. CanUndo s c.args.store.now) c.in-Moved.is c.requires).0.inner

pub shift-requires-clause-place : goal.shift-requires-clause-place
shift-requires-clause-place c = (subst (λ s. CanUndo s c.args.store.now) c.in-Moved.is c.requires).1

pub shift-requires-clause-sound : goal.shift-requires-clause-sound
shift-requires-clause-sound c = (subst (λ s. CanUndo s c.args.store.now) c.in-Moved.is c.requires).2

pub set_run-requires : goal.set_run-requires
set_run-requires c = subst (λ s. CanUndo s c.args.store.now) c.in-Ran.is c.requires

pub returns-in-Inserted : goal.returns-in-Inserted
returns-in-Inserted c = c.remove.ensures.rest ∙ ap (λ s. undone s c.args.store.now) (sym c.in-Inserted.is)

pub returns-in-Moved : goal.returns-in-Moved
returns-in-Moved c = c.shift.ensures ∙ ap (λ s. undone s c.args.store.now) (sym c.in-Moved.is)

pub returns-in-Ran : goal.returns-in-Ran
returns-in-Ran c = c.set_run.ensures ∙ ap (λ s. undone s c.args.store.now) (sym c.in-Ran.is)
