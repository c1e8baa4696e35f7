use Rattle.std.proofs.Common.{ap, sym, subst}
use Rattle.sn_tree.specs.Model.{NodeTree}
use Rattle.sn_world.specs.declared.stage.Held.{Held}
use Rattle.sn_world.specs.declared.stage.Stage.{Stage}
use Rattle.sn_world.specs.Pictures.{Pictures}
use Rattle.sn_nodecmd.proofs.Relocating.{move_refused, moved_pictures, moved_unheard, settled_room}
use Rattle.sn_nodecmd.proofs.moving.move_unheard.Goals as goal

pub relocate-requires : goal.relocate-requires
relocate-requires c = record { room = settled_room c.args.stage.now.tree.journal c.requires.rest.settled }

pub returns-in-Ok-clause-row : goal.returns-in-Ok-clause-row
returns-in-Ok-clause-row c = λ words replies.
    moved_unheard c.args.stage.now _ c.args.to.now c.requires.rest c.in-Ok.ensures.reason
    (ap (λ (t : NodeTree Held). let s : Stage = record c.args.stage.now { tree = t } in s) c.in-Ok.ensures.ok) c.requires.unheard words replies

pub returns-in-Ok-clause-pictures : goal.returns-in-Ok-clause-pictures
returns-in-Ok-clause-pictures c = λ words p.
    moved_pictures c.args.stage.now _ c.args.to.now c.requires.rest c.in-Ok.ensures.reason
    (ap (λ (t : NodeTree Held). let s : Stage = record c.args.stage.now { tree = t } in s) c.in-Ok.ensures.ok) words p

pub returns-in-Err-clause-row : goal.returns-in-Err-clause-row
returns-in-Err-clause-row c = λ words replies. move_refused c.args.stage.now c.args.to.now c.in-Err.reason c.in-Err.ensures.reason words replies

pub returns-in-Err-clause-unchanged : goal.returns-in-Err-clause-unchanged
returns-in-Err-clause-unchanged c = ap (λ (t : NodeTree Held). let s : Stage = record c.args.stage.now { tree = t } in s) c.in-Err.ensures.refused

pub returns-in-Err-clause-pictures : goal.returns-in-Err-clause-pictures
returns-in-Err-clause-pictures c = λ words p.
    subst (λ (s : Stage). Pictures s words) (sym (ap (λ (t : NodeTree Held). let s : Stage = record c.args.stage.now { tree = t } in s) c.in-Err.ensures.refused)) p
