use Rattle.std.proofs.Common.{◌∙◌, sym, refl, arith, Ok}
use Rattle.sn_nodecmd.proofs.Repeating.{unless_any}
use Rattle.sn_nodecmd.proofs.moving.run_alone.Goals as goal

pub move_unheard-requires-clause-unheard : goal.move_unheard-requires-clause-unheard
move_unheard-requires-clause-unheard c = sym c.is_heard.ensures ∙ c.if-not-is_heard.true

pub returns-then-not-is_heard-clause-row : goal.returns-then-not-is_heard-clause-row
returns-then-not-is_heard-clause-row c = λ words. c.move_unheard.ensures.row words c.args.replies.now

pub returns-then-not-is_heard-clause-untold : goal.returns-then-not-is_heard-clause-untold
returns-then-not-is_heard-clause-untold c = unless_any (Ok c.move_unheard.result) _ refl

pub each-requires-clause-few : goal.each-requires-clause-few
each-requires-clause-few c = omega arith
