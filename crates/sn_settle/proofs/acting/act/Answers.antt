use Rattle.std.proofs.Common.{◌≡◌, ◌||◌, false, None, Some, rules}
use Rattle.sn_tree.specs.Trees.{view_of}
use Rattle.sn_world.specs.Settling.{acted_at, acted, frees, pauses}
use Rattle.sn_world.specs.World.{turn_of}
use Rattle.sn_settle.proofs.Acted.{with_act, no_act, act_none, acted_there}
use Rattle.sn_settle.proofs.acting.act.Goals as goal

pub returns-clause-acted : goal.returns-clause-acted
returns-clause-acted c =
    with_act 1 (acted_at c.args.ending.now (Some c.in-Some.view)) (acted c.args.ending.now) c.args.stage.now c.act_here.new.stage c.args.outs.now c.act_here.new.outs (acted_there c.args.ending.now c.args.stage.now (Some c.in-Some.view) c.in-Some.ensures) c.act_here.ensures

pub returns-in_default-clause-acted : goal.returns-in_default-clause-acted
returns-in_default-clause-acted c = no_act 1 (acted c.args.ending.now) c.args.stage.now c.args.outs.now (acted_there c.args.ending.now c.args.stage.now None c.in_default.ensures)

pub returns-then-not-asks-clause-acted : goal.returns-then-not-asks-clause-acted
returns-then-not-asks-clause-acted c =
    let none : (pauses c.args.ending.now.action || frees c.args.ending.now.action) ≡ false = search rules in
    no_act 1 (acted c.args.ending.now) c.args.stage.now c.args.outs.now (λ words replies. act_none c.args.ending.now (view_of c.args.ending.now.node (turn_of c.args.stage.now words replies).world.nodes) (turn_of c.args.stage.now words replies) none)
