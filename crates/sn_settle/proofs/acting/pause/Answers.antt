use Rattle.std.proofs.Common.{◌≡◌, true, ap}
use Rattle.sn_reply.specs.declared.events.Notice.TheVariants.{Off}
use Rattle.sn_world.proofs.Turning.{is_there}
use Rattle.sn_settle.proofs.Acted.{paused_acted}
use Rattle.sn_settle.proofs.acting.pause.Goals as goal

pub stop-requires-clause-there : goal.stop-requires-clause-there
stop-requires-clause-there c = is_there c.args.ending.now.node c.args.stage.now.tree.attached c.args.view.now c.requires.there

pub returns : goal.returns
returns c =
    let on : c.args.view.now.running ≡ true = cc in
    paused_acted c.args.stage.now c.args.ending.now.node c.args.view.now c.stop.new.tree (Off c.neighbours_of.result) c.args.outs.now c.tell.new.outs on c.stop.ensures (ap Off c.neighbours_of.ensures) c.tell.ensures
