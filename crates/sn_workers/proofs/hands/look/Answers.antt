use Rattle.sn_table.proofs.Working.{ready_read}
use Rattle.sn_workers.proofs.hands.look.Goals as goal

pub returns : goal.returns
returns g c =
    let W = g.W.Work in
    let work = c.args._work.now in
    ready_read c.args.shared.now (W.jobs work) (W.foot_of work) (W.outcome work) c.args.plan.now c.args.seat.now c.look.new.seat c.args.job c.look.result c.requires.ready c.look.ensures.seat c.look.ensures.step
