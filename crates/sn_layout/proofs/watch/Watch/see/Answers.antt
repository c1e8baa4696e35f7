use Rattle.sn_osc.specs.Shape.{message_of}
use Rattle.sn_layout.proofs.Messages.{leaves}
use Rattle.sn_layout.proofs.watch.Watch.see.Goals as goal

pub returns-clause-leaves : goal.returns-clause-leaves
returns-clause-leaves c = λ is words replies. leaves c.args.stage.now words replies (message_of c.args.message.now) (c.still_stays-stays.ensures.leaves is)
