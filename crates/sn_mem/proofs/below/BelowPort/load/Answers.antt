use Rattle.sn_mem.specs.Under.{touched_below}
use Rattle.sn_mem.proofs.below.BelowPort.load.Goals as goal

pub load-requires : goal.load-requires
load-requires g c = (touched_below c.args.self.now.end (g.P.Port.foot c.args.self.now.port.now) c.args.at c.requires).1
