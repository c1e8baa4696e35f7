use Rattle.std.proofs.Common.{◌+◌, refl, arith}
use Rattle.sn_mem.proofs.Feet.{may_touch, may_write}
use Rattle.sn_filt.proofs.rings.hear.Goals as goal

pub load-old-requires : goal.load-old-requires
load-old-requires g c = may_touch (g.P.Port.foot c.args.port.now) (g.P.Port.foot c.args.port.now) c.args.state.at c.args.state.len (c.args.state.at + 1 + c.before-past.result) c.requires.state refl (omega arith) (omega arith)

pub store-requires : goal.store-requires
store-requires g c = may_write (g.P.Port.foot c.args.port.now) (g.P.Port.foot c.load-old.new.self) c.args.state.at c.args.state.len (c.args.state.at + 1 + c.args.place) c.requires.state c.load-old.ensures.foot (omega arith) (omega arith)
