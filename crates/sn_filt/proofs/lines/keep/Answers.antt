use Rattle.std.proofs.Common.{◌+◌, refl, arith}
use Rattle.sn_mem.proofs.Feet.{may_write}
use Rattle.sn_filt.proofs.lines.keep.Goals as goal

pub store-requires : goal.store-requires
store-requires g c = may_write (g.P.Port.foot c.args.port.now) (g.P.Port.foot c.args.port.now) c.args.state.at c.args.state.len (c.args.state.at + c.args.head + c.args.place) c.requires.state refl (omega arith) (omega arith)
