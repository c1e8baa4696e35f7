use Rattle.std.proofs.Common.{◌+◌, arith}
use Rattle.sn_mem.proofs.Feet.{may_write}
use Rattle.sn_filt.proofs.lines.store_comb.Goals as goal

pub store-requires-2 : goal.store-requires-2
store-requires-2 g c = may_write (g.P.Port.foot c.args.port.now) (g.P.Port.foot c.store.new.self) c.args.state.at c.args.state.len (c.args.state.at + 1) c.requires.state c.store.ensures.foot (omega arith) (omega arith)
