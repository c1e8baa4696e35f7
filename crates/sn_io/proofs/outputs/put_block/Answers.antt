use Rattle.std.proofs.Common.{◌+◌, arith}
use Rattle.sn_mem.proofs.Feet.{part_at}
use Rattle.sn_io.proofs.outputs.put_block.Goals as goal

pub mix_block-requires : goal.mix_block-requires
mix_block-requires g c = part_at (g.P.Port.foot c.args.port.now) (g.P.Port.foot c.load-written.new.self) c.args.at 65 (c.args.at + 1) 64 c.requires.bus c.load-written.ensures.foot (omega arith) (omega arith)

pub set_block-requires : goal.set_block-requires
set_block-requires g c = part_at (g.P.Port.foot c.args.port.now) (g.P.Port.foot c.load-written.new.self) c.args.at 65 (c.args.at + 1) 64 c.requires.bus c.load-written.ensures.foot (omega arith) (omega arith)
