use Rattle.std.proofs.Common.{◌+◌, arith}
use Rattle.sn_mem.proofs.Feet.{read_part}
use Rattle.sn_io.proofs.inputs.heard_at.Goals as goal

pub load_samples-requires : goal.load_samples-requires
load_samples-requires g c = read_part (g.P.Port.foot c.args.port.now) (g.P.Port.foot c.load-written.new.self) c.args.at 65 (c.args.at + 1) 64 c.requires.reads c.load-written.ensures.foot (omega arith) (omega arith)
