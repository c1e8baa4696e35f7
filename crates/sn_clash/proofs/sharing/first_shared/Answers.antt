use Rattle.sn_clash.proofs.Least.{first_shared}
use Rattle.sn_clash.proofs.sharing.first_shared.Goals as goal

pub returns : goal.returns
returns c = first_shared c.args.buffers.now c.args.marks.now c.args.uses.now c.first_hit.result c.first_hit.ensures
