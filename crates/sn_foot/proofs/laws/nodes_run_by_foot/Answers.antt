use Rattle.sn_foot.proofs.NodesByFoot.{nodes_by_foot}
use Rattle.sn_foot.proofs.laws.nodes_run_by_foot.Goals as goal

pub returns : goal.returns
returns c = λ rate b region buffers foot ls world may. nodes_by_foot rate b region buffers foot ls world may
