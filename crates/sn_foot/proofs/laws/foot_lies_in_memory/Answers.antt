use Rattle.sn_foot.proofs.NodesByFoot.{foot_inside}
use Rattle.sn_foot.proofs.laws.foot_lies_in_memory.Goals as goal

pub returns : goal.returns
returns c = λ rate region buffers hs reach x world is t. foot_inside rate region buffers hs reach x world is t
