-- Reasons for the tree's faults.
use Rattle.sn_reply.specs.declared.reason.Reason.{Reason}
use Rattle.sn_reply.specs.declared.reason.Reason.TheVariants as Reasons
use Rattle.sn_tree.specs.declared.node.TreeFault.{TreeFault}
use Rattle.sn_tree.specs.declared.node.TreeFault.TheVariants as faults

-- what a client is told if the tree has a fault
abbrev pub reason_of : TreeFault → Reason
reason_of faults.InUse = Reasons.IdInUse
reason_of faults.NoNode = Reasons.NoSuchNode
reason_of faults.IsRoot = Reasons.Root
reason_of faults.NotGroup = Reasons.NotGroup
reason_of faults.Inside = Reasons.InsideItself
reason_of faults.TooMany = Reasons.TooManyNodes
