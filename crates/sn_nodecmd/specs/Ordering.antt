-- The arguments of `/n_order` as they are read.
use Rattle.sn_world.specs.NodeOrder.{NodeOrder}
use Rattle.sn_nodecmd.specs.declared.ordering.AskedOrder.{AskedOrder}

-- what they ask for
abbrev pub order_of : AskedOrder → NodeOrder
order_of a = record { place = a.place; nodes = a.nodes.items }
