use Rattle.std.proofs.lemmas.Result.{on_ok_weaker}
use Rattle.sn_foot.proofs.Putting.{puts_uses}
use Rattle.sn_foot.proofs.using.push_held.Goals as goal

pub returns : goal.returns
returns c = on_ok_weaker c.push_node.result (puts_uses c.args.held.now c.args.uses.now.items c.push_node.new.uses.items) c.push_node.ensures
