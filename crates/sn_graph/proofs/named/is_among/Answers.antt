use Rattle.sn_tree.proofs.Sharing.{among}
use Rattle.sn_graph.proofs.named.is_among.Goals as goal

pub returns : goal.returns
returns c = among c.args.id.now c.args.sorted.now c.binary_search.result c.is_ok.result c.requires c.binary_search.ensures.bound c.binary_search.ensures.position c.is_ok.ensures.value
