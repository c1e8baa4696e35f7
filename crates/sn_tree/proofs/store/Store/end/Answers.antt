use Rattle.sn_tree.proofs.StoredLaws.{no_end}
use Rattle.sn_tree.proofs.store.Store.end.Goals as goal

pub returns-in-None : goal.returns-in-None
returns-in-None c = absurd (no_end c.self.inside.forest c.root.result c.root.ensures c.in-None.ensures)
