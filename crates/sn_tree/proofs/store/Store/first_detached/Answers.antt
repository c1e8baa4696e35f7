use Rattle.std.proofs.Common.{◌∙◌, ap}
use Rattle.sn_forest.specs.Trees.{first_key}
use Rattle.sn_forest.specs.Walking.{behind_tree}
use Rattle.sn_tree.proofs.LevelLaws.{root_next, root_linked}
use Rattle.sn_tree.proofs.store.Store.first_detached.Goals as goal

pub returns-in-Some : goal.returns-in-Some
returns-in-Some c = root_next c.self.inside.forest c.root-root.result c.in-Some.links c.root-root.ensures c.in-Some.ensures ∙ ap (λ t. first_key (behind_tree t)) c.self.view_is

pub returns-in-None : goal.returns-in-None
returns-in-None c = absurd (root_linked c.self.inside.forest c.root-root.result c.root-root.ensures c.in-None.ensures)
