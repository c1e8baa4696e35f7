use Rattle.std.proofs.Common.{◌≡◌, true, false}
use Rattle.sn_forest.specs.Walking.{behind_tree}
use Rattle.sn_tree.proofs.StoredLaws.{nothing_first}
use Rattle.sn_tree.proofs.store.Store.is_whole.Goals as goal

pub returns-in-Some : goal.returns-in-Some
returns-in-Some c = λ e. absurd (let no : false ≡ true = e in cc)

pub returns-in-None : goal.returns-in-None
returns-in-None c = λ _. nothing_first (behind_tree c.args.self.now) c.in-None.ensures
