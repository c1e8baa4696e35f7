use Rattle.std.proofs.Common.{◌≡◌, false, subst, w32}
use mir.Val.{SFits}
use Rattle.std.proofs.lemmas.Int.{to_z-of_z}
use Rattle.sn_tree.specs.Trees.{holds}
use Rattle.sn_tree.specs.Keyed.{labels, front}
use Rattle.sn_tree.proofs.StoredLaws.{missing_stored}
use Rattle.sn_tree.proofs.store.Store.find_near.Goals as goal

pub returns-in-None : goal.returns-in-None
returns-in-None c =
    let fit : SFits w32 c.args.id = c.ranges.id in
    subst (λ t. holds c.args.id (labels (front t)) ≡ false) c.self.view_is (missing_stored c.self.inside.forest c.self.inside.ids c.args.id c.self.invariant (simp to_z-of_z at c.in-None.ensures))
