use Rattle.std.proofs.Common.{◌≡◌, ◌∙◌, ap, subst, w32}
use Rattle.std.specs.Prelude.{IfOk}
use mir.Val.{SFits}
use Rattle.std.proofs.lemmas.Int.{to_z-of_z}
use Rattle.sn_tree.specs.Below.{synth_ids}
use Rattle.sn_tree.specs.Keyed.{labels}
use Rattle.sn_tree.specs.Reading.{synths_by}
use Rattle.sn_tree.proofs.ReadLaws.{synths-rows}
use Rattle.sn_tree.proofs.NextLaws.{children_is}
use Rattle.sn_tree.proofs.Gathering.{synths_shown}
use Rattle.sn_tree.proofs.tree.Tree.synths_below.Goals as goal

pub returns : goal.returns
returns g c =
    let fit : SFits w32 c.args.id = c.ranges.id in
    let nodes = simp to_z-of_z at c.cursor.ensures.nodes in
    subst (λ l. IfOk c.synths_in.result (λ found. found.items ≡ l))
    (ap synths_by c.new-rows.ensures
    ∙ (synths-rows c.below.result
    ∙ (ap (λ t. synth_ids (labels t)) c.below.ensures
    ∙ (ap synth_ids (children_is c.cursor.result c.args.id c.self.inside.order.now.attached nodes) ∙ synths_shown c.self.inside.root c.self.inside.payloads.slots c.self.inside.order.now c.self.inside.order.saved c.args.self.now c.self.view_is c.args.id))))
    c.synths_in.ensures
