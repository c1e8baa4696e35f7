use Rattle.std.proofs.Common.{◌∙◌, sym, ap, subst, int_eq}
use Rattle.sn_tree.specs.Trees.{ids}
use Rattle.sn_tree.specs.Model.{NodeTree}
use Rattle.sn_tree.specs.Kept.{payload_of}
use Rattle.sn_tree.specs.Steps.{AllDistinct}
use Rattle.sn_tree.proofs.PayloadLaws.{ids-payloads}
use Rattle.sn_tree.proofs.tree.Tree.ids_are_distinct.Goals as goal

pub returns : goal.returns
returns g c =
    subst (λ l. AllDistinct int_eq l)
    (sym (ids-payloads (payload_of c.self.inside.root c.self.inside.payloads.slots) c.self.inside.order.now.attached) ∙ ap (λ (t : NodeTree g.row.P.Denot). ids t.attached) c.self.view_is)
    c.self.invariant.distinct
