use Rattle.std.proofs.Common.{◌∙◌, ap, pos}
use Rattle.sn_tree.specs.Model.{NodeTree}
use Rattle.sn_tree.specs.Trees.{payloads, with_payloads}
use Rattle.sn_tree.specs.Kept.{payload_of}
use Rattle.sn_tree.specs.Tallies.{gathered}
use Rattle.sn_tree.specs.Reading.{held_by}
use Rattle.sn_tree.proofs.ReadLaws.{held-rows}
use Rattle.sn_tree.proofs.Listing.{members_left}
use Rattle.sn_tree.proofs.Gathering.{root_whole}
use Rattle.sn_tree.proofs.tree.Tree.tally.Goals as goal

pub returns : goal.returns
returns g c =
    c.tally_rows.ensures
    ∙ ap (gathered g.T.Tally.with_one c.args.tally.now)
    (ap (held_by c.self.inside.root c.self.inside.payloads.slots) c.new-rows.ensures
    ∙ (held-rows c.self.inside.root c.self.inside.payloads.slots c.cursor.result
    (members_left c.self.inside.root c.self.inside.payloads.slots c.self.inside.order.now (pos 0) c.cursor.result c.cursor.ensures.nodes c.self.invariant.now)
    ∙ (ap (λ n. payloads (with_payloads (payload_of c.self.inside.root c.self.inside.payloads.slots) n)) (c.cursor.ensures.nodes ∙ root_whole c.self.inside.order.now.attached c.self.invariant.rooted)
    ∙ ap (λ (t : NodeTree g.row.P.Denot). payloads t.attached) c.self.view_is)))
