use Rattle.std.proofs.Common.{w32}
use mir.Val.{SFits}
use Rattle.std.proofs.lemmas.Int.{to_z-of_z}
use Rattle.sn_tree.proofs.Listing.{members_left, walk_shown}
use Rattle.sn_tree.proofs.tree.Tree.walk_at.Goals as goal

pub invariant_of-result : goal.invariant_of-result
invariant_of-result g c =
    members_left c.self.inside.root c.self.inside.payloads.slots c.self.inside.order.now c.args.id c.cursor.result (let fit : SFits w32 c.args.id = c.ranges.id in simp to_z-of_z at c.cursor.ensures.nodes) c.self.invariant.now

pub returns : goal.returns
returns g c =
    walk_shown c.self.inside.root c.self.inside.payloads.slots c.self.inside.order.now c.args.id c.cursor.result (let fit : SFits w32 c.args.id = c.ranges.id in simp to_z-of_z at c.cursor.ensures.nodes) c.self.inside.order.saved c.args.self.now c.self.view_is
