use Rattle.std.proofs.Common.{subst, w32}
use mir.Val.{SFits}
use Rattle.std.proofs.lemmas.Int.{to_z-of_z}
use Rattle.sn_tree.specs.Reading.{AreChangedBy}
use Rattle.sn_tree.proofs.Reworking.{rework_shows}
use Rattle.sn_tree.proofs.tree.Tree.change_below.Goals as goal

pub returns : goal.returns
returns g c =
    rework_shows (g.C.ChangePayload.changed c.args.change.now) c.self.inside.root c.self.inside.payloads.slots c.change_rows.new.root c.change_rows.new.payloads.slots c.self.inside.order.now c.self.inside.order.saved c.args.self.now c.args.id c.cursor.result
    c.self.view_is c.requires.closed c.self.invariant.now (let fit : SFits w32 c.args.id = c.ranges.id in simp to_z-of_z at c.cursor.ensures.nodes)
    (subst (AreChangedBy (g.C.ChangePayload.changed c.args.change.now) c.self.inside.root c.self.inside.payloads.slots c.change_rows.new.root c.change_rows.new.payloads.slots) c.new-rows.ensures c.change_rows.ensures)
