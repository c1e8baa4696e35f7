use Rattle.std.proofs.Common.{◌≡◌, ◌∙◌, is_some, arith, sym, w32}
use mir.Val.{SFits}
use Rattle.std.proofs.lemmas.Int.{to_z-of_z}
use Rattle.sn_tree.specs.Trees.{holds}
use Rattle.sn_tree.proofs.Arranging.{too_many, no_fault}
use Rattle.sn_tree.specs.Keyed.{labels, front}
use Rattle.sn_tree.proofs.OrderLaws.{count-labels}
use Rattle.sn_tree.proofs.SpotLaws.{found_held, in_use, refused_too}
use Rattle.sn_tree.proofs.store.Store.place_for_new.Goals as goal

pub returns-then-is_some : goal.returns-then-is_some
returns-then-is_some c =
    let fit : SFits w32 c.args.id = c.ranges.id in
    let told : is_some c.find.result ≡ holds c.args.id (labels (front c.args.self.now)) = found_held c.args.self.now c.args.id c.find.result (simp to_z-of_z at c.find.ensures) in
    in_use c.args.id c.args.spot.action c.args.spot.target (labels (front c.args.self.now)) (sym told ∙ (sym c.is_some.ensures ∙ c.if-is_some.true))

pub returns-in-Err : goal.returns-in-Err
returns-in-Err c =
    let fit : SFits w32 c.args.id = c.ranges.id in
    let told : is_some c.find.result ≡ holds c.args.id (labels (front c.args.self.now)) = found_held c.args.self.now c.args.id c.find.result (simp to_z-of_z at c.find.ensures) in
    refused_too c.args.id c.args.spot.action c.args.spot.target (labels (front c.args.self.now)) c.in-Err.fault (sym told ∙ (sym c.is_some.ensures ∙ c.if-is_some.false)) c.in-Err.ensures

pub returns-then-len-ge-MOST_NODES : goal.returns-then-len-ge-MOST_NODES
returns-then-len-ge-MOST_NODES c =
    let fit : SFits w32 c.args.id = c.ranges.id in
    let told : is_some c.find.result ≡ holds c.args.id (labels (front c.args.self.now)) = found_held c.args.self.now c.args.id c.find.result (simp to_z-of_z at c.find.ensures) in
    too_many c.args.id c.args.spot.action c.args.spot.target (labels (front c.args.self.now)) (sym told ∙ (sym c.is_some.ensures ∙ c.if-is_some.false)) c.in-Ok.ensures.0
    (omega (arith, c.if-len-ge-MOST_NODES.true, c.len.ensures, count-labels (front c.args.self.now)))

pub returns : goal.returns
returns c =
    let fit : SFits w32 c.args.id = c.ranges.id in
    let told : is_some c.find.result ≡ holds c.args.id (labels (front c.args.self.now)) = found_held c.args.self.now c.args.id c.find.result (simp to_z-of_z at c.find.ensures) in (
      no_fault c.args.id c.args.spot.action c.args.spot.target (labels (front c.args.self.now)) (sym told ∙ (sym c.is_some.ensures ∙ c.if-is_some.false)) c.in-Ok.ensures.0
          (omega (arith, c.if-len-ge-MOST_NODES.false, c.len.ensures, count-labels (front c.args.self.now))),
      c.in-Ok.ensures.1,
    )
