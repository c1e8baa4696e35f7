use Rattle.std.proofs.Common.{◌∙◌, arith, ap, w32}
use mir.Val.{SFits}
use Rattle.std.proofs.lemmas.Int.{to_z-of_z}
use Rattle.sn_forest.specs.Trees.{subtree}
use Rattle.sn_forest.specs.Walking.{behind_tree}
use Rattle.sn_tree.specs.Trees.{Nodes, shares, count as count_nodes}
use Rattle.sn_tree.specs.Order.{Key}
use Rattle.sn_tree.proofs.Attaching.{no_top, in_use, spot_refused, too_many, can_attach}
use Rattle.sn_tree.specs.Keyed.{labels, front}
use Rattle.sn_tree.specs.Stored.{IsLastTop}
use Rattle.sn_tree.proofs.OrderLaws.{count-labels, top_used, some_nodes}
use Rattle.sn_tree.proofs.store.Store.attachable.Goals as goal

pub returns-in_default : goal.returns-in_default
returns-in_default c =
    let fit : SFits w32 c.args.id = c.ranges.id in
    let h = simp to_z-of_z at c.in_default.ensures in
    no_top c.args.id c.args.spot.action c.args.spot.target (labels (front c.args.self.now)) (labels (behind_tree c.args.self.now)) h

pub returns-in_default-newcomers : goal.returns-in_default-newcomers
returns-in_default-newcomers c =
    let top : IsLastTop c.args.self.now c.args.id c.in-Some.key = (let fit : SFits w32 c.args.id = c.ranges.id in simp to_z-of_z at c.in-Some.ensures) in
    in_use c.args.id c.args.spot.action c.args.spot.target (labels (front c.args.self.now)) (labels (behind_tree c.args.self.now)) (ap (λ n. shares n (labels (front c.args.self.now))) top.last ∙ c.in_default-newcomers.ensures)

pub newcomers-requires : goal.newcomers-requires
newcomers-requires c =
    let top : IsLastTop c.args.self.now c.args.id c.in-Some.key = (let fit : SFits w32 c.args.id = c.ranges.id in simp to_z-of_z at c.in-Some.ensures) in
    top_used c.in-Some.key c.args.self.now top.there

pub returns-in-Err : goal.returns-in-Err
returns-in-Err c =
    let top : IsLastTop c.args.self.now c.args.id c.in-Some.key = (let fit : SFits w32 c.args.id = c.ranges.id in simp to_z-of_z at c.in-Some.ensures) in
    spot_refused c.args.id c.args.spot.action c.args.spot.target (labels (front c.args.self.now)) (labels (behind_tree c.args.self.now)) (ap (λ n. shares n (labels (front c.args.self.now))) top.last ∙ c.in-Some-newcomers.ensures.0) top.has c.in-Err.fault c.in-Err.ensures

pub returns-then-count-room : goal.returns-then-count-room
returns-then-count-room c =
    let top : IsLastTop c.args.self.now c.args.id c.in-Some.key = (let fit : SFits w32 c.args.id = c.ranges.id in simp to_z-of_z at c.in-Some.ensures) in
    too_many c.args.id c.args.spot.action c.args.spot.target (labels (front c.args.self.now)) (labels (behind_tree c.args.self.now)) (ap (λ n. shares n (labels (front c.args.self.now))) top.last ∙ c.in-Some-newcomers.ensures.0) top.has c.in-Ok.ensures.0
    (omega (arith, c.if-count-room.true, c.saturating_sub-room.ensures, c.len.ensures, c.in-Some-newcomers.ensures.1, count-labels (front c.args.self.now), count-labels (subtree c.in-Some.key c.args.self.now), ap (λ (n : Nodes Key). count_nodes n) top.last))

pub returns : goal.returns
returns c =
    let top : IsLastTop c.args.self.now c.args.id c.in-Some.key = (let fit : SFits w32 c.args.id = c.ranges.id in simp to_z-of_z at c.in-Some.ensures) in (
      can_attach c.args.id c.args.spot.action c.args.spot.target (labels (front c.args.self.now)) (labels (behind_tree c.args.self.now)) (ap (λ n. shares n (labels (front c.args.self.now))) top.last ∙ c.in-Some-newcomers.ensures.0) top.has c.in-Ok.ensures.0
          (omega (arith, some_nodes c.in-Some.key c.args.self.now c.keys_differ.ensures (top_used c.in-Some.key c.args.self.now top.there), c.if-count-room.false, c.saturating_sub-room.ensures, c.len.ensures, c.in-Some-newcomers.ensures.1, count-labels (front c.args.self.now), count-labels (subtree c.in-Some.key c.args.self.now), ap (λ (n : Nodes Key). count_nodes n) top.last)),
      record { node = top; spot = c.in-Ok.ensures.1 },
    )
