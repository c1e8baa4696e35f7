use Rattle.std.proofs.Common.{◌≡◌, ◌≤◌, false, w32, rules}
use mir.Val.{SFits}
use Rattle.std.proofs.lemmas.Int.{to_z-of_z}
use Rattle.sn_tree.specs.Trees.{holds}
use Rattle.sn_tree.specs.Keyed.{labels, front, named}
use Rattle.sn_tree.proofs.SpotLaws.{spot_of, spot_missing}
use Rattle.sn_tree.proofs.store.Store.place_of.Goals as goal

pub place_by-requires : goal.place_by-requires
place_by-requires c = let fit : SFits w32 c.args.spot.target = search rules in simp to_z-of_z at c.in-Some.ensures

pub returns-in-Some : goal.returns-in-Some
returns-in-Some c =
    let u : 1 ≤ named c.args.spot.target c.in-Some.key (front c.args.self.now) = (let fit : SFits w32 c.args.spot.target = search rules in simp to_z-of_z at c.in-Some.ensures) in
    spot_of c.args.self.now c.args.spot.action c.args.spot.target c.in-Some.key u c.place_by.result c.place_by.ensures

pub returns-in-None : goal.returns-in-None
returns-in-None c =
    let h : holds c.args.spot.target (labels (front c.args.self.now)) ≡ false = (let fit : SFits w32 c.args.spot.target = search rules in simp to_z-of_z at c.in-None.ensures) in
    spot_missing c.args.spot.action c.args.spot.target (labels (front c.args.self.now)) h
