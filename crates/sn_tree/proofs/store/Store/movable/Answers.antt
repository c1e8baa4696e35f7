use Rattle.std.proofs.Common.{◌≡◌, ◌≤◌, ◌∙◌, false, pos, int_eq, sym, ap, w32, of_z, to_z, rules}
use mir.Val.{SFits}
use Rattle.std.proofs.lemmas.Int.{to_z-of_z}
use Rattle.std.proofs.lemmas.Bool.{false_from_ne_true}
use Rattle.std.proofs.lemmas.Bool.Decides.{Decides-int_eq}
use Rattle.sn_tree.specs.Trees.{holds, subtree}
use Rattle.sn_tree.proofs.Moving.{no_node, no_target, stays_root, spot_refused, inside_itself, can_move}
use Rattle.sn_tree.specs.Keyed.{labels, front, named}
use Rattle.sn_tree.proofs.LabelLaws.{At, at, named_held}
use Rattle.sn_tree.proofs.SpotLaws.{front_once, inside_is}
use Rattle.sn_tree.proofs.LabelLaws.{named_there}
use Rattle.sn_tree.proofs.OrderShifts.{stays}
use Rattle.sn_tree.proofs.store.Store.movable.Goals as goal

pub returns-in_default : goal.returns-in_default
returns-in_default c =
    let h : holds c.args.id (labels (front c.args.self.now)) ≡ false = (let fit : SFits w32 c.args.id = c.ranges.id in simp to_z-of_z at c.in_default.ensures) in
    no_node c.args.spot.action c.args.spot.target c.args.id (labels (front c.args.self.now)) h

pub returns-in_default-find : goal.returns-in_default-find
returns-in_default-find c =
    let u : 1 ≤ named c.args.id c.in-Some.key (front c.args.self.now) = (let fit : SFits w32 c.args.id = c.ranges.id in simp to_z-of_z at c.in-Some.ensures) in
    let h : holds c.args.spot.target (labels (front c.args.self.now)) ≡ false = (let fit : SFits w32 c.args.spot.target = search rules in simp to_z-of_z at c.in_default-find.ensures) in
    no_target c.args.spot.action c.args.spot.target c.args.id (labels (front c.args.self.now)) (named_held c.args.self.now c.args.id c.in-Some.key u) h

pub returns-then-id-eq0 : goal.returns-then-id-eq0
returns-then-id-eq0 c =
    let u : 1 ≤ named c.args.id c.in-Some.key (front c.args.self.now) = (let fit : SFits w32 c.args.id = c.ranges.id in simp to_z-of_z at c.in-Some.ensures) in
    let v : 1 ≤ named c.args.spot.target c.in-Some-find.target (front c.args.self.now) = (let fit : SFits w32 c.args.spot.target = search rules in simp to_z-of_z at c.in-Some-find.ensures) in
    stays_root c.args.spot.action c.args.spot.target c.args.id (labels (front c.args.self.now)) (named_held c.args.self.now c.args.id c.in-Some.key u) (named_held c.args.self.now c.args.spot.target c.in-Some-find.target v)
    ((Decides-int_eq c.args.id (pos 0)).1 (sym (to_z-of_z w32 c.args.id c.ranges.id) ∙ ap (to_z w32) c.if-id-eq0.true))

pub place_by-requires : goal.place_by-requires
place_by-requires c = let fit : SFits w32 c.args.spot.target = search rules in simp to_z-of_z at c.in-Some-find.ensures

pub returns-in-Err : goal.returns-in-Err
returns-in-Err c =
    let u : 1 ≤ named c.args.id c.in-Some.key (front c.args.self.now) = (let fit : SFits w32 c.args.id = c.ranges.id in simp to_z-of_z at c.in-Some.ensures) in
    let v : 1 ≤ named c.args.spot.target c.in-Some-find.target (front c.args.self.now) = (let fit : SFits w32 c.args.spot.target = search rules in simp to_z-of_z at c.in-Some-find.ensures) in
    let z : int_eq c.args.id (pos 0) ≡ false = false_from_ne_true (int_eq c.args.id (pos 0)) (λ b. c.if-id-eq0.false (ap (of_z w32) ((Decides-int_eq c.args.id (pos 0)).0 b))) in
    spot_refused c.args.spot.action c.args.spot.target c.args.id (labels (front c.args.self.now)) c.in-Err.fault (named_held c.args.self.now c.args.id c.in-Some.key u) (named_held c.args.self.now c.args.spot.target c.in-Some-find.target v) z c.in-Err.ensures

pub is_inside-requires : goal.is_inside-requires
is_inside-requires c =
    let v : 1 ≤ named c.args.spot.target c.in-Some-find.target (front c.args.self.now) = (let fit : SFits w32 c.args.spot.target = search rules in simp to_z-of_z at c.in-Some-find.ensures) in
    named_there c.args.self.now c.args.spot.target c.in-Some-find.target v

pub returns-then-is_inside : goal.returns-then-is_inside
returns-then-is_inside c =
    let u : 1 ≤ named c.args.id c.in-Some.key (front c.args.self.now) = (let fit : SFits w32 c.args.id = c.ranges.id in simp to_z-of_z at c.in-Some.ensures) in
    let v : 1 ≤ named c.args.spot.target c.in-Some-find.target (front c.args.self.now) = (let fit : SFits w32 c.args.spot.target = search rules in simp to_z-of_z at c.in-Some-find.ensures) in
    let z : int_eq c.args.id (pos 0) ≡ false = false_from_ne_true (int_eq c.args.id (pos 0)) (λ b. c.if-id-eq0.false (ap (of_z w32) ((Decides-int_eq c.args.id (pos 0)).0 b))) in
    let a : At c.args.self.now c.args.id c.in-Some.key = at c.args.self.now c.args.id c.in-Some.key c.keys_differ.ensures (c.is_sound.ensures.distinct c.args.id) u in
    let same : holds c.args.spot.target (subtree c.args.id (labels (front c.args.self.now))) ≡ c.is_inside.result = inside_is c.args.self.now c.args.id c.in-Some.key c.args.spot.target c.in-Some-find.target (front_once c.args.self.now c.keys_differ.ensures) (c.is_sound.ensures.distinct c.args.spot.target) a v ∙ sym c.is_inside.ensures in
    inside_itself c.args.spot.action c.args.spot.target c.args.id (labels (front c.args.self.now)) (named_held c.args.self.now c.args.id c.in-Some.key u) (named_held c.args.self.now c.args.spot.target c.in-Some-find.target v) z c.in-Ok.ensures.0 (same ∙ c.if-is_inside.true)

pub returns : goal.returns
returns c =
    let u : 1 ≤ named c.args.id c.in-Some.key (front c.args.self.now) = (let fit : SFits w32 c.args.id = c.ranges.id in simp to_z-of_z at c.in-Some.ensures) in
    let v : 1 ≤ named c.args.spot.target c.in-Some-find.target (front c.args.self.now) = (let fit : SFits w32 c.args.spot.target = search rules in simp to_z-of_z at c.in-Some-find.ensures) in
    let z : int_eq c.args.id (pos 0) ≡ false = false_from_ne_true (int_eq c.args.id (pos 0)) (λ b. c.if-id-eq0.false (ap (of_z w32) ((Decides-int_eq c.args.id (pos 0)).0 b))) in
    let a : At c.args.self.now c.args.id c.in-Some.key = at c.args.self.now c.args.id c.in-Some.key c.keys_differ.ensures (c.is_sound.ensures.distinct c.args.id) u in
    let same : holds c.args.spot.target (subtree c.args.id (labels (front c.args.self.now))) ≡ c.is_inside.result = inside_is c.args.self.now c.args.id c.in-Some.key c.args.spot.target c.in-Some-find.target (front_once c.args.self.now c.keys_differ.ensures) (c.is_sound.ensures.distinct c.args.spot.target) a v ∙ sym c.is_inside.ensures in (
      can_move c.args.spot.action c.args.spot.target c.args.id (labels (front c.args.self.now)) (named_held c.args.self.now c.args.id c.in-Some.key u) (named_held c.args.self.now c.args.spot.target c.in-Some-find.target v) z c.in-Ok.ensures.0 (same ∙ c.if-is_inside.false),
      stays c.args.self.now c.args.id c.in-Some.key c.args.spot.action c.args.spot.target c.in-Some-find.target c.in-Ok.place c.keys_differ.ensures c.is_sound.ensures u z v (sym c.is_inside.ensures ∙ c.if-is_inside.false) c.in-Ok.ensures.1,
    )
