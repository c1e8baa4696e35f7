use Rattle.std.proofs.Common.{◌≡◌, ◌∙◌, ◌&&◌, [], ◌∷◌, None, Some, sym}
use Rattle.sn_tree.specs.declared.node.TreeFault.TheVariants.{IsRoot, NotGroup}
use Rattle.sn_tree.specs.Faults.{first_fault, is_beside_root, is_inside, is_synth}
use Rattle.sn_tree.proofs.LabelLaws.{At, at, spot_at}
use Rattle.sn_tree.proofs.store.Store.place_by.Goals as goal

pub returns-in_default : goal.returns-in_default
returns-in_default c =
    let a : At c.args.self.now c.args.spot.target c.args.key = at c.args.self.now c.args.spot.target c.args.key c.keys_differ.ensures (c.is_sound.ensures.distinct c.args.spot.target) c.requires in
    absurd (let x : None ≡ Some a.item = c.in_default.ensures ∙ a.held in cc)

pub returns-in-Some-fault_at : goal.returns-in-Some-fault_at
returns-in-Some-fault_at c =
    let a : At c.args.self.now c.args.spot.target c.args.key = at c.args.self.now c.args.spot.target c.args.key c.keys_differ.ensures (c.is_sound.ensures.distinct c.args.spot.target) c.requires in
    let told : Some c.in-Some-fault_at.fault ≡ first_fault ((is_beside_root c.args.spot.action c.args.spot.target, IsRoot) ∷ (is_inside c.args.spot.action && is_synth c.in-Some.item.now.kind, NotGroup) ∷ []) = c.in-Some-fault_at.ensures in
    spot_at c.args.self.now c.args.spot.action c.args.spot.target c.args.key c.in-Some.item.now a c.requires c.in-Some.ensures ∙ sym told

pub returns-in-None : goal.returns-in-None
returns-in-None c =
    let a : At c.args.self.now c.args.spot.target c.args.key = at c.args.self.now c.args.spot.target c.args.key c.keys_differ.ensures (c.is_sound.ensures.distinct c.args.spot.target) c.requires in
    let told : None ≡ first_fault ((is_beside_root c.args.spot.action c.args.spot.target, IsRoot) ∷ (is_inside c.args.spot.action && is_synth c.in-Some.item.now.kind, NotGroup) ∷ []) = c.in-None.ensures in
    (spot_at c.args.self.now c.args.spot.action c.args.spot.target c.args.key c.in-Some.item.now a c.requires c.in-Some.ensures ∙ sym told, c.place_at.ensures)
