use Rattle.std.proofs.Common.{◌≡◌, ◌∙◌, is_some, sym, w32}
use mir.Val.{SFits}
use Rattle.std.proofs.lemmas.Int.{to_z-of_z}
use Rattle.sn_tree.specs.Trees.{holds}
use Rattle.sn_tree.specs.Keyed.{labels, front}
use Rattle.sn_tree.proofs.SpotLaws.{found_held, replace_in_use, replace_of}
use Rattle.sn_tree.proofs.store.Store.target_to_replace.Goals as goal

pub returns-then-is_some : goal.returns-then-is_some
returns-then-is_some c =
    let fit : SFits w32 c.args.id = c.ranges.id in
    let told : is_some c.find.result ≡ holds c.args.id (labels (front c.args.self.now)) = found_held c.args.self.now c.args.id c.find.result (simp to_z-of_z at c.find.ensures) in
    replace_in_use c.args.id c.args.target (labels (front c.args.self.now)) (sym told ∙ (sym c.is_some.ensures ∙ c.if-is_some.true))

pub returns : goal.returns
returns c =
    let fit : SFits w32 c.args.id = c.ranges.id in
    let told : is_some c.find.result ≡ holds c.args.id (labels (front c.args.self.now)) = found_held c.args.self.now c.args.id c.find.result (simp to_z-of_z at c.find.ensures) in
    replace_of c.args.self.now c.args.id c.args.target c.detachable.result (sym told ∙ (sym c.is_some.ensures ∙ c.if-is_some.false)) (let fits : SFits w32 c.args.target = c.ranges.target in simp to_z-of_z at c.detachable.ensures)
