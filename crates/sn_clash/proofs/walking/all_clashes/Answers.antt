use Rattle.std.proofs.Common.{◌∙◌, ℕ, Bool, List, ap, map, reverse}
use Rattle.std.specs.Prelude.{pos}
use Rattle.sn_tree.specs.Trees.{Label, Nodes, subtree}
use Rattle.sn_tree.specs.declared.members.Member.{Member}
use Rattle.sn_world.specs.declared.stage.Held.{Held}
use Rattle.sn_foot.specs.declared.resource.Resource.{Resource}
use Rattle.sn_foot.specs.Footprints.{is_there}
use Rattle.sn_foot.specs.Uses.{held_uses}
use Rattle.sn_clash.specs.declared.clash.Clash.{Clash}
use Rattle.sn_clash.specs.Clashing.{clashes}
use Rattle.sn_clash.specs.Passing.{nothing, pass}
use Rattle.sn_clash.specs.Rows.{row_of}
use Rattle.sn_clash.proofs.Stacking.{group_passed}
use Rattle.sn_clash.proofs.walking.all_clashes.Goals as goal

pub returns : goal.returns
returns c =
    let t = c.args.stage.now.tree.attached in
    let root = subtree (pos 0) t in
    let there : Resource → Bool = is_there c.args.stage.now.buffers in
    c.reverse.ensures.items
    ∙ ap (λ (xs : List Clash). reverse xs)
    (c.in_ok-items.ensures
    ∙ ap (λ (ms : List (Member Held)). (pass there (map row_of ms) nothing).found) c.deref.ensures.value
    ∙ ap (λ (rs : List (Label Held × ℕ)). (pass there rs nothing).found) c.in_ok-nodes.ensures)
    ∙ group_passed there root
    ∙ ap (λ (u : Nodes Held). clashes there held_uses u) c.root_holds_all.ensures
