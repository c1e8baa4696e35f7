use Rattle.std.proofs.Common.{◌≡◌, ◌∙◌, ap, List, ℕ, ℤ, w32, to_z, of_z, length, rules}
use Rattle.std.specs.Prelude.{FitsSigned}
use Rattle.std.proofs.lemmas.Int.{to_z-of_z}
use Rattle.sn_tree.specs.Trees.{Label, subtree}
use Rattle.sn_tree.specs.Members.{members}
use Rattle.sn_world.specs.declared.stage.Held.{Held}
use Rattle.sn_world.specs.Mappings.{any_node}
use Rattle.sn_nodecmd.specs.Runs.{name_of, values_of}
use Rattle.sn_layout.specs.Leaving.{holds_laid}
use Rattle.sn_layout.proofs.Settings.{any_member, any_walked}
use Rattle.sn_layout.proofs.controls.any_held.Goals as goal

pub loop-member-init : goal.loop-member-init
loop-member-init c =
    let test = holds_laid (name_of c.args.run.now.control) (length (values_of c.args.run.now.values)) in
    let id : ℤ = to_z w32 (of_z w32 c.args.node.now.id) in
    let fits : FitsSigned w32 c.args.node.now.id = search rules in
    let same = to_z-of_z w32 c.args.node.now.id fits in
    let all : c.into_iter-member-iterator.result ≡ members (subtree id c.args.tree.now.attached) = c.into_iter-member-iterator.ensures.into_iter_gives ∙ c.members-member-items.ensures in
    ap (λ (ms : List (Label Held × ℕ)). any_member test ms) all
    ∙ any_walked test (subtree id c.args.tree.now.attached)
    ∙ ap (λ (n : ℤ). any_node test (subtree n c.args.tree.now.attached)) same
