use Rattle.std.proofs.Common.{◌≡◌, ◌∙◌, ap, map, Bool, List, ℕ, ℤ, w32, to_z, of_z, rules}
use Rattle.std.specs.Prelude.{FitsSigned}
use Rattle.std.proofs.lemmas.Int.{to_z-of_z}
use Rattle.sn_tree.specs.Trees.{Label, subtree}
use Rattle.sn_tree.specs.Members.{members}
use Rattle.sn_world.specs.declared.stage.Held.{Held}
use Rattle.sn_world.specs.Mappings.{any_node}
use Rattle.sn_nodecmd.specs.Mapped.{mapping_of}
use Rattle.sn_nodecmd.specs.Indexing.{held_takes}
use Rattle.sn_nodecmd.proofs.MappingLemmas.{any_member, any-walked, any-found}
use Rattle.sn_nodecmd.proofs.indexing.take_index_below.Goals as goal

pub loop-member-init : goal.loop-member-init
loop-member-init c =
    let id : ℤ = to_z w32 (of_z w32 c.args.id) in
    let test : Held → Bool = held_takes (map mapping_of c.args.mappings.now) in
    let all : c.into_iter-member-iterator.result ≡ members (subtree id c.args.tree.now.attached) = c.into_iter-member-iterator.ensures.into_iter_gives ∙ c.members-member-items.ensures in
    ap (λ (ms : List (Label Held × ℕ)). any_member test ms) all ∙ any-walked test (subtree id c.args.tree.now.attached)

pub returns-then-held_takes : goal.returns-then-held_takes
returns-then-held_takes c =
    let fits : FitsSigned w32 c.args.id = search rules in
    let same = to_z-of_z w32 c.args.id fits in
    let test : Held → Bool = held_takes (map mapping_of c.args.mappings.now) in
    any-found test c.loop-member.member-iterator _ _ c.in-Some.ensures.steps c.if-held_takes.ensures
    ∙ c.loop-member.invariant
    ∙ ap (λ (n : ℤ). any_node test (subtree n c.args.tree.now.attached)) same
