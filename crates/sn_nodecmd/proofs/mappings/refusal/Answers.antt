use Rattle.std.proofs.Common.{◌≡◌, ◌≤◌, ◌<◌, ◌∙◌, ap, sym, map, true, false, length, w32, rules, arith}
use Rattle.std.specs.Prelude.{FitsSigned}
use Rattle.std.proofs.lemmas.Int.{to_z-of_z}
use Rattle.sn_tree.specs.Trees.{Nodes, subtree}
use Rattle.sn_world.specs.declared.stage.Held.{Held}
use Rattle.sn_world.specs.Mappings.{any_node}
use Rattle.sn_nodecmd.specs.Mapped.{mapping_of}
use Rattle.sn_nodecmd.specs.Indexing.{held_takes}
use Rattle.sn_nodecmd.proofs.RefusalLemmas.{followable, all-followable, refused-index, refused-bus, not-refused}
use Rattle.sn_nodecmd.proofs.mappings.refusal.Goals as goal

pub returns-then-take_index_below-clause-reason : goal.returns-then-take_index_below-clause-reason
returns-then-take_index_below-clause-reason c =
    let fits : FitsSigned w32 c.args.id = search rules in
    let same = to_z-of_z w32 c.args.id fits in
    let t : Nodes Held = subtree c.args.id c.args.tree.now.attached in
    let taken : any_node (held_takes (map mapping_of (followable c.args.mappings.now))) t ≡ true
    = sym (λ i. any_node (held_takes (map mapping_of (c.requires.sound i))) (subtree (same i) c.args.tree.now.attached)) ∙ sym c.take_index_below.ensures ∙ c.if-take_index_below.true in
    sym (refused-index t c.args.mappings.now taken)

pub returns-then-sound-mappings-clause-reason : goal.returns-then-sound-mappings-clause-reason
returns-then-sound-mappings-clause-reason c =
    let fits : FitsSigned w32 c.args.id = search rules in
    let same = to_z-of_z w32 c.args.id fits in
    let t : Nodes Held = subtree c.args.id c.args.tree.now.attached in
    let taken : any_node (held_takes (map mapping_of (followable c.args.mappings.now))) t ≡ false
    = sym (λ i. any_node (held_takes (map mapping_of (c.requires.sound i))) (subtree (same i) c.args.tree.now.attached)) ∙ sym c.take_index_below.ensures ∙ c.if-take_index_below.false in
    let fewer : length (followable c.args.mappings.now) < length c.args.mappings.now = omega (arith, c.if-sound-mappings.true, ap length c.requires.sound) in
    sym (refused-bus t c.args.mappings.now taken fewer)

pub returns-clause-reason : goal.returns-clause-reason
returns-clause-reason c =
    let fits : FitsSigned w32 c.args.id = search rules in
    let same = to_z-of_z w32 c.args.id fits in
    let t : Nodes Held = subtree c.args.id c.args.tree.now.attached in
    let taken : any_node (held_takes (map mapping_of (followable c.args.mappings.now))) t ≡ false
    = sym (λ i. any_node (held_takes (map mapping_of (c.requires.sound i))) (subtree (same i) c.args.tree.now.attached)) ∙ sym c.take_index_below.ensures ∙ c.if-take_index_below.false in
    let all : length c.args.mappings.now ≤ length (followable c.args.mappings.now) = omega (arith, c.if-sound-mappings.false, ap length c.requires.sound) in
    sym (not-refused t c.args.mappings.now taken all)

pub returns-clause-all : goal.returns-clause-all
returns-clause-all c = λ _.
    let all : length c.args.mappings.now ≤ length (followable c.args.mappings.now) = omega (arith, c.if-sound-mappings.false, ap length c.requires.sound) in
    c.requires.sound ∙ all-followable c.args.mappings.now all
