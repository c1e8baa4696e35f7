use Rattle.std.proofs.Common.{◌≡◌, ◌≢◌, ◌≤◌, ◌∙◌, Some, ap, sym, subst}
use Rattle.std.specs.Option.{option_map}
use Rattle.sn_forest.specs.Trees.{none, uses, first_key, below_of, value_of, without}
use Rattle.sn_forest.specs.Walking.{behind_node, behind_tree}
use Rattle.sn_tree.specs.declared.item.Item.{Item}
use Rattle.sn_tree.specs.Keyed.{first_value, with_behind}
use Rattle.sn_tree.specs.Stored.{IsStored}
use Rattle.sn_tree.proofs.LevelLaws.{level_there, level_inner, level_leaf, level_value, level_first, level_left, ended_stored, none_behind, none_first_value}
use Rattle.sn_tree.proofs.store.Store.free.Goals as goal

pub raise-requires : goal.raise-requires
raise-requires c = (ap (λ t. first_key (behind_tree t)) c.self.view_is ∙ sym c.in-Some.ensures)

pub remove-item-requires-clause-node : goal.remove-item-requires-clause-node
remove-item-requires-clause-node c = subst (λ t. 1 ≤ uses c.in-Some.first t) (sym c.raise.ensures) (level_there c.self.inside.forest c.in-Some.first c.keys_differ.ensures (ap (λ t. first_key (behind_tree t)) c.self.view_is ∙ sym c.in-Some.ensures))

pub remove-item-requires-clause-inner : goal.remove-item-requires-clause-inner
remove-item-requires-clause-inner c = subst (λ t. first_key t ≢ Some c.in-Some.first) (sym c.raise.ensures) (level_inner c.self.inside.forest c.in-Some.first c.keys_differ.ensures (ap (λ t. first_key (behind_tree t)) c.self.view_is ∙ sym c.in-Some.ensures))

pub remove-item-requires-clause-leaf : goal.remove-item-requires-clause-leaf
remove-item-requires-clause-leaf c = subst (λ t. below_of c.in-Some.first t ≡ none) (sym c.raise.ensures) (level_leaf c.self.inside.forest c.in-Some.first c.keys_differ.ensures (ap (λ t. first_key (behind_tree t)) c.self.view_is ∙ sym c.in-Some.ensures))

pub invariant_of-self : goal.invariant_of-self
invariant_of-self c = subst (λ t. IsStored t c.self.inside.ids) (sym (c.remove-item.ensures.rest ∙ (ap (without c.in-Some.first) c.raise.ensures ∙ level_left c.self.inside.forest c.in-Some.first c.keys_differ.ensures (ap (λ t. first_key (behind_tree t)) c.self.view_is ∙ sym c.in-Some.ensures)))) (ended_stored c.self.inside.forest c.self.inside.ids c.self.invariant)

pub returns-in-Some-clause-value : goal.returns-in-Some-clause-value
returns-in-Some-clause-value c =
    let same : Some c.remove-item.result ≡ first_value (behind_tree c.self.inside.forest) = sym c.remove-item.ensures.value ∙ (ap (value_of c.in-Some.first) c.raise.ensures ∙ (level_value c.self.inside.forest c.in-Some.first c.keys_differ.ensures (ap (λ t. first_key (behind_tree t)) c.self.view_is ∙ sym c.in-Some.ensures) ∙ sym (level_first c.self.inside.forest c.in-Some.first c.keys_differ.ensures (ap (λ t. first_key (behind_tree t)) c.self.view_is ∙ sym c.in-Some.ensures)))) in
    ap (option_map (λ (i : Item). i.key)) (same ∙ ap (λ t. first_value (behind_tree t)) c.self.view_is)

pub returns-in-Some-clause-rest : goal.returns-in-Some-clause-rest
returns-in-Some-clause-rest c = (c.remove-item.ensures.rest ∙ (ap (without c.in-Some.first) c.raise.ensures ∙ level_left c.self.inside.forest c.in-Some.first c.keys_differ.ensures (ap (λ t. first_key (behind_tree t)) c.self.view_is ∙ sym c.in-Some.ensures))) ∙ ap (λ t. with_behind (behind_node (behind_tree t)) t) c.self.view_is

pub returns-in-None-clause-value : goal.returns-in-None-clause-value
returns-in-None-clause-value c = sym (ap (option_map (λ (i : Item). i.key)) (none_first_value c.args.self.now c.in-None.ensures))

pub returns-in-None-clause-rest : goal.returns-in-None-clause-rest
returns-in-None-clause-rest c = none_behind c.args.self.now c.in-None.ensures
