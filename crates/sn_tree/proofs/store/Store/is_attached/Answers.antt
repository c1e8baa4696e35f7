use Rattle.std.proofs.Common.{◌≤◌, ◌∙◌, ℕ, ap, sym, subst}
use Rattle.sn_forest.specs.Trees.{uses, has_key, value_of}
use Rattle.sn_tree.specs.Keyed.{front}
use Rattle.sn_tree.proofs.StoredLaws.{attached_is, holds_value, whole_front}
use Rattle.sn_tree.proofs.store.Store.is_attached.Goals as goal

pub returns-in-Some : goal.returns-in-Some
returns-in-Some c =
    c.is_under.ensures ∙ (attached_is c.self.inside.forest c.self.inside.ids c.args.key c.in-Some.item.now c.keys_differ.ensures c.self.invariant (sym c.in-Some.ensures) ∙ ap (λ t. has_key c.args.key (front t)) c.self.view_is)

pub returns-in-None : goal.returns-in-None
returns-in-None c = absurd (holds_value c.args.self.now c.args.key (subst (λ t. (j : ℕ) → uses j t ≤ 1) c.self.view_is c.keys_differ.ensures) c.requires (c.in-None.ensures ∙ ap (value_of c.args.key) c.self.view_is))

pub returns-then-is_whole : goal.returns-then-is_whole
returns-then-is_whole c = whole_front c.args.self.now c.args.key (c.is_whole.ensures c.if-is_whole.true) c.requires
