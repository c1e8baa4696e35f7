use Rattle.std.proofs.Common.{◌≤◌, ◌∙◌, ℕ, ap, subst}
use Rattle.sn_forest.specs.Trees.{uses, first_key}
use Rattle.sn_tree.proofs.StoredLaws.{root_not_below, below_is_front}
use Rattle.sn_tree.proofs.store.Store.is_below_root.Goals as goal

pub returns-then-key-root : goal.returns-then-key-root
returns-then-key-root c =
    root_not_below c.args.self.now c.args.key c.root-root.result (subst (λ t. (j : ℕ) → uses j t ≤ 1) c.self.view_is c.keys_differ.ensures) (c.root-root.ensures ∙ ap first_key c.self.view_is) c.if-key-root.true

pub returns : goal.returns
returns c = c.is_attached.ensures ∙ below_is_front c.args.self.now c.args.key c.root-root.result (c.root-root.ensures ∙ ap first_key c.self.view_is) c.if-key-root.false
