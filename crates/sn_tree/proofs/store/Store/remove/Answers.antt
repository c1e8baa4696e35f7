use Rattle.std.proofs.Common.{◌∙◌, ◌≤◌, sym, subst, ap}
use Rattle.sn_forest.specs.Trees.{uses, first_key, below_of}
use Rattle.sn_tree.specs.Stored.{IsStored}
use Rattle.sn_tree.proofs.SoundLaws.{removing_seen}
use Rattle.sn_tree.proofs.store.Store.remove.Goals as goal

pub forget_leaving-requires-clause-top : goal.forget_leaving-requires-clause-top
forget_leaving-requires-clause-top c = subst (λ x. 1 ≤ uses c.args.key x) (sym c.self.view_is) c.requires.node

pub forget_leaving-requires-clause-there : goal.forget_leaving-requires-clause-there
forget_leaving-requires-clause-there c = (removing_seen c.self.inside.forest c.args.self.now c.self.view_is c.self.inside.ids c.args.key c.is_attached-from.result c.keys_differ.ensures c.requires.node c.requires.inner c.self.invariant c.is_attached-from.ensures).there

pub remove-requires-clause-node : goal.remove-requires-clause-node
remove-requires-clause-node c = subst (λ x. 1 ≤ uses c.args.key x) (sym c.self.view_is) c.requires.node

pub remove-requires-clause-inner : goal.remove-requires-clause-inner
remove-requires-clause-inner c = λ e. c.requires.inner (sym (ap first_key c.self.view_is) ∙ e)

pub remove-requires-clause-leaf : goal.remove-requires-clause-leaf
remove-requires-clause-leaf c = ap (below_of c.args.key) c.self.view_is ∙ c.requires.leaf

pub invariant_of-self : goal.invariant_of-self
invariant_of-self c =
    subst (λ t. IsStored t c.forget_leaving.new.ids) (sym c.remove.ensures.rest)
    ((removing_seen c.self.inside.forest c.args.self.now c.self.view_is c.self.inside.ids c.args.key c.is_attached-from.result c.keys_differ.ensures c.requires.node c.requires.inner c.self.invariant c.is_attached-from.ensures).stored c.forget_leaving.new.ids (record { gone = c.forget_leaving.ensures.gone; fewer = c.forget_leaving.ensures.len; room = c.forget_leaving.ensures.room }))
