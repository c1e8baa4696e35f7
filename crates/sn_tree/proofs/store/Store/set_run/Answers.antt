use Rattle.std.proofs.Common.{◌≤◌, ◌∙◌, ap, sym, subst}
use Rattle.sn_forest.specs.Trees.{uses}
use Rattle.sn_tree.specs.Keyed.{flagged}
use Rattle.sn_tree.specs.Stored.{IsStored}
use Rattle.sn_tree.proofs.StoredLaws.{holds_value}
use Rattle.sn_tree.proofs.FlagLaws.{flag_is, flag_stored}
use Rattle.sn_tree.proofs.store.Store.set_run.Goals as goal

pub set-requires : goal.set-requires
set-requires c = (subst (λ t. 1 ≤ uses c.args.key t) (sym c.self.view_is) c.requires)

pub invariant_of-self : goal.invariant_of-self
invariant_of-self c = subst (λ t. IsStored t c.self.inside.ids) (sym (c.set.ensures ∙ flag_is c.self.inside.forest c.args.key c.args.on c.in-Some.item.now c.keys_differ.ensures (subst (λ t. 1 ≤ uses c.args.key t) (sym c.self.view_is) c.requires) c.in-Some.ensures)) (flag_stored c.args.key c.args.on c.self.inside.forest c.self.inside.ids c.self.invariant)

pub returns-in-Some : goal.returns-in-Some
returns-in-Some c = (c.set.ensures ∙ flag_is c.self.inside.forest c.args.key c.args.on c.in-Some.item.now c.keys_differ.ensures (subst (λ t. 1 ≤ uses c.args.key t) (sym c.self.view_is) c.requires) c.in-Some.ensures) ∙ ap (flagged c.args.key c.args.on) c.self.view_is

pub returns-in-None : goal.returns-in-None
returns-in-None c = absurd (holds_value c.self.inside.forest c.args.key c.keys_differ.ensures (subst (λ t. 1 ≤ uses c.args.key t) (sym c.self.view_is) c.requires) c.in-None.ensures)
