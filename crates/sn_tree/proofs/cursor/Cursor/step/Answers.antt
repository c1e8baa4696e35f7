use Rattle.std.proofs.Common.{◌∙◌, ap, subst, sym}
use Rattle.sn_forest.specs.Trees.{subtree}
use Rattle.sn_forest.specs.Walking.{behind_node}
use Rattle.sn_tree.specs.Keyed.{left_at}
use Rattle.sn_tree.specs.Stored.{IsCursor}
use Rattle.sn_tree.proofs.WalkLaws.{left_stepped, stepped}
use Rattle.sn_tree.proofs.cursor.Cursor.step.Goals as goal

pub step-self-inside-requires-clause-top : goal.step-self-inside-requires-clause-top
step-self-inside-requires-clause-top c = c.self.invariant.1

pub step-self-inside-requires-clause-node : goal.step-self-inside-requires-clause-node
step-self-inside-requires-clause-node c = c.self.invariant.0.node c.in-Some.key c.in-Some.is

pub invariant_of-self : goal.invariant_of-self
invariant_of-self c = (stepped c.self.inside.forest.now c.self.inside.top c.keys_differ.ensures c.self.invariant.1 c.in-Some.key (subst (λ n. IsCursor c.self.inside.forest.now c.self.inside.top n) c.in-Some.is c.self.invariant.0) c.step-self-inside.result c.step-self-inside.ensures, c.self.invariant.1)

pub returns-in-Some : goal.returns-in-Some
returns-in-Some c =
    left_stepped c.self.inside.forest.now c.self.inside.top c.keys_differ.ensures c.self.invariant.1 c.in-Some.key (subst (λ n. IsCursor c.self.inside.forest.now c.self.inside.top n) c.in-Some.is c.self.invariant.0) c.step-self-inside.result c.step-self-inside.ensures
    ∙ (ap (λ n. behind_node (left_at n (subtree c.self.inside.top c.self.inside.forest.now))) (sym c.in-Some.is) ∙ ap behind_node c.self.view_is)

pub returns-in-None : goal.returns-in-None
returns-in-None c =
    sym c.self.view_is
    ∙ (ap (λ n. left_at n (subtree c.self.inside.top c.self.inside.forest.now)) c.in-None.is
    ∙ (ap (λ n. behind_node (left_at n (subtree c.self.inside.top c.self.inside.forest.now))) (sym c.in-None.is) ∙ ap behind_node c.self.view_is))
