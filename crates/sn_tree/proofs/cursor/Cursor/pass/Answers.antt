use Rattle.std.proofs.Common.{◌∙◌, ap, subst, sym}
use Rattle.sn_forest.specs.Trees.{subtree}
use Rattle.sn_forest.specs.Walking.{behind_tree}
use Rattle.sn_tree.specs.Keyed.{left_at}
use Rattle.sn_tree.specs.Stored.{IsCursor}
use Rattle.sn_tree.proofs.WalkLaws.{left_passed, passed}
use Rattle.sn_tree.proofs.cursor.Cursor.pass.Goals as goal

pub past-self-inside-requires-clause-top : goal.past-self-inside-requires-clause-top
past-self-inside-requires-clause-top c = c.self.invariant.1

pub past-self-inside-requires-clause-node : goal.past-self-inside-requires-clause-node
past-self-inside-requires-clause-node c = c.self.invariant.0.node c.in-Some.key c.in-Some.is

pub invariant_of-self : goal.invariant_of-self
invariant_of-self c = (passed c.self.inside.forest.now c.self.inside.top c.keys_differ.ensures c.self.invariant.1 c.in-Some.key (subst (λ n. IsCursor c.self.inside.forest.now c.self.inside.top n) c.in-Some.is c.self.invariant.0) c.past-self-inside.result c.past-self-inside.ensures, c.self.invariant.1)

pub returns-in-Some : goal.returns-in-Some
returns-in-Some c =
    left_passed c.self.inside.forest.now c.self.inside.top c.keys_differ.ensures c.self.invariant.1 c.in-Some.key (subst (λ n. IsCursor c.self.inside.forest.now c.self.inside.top n) c.in-Some.is c.self.invariant.0) c.past-self-inside.result c.past-self-inside.ensures
    ∙ (ap (λ n. behind_tree (left_at n (subtree c.self.inside.top c.self.inside.forest.now))) (sym c.in-Some.is) ∙ ap behind_tree c.self.view_is)

pub returns-in-None : goal.returns-in-None
returns-in-None c =
    sym c.self.view_is
    ∙ (ap (λ n. left_at n (subtree c.self.inside.top c.self.inside.forest.now)) c.in-None.is
    ∙ (ap (λ n. behind_tree (left_at n (subtree c.self.inside.top c.self.inside.forest.now))) (sym c.in-None.is) ∙ ap behind_tree c.self.view_is))
