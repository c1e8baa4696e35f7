use Rattle.std.proofs.Common.{◌∙◌, ap, subst, sym}
use Rattle.sn_forest.specs.Trees.{subtree}
use Rattle.sn_forest.specs.Walking.{behind_node}
use Rattle.sn_tree.specs.Keyed.{left_at, below_first}
use Rattle.sn_tree.specs.Stored.{IsCursor}
use Rattle.sn_tree.proofs.WalkLaws.{key_used, left_below}
use Rattle.sn_tree.proofs.cursor.Cursor.below.Goals as goal

pub new-below-requires : goal.new-below-requires
new-below-requires c = key_used c.self.inside.forest.now c.self.inside.top c.keys_differ.ensures c.self.invariant.1 c.in-Some.key (subst (λ n. IsCursor c.self.inside.forest.now c.self.inside.top n) c.in-Some.is c.self.invariant.0)

pub returns-in-Some : goal.returns-in-Some
returns-in-Some c =
    c.step.ensures
    ∙ (ap behind_node c.new-below.ensures
    ∙ (left_below c.self.inside.forest.now c.self.inside.top c.keys_differ.ensures c.self.invariant.1 c.in-Some.key (subst (λ n. IsCursor c.self.inside.forest.now c.self.inside.top n) c.in-Some.is c.self.invariant.0)
    ∙ (ap (λ n. below_first (left_at n (subtree c.self.inside.top c.self.inside.forest.now))) (sym c.in-Some.is) ∙ ap below_first c.self.view_is)))

pub returns-in-None : goal.returns-in-None
returns-in-None c =
    c.ended.ensures
    ∙ (ap (λ n. below_first (left_at n (subtree c.self.inside.top c.self.inside.forest.now))) (sym c.in-None.is) ∙ ap below_first c.self.view_is)
