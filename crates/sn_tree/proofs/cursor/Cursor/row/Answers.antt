use Rattle.std.proofs.Common.{◌∙◌, ap, subst, sym}
use Rattle.sn_forest.specs.Trees.{subtree}
use Rattle.sn_tree.specs.Keyed.{first_row, left_at}
use Rattle.sn_tree.specs.Stored.{IsCursor}
use Rattle.sn_tree.proofs.WalkLaws.{row_held, row_there}
use Rattle.sn_tree.proofs.cursor.Cursor.row.Goals as goal

pub returns-in_default : goal.returns-in_default
returns-in_default c = ap (λ n. first_row (left_at n (subtree c.self.inside.top c.self.inside.forest.now))) (sym c.in_default.is) ∙ ap first_row c.self.view_is

pub returns-in_default-get : goal.returns-in_default-get
returns-in_default-get c =
    absurd (row_there c.self.inside.forest.now c.self.inside.top c.keys_differ.ensures c.self.invariant.1 c.in-Some.key (subst (λ n. IsCursor c.self.inside.forest.now c.self.inside.top n) c.in-Some.is c.self.invariant.0) c.in_default-get.ensures)

pub returns : goal.returns
returns c =
    row_held c.self.inside.forest.now c.self.inside.top c.keys_differ.ensures c.self.invariant.1 c.in-Some.key (subst (λ n. IsCursor c.self.inside.forest.now c.self.inside.top n) c.in-Some.is c.self.invariant.0) c.in-Some-get.item.now c.in-Some-get.ensures
    ∙ (ap (λ n. first_row (left_at n (subtree c.self.inside.top c.self.inside.forest.now))) (sym c.in-Some.is) ∙ ap first_row c.self.view_is)
