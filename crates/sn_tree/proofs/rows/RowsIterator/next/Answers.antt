use Rattle.std.proofs.Common.{◌∙◌, sym}
use Rattle.sn_tree.proofs.RowLaws.{rows_end, rows_next}
use Rattle.sn_tree.proofs.Walking.{fewer}
use Rattle.sn_tree.proofs.rows.RowsIterator.next.Goals as goal

pub returns-in_default-clause-steps : goal.returns-in_default-clause-steps
returns-in_default-clause-steps c =
    let e = sym c.self.view_is ∙ rows_end c.self.inside.rest c.in_default.ensures in
    (e, e)

pub returns-clause-steps : goal.returns-clause-steps
returns-clause-steps c = sym c.self.view_is ∙ rows_next c.self.inside.rest c.step.new.self c.in-Some.row.key c.in-Some.row.item.now c.in-Some.ensures c.step.ensures

pub returns-clause-goes : goal.returns-clause-goes
returns-clause-goes c =
    let less = fewer _ _ _ (returns-clause-steps c) in
    record { on = λ _. (tt, tt, less); keeps = tt; rests = λ _. tt }
