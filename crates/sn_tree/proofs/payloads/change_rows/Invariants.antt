use Rattle.sn_tree.proofs.ReadLaws.{IsChangingBy}
use Rattle.sn_tree.proofs.payloads.change_rows.Given as goal

abbrev pub invariant-loop-row : goal.invariant-loop-row
invariant-loop-row g l = IsChangingBy (g.C.ChangePayload.changed l.fn.change) l.fn.root l.fn.payloads.slots l.fn.rows l.root l.payloads.slots l.row-iterator
