use Rattle.std.proofs.Common.{◌≡◌}
use Rattle.sn_tree.specs.Tallies.{gathered}
use Rattle.sn_tree.specs.Reading.{held_by}
use Rattle.sn_tree.proofs.tally.tally_rows.Given as goal

abbrev pub invariant-loop-row : goal.invariant-loop-row
invariant-loop-row g l = gathered g.T.Tally.with_one l.tally (held_by l.root l.payloads.slots l.row-iterator) ≡ gathered g.T.Tally.with_one l.fn.tally (held_by l.root l.payloads.slots l.fn.rows)
