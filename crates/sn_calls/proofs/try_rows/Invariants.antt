-- The rows are ready for the next one.
use Rattle.sn_calls.proofs.try_rows.Given as goal

abbrev pub invariant-loop-line : goal.invariant-loop-line
invariant-loop-line g l = g.R.Rows.ready l.rows
