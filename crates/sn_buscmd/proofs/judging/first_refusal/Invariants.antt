use Rattle.std.proofs.Common.{◌≡◌, drop}
use Rattle.sn_world.specs.Rows.{first_refusal}
use Rattle.sn_buscmd.proofs.judging.first_refusal.Given as goal

abbrev pub invariant-loop-repetition : goal.invariant-loop-repetition
invariant-loop-repetition g l = first_refusal (g.R.Judged.judge l.by) (drop l.repetition-index l.repetitions) ≡ first_refusal (g.R.Judged.judge l.by) l.repetitions
