use Rattle.sn_jobs.proofs.Rising.{once_split}
use Rattle.sn_jobs.proofs.jobs.+rise.Goals as goal

pub returns-then-first-end-clause-once : goal.returns-then-first-end-clause-once
returns-then-first-end-clause-once t c = λ h n. once_split c.args.numbers.now c.in-len1-up.len_at_least (c.rise.ensures.from h) (c.rise.ensures.once h) n
