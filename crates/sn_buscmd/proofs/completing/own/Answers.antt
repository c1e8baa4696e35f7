use Rattle.std.proofs.Common.{ℕ, take, ap}
use Rattle.sn_buscmd.proofs.CompletingLemmas.{own-given}
use Rattle.sn_buscmd.proofs.completing.own.Goals as goal

pub returns-clause-value : goal.returns-clause-value
returns-clause-value c = own-given c.args.arguments.now (take c.saturating_sub.result c.args.arguments.now) (ap (λ (n : ℕ). take n c.args.arguments.now) c.saturating_sub.ensures)
