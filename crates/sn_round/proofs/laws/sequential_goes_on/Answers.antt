use Rattle.sn_round.proofs.Scripting.{sequential_first, sequential_step}
use Rattle.sn_round.proofs.laws.sequential_goes_on.Goals as goal

pub returns : goal.returns
returns c = record {
  first = λ outcome n base. sequential_first outcome n base;
  next = λ outcome n i base l. sequential_step outcome n i base l;
}
