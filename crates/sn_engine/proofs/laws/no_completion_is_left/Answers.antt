use Rattle.sn_engine.proofs.CompletionLemmas.{none_left}
use Rattle.sn_engine.proofs.laws.no_completion_is_left.Goals as goal

pub returns : goal.returns
returns c = none_left
