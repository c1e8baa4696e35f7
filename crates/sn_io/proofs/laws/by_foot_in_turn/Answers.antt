use Rattle.sn_io.proofs.ByFoot.{by_foot_none, by_foot_then}
use Rattle.sn_io.proofs.laws.by_foot_in_turn.Goals as goal

pub returns : goal.returns
returns c = record {
  nothing = λ f. by_foot_none f;
  two = λ f first second a b. by_foot_then f first second a b;
}
