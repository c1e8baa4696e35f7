use Rattle.sn_span.proofs.Orders.{before_capture, after_capture}
use Rattle.sn_span.proofs.laws.captures_are_barriers.Goals as goal

pub returns : goal.returns
returns c = record {
  after = λ jobs outputs at blocks k i are l m. before_capture jobs outputs at blocks are k i l m;
  before = λ jobs outputs at blocks k h i are u l m. after_capture jobs outputs at blocks are k h i u l m;
}
