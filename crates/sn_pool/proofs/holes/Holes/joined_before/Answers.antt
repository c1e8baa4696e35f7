use Rattle.std.proofs.Common.{arith}
use Rattle.sn_pool.proofs.Runs.{joined_before_words}
use Rattle.sn_pool.proofs.holes.Holes.joined_before.Goals as goal

pub returns-in-Some-clause-joined : goal.returns-in-Some-clause-joined
returns-in-Some-clause-joined c = record {
  words = joined_before_words c.args.self.now.runs c.remove.new.self.runs c.args.run c.in-Some.other c.remove.ensures.runs c.remove.ensures.removed c.in-Some.ensures.1;
  len = omega (arith, c.remove.ensures.len);
}
