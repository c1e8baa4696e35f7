use Rattle.sn_play.proofs.SpanRuns.{place_is, number_is}
use Rattle.sn_play.proofs.span.place_of.Goals as goal

pub returns : goal.returns
returns c = record { place = place_is c.args.jobs c.args.job; number = number_is c.args.jobs c.args.job }
