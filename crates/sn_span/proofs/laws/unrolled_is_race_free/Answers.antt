use Rattle.sn_span.proofs.Places.{length-unrolled}
use Rattle.sn_span.proofs.Listing.{are_jobs}
use Rattle.sn_span.proofs.Orders.{race_free}
use Rattle.sn_span.proofs.laws.unrolled_is_race_free.Goals as goal

pub returns : goal.returns
returns c = record { count = length-unrolled; jobs = are_jobs; race_free = race_free }
