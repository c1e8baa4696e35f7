use Rattle.sn_span.proofs.Places.{at_job, at_capture}
use Rattle.sn_span.proofs.laws.unrolled_goes_by_blocks.Goals as goal

pub returns : goal.returns
returns c = record { jobs = at_job; captures = at_capture }
