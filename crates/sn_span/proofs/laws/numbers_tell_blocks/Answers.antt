use Rattle.sn_span.proofs.Places.{block_job, block_capture}
use Rattle.sn_span.proofs.laws.numbers_tell_blocks.Goals as goal

pub returns : goal.returns
returns c = record { job = λ job capture n k i l. block_job job capture n k i l; capture = λ job capture n k. block_capture job capture n k }
