use Rattle.std.proofs.Common.{length}
use Rattle.sn_reply.proofs.framing.+put_frame.Given as goal

abbrev pub decreases-put_frame : goal.decreases-put_frame
decreases-put_frame l = length l.out.now
