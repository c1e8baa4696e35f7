use Rattle.sn_clash.proofs.Marking.{uses_marked}
use Rattle.sn_clash.proofs.marks.Marks.of_uses.Goals as goal

pub returns : goal.returns
returns c = λ buffers. uses_marked buffers c.args.uses.now c.in_ok-marks.marks c.mark_all.new.self c.in_ok-marks.ensures.long c.in_ok-marks.ensures.none c.mark_all.ensures
