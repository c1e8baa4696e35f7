use Rattle.std.proofs.Common.{length}
use Rattle.sn_engine.proofs.room.+reserve_each.Given as goal

abbrev pub decreases-reserve_each : goal.decreases-reserve_each
decreases-reserve_each l = length l.texts.now
