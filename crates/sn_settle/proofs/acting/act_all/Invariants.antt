-- The endings so far were acted on, and the others are left. If nothing was changed, the stage is the one before.
use Rattle.std.proofs.Common.{◌≡◌, false, drop}
use Rattle.sn_settle.proofs.Acted.{AreActed}
use Rattle.sn_settle.proofs.acting.act_all.Given as goal

abbrev pub invariant-loop-ending : goal.invariant-loop-ending
invariant-loop-ending l = AreActed (drop l.ending-index l.endings) l.endings l.fn.stage l.stage l.fn.outs l.outs × (l.changed ≡ false → l.stage ≡ l.fn.stage)
