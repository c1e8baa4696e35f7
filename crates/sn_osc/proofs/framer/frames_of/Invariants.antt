-- The frames so far are the first of the pieces so far.
use Rattle.std.proofs.Common.{take}
use Rattle.sn_osc.specs.Framed.{AreFirst, HasNoFrame, joined_pieces}
use Rattle.sn_osc.proofs.framer.frames_of.Given as goal

abbrev pub invariant-loop-piece : goal.invariant-loop-piece
invariant-loop-piece l = AreFirst (joined_pieces (take l.piece-index l.pieces)) l.frames.items l.framer × HasNoFrame l.framer.kept
