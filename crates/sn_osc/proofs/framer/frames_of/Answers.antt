use Rattle.std.proofs.Common.{◌≡◌, ◌+◌, ◌++◌, List, ℕ, length, take, sym, ap, subst, ◌∙◌, arith}
use Rattle.sn_osc.specs.Framed.{AreFirst, joined_pieces}
use Rattle.sn_osc.proofs.Framing.{take_more, piece_fits, kept_len}
use Rattle.sn_osc.proofs.framer.frames_of.Goals as goal

pub feed_and_take-requires-clause-room : goal.feed_and_take-requires-clause-room
feed_and_take-requires-clause-room c =
    let pieces = c.args.pieces.now in
    let i = c.loop-piece.piece-index in
    let first = c.loop-piece.invariant.0 in
    omega (arith, c.requires, piece_fits pieces i c.piece-item.result c.loop-piece-test.true c.piece-item.is, kept_len (joined_pieces (take i pieces)) c.loop-piece.frames.items c.loop-piece.framer first, ap length c.as_slice.ensures)

pub feed_and_take-requires-clause-count : goal.feed_and_take-requires-clause-count
feed_and_take-requires-clause-count c =
    let pieces = c.args.pieces.now in
    let i = c.loop-piece.piece-index in
    omega (arith, c.requires, piece_fits pieces i c.piece-item.result c.loop-piece-test.true c.piece-item.is, c.loop-piece.invariant.0.count)

pub loop-piece-preserved : goal.loop-piece-preserved
loop-piece-preserved c =
    let pieces = c.args.pieces.now in
    let i = c.loop-piece.piece-index in
    let stream = joined_pieces (take i pieces) in
    let after = c.in_ok-feed_and_take.ensures.ok stream c.loop-piece.invariant.0 in
    let more : stream ++ c.as_slice.result.now ≡ joined_pieces (take (i + 1) pieces) =
    ap (λ (t : List ℕ). stream ++ t) c.as_slice.ensures ∙ sym (take_more pieces i c.piece-item.result c.loop-piece-test.true c.piece-item.is) in
    (subst (λ (t : List ℕ). AreFirst t c.feed_and_take.new.frames.items c.feed_and_take.new.self) more after.0, after.1)
