use Rattle.std.proofs.Common.{◌++◌, inl, inr, sym, subst}
use Rattle.std.proofs.lemmas.Result.{on_ok_weaker}
use Rattle.sn_osc.specs.Framed.{AreFirst}
use Rattle.sn_osc.proofs.Framing.{feeds_one, on_err}
use Rattle.sn_osc.proofs.framer.Framer.feed_and_take.Goals as goal

pub returns-in_err-feed-clause-err : goal.returns-in_err-feed-clause-err
returns-in_err-feed-clause-err c = λ stream first.
    on_err c.from_residual.result (inl (subst (AreFirst stream c.args.frames.now.items) (sym c.in_err-feed.ensures.err) first))

pub returns-clause-ok : goal.returns-clause-ok
returns-clause-ok c = λ stream first.
    let frames = c.args.frames.now.items in
    let piece = c.args.piece.now in
    let fed = subst (AreFirst (stream ++ piece) frames) (sym c.in_ok-feed.ensures.ok) (feeds_one stream piece frames c.args.self.now first) in
    on_ok_weaker c.take_frames.result (λ none. (c.take_frames.ensures.first (stream ++ piece) fed, none)) c.take_frames.ensures.whole

pub returns-clause-err : goal.returns-clause-err
returns-clause-err c = λ stream first.
    let frames = c.args.frames.now.items in
    let piece = c.args.piece.now in
    let fed = subst (AreFirst (stream ++ piece) frames) (sym c.in_ok-feed.ensures.ok) (feeds_one stream piece frames c.args.self.now first) in
    on_err c.take_frames.result (inr (c.take_frames.ensures.first (stream ++ piece) fed))
