use Rattle.std.proofs.Common.{rules, ◌≡◌, ◌+◌, List, map, drop, take, length, get_or, refl, sym, ap, subst, ◌∙◌, arith, length-append}
use Rattle.std.proofs.lemmas.List.{take_at, drop_at}
use Rattle.sn_ports.specs.Octets.{bytes_of}
use Rattle.sn_reply.specs.declared.replies.Mark.{Mark}
use Rattle.sn_reply.specs.declared.replies.To.TheVariants.{Client}
use Rattle.sn_reply.specs.Framed.{frame_of, joined}
use Rattle.sn_reply.specs.Frames.{with_frame, with_frames, EachBegins}
use Rattle.sn_reply.specs.Replies.{ReplyShape}
use Rattle.sn_reply.proofs.Framed.{reply_at, none_left, frame_length}
use Rattle.sn_reply.proofs.FrameLaws.{each_begins_refl, each_begins_trans, frames_behind, on_err}
use Rattle.sn_reply.proofs.framing.send.Goals as goal

abbrev blank : Mark
blank = record { to = Client 0; len = 0 }

pub loop-mark-init : goal.loop-mark-init
loop-mark-init c = record {
  bytes = refl;
  left = c.frames-left.ensures;
  behind = each_begins_refl (map bytes_of c.args.out.now);
  room = λ each. each;
  clients = refl;
}

pub split_at-requires : goal.split_at-requires
split_at-requires c =
    let i = c.loop-mark.mark-index in
    let n = reply_at c.args.replies c.marks-mark-items.result.now i blank c.loop-mark.left.now c.loop-mark-test.true c.marks-mark-items.ensures.marks c.marks-mark-items.ensures.sendable c.loop-mark.invariant.left in
    omega (arith, ap (λ (m : Mark). m.len) n.mark_is, ap length n.parts, length-append (frame_of n.reply) (joined (drop (i + 1) c.args.replies)))

pub put_frame-requires-clause-few : goal.put_frame-requires-clause-few
put_frame-requires-clause-few c =
    let i = c.loop-mark.mark-index in
    let n = reply_at c.args.replies c.marks-mark-items.result.now i blank c.loop-mark.left.now c.loop-mark-test.true c.marks-mark-items.ensures.marks c.marks-mark-items.ensures.sendable c.loop-mark.invariant.left in
    omega (arith, ap (λ (m : Mark). m.len) n.mark_is, frame_length n.reply, n.sendable.short, c.split_at.ensures.front_len, c.requires.room)

pub put_frame-requires-clause-clients : goal.put_frame-requires-clause-clients
put_frame-requires-clause-clients c = omega (arith, c.loop-mark.invariant.clients, c.requires.clients)

pub loop-mark-preserved : goal.loop-mark-preserved
loop-mark-preserved c =
    let i = c.loop-mark.mark-index in
    let mark = get_or c.marks-mark-items.result.now i blank in
    let n = reply_at c.args.replies c.marks-mark-items.result.now i blank c.loop-mark.left.now c.loop-mark-test.true c.marks-mark-items.ensures.marks c.marks-mark-items.ensures.sendable c.loop-mark.invariant.left in
    let others = drop (i + 1) c.args.replies in
    let size : length (frame_of n.reply) ≡ mark.len = sym (ap (λ (m : Mark). m.len) n.mark_is) in
    let whom : n.reply.to ≡ mark.to = sym (ap (λ (m : Mark). m.to) n.mark_is) in
    let is : frame_of n.reply ≡ c.split_at.result.0.now = sym (c.split_at.ensures.front ∙ ap (take mark.len) n.parts ∙ take_at (frame_of n.reply) (joined others) mark.len size) in
    let told = c.put_frame.ensures.frames n.reply whom is in
    let put : map bytes_of c.put_frame.new.out ≡ with_frame 0 n.reply (map bytes_of c.loop-mark.out) = search (rules, told) in
    let before = map bytes_of c.loop-mark.out in
    record {
      bytes = ap (with_frames 0 others) put ∙ ap (λ (rs : List ReplyShape). with_frames 0 rs before) (sym n.others) ∙ c.loop-mark.invariant.bytes;
      left = c.split_at.ensures.back ∙ ap (drop mark.len) n.parts ∙ drop_at (frame_of n.reply) (joined others) mark.len size;
      behind = each_begins_trans (map bytes_of c.args.out.now) before (map bytes_of c.put_frame.new.out) c.loop-mark.invariant.behind c.put_frame.ensures.behind;
      room = λ each. c.put_frame.ensures.room (c.loop-mark.invariant.room each);
      clients = c.put_frame.ensures.len ∙ c.loop-mark.invariant.clients;
    }

pub returns-in_err-put_frame-clause-behind : goal.returns-in_err-put_frame-clause-behind
returns-in_err-put_frame-clause-behind c =
    each_begins_trans (map bytes_of c.args.out.now) (map bytes_of c.loop-mark.out) (map bytes_of c.put_frame.new.out) c.loop-mark.invariant.behind c.put_frame.ensures.behind

pub returns-in_err-put_frame-clause-front : goal.returns-in_err-put_frame-clause-front
returns-in_err-put_frame-clause-front c =
    let i = c.loop-mark.mark-index in
    let mark = get_or c.marks-mark-items.result.now i blank in
    let n = reply_at c.args.replies c.marks-mark-items.result.now i blank c.loop-mark.left.now c.loop-mark-test.true c.marks-mark-items.ensures.marks c.marks-mark-items.ensures.sendable c.loop-mark.invariant.left in
    let others = drop (i + 1) c.args.replies in
    let size : length (frame_of n.reply) ≡ mark.len = sym (ap (λ (m : Mark). m.len) n.mark_is) in
    let whom : n.reply.to ≡ mark.to = sym (ap (λ (m : Mark). m.to) n.mark_is) in
    let is : frame_of n.reply ≡ c.split_at.result.0.now = sym (c.split_at.ensures.front ∙ ap (take mark.len) n.parts ∙ take_at (frame_of n.reply) (joined others) mark.len size) in
    let before = map bytes_of c.loop-mark.out in
    let with_reply = with_frame 0 n.reply before in
    let wanted = with_frames 0 c.args.replies (map bytes_of c.args.out.now) in
    let whole : with_frames 0 others with_reply ≡ wanted = ap (λ (rs : List ReplyShape). with_frames 0 rs before) (sym n.others) ∙ c.loop-mark.invariant.bytes in
    let told = c.put_frame.ensures.front n.reply whom is in
    let front : EachBegins (map bytes_of c.put_frame.new.out) with_reply = search (rules, told) in
    on_err c.from_residual.result (each_begins_trans (map bytes_of c.put_frame.new.out) with_reply wanted front (subst (EachBegins with_reply) whole (frames_behind 0 others with_reply)))

pub returns-clause-frames : goal.returns-clause-frames
returns-clause-frames c =
    let none = none_left c.args.replies c.marks-mark-items.result.now c.loop-mark.mark-index c.loop-mark-test.false c.marks-mark-items.ensures.marks in
    sym (ap (λ (rs : List ReplyShape). with_frames 0 rs (map bytes_of c.loop-mark.out)) none) ∙ c.loop-mark.invariant.bytes
