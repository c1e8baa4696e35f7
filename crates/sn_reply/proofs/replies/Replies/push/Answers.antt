use Rattle.std.proofs.Common.{◌≡◌, ◌∷◌, ◌++◌, [], List, ℕ, ap, ◌∙◌, refl}
use Rattle.sn_osc.specs.Shape.{message_of}
use Rattle.sn_reply.specs.declared.replies.Mark.{Mark}
use Rattle.sn_reply.specs.declared.replies.To.{To}
use Rattle.sn_reply.specs.Framed.{mark_of}
use Rattle.sn_reply.specs.Replies.{ReplyShape}
use Rattle.sn_reply.proofs.Framed.{hold_of, are_framed, read_as, same, pushed}
use Rattle.sn_reply.proofs.FrameLaws.{on_err}
use Rattle.sn_reply.proofs.replies.Replies.push.Goals as goal

abbrev marked : To → ℕ → Mark
marked to n = record { to = to; len = n }

pub invariant_of-self : goal.invariant_of-self
invariant_of-self c =
    let inside = c.self.inside in
    let before = hold_of inside.frames.bytes inside.marks.items c.args.self.now c.self.invariant c.self.view_is in
    are_framed inside.frames.bytes c.reserve.new.self.items c.args.self.now (same inside.frames.bytes inside.frames.bytes inside.marks.items c.reserve.new.self.items c.args.self.now before refl c.reserve.ensures.items)

pub returns-in_err-reserve-clause-err : goal.returns-in_err-reserve-clause-err
returns-in_err-reserve-clause-err c =
    let inside = c.self.inside in
    let before = hold_of inside.frames.bytes inside.marks.items c.args.self.now c.self.invariant c.self.view_is in
    on_err c.from_residual.result
    (read_as inside.frames.bytes c.reserve.new.self.items c.args.self.now (same inside.frames.bytes inside.frames.bytes inside.marks.items c.reserve.new.self.items c.args.self.now before refl c.reserve.ensures.items))

pub invariant_of-self-in_err-len : goal.invariant_of-self-in_err-len
invariant_of-self-in_err-len c =
    let inside = c.self.inside in
    let before = hold_of inside.frames.bytes inside.marks.items c.args.self.now c.self.invariant c.self.view_is in
    let bytes = c.append_frame.new.out.bytes in
    are_framed bytes c.reserve.new.self.items c.args.self.now (same inside.frames.bytes bytes inside.marks.items c.reserve.new.self.items c.args.self.now before c.in_err-len.ensures.err c.reserve.ensures.items)

pub returns-in_err-len-clause-err : goal.returns-in_err-len-clause-err
returns-in_err-len-clause-err c =
    let inside = c.self.inside in
    let before = hold_of inside.frames.bytes inside.marks.items c.args.self.now c.self.invariant c.self.view_is in
    let bytes = c.append_frame.new.out.bytes in
    on_err c.from_residual-in_err-len.result
    (read_as bytes c.reserve.new.self.items c.args.self.now (same inside.frames.bytes bytes inside.marks.items c.reserve.new.self.items c.args.self.now before c.in_err-len.ensures.err c.reserve.ensures.items))

pub invariant_of-self-2 : goal.invariant_of-self-2
invariant_of-self-2 c =
    let inside = c.self.inside in
    let r : ReplyShape = record { to = c.args.to; message = message_of c.args.message } in
    let before = hold_of inside.frames.bytes inside.marks.items c.args.self.now c.self.invariant c.self.view_is in
    let noted : c.push_reserved.new.self.items ≡ inside.marks.items ++ mark_of r ∷ [] =
    c.push_reserved.ensures.items ∙ ap (λ (ms : List Mark). ms ++ marked c.args.to c.in_ok-len.len ∷ []) c.reserve.ensures.items ∙ ap (λ n. inside.marks.items ++ marked c.args.to n ∷ []) c.in_ok-len.ensures.len in
    are_framed c.append_frame.new.out.bytes c.push_reserved.new.self.items (c.args.self.now ++ r ∷ [])
    (pushed inside.frames.bytes c.append_frame.new.out.bytes inside.marks.items c.push_reserved.new.self.items c.args.self.now r before c.requires c.in_ok-len.ensures.frame noted)

pub returns-clause-ok : goal.returns-clause-ok
returns-clause-ok c =
    let inside = c.self.inside in
    let r : ReplyShape = record { to = c.args.to; message = message_of c.args.message } in
    let before = hold_of inside.frames.bytes inside.marks.items c.args.self.now c.self.invariant c.self.view_is in
    let noted : c.push_reserved.new.self.items ≡ inside.marks.items ++ mark_of r ∷ [] =
    c.push_reserved.ensures.items ∙ ap (λ (ms : List Mark). ms ++ marked c.args.to c.in_ok-len.len ∷ []) c.reserve.ensures.items ∙ ap (λ n. inside.marks.items ++ marked c.args.to n ∷ []) c.in_ok-len.ensures.len in
    read_as c.append_frame.new.out.bytes c.push_reserved.new.self.items (c.args.self.now ++ r ∷ [])
    (pushed inside.frames.bytes c.append_frame.new.out.bytes inside.marks.items c.push_reserved.new.self.items c.args.self.now r before c.requires c.in_ok-len.ensures.frame noted)
