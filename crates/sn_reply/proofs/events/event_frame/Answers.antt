use Rattle.std.proofs.Common.{◌++◌, ◌∷◌, [], ◌∙◌, ap, sym, rules}
use Rattle.std.specs.Prelude.{FitsSigned}
use Rattle.std.specs.Int.{w32}
use Rattle.sn_osc.specs.Bytes.{message_bytes, frame_bytes}
use Rattle.sn_reply.specs.declared.events.Notice.{Notice}
use Rattle.sn_reply.specs.Events.{notice_message}
use Rattle.sn_reply.proofs.Pieces.{trigger_put}
use Rattle.sn_reply.proofs.events.event_frame.Goals as goal

pub returns-in-Tr-clause-frame : goal.returns-in-Tr-clause-frame
returns-in-Tr-clause-frame c =
    let node : FitsSigned w32 c.in-Tr.node = search rules in
    let id : FitsSigned w32 c.in-Tr.id = search rules in
    let value : FitsSigned w32 c.in-Tr.value = search rules in
    trigger_put c.in-Tr.node c.in-Tr.id c.in-Tr.value (0 ∷ 0 ∷ 0 ∷ 24 ∷ 47 ∷ 116 ∷ 114 ∷ 0 ∷ 44 ∷ 105 ∷ 105 ∷ 105 ∷ 0 ∷ 0 ∷ 0 ∷ 0 ∷ []) c.args.out.now.bytes c.put_trigger.new.out.bytes node id value c.put_trigger.ensures.bytes
    ∙ ap (λ (n : Notice). c.args.out.now.bytes ++ frame_bytes (message_bytes (notice_message n))) (sym c.in-Tr.is)

pub returns-in-End-clause-frame : goal.returns-in-End-clause-frame
returns-in-End-clause-frame c = c.put_neighbours.ensures.bytes ∙ ap (λ (n : Notice). c.args.out.now.bytes ++ frame_bytes (message_bytes (notice_message n))) (sym c.in-End.is)

pub returns-in-Off-clause-frame : goal.returns-in-Off-clause-frame
returns-in-Off-clause-frame c = c.put_neighbours-in-Off.ensures.bytes ∙ ap (λ (n : Notice). c.args.out.now.bytes ++ frame_bytes (message_bytes (notice_message n))) (sym c.in-Off.is)
