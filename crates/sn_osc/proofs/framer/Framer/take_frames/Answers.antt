use Rattle.std.proofs.Common.{◌≡◌, ◌++◌, ◌∷◌, [], Option, Ok, Some, List, subst, sym, ap, ◌∙◌}
use Rattle.sn_osc.specs.declared.frame.Frame.{Frame}
use Rattle.sn_osc.specs.Framed.{NextWhole, AreFirst}
use Rattle.sn_osc.proofs.Framing.{takes_one}
use Rattle.sn_osc.proofs.framer.Framer.take_frames.Goals as goal

pub loop-frame-preserved : goal.loop-frame-preserved
loop-frame-preserved c =
    let old = c.loop-frame.self in
    let new = c.next_with_room.new.self in
    let frame = c.in-Some.frame in
    let next : NextWhole old new (Ok (Some frame)) = subst (λ (o : Option Frame). NextWhole old new (Ok o)) c.in-Some.is c.in_ok-frame.ensures.next in
    let more : c.put_frame.new.frames.items ≡ c.loop-frame.frames.items ++ frame ∷ [] = c.put_frame.ensures ∙ ap (λ (fs : List Frame). fs ++ frame ∷ []) c.next_with_room.ensures.frames in
    λ stream first. subst (λ (fs : List Frame). AreFirst stream fs new) (sym more) (takes_one stream c.loop-frame.frames.items frame old new (c.loop-frame.invariant stream first) next)

pub returns-in_err-frame-clause-first : goal.returns-in_err-frame-clause-first
returns-in_err-frame-clause-first c =
    λ stream first. subst (λ (fs : List Frame). AreFirst stream fs c.next_with_room.new.self) (sym c.next_with_room.ensures.frames)
    (subst (AreFirst stream c.loop-frame.frames.items) (sym c.in_err-frame.ensures.next) (c.loop-frame.invariant stream first))
