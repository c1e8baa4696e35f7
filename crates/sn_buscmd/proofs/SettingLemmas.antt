-- Repetitions that change control buses: all are judged, and then act.
use Rattle.std.proofs.Common.{◌≡◌, List, [], ◌∷◌, Option, Some, None, Ok, Err, refl, ap, sym, ◌∙◌, ℕ}
use Rattle.sn_mem.specs.Buses.{ControlBus, control_buses}
use Rattle.sn_reply.specs.declared.reason.Reason.{Reason}
use Rattle.sn_reply.specs.Replies.{ReplyShape}
use Rattle.sn_world.specs.declared.stage.Stage.{Stage}
use Rattle.sn_world.specs.Pictures.{Pictures}
use Rattle.sn_world.specs.World.{World, Turn, turn_of}
use Rattle.sn_world.specs.Rows.{unless, steps, row, first_refusal, act_all}
use Rattle.sn_world.proofs.Changes.{control_buses_changed}
use Rattle.sn_world.proofs.StepLaws.{steps-judged_first}
use Rattle.sn_buscmd.specs.Setting.{change_all, KeepsOtherWords}

abbrev with_buses : List ControlBus → Turn → Turn
with_buses bs t = record t { world = record t.world { control_buses = bs } }

module _ {R : Type 0} (refusal : R → Option Reason) (change : R → List ControlBus → List ControlBus) where
  abbrev judge : World → R → Option Reason
  judge w r = refusal r

  abbrev act : R → Turn → Turn
  act r t = with_buses (change r t.world.control_buses) t

  all-changed : (rs : List R) (t : Turn) → act_all act rs t ≡ with_buses (change_all change rs t.world.control_buses) t
  all-changed [] t = refl
  all-changed (r ∷ rs) t = all-changed rs (act r t)

  judged_first : (rs : List R) (t : Turn) → steps judge act rs t ≡ unless (first_refusal refusal rs) (Ok (act_all act rs t))
  judged_first rs t = steps-judged_first judge act (λ r r' t. refl) rs t

  pub refused : (parsed : Option (List R)) (rs : List R) (t : Turn) (reason : Reason) → Some rs ≡ parsed → first_refusal refusal rs ≡ Some reason → row judge act parsed t ≡ Err reason
  refused parsed rs t reason read why =
      ap (λ q. row judge act q t) (sym read) ∙ judged_first rs t ∙ ap (λ o. unless o (Ok (act_all act rs t))) why

  pub changed : (parsed : Option (List R)) (rs : List R) (stage : Stage) (old new : List ℕ) (replies : List ReplyShape) → Some rs ≡ parsed → first_refusal refusal rs ≡ None
      → Pictures stage old → KeepsOtherWords old new → control_buses new ≡ change_all change rs (control_buses old)
      → row judge act parsed (turn_of stage old replies) ≡ Ok (turn_of stage new replies)
  changed parsed rs stage old new replies read free pictures others buses =
      let t : Turn = turn_of stage old replies in
      ap (λ q. row judge act q t) (sym read) ∙ judged_first rs t ∙ ap (λ o. unless o (Ok (act_all act rs t))) free
      ∙ ap Ok (all-changed rs t ∙ ap (λ (bs : List ControlBus). with_buses bs t) (sym buses) ∙ sym (control_buses_changed stage new old replies pictures others.below others.above))
