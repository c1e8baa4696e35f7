use Rattle.std.proofs.Common.{◌≡◌, ◌+◌, ◌-◌, ◌*◌, ◌∙◌, refl, sym, length}
use Rattle.std.proofs.lemmas.Result.{IfOk-weaker}
use Rattle.sn_osc.specs.Shape.{shape}
use Rattle.sn_osc.specs.declared.packet.Packet.{Packet}
use Rattle.sn_shelf.specs.Growth.{Grows, IsSpelledWithin}
use Rattle.sn_shelf.proofs.AskingLemmas.{asked_apart, unasked_told, spelled_as_it_was}
use Rattle.sn_shelf.proofs.GrowthLemmas.{spelled_again}
use Rattle.sn_shelf.proofs.expanding.expand_by.Goals as goal

pub returns-clause-spelled : goal.returns-clause-spelled
returns-clause-spelled g c = λ bytes spelled few.
    let x = shape c.args.packet in
    let room = c.args.room.now in
    let after = c.fill.new.room in
    IfOk-weaker c.fill.result (λ (p : Packet). Grows x (shape p) room after) (λ (p : Packet). IsSpelledWithin (shape p) (2 * length bytes + 4 * (room - after)))
    (λ p grows. spelled_again x (shape p) bytes room after spelled few c.requires.room c.fill.ensures.room grows) c.fill.ensures.grows

pub returns-clause-unasked : goal.returns-clause-unasked
returns-clause-unasked g c =
    asked_apart c.fill.result (λ (p : Packet). (p ≡ c.args.packet) × (c.fill.new.room ≡ c.args.room.now)) (shape c.args.packet) (sym c.asks.ensures ∙ c.if-not-asks.false)

pub returns-then-not-asks-clause-unasked : goal.returns-then-not-asks-clause-unasked
returns-then-not-asks-clause-unasked g c = λ off. (refl, refl)

pub returns-then-not-asks-clause-told : goal.returns-then-not-asks-clause-told
returns-then-not-asks-clause-told g c = unasked_told (g.H.Shelf.files c.args.shelf.now) c.args.room.now (shape c.args.packet) (sym c.asks.ensures ∙ c.if-not-asks.true)

pub returns-then-not-asks-clause-spelled : goal.returns-then-not-asks-clause-spelled
returns-then-not-asks-clause-spelled g c = λ bytes spelled few. spelled_as_it_was (shape c.args.packet) bytes c.args.room.now spelled
