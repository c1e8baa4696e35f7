use Rattle.std.proofs.Common.{◌≡◌, length, drop, sym, ap, ◌∙◌, arith}
use Rattle.std.proofs.lemmas.List.{length-drop}
use Rattle.sn_osc.specs.Framing.{Framing}
use Rattle.sn_osc.proofs.Framing.{taken_from}
use Rattle.sn_osc.proofs.framer.Framer.next.Goals as goal

pub returns-in_ok-bytes-in-Ok : goal.returns-in_ok-bytes-in-Ok
returns-in_ok-bytes-in-Ok c =
    let items = c.self.inside.bytes.items in
    let given = c.self.inside.given in
    let kept : drop given items ≡ c.args.self.now.kept = ap (λ (f : Framing). f.kept) c.self.view_is in
    let fed : c.self.inside.fed ≡ c.args.self.now.fed = ap (λ (f : Framing). f.fed) c.self.view_is in
    let stands = c.in-Ok.ensures.stands in
    let taken = taken_from c.deref.result.now items c.in_ok-bytes-in-Ok.bytes.bytes c.in-Ok.packet.now c.in-Ok.field-0-1.now given c.deref.ensures.value c.in_ok-bytes-in-Ok.ensures stands.0 stands.1 in
    (taken.0, sym kept ∙ taken.1, fed, omega (arith, fed, ap length kept, length-drop given items, c.len.ensures, c.deref.ensures.len, ap length c.deref.ensures.value))
