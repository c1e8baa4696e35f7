use Rattle.std.proofs.Common.{rules, ◌≡◌, ◌-◌, ◌*◌, List, Option, Some, None, false, refl, ap, subst}
use Rattle.std.specs.Prelude.{ℕ, IfSome}
use Rattle.sn_osc.specs.Shape.{Argument, MessageShape, arguments, message_of}
use Rattle.sn_osc.specs.declared.packet.Body.TheVariants.{Args}
use Rattle.sn_shelf.specs.Files.{bytes_named, within_limit}
use Rattle.sn_shelf.specs.Remembering.{found_in}
use Rattle.sn_shelf.specs.WaveViews.{heard}
use Rattle.sn_shelf.specs.Expanded.{filled, is_possible, part_in, request_of}
use Rattle.sn_shelf.specs.ExpandedViews.{asked}
use Rattle.sn_shelf.proofs.ExpandedLemmas.{told_impossible, told_missing}
use Rattle.sn_shelf.proofs.GrowthLemmas.{part_grows, part_told}
use Rattle.sn_shelf.proofs.expanding.fill_message.Goals as goal

pub returns-then-not-is_possible-clause-told : goal.returns-then-not-is_possible-clause-told
returns-then-not-is_possible-clause-told g c =
    let m = message_of c.args.message in
    let r = asked c.in-Some.request in
    let asks : request_of m ≡ Some r = search rules in
    let cannot : is_possible c.args.room.now r.start r.frames ≡ false = search rules in
    told_impossible (g.H.Shelf.files c.args.shelf.now) c.args.room.now m r asks cannot

pub returns-in_default-found-clause-told : goal.returns-in_default-found-clause-told
returns-in_default-found-clause-told g c =
    let m = message_of c.args.message in
    let r = asked c.in-Some.request in
    let told = g.H.Shelf.files c.args.shelf.now in
    let asks : request_of m ≡ Some r = search rules in
    let none : found_in c.load.new.self.last ≡ None = search rules in
    let nothing : IfSome told (λ fs. None ≡ within_limit (bytes_named r.path fs)) =
    subst (λ (o : Option (List ℕ)). IfSome told (λ fs. o ≡ within_limit (bytes_named r.path fs))) none c.in_ok-load.ensures.told in
    told_missing told c.args.room.now m r asks nothing

pub returns-clause-told : goal.returns-clause-told
returns-clause-told g c =
    let m = message_of c.args.message in
    let r = asked c.in-Some.request in
    let told = g.H.Shelf.files c.args.shelf.now in
    let p = c.in-Some-part_in.part in
    let bytes = c.in-Some-found.bytes.now in
    let new = message_of (record { address = c.args.message.address; body = Args c.in_ok-args.args }) in
    let asks : request_of m ≡ Some r = search rules in
    let some : found_in c.load.new.self.last ≡ Some bytes = search rules in
    let read : IfSome told (λ fs. Some bytes ≡ within_limit (bytes_named r.path fs)) =
    subst (λ (o : Option (List ℕ)). IfSome told (λ fs. o ≡ within_limit (bytes_named r.path fs))) some c.in_ok-load.ensures.told in
    let given : part_in c.args.room.now bytes r.start r.frames ≡ Some (heard p) = search rules in
    let same : new ≡ (filled m c.args.room.now r (heard p)).0 = ap (λ (xs : List Argument). let s : MessageShape = record { address = m.address; body = arguments xs } in s) c.in_ok-args.ensures in
    part_told told c.args.room.now (c.args.room.now - p.frames * p.channels) m new r bytes p asks read given same refl

pub returns-clause-grows : goal.returns-clause-grows
returns-clause-grows g c =
    let m = message_of c.args.message in
    let r = asked c.in-Some.request in
    let p = c.in-Some-part_in.part in
    let new = message_of (record { address = c.args.message.address; body = Args c.in_ok-args.args }) in
    let asks : request_of m ≡ Some r = search rules in
    let same : new ≡ (filled m c.args.room.now r (heard p)).0 = ap (λ (xs : List Argument). let s : MessageShape = record { address = m.address; body = arguments xs } in s) c.in_ok-args.ensures in
    part_grows m new r p c.args.room.now (c.args.room.now - p.frames * p.channels) asks c.in-Some-part_in.ensures.whole c.in-Some-part_in.ensures.room c.requires.room same refl
