use Rattle.std.proofs.Common.{rules, ◌≡◌, ◌++◌, ◌∷◌, [], List, ap, ◌∙◌, sym, subst, arith}
use Rattle.std.specs.Prelude.{IfSome}
use Rattle.sn_osc.specs.Shape.{bundle, shape, shapes}
use Rattle.sn_osc.specs.declared.packet.Packet.{Packet}
use Rattle.sn_osc.proofs.ShapeLemmas.{shape-Bundle}
use Rattle.sn_shelf.specs.Expanded.{expanded_elements}
use Rattle.sn_shelf.specs.Growth.{AllGrow}
use Rattle.sn_shelf.proofs.ExpandedLemmas.{one_more, told_bundle}
use Rattle.sn_shelf.proofs.GrowthLemmas.{bundle_grows_as, more_grow}
use Rattle.sn_shelf.proofs.expanding.+filling.Goals as goal

pub fill-returns-in_ok-elements-in-Bundle-clause-told : goal.fill-returns-in_ok-elements-in-Bundle-clause-told
fill-returns-in_ok-elements-in-Bundle-clause-told g t c =
    let b = c.in-Bundle.bundle in
    let is : shape c.args.packet ≡ bundle b.tag (shapes b.elements.items) = ap shape c.in-Bundle.is ∙ shape-Bundle b in
    let new = c.in_ok-elements-in-Bundle.elements.items in
    told_bundle (g.H.Shelf.files c.args.shelf.now) b.tag c.args.room.now c.fill_elements.new.room (shapes b.elements.items) (shapes new) (shape c.args.packet) (shape c.bundle_packet.result)
    is c.bundle_packet.ensures c.in_ok-elements-in-Bundle.ensures.told

pub fill-returns-in_ok-elements-in-Bundle-clause-grows : goal.fill-returns-in_ok-elements-in-Bundle-clause-grows
fill-returns-in_ok-elements-in-Bundle-clause-grows g t c =
    let b = c.in-Bundle.bundle in
    let is : shape c.args.packet ≡ bundle b.tag (shapes b.elements.items) = ap shape c.in-Bundle.is ∙ shape-Bundle b in
    let new = c.in_ok-elements-in-Bundle.elements.items in
    bundle_grows_as b.tag (shapes b.elements.items) (shapes new) (shape c.args.packet) (shape c.bundle_packet.result) c.args.room.now c.fill_elements.new.room
    is c.bundle_packet.ensures c.in_ok-elements-in-Bundle.ensures.grows

pub fill_elements-loop-packet-preserved : goal.fill_elements-loop-packet-preserved
fill_elements-loop-packet-preserved g t c =
    let at = c.loop-packet in
    let told = g.H.Shelf.files c.args.shelf.now in
    let room = c.args.room.now in
    let after = c.fill.new.room in
    let packet = c.in-Some.packet in
    let new = c.in_ok-fill.field-0 in
    let pushed : c.push.new.self.items ≡ at.done.items ++ new ∷ [] = search rules in
    let still : g.H.Shelf.faults c.fill.new.shelf ≡ g.H.Shelf.faults at.shelf = search rules in
    record {
      told =
          subst (λ (ps : List Packet). IfSome told (λ fs. (shapes ps, after) ≡ expanded_elements fs room (shapes (at.yielded ++ packet ∷ [])))) (sym pushed)
          (one_more told (g.H.Shelf.files at.shelf) room at.room after at.yielded at.done.items packet new at.invariant.kept at.invariant.told c.in_ok-fill.ensures.told);
      grows =
          subst (λ (ps : List Packet). AllGrow (shapes (at.yielded ++ packet ∷ [])) (shapes ps) room after) (sym pushed)
          (more_grow at.yielded at.done.items packet new room at.room after at.invariant.grows c.in_ok-fill.ensures.grows);
      less = omega (arith, at.invariant.less, c.fill.ensures.room);
      knows = c.fill.ensures.knows;
      kept = c.fill.ensures.kept ∙ at.invariant.kept;
      later = omega (arith, at.invariant.later, c.fill.ensures.later);
      still = still ∙ at.invariant.still;
    }
