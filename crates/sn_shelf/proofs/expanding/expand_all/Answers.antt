use Rattle.std.proofs.Common.{rules, ◌≡◌, ◌≤◌, ◌+◌, ◌-◌, ◌*◌, ◌^◌, ◌++◌, ◌∷◌, [], List, length, map, ◌∙◌, ap, sym, subst, arith}
use Rattle.std.specs.Prelude.{IfSome}
use Rattle.std.proofs.lemmas.List.{length-append}
use Rattle.sn_ports.specs.Limits.{most_samples}
use Rattle.sn_osc.specs.Shape.{shape}
use Rattle.sn_osc.specs.declared.packet.Packet.{Packet}
use Rattle.sn_shelf.specs.Asking.{AllKeepUnasked}
use Rattle.sn_shelf.specs.Expanded.{expanded_list}
use Rattle.sn_shelf.specs.Growth.{AllSpelledWithin, IsSpelledWithin}
use Rattle.sn_shelf.proofs.StreamLemmas.{more_kept, more_spelled, more_told, within_most}
use Rattle.sn_shelf.proofs.expanding.expand_all.Goals as goal

pub loop-packet-preserved : goal.loop-packet-preserved
loop-packet-preserved g c =
    let at = c.loop-packet in
    let told = g.H.Shelf.files c.args.shelf.now in
    let after = c.expand_by.new.room in
    let packet = c.in-Some.packet in
    let new = c.in_ok-expand_by.field-0 in
    let pushed : c.push.new.self.items ≡ at.done.items ++ new ∷ [] = search rules in
    let still : g.H.Shelf.faults c.expand_by.new.shelf ≡ g.H.Shelf.faults at.shelf = search rules in
    let left = subst (λ (ps : List Packet). AllSpelledWithin 65536 (map shape ps)) c.in-Some.ensures.steps.0 at.invariant.left in
    let (bytes, spelled, few) = left.0 in
    let room : at.room ≤ 16777216 = at.invariant.room in
    let within : IsSpelledWithin (shape new) (2 ^ 27) =
    within_most (shape new) (2 * length bytes + 4 * (at.room - after)) (2 ^ 27) (c.in_ok-expand_by.ensures.spelled bytes spelled few) (omega (arith, few, room)) in
    record {
      told =
          subst (λ (ps : List Packet). IfSome told (λ fs. (map shape ps, after) ≡ expanded_list fs most_samples (map shape (at.yielded ++ packet ∷ [])))) (sym pushed)
          (more_told told (g.H.Shelf.files at.shelf) most_samples at.room after at.yielded at.done.items packet new at.invariant.kept at.invariant.told c.in_ok-expand_by.ensures.told);
      unasked =
          subst (λ (ps : List Packet). AllKeepUnasked (map shape (at.yielded ++ packet ∷ [])) (map shape ps)) (sym pushed)
          (more_kept at.yielded at.done.items packet new at.invariant.unasked (λ off. ap shape (c.in_ok-expand_by.ensures.unasked off).0));
      spelled = subst (λ (ps : List Packet). AllSpelledWithin (2 ^ 27) (map shape ps)) (sym pushed) (more_spelled at.done.items new (2 ^ 27) at.invariant.spelled within);
      left = left.1;
      count = omega (arith, ap length pushed, length-append at.done.items (new ∷ []), length-append at.yielded (packet ∷ []), at.invariant.count);
      room = omega (arith, room, c.expand_by.ensures.room);
      knows = c.expand_by.ensures.knows;
      kept = c.expand_by.ensures.kept ∙ at.invariant.kept;
      later = omega (arith, at.invariant.later, c.expand_by.ensures.later);
      still = still ∙ at.invariant.still;
    }
