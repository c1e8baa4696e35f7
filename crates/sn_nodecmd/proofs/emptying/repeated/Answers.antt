use Rattle.std.proofs.Common.{◌≡◌, pos, take, get_or, w32, arith, rules}
use mir.Val.{SFits, to_z, of_z}
use Rattle.std.proofs.lemmas.Int.{to_z-of_z}
use Rattle.sn_world.specs.declared.emptying.DeepFree.{DeepFree}
use Rattle.sn_nodecmd.proofs.AgainLemmas.{one_more, same_group, made_more, made_all}
use Rattle.sn_nodecmd.proofs.emptying.repeated.Goals as goal

pub loop-deep_free-preserved : goal.loop-deep_free-preserved
loop-deep_free-preserved c =
    let d : DeepFree = record { group = pos 0 } in
    let groups = c.args.groups.now in
    let i = c.loop-deep_free.deep_free-index in
    let r : DeepFree = get_or groups i d in
    let fit : SFits w32 r.group = search rules in
    let same : to_z w32 (of_z w32 r.group) ≡ r.group = to_z-of_z w32 r.group fit in
    record {
      earlier = one_more c.loop-deep_free.earlier c.insert.new.self _ groups i d c.loop-deep_free-test.true same c.in_ok-again.ensures.updates c.loop-deep_free.invariant.earlier;
      found = made_more groups i d c.loop-deep_free.found.items c.push.new.self.items _ c.loop-deep_free-test.true c.in_ok-push.ensures.items
          (same_group (take i groups) c.loop-deep_free.earlier _ _ r c.in_ok-again.field-0 same same c.in_ok-again.ensures.added c.loop-deep_free.invariant.earlier)
          c.loop-deep_free.invariant.found;
    }

pub returns : goal.returns
returns c = made_all c.args.groups.now c.loop-deep_free.deep_free-index c.loop-deep_free.found.items (omega (arith, c.loop-deep_free-test.false)) c.loop-deep_free.invariant.found
