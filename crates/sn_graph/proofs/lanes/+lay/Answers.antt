use Rattle.std.proofs.Common.{◌≡◌, ◌≤◌, ◌<◌, ◌+◌, ◌∙◌, ℕ, Bool, false, List, Option, None, Some, ap, length, refl, subst, sym, arith}
use Rattle.std.proofs.lemmas.Result.{IfOk-weaker}
use Rattle.sn_mem.specs.declared.moves.Moved.{Moved}
use Rattle.std.specs.List.{All}
use Rattle.sn_graph.specs.Inputs.{nodes_of}
use Rattle.sn_graph.specs.Lanes.{given, laned, lanes_from, pairs, shared_by, with_shared}
use Rattle.sn_graph.specs.Voices.{HeardNodes, group, none, voices}
use Rattle.sn_graph.proofs.Laying.{end_if, group_plain, group_split, not_split, noted_is, room_below, shared_all, shared_few, too_few}
use Rattle.sn_graph.proofs.Alike.{is_laned}
use Rattle.sn_graph.proofs.lanes.+lay.Goals as goal
use Rattle.sn_graph.proofs.lanes.+lay.Goals.{lay_group-then-is_some+in_default, lay_group-else-is_some}

pub lay_group-end_of-requires-clause-few : goal.lay_group-end_of-requires-clause-few
lay_group-end_of-requires-clause-few t c =
    let above : List Bool = c.args.above.now in
    let inner : HeardNodes = nodes_of c.args.inner.now in
    let is : c.deref.result.now ≡ shared_by above inner = c.deref.ensures.value ∙ c.in_ok-shared.ensures.buses ∙ noted_is c.args.joint.now.shared above inner c.requires.shared in
    omega (arith, ap (λ (ns : List ℕ). length ns) is, shared_few above inner)

pub lay_group-end_of-requires-clause-buses : goal.lay_group-end_of-requires-clause-buses
lay_group-end_of-requires-clause-buses t c =
    let above : List Bool = c.args.above.now in
    let inner : HeardNodes = nodes_of c.args.inner.now in
    let is : c.deref.result.now ≡ shared_by above inner = c.deref.ensures.value ∙ c.in_ok-shared.ensures.buses ∙ noted_is c.args.joint.now.shared above inner c.requires.shared in
    subst (λ (ns : List ℕ). All (λ n. n < 128) ns) (sym is) (shared_all above inner)

pub lay_group-lanes_below-requires-clause-buses : goal.lay_group-lanes_below-requires-clause-buses
lay_group-lanes_below-requires-clause-buses t c =
    let above : List Bool = c.args.above.now in
    let inner : HeardNodes = nodes_of c.args.inner.now in
    let is : c.deref-in-Some-2.result.now ≡ shared_by above inner = c.deref-in-Some-2.ensures.value ∙ c.in_ok-shared.ensures.buses ∙ noted_is c.args.joint.now.shared above inner c.requires.shared in
    subst (λ (ns : List ℕ). All (λ n. n < 128) ns) (sym is) (shared_all above inner)

pub lay_group-lanes_below-requires-clause-room : goal.lay_group-lanes_below-requires-clause-room
lay_group-lanes_below-requires-clause-room t c =
    let above : List Bool = c.args.above.now in
    let inner : HeardNodes = nodes_of c.args.inner.now in
    let ns : List ℕ = c.in_ok-shared.shared.items in
    let e : Some c.in-Some.end ≡ end_if c.args.lanes.most (c.args.taken + pairs ns (voices inner)) = c.in-Some.ensures ∙ ap (λ (ks : List ℕ). end_if c.args.lanes.most (c.args.taken + pairs ks (voices inner))) c.deref.ensures.value in
    let room : c.args.taken + pairs ns (voices (nodes_of c.lay.new.nodes)) ≤ 4096 =
    room_below c.args.lanes.first c.args.lanes.most above c.args.taken c.in-Some.end inner (nodes_of c.lay.new.nodes) ns c.with_shared-all.result e c.requires.most c.in_ok-after.ensures.nodes in
    omega (arith, room, ap (λ (ks : List ℕ). pairs ks (voices (nodes_of c.lay.new.nodes))) c.deref-in-Some-2.ensures.value)

pub lay_group-returns-in-Some-clause-nodes : goal.lay_group-returns-in-Some-clause-nodes
lay_group-returns-in-Some-clause-nodes t c =
    let above : List Bool = c.args.above.now in
    let inner : HeardNodes = nodes_of c.args.inner.now in
    let ns : List ℕ = c.in_ok-shared.shared.items in
    let a : HeardNodes = nodes_of c.lay.new.nodes in
    let e : Some c.in-Some.end ≡ end_if c.args.lanes.most (c.args.taken + pairs ns (voices inner)) = c.in-Some.ensures ∙ ap (λ (ks : List ℕ). end_if c.args.lanes.most (c.args.taken + pairs ks (voices inner))) c.deref.ensures.value in
    (group_split c.args.lanes.first c.args.lanes.most above c.args.taken c.in-Some.end c.in_ok-after.after c.args.joint.now.lanes inner a (nodes_of c.lanes_below.new.nodes) ns c.with_shared-all.result c.in_ok-lanes_below.field-0
    (sym c.is_some.ensures ∙ c.if-is_some.true)
    (c.in_ok-shared.ensures.buses ∙ noted_is c.args.joint.now.shared above inner c.requires.shared)
    e
    (c.with_shared-all.ensures ∙ ap (with_shared above) c.deref-in-Some.ensures.value)
    c.in_ok-after.ensures.nodes c.in_ok-after.ensures.taken
    (c.in_ok-lanes_below.ensures.nodes ∙ ap (λ (ks : List ℕ). given c.args.lanes.first c.args.taken ks a) c.deref-in-Some-2.ensures.value)
    (c.in_ok-lanes_below.ensures.lanes ∙ ap (λ (ks : List ℕ). lanes_from c.args.lanes.first c.args.taken ks (voices a)) c.deref-in-Some-2.ensures.value)).0

pub lay_group-returns-in-Some-clause-taken : goal.lay_group-returns-in-Some-clause-taken
lay_group-returns-in-Some-clause-taken t c =
    let above : List Bool = c.args.above.now in
    let inner : HeardNodes = nodes_of c.args.inner.now in
    let ns : List ℕ = c.in_ok-shared.shared.items in
    let a : HeardNodes = nodes_of c.lay.new.nodes in
    let e : Some c.in-Some.end ≡ end_if c.args.lanes.most (c.args.taken + pairs ns (voices inner)) = c.in-Some.ensures ∙ ap (λ (ks : List ℕ). end_if c.args.lanes.most (c.args.taken + pairs ks (voices inner))) c.deref.ensures.value in
    (group_split c.args.lanes.first c.args.lanes.most above c.args.taken c.in-Some.end c.in_ok-after.after c.args.joint.now.lanes inner a (nodes_of c.lanes_below.new.nodes) ns c.with_shared-all.result c.in_ok-lanes_below.field-0
    (sym c.is_some.ensures ∙ c.if-is_some.true)
    (c.in_ok-shared.ensures.buses ∙ noted_is c.args.joint.now.shared above inner c.requires.shared)
    e
    (c.with_shared-all.ensures ∙ ap (with_shared above) c.deref-in-Some.ensures.value)
    c.in_ok-after.ensures.nodes c.in_ok-after.ensures.taken
    (c.in_ok-lanes_below.ensures.nodes ∙ ap (λ (ks : List ℕ). given c.args.lanes.first c.args.taken ks a) c.deref-in-Some-2.ensures.value)
    (c.in_ok-lanes_below.ensures.lanes ∙ ap (λ (ks : List ℕ). lanes_from c.args.lanes.first c.args.taken ks (voices a)) c.deref-in-Some-2.ensures.value)).1

pub lay_group-returns-clause-nodes : goal.lay_group-returns-clause-nodes
lay_group-returns-clause-nodes t c =
    let first : ℕ = c.args.lanes.first in
    let most : ℕ = c.args.lanes.most in
    let above : List Bool = c.args.above.now in
    let taken : ℕ = c.args.taken in
    let may : Option (List Moved) = c.args.joint.now.lanes in
    let inner : HeardNodes = nodes_of c.args.inner.now in
    let ns : List ℕ = c.in_ok-shared.shared.items in
    let new : HeardNodes = nodes_of c.lay-2.new.nodes in
    let plain : is_laned first most above taken may inner ≡ false = elim c.if-is_some.branch [
      | lay_group-then-is_some+in_default w ↦ too_few first most above taken may inner ns (c.in_ok-shared.ensures.buses ∙ noted_is c.args.joint.now.shared above inner c.requires.shared)
          ((sym w.in_default.is ∙ w.end_of.ensures) ∙ ap (λ (ks : List ℕ). end_if most (taken + pairs ks (voices inner))) w.deref.ensures.value)
      | lay_group-else-is_some w ↦ not_split first most above taken may inner (sym c.is_some.ensures ∙ w.if-is_some.false)
    ] in
    IfOk-weaker c.lay-2.result
    (λ (after : ℕ). new ≡ (laned first most above taken inner).nodes)
    (λ (after : ℕ). group None new none ≡ (laned first most above taken (group may inner none)).nodes)
    (λ after e. (group_plain first most above taken (laned first most above taken inner).taken may inner new plain e refl).0)
    c.lay-2.ensures.nodes

pub lay_group-returns-clause-taken : goal.lay_group-returns-clause-taken
lay_group-returns-clause-taken t c =
    let first : ℕ = c.args.lanes.first in
    let most : ℕ = c.args.lanes.most in
    let above : List Bool = c.args.above.now in
    let taken : ℕ = c.args.taken in
    let may : Option (List Moved) = c.args.joint.now.lanes in
    let inner : HeardNodes = nodes_of c.args.inner.now in
    let ns : List ℕ = c.in_ok-shared.shared.items in
    let new : HeardNodes = nodes_of c.lay-2.new.nodes in
    let plain : is_laned first most above taken may inner ≡ false = elim c.if-is_some.branch [
      | lay_group-then-is_some+in_default w ↦ too_few first most above taken may inner ns (c.in_ok-shared.ensures.buses ∙ noted_is c.args.joint.now.shared above inner c.requires.shared)
          ((sym w.in_default.is ∙ w.end_of.ensures) ∙ ap (λ (ks : List ℕ). end_if most (taken + pairs ks (voices inner))) w.deref.ensures.value)
      | lay_group-else-is_some w ↦ not_split first most above taken may inner (sym c.is_some.ensures ∙ w.if-is_some.false)
    ] in
    IfOk-weaker c.lay-2.result
    (λ (after : ℕ). after ≡ (laned first most above taken inner).taken)
    (λ (after : ℕ). after ≡ (laned first most above taken (group may inner none)).taken)
    (λ after e. (group_plain first most above taken after may inner (laned first most above taken inner).nodes plain refl e).1)
    c.lay-2.ensures.taken
