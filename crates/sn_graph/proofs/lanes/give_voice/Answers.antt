use Rattle.std.proofs.Common.{◌≤◌, ◌<◌, ◌+◌, ◌∙◌, ℕ, List, [], ◌∷◌, ◌++◌, ap, drop, length, get_or, refl, sym, arith}
use Rattle.sn_graph.specs.Lanes.{moving}
use Rattle.sn_graph.proofs.Laying.{gives_all, gives_as, gives_none, gives_not, gives_one, room_one, with_moves}
use Rattle.sn_graph.proofs.lanes.give_voice.Goals as goal
use Rattle.sn_graph.proofs.lanes.give_voice.Goals.{then-mixes+in_ok-push+in_ok-push-2, else-mixes}

pub loop-bus-init : goal.loop-bus-init
loop-bus-init c = gives_none c.args.lanes.first c.args.buses.now c.args.next c.args.voice.now c.args.added.now

pub mixes-requires : goal.mixes-requires
mixes-requires c =
    let lt : c.loop-bus.bus-index < length c.args.buses.now = omega arith in
    c.requires.buses c.loop-bus.bus-index 0 lt

pub moved-moved-requires-clause-bus : goal.moved-moved-requires-clause-bus
moved-moved-requires-clause-bus c =
    let lt : c.loop-bus.bus-index < length c.args.buses.now = omega arith in
    c.requires.buses c.loop-bus.bus-index 0 lt

pub moved-moved-requires-clause-lane : goal.moved-moved-requires-clause-lane
moved-moved-requires-clause-lane c =
    let lt : c.loop-bus.bus-index < length c.args.buses.now = omega arith in
    room_one c.args.lanes.first c.args.buses.now c.args.next c.args.voice.now c.loop-bus.voice c.args.added.now c.loop-bus.added c.loop-bus.lane c.loop-bus.bus-index (get_or c.args.buses.now c.loop-bus.bus-index 0) lt refl (sym c.mixes.ensures ∙ c.if-mixes.true) c.loop-bus.invariant c.requires.room

pub loop-bus-preserved : goal.loop-bus-preserved
loop-bus-preserved c =
    let first : ℕ = c.args.lanes.first in
    let ns : List ℕ = c.args.buses.now in
    let i : ℕ = c.loop-bus.bus-index in
    let n : ℕ = get_or ns i 0 in
    let v = c.args.voice.now in
    let u = c.loop-bus.voice in
    let left : List ℕ = drop (i + 1) ns in
    let lt : i < length ns = omega arith in
    elim c.if-mixes.branch [
      | then-mixes+in_ok-push+in_ok-push-2 w ↦
          let m = w.moved-moved.result in
          gives_as first ns c.args.next v (moving u (m ∷ [])) c.args.added.now (c.loop-bus.added ++ m ∷ []) (c.loop-bus.lane + 1) left c.if-mixes.voice c.if-mixes.added c.if-mixes.lane
          (w.voice-is ∙ ap (with_moves u) w.in_ok-push.ensures.ok) (w.added-is ∙ w.in_ok-push-2.ensures.ok) w.lane-is
          (gives_one first ns c.args.next v u c.args.added.now c.loop-bus.added c.loop-bus.lane i n lt refl (sym c.mixes.ensures ∙ w.if-mixes.true) m w.moved-moved.ensures c.loop-bus.invariant)
      | else-mixes w ↦
          gives_as first ns c.args.next v u c.args.added.now c.loop-bus.added c.loop-bus.lane left c.if-mixes.voice c.if-mixes.added c.if-mixes.lane w.voice-is w.added-is w.lane-is
          (gives_not first ns c.args.next v u c.args.added.now c.loop-bus.added c.loop-bus.lane i n lt refl (sym c.mixes.ensures ∙ w.if-mixes.false) c.loop-bus.invariant)
    ]

pub returns-clause-voice : goal.returns-clause-voice
returns-clause-voice c =
    let past : length c.args.buses.now ≤ c.loop-bus.bus-index = omega arith in
    (gives_all c.args.lanes.first c.args.buses.now c.args.next c.args.voice.now c.loop-bus.voice c.args.added.now c.loop-bus.added c.loop-bus.lane c.loop-bus.bus-index past c.loop-bus.invariant).0

pub returns-clause-added : goal.returns-clause-added
returns-clause-added c =
    let past : length c.args.buses.now ≤ c.loop-bus.bus-index = omega arith in
    (gives_all c.args.lanes.first c.args.buses.now c.args.next c.args.voice.now c.loop-bus.voice c.args.added.now c.loop-bus.added c.loop-bus.lane c.loop-bus.bus-index past c.loop-bus.invariant).1.0

pub returns-clause-next : goal.returns-clause-next
returns-clause-next c =
    let past : length c.args.buses.now ≤ c.loop-bus.bus-index = omega arith in
    (gives_all c.args.lanes.first c.args.buses.now c.args.next c.args.voice.now c.loop-bus.voice c.args.added.now c.loop-bus.added c.loop-bus.lane c.loop-bus.bus-index past c.loop-bus.invariant).1.1
