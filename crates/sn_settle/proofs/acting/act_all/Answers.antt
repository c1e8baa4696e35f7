use Rattle.std.proofs.Common.{◌≤◌, ◌<◌, ◌+◌, ◌∙◌, length, drop, get_or, pos, arith, length-drop, refl}
use Rattle.std.proofs.lemmas.Bool.{or_parts}
use Rattle.std.proofs.lemmas.List.Elements.{All-get_or}
use Rattle.sn_world.specs.declared.endings.Ending.{Ending}
use Rattle.sn_settle.specs.Acting.{IsBelowRoot}
use Rattle.sn_settle.proofs.Reading.{drop_first, drop_past}
use Rattle.sn_settle.proofs.Acted.{acted_none, acted_next, acted_room, acted_all}
use Rattle.sn_settle.proofs.acting.act_all.Goals as goal

pub loop-ending-init : goal.loop-ending-init
loop-ending-init c = (acted_none c.args.endings.now c.args.stage.now c.args.outs.now, λ _. refl)

pub act-changed-requires-clause-pictures : goal.act-changed-requires-clause-pictures
act-changed-requires-clause-pictures c = (c.requires.pictures.0, c.loop-ending.invariant.0.pictures c.requires.pictures.0 c.requires.pictures.1)

pub act-changed-requires-clause-other : goal.act-changed-requires-clause-other
act-changed-requires-clause-other c =
    let lt : c.loop-ending.ending-index < length c.args.endings.now = omega arith in
    All-get_or IsBelowRoot c.args.endings.now c.loop-ending.ending-index (record { node = pos 0; action = pos 0 }) lt c.requires.others

pub act-changed-requires-clause-room : goal.act-changed-requires-clause-room
act-changed-requires-clause-room c =
    let lt : c.loop-ending.ending-index < length c.args.endings.now = omega arith in
    acted_room (drop c.loop-ending.ending-index c.args.endings.now) c.args.endings.now c.args.stage.now c.loop-ending.stage c.args.outs.now c.loop-ending.outs c.requires.room (omega (arith, lt, length-drop c.loop-ending.ending-index c.args.endings.now)) c.loop-ending.invariant.0

pub loop-ending-preserved : goal.loop-ending-preserved
loop-ending-preserved c =
    let lt : c.loop-ending.ending-index < length c.args.endings.now = omega arith in
    let e : Ending = get_or c.args.endings.now c.loop-ending.ending-index (record { node = pos 0; action = pos 0 }) in (
      acted_next e (drop c.loop-ending.ending-index c.args.endings.now) (drop (c.loop-ending.ending-index + 1) c.args.endings.now) c.args.endings.now c.args.stage.now c.loop-ending.stage c.act-changed.new.stage c.args.outs.now c.loop-ending.outs c.act-changed.new.outs
          (drop_first c.args.endings.now c.loop-ending.ending-index (record { node = pos 0; action = pos 0 }) lt) c.loop-ending.invariant.0 c.act-changed.ensures.acted,
      λ unchanged.
          let parts = or_parts c.act-changed.result c.loop-ending.changed unchanged in
          c.act-changed.ensures.same parts.0 ∙ c.loop-ending.invariant.1 parts.1,
    )

pub returns-clause-acted : goal.returns-clause-acted
returns-clause-acted c =
    let past : length c.args.endings.now ≤ c.loop-ending.ending-index = omega arith in
    acted_all (drop c.loop-ending.ending-index c.args.endings.now) c.args.endings.now c.args.stage.now c.loop-ending.stage c.args.outs.now c.loop-ending.outs (drop_past c.args.endings.now c.loop-ending.ending-index past) c.loop-ending.invariant.0

pub returns-clause-same : goal.returns-clause-same
returns-clause-same c = c.loop-ending.invariant.1
