use Rattle.std.proofs.Common.{◌≡◌, ◌<◌, ◌+◌, List, ℤ, length, drop, refl, ap, ◌∙◌, arith, length-append}
use Rattle.sn_def.specs.declared.control.Now.{Now}
use Rattle.sn_def.specs.StateWords.{unit_words, units_words}
use Rattle.sn_def.proofs.Layouts.{count_is}
use Rattle.sn_synth.specs.Words.{begun}
use Rattle.sn_synth.proofs.Stepping.{next_at, ahead_at, known_at, gathered, can_at, inputs_at_most, outputs_are, unit_more}
use Rattle.sn_synth.proofs.units.run_units.Goals as goal

pub unit_words-len-requires : goal.unit_words-len-requires
unit_words-len-requires g c = rw (← c.requires.same) (omega (arith, c.requires.state.below))

pub gather-requires-clause-known : goal.gather-requires-clause-known
gather-requires-clause-known g c =
    let lt : c.loop-unit.unit-index < length c.args.units.now = omega arith in
    let next = next_at c.args.now.now.rate (length c.args.scratch.now.values) (length c.loop-unit.scratch.wires) c.loop-unit.place (c.args.at + units_words c.args.now.now.rate c.args.units.now) c.args.units.now c.loop-unit.unit-index c.unit-item.result lt c.unit-item.is c.loop-unit.invariant.ahead in
    known_at (length c.args.scratch.now.values) (length c.loop-unit.scratch.wires) (length c.loop-unit.scratch.values) (length c.loop-unit.scratch.wires) c.unit-item.result c.as_slice.result.now c.as_slice.ensures (ap (λ (vs : List ℤ). length vs) c.loop-unit.invariant.values) refl next.fits

pub gather-requires-clause-few : goal.gather-requires-clause-few
gather-requires-clause-few g c =
    let lt : c.loop-unit.unit-index < length c.args.units.now = omega arith in
    let next = next_at c.args.now.now.rate (length c.args.scratch.now.values) (length c.loop-unit.scratch.wires) c.loop-unit.place (c.args.at + units_words c.args.now.now.rate c.args.units.now) c.args.units.now c.loop-unit.unit-index c.unit-item.result lt c.unit-item.is c.loop-unit.invariant.ahead in
    let few = inputs_at_most (length c.args.scratch.now.values) (length c.loop-unit.scratch.wires) c.unit-item.result next.fits in
    rw c.as_slice.ensures (omega arith)

pub resize-requires : goal.resize-requires
resize-requires g c =
    let lt : c.loop-unit.unit-index < length c.args.units.now = omega arith in
    let next = next_at c.args.now.now.rate (length c.args.scratch.now.values) (length c.loop-unit.scratch.wires) c.loop-unit.place (c.args.at + units_words c.args.now.now.rate c.args.units.now) c.args.units.now c.loop-unit.unit-index c.unit-item.result lt c.unit-item.is c.loop-unit.invariant.ahead in
    let room = next.room in omega arith

pub run_kind-requires-clause-can : goal.run_kind-requires-clause-can
run_kind-requires-clause-can g c =
    let lt : c.loop-unit.unit-index < length c.args.units.now = omega arith in
    let size = count_is c.args.now.now.rate c.args.units.now c.args.def.now.units c.loop-unit.number c.loop-unit.unit-index c.unit-item.result c.unit_words-len.result c.unit_words-len.ensures c.loop-unit.invariant.count c.requires.same lt c.unit-item.is in
    let next = next_at c.args.now.now.rate (length c.args.scratch.now.values) (length c.loop-unit.scratch.wires) c.loop-unit.place (c.args.at + units_words c.args.now.now.rate c.args.units.now) c.args.units.now c.loop-unit.unit-index c.unit-item.result lt c.unit-item.is c.loop-unit.invariant.ahead in
    can_at c.args.now.now.rate c.numbered.result.rate (g.P.Port.foot c.args.port.now) (g.P.Port.foot c.loop-unit.port) c.args.buffers.now c.args.at (units_words c.args.now.now.rate c.args.units.now) c.loop-unit.place (length c.args.scratch.now.values) (length c.loop-unit.scratch.wires) (length c.resize.new.self) c.unit_words-len.result.count
    c.args.scratch.now.values c.loop-unit.scratch.wires c.gather.new.blocks c.args.units.now c.loop-unit.unit-index c.unit-item.result lt c.unit-item.is next.fits c.requires.outputs c.resize.ensures size c.requires.apart c.requires.state c.requires.buffers c.loop-unit.invariant.foot c.loop-unit.invariant.low next.size
    (gathered c.args.scratch.now.values c.loop-unit.scratch.values c.loop-unit.scratch.wires c.gather.new.blocks c.unit-item.result c.as_slice.result.now c.gather.ensures c.as_slice.ensures c.loop-unit.invariant.values)
    (ap (λ (n : Now). n.rate) c.numbered.ensures)

pub append-requires : goal.append-requires
append-requires g c =
    let lt : c.loop-unit.unit-index < length c.args.units.now = omega arith in
    let next = next_at c.args.now.now.rate (length c.args.scratch.now.values) (length c.loop-unit.scratch.wires) c.loop-unit.place (c.args.at + units_words c.args.now.now.rate c.args.units.now) c.args.units.now c.loop-unit.unit-index c.unit-item.result lt c.unit-item.is c.loop-unit.invariant.ahead in
    let long = outputs_are (length c.args.scratch.now.values) (length c.loop-unit.scratch.wires) (length c.resize.new.self) c.unit-item.result c.numbered.result c.args.buffers.now (g.P.Port.words c.loop-unit.port) c.loop-unit.place c.unit_words-len.result.count c.gather.new.blocks next.fits c.resize.ensures in
    let room = next.room in
    rw c.run_kind.ensures.outputs (omega arith)

pub overflow_add-place : goal.overflow_add-place
overflow_add-place g c =
    let lt : c.loop-unit.unit-index < length c.args.units.now = omega arith in
    let size = count_is c.args.now.now.rate c.args.units.now c.args.def.now.units c.loop-unit.number c.loop-unit.unit-index c.unit-item.result c.unit_words-len.result c.unit_words-len.ensures c.loop-unit.invariant.count c.requires.same lt c.unit-item.is in
    let next = next_at c.args.now.now.rate (length c.args.scratch.now.values) (length c.loop-unit.scratch.wires) c.loop-unit.place (c.args.at + units_words c.args.now.now.rate c.args.units.now) c.args.units.now c.loop-unit.unit-index c.unit-item.result lt c.unit-item.is c.loop-unit.invariant.ahead in
    omega (arith, size, next.size, c.requires.state.below)

pub loop-unit-preserved : goal.loop-unit-preserved
loop-unit-preserved g c =
    let lt : c.loop-unit.unit-index < length c.args.units.now = omega arith in
    let size = count_is c.args.now.now.rate c.args.units.now c.args.def.now.units c.loop-unit.number c.loop-unit.unit-index c.unit-item.result c.unit_words-len.result c.unit_words-len.ensures c.loop-unit.invariant.count c.requires.same lt c.unit-item.is in
    let i = c.loop-unit.invariant in
    let next = next_at c.args.now.now.rate (length c.args.scratch.now.values) (length c.loop-unit.scratch.wires) c.loop-unit.place (c.args.at + units_words c.args.now.now.rate c.args.units.now) c.args.units.now c.loop-unit.unit-index c.unit-item.result lt c.unit-item.is i.ahead in
    let long = outputs_are (length c.args.scratch.now.values) (length c.loop-unit.scratch.wires) (length c.resize.new.self) c.unit-item.result c.numbered.result c.args.buffers.now (g.P.Port.words c.loop-unit.port) c.loop-unit.place c.unit_words-len.result.count c.gather.new.blocks next.fits c.resize.ensures in
    let wires : length c.append.new.self ≡ length c.loop-unit.scratch.wires + c.unit-item.result.outputs =
    ap (λ (ws : List (List ℤ)). length ws) c.append.ensures ∙ (length-append c.loop-unit.scratch.wires c.run_kind.new.outputs ∙ ap (λ n. length c.loop-unit.scratch.wires + n) (ap (λ (ws : List (List ℤ)). length ws) c.run_kind.ensures.outputs ∙ long)) in
    record {
      going = unit_more c.args.now.now.rate c.args.now.now.block c.args.now.now.node c.args.buffers.now c.args.scratch.now.values c.args.units.now (begun (g.P.Port.words c.args.port.now) c.args.at)
          (record { words = g.P.Port.words c.loop-unit.port; wires = c.loop-unit.scratch.wires; at = c.loop-unit.place; number = c.loop-unit.number })
          c.loop-unit.unit-index c.unit-item.result c.numbered.result (g.P.Port.words c.run_kind.new.port) c.gather.new.blocks c.run_kind.new.outputs c.append.new.self (length c.resize.new.self) c.unit_words-len.result.count
          lt c.unit-item.is i.going
          (gathered c.args.scratch.now.values c.loop-unit.scratch.values c.loop-unit.scratch.wires c.gather.new.blocks c.unit-item.result c.as_slice.result.now c.gather.ensures c.as_slice.ensures i.values)
          c.numbered.ensures c.resize.ensures size c.run_kind.ensures.words c.run_kind.ensures.outputs c.append.ensures;
      ahead = ahead_at c.args.now.now.rate (length c.args.scratch.now.values) (length c.loop-unit.scratch.wires + c.unit-item.result.outputs) (c.loop-unit.place + unit_words c.args.now.now.rate c.unit-item.result) (length c.append.new.self) (c.loop-unit.place + c.unit_words-len.result.count)
          (c.args.at + units_words c.args.now.now.rate c.args.units.now) (drop (c.loop-unit.unit-index + 1) c.args.units.now) wires (ap (λ n. c.loop-unit.place + n) size) next.ahead;
      low = omega arith;
      count = omega arith;
      values = i.values;
      foot = c.run_kind.ensures.port.0 ∙ i.foot;
      rest = c.run_kind.ensures.port.1 ∙ i.rest;
    }
