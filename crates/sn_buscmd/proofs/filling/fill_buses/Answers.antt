use Rattle.std.proofs.Common.{◌≡◌, ◌<◌, ◌≤◌, ◌+◌, ◌-◌, ℕ, List, replicate, sym, ap, ◌∙◌, arith, rules}
use Rattle.std.specs.Prelude.{FitsSigned}
use Rattle.std.specs.Int.{w32}
use Rattle.std.proofs.lemmas.Int.{to_z-of_z}
use Rattle.sn_mem.specs.Buses.{ControlBus, control_buses}
use Rattle.sn_world.specs.Buses.{with_value, with_values}
use Rattle.sn_buscmd.proofs.BusLemmas.{others-again}
use Rattle.sn_buscmd.proofs.FillingLemmas.{filled-more, filled-all}
use Rattle.sn_buscmd.proofs.filling.fill_buses.Goals as goal

pub loop-number-preserved : goal.loop-number-preserved
loop-number-preserved g c =
    let fill = c.args.fill.now in
    let number = c.loop-number.number in
    let end : ℕ = fill.first + fill.count in
    let before = control_buses (g.P.Port.words c.loop-number.port) in
    let low : number < end = omega (arith, c.loop-number-test.true, c.end-number-end.ensures) in
    let value_fits : FitsSigned w32 fill.value = search rules in
    let set : control_buses (g.P.Port.words c.set_value.new.port) ≡ with_value before number fill.value =
    c.set_value.ensures.buses ∙ ap (λ v. with_value before number v) (to_z-of_z w32 fill.value value_fits) in
    record {
      left = ap (λ (bs : List ControlBus). with_values bs (number + 1) (replicate (end - (number + 1)) fill.value)) set ∙ sym (filled-more before number end fill.value low) ∙ c.loop-number.invariant.left;
      others = others-again _ _ _ c.loop-number.invariant.others c.set_value.ensures.others;
      foot = c.set_value.ensures.port.0 ∙ c.loop-number.invariant.foot;
      rest = c.set_value.ensures.port.1 ∙ c.loop-number.invariant.rest;
    }

pub returns-clause-buses : goal.returns-clause-buses
returns-clause-buses g c =
    let fill = c.args.fill.now in
    let number = c.loop-number.number in
    let after = control_buses (g.P.Port.words c.loop-number.port) in
    let done : fill.first + fill.count ≤ number = omega (arith, c.loop-number-test.false, c.end-number-end.ensures) in
    sym (filled-all after number (fill.first + fill.count) fill.value done) ∙ c.loop-number.invariant.left
