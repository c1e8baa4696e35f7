use Rattle.std.proofs.Common.{◌≡◌, ℕ, ℤ, List, ap, ◌∙◌}
use Rattle.sn_def.specs.declared.unit.Unit.{Unit as UnitLine}
use Rattle.sn_def.specs.Defs.{definition_of}
use Rattle.sn_mem.specs.Buses.{control_buses}
use Rattle.sn_synth.specs.Synths.{control_values}
use Rattle.sn_synth.specs.Words.{after_units, begun, synth_words}
use Rattle.sn_synth.proofs.Indices.{may_output}
use Rattle.sn_synth.proofs.Keeping.{run_keeps}
use Rattle.sn_synth.proofs.Picturing.{run_means}
use Rattle.sn_synth.proofs.synth.run_synth.Goals as goal

pub run_units-requires-clause-outputs : goal.run_units-requires-clause-outputs
run_units-requires-clause-outputs g c = may_output (g.P.Port.foot c.args.port.now) (g.P.Port.foot c.read_controls.new.port) c.args.buffers.now (definition_of c.args.def.now) c.args.controls.now (control_buses (g.P.Port.words c.args.port.now)) c.read_controls.new.values c.as_slice-2.result.now
    c.requires.controls c.well_formed-2.ensures.fit c.requires.buffers.each c.requires.writes c.read_controls.ensures.port.0 (c.read_controls.ensures.values ∙ ap (control_values (control_buses (g.P.Port.words c.args.port.now))) c.as_slice.ensures) c.as_slice-2.ensures

pub returns : goal.returns
returns g c =
    let rate = c.args.now.now.rate in
    let block = c.args.now.now.block in
    let node = c.args.now.now.node in
    let at = c.args.state.at in
    let ws = g.P.Port.words c.args.port.now in
    let places = c.args.buffers.now in
    let values = control_values (control_buses ws) c.args.controls.now in
    let words : g.P.Port.words c.run_units.new.port ≡ synth_words rate block node (definition_of c.args.def.now) c.args.controls.now places at ws =
    c.run_units.ensures.words
    ∙ (ap (λ (ws : List ℕ). (after_units rate block node places c.read_controls.new.values c.as_slice-2.result.now (begun ws at)).words) c.read_controls.ensures.words
    ∙ (ap (λ (vs : List ℤ). (after_units rate block node places vs c.as_slice-2.result.now (begun ws at)).words) (c.read_controls.ensures.values ∙ ap (control_values (control_buses ws)) c.as_slice.ensures)
    ∙ ap (λ (us : List UnitLine). (after_units rate block node places values us (begun ws at)).words) c.as_slice-2.ensures)) in
    let means = run_means rate block node (g.P.Port.foot c.args.port.now) places (definition_of c.args.def.now) c.args.controls.now at c.args.state.len ws (g.P.Port.words c.run_units.new.port) words
    c.requires.controls c.well_formed-2.ensures.fit c.requires.writes c.requires.words c.requires.apart c.requires.state (g.met.P.Port.inside c.args.port.now) c.requires.buffers in
    record {
      words = words;
      resources = means.resources;
      state = means.state;
      others = means.others;
      kept = λ j off. run_keeps rate block node (g.P.Port.foot c.args.port.now) places (definition_of c.args.def.now) c.args.controls.now at c.args.state.len ws (g.P.Port.words c.run_units.new.port) words
          c.requires.controls c.well_formed-2.ensures.fit c.requires.buffers.each c.requires.writes c.requires.words c.requires.state j off;
      length = means.long;
      port = (c.run_units.ensures.port.0 ∙ c.read_controls.ensures.port.0, c.run_units.ensures.port.1 ∙ c.read_controls.ensures.port.1);
    }
