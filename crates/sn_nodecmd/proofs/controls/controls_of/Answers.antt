use Rattle.std.proofs.Common.{◌∙◌, ◌-◌, ap, sym, subst, unwrap_or, [], map, take, drop, length, arith}
use Rattle.std.proofs.lemmas.List.{with_items_is}
use Rattle.sn_osc.specs.Shape.{argument_of}
use Rattle.sn_def.specs.Defs.{definition_of}
use Rattle.sn_synth.specs.Conditions.{AreControlsOf}
use Rattle.sn_world.specs.Rows.{pairs}
use Rattle.sn_world.specs.NewSynth.{control_value, defaults}
use Rattle.sn_nodecmd.specs.Setting.{with_pair, set_pairs}
use Rattle.sn_nodecmd.proofs.ControlLemmas.{controls-of, length-pair, set_pairs-step, set_pairs-few, with_values-pairs}
use Rattle.sn_nodecmd.proofs.controls.controls_of.Goals as goal

pub loop-rest-preserved : goal.loop-rest-preserved
loop-rest-preserved c =
    let d = definition_of c.args.def.now in
    let rest = c.loop-rest.rest.now in
    let pair = control_value (argument_of c.control-item.result) (argument_of c.value-item.result) in
    let kept = with_items_is c.loop-rest.controls c.set_control.new.controls (ap length c.set_control.ensures ∙ length-pair d pair c.deref_mut.result.now ∙ c.deref_mut.ensures.len) in
    ap (set_pairs d (map argument_of (take (length rest - 2) (drop 2 rest)))) (kept ∙ c.set_control.ensures ∙ ap (with_pair d pair) c.deref_mut.ensures.value)
    ∙ sym (set_pairs-step d rest c.control-item.result c.value-item.result c.loop-rest.controls.items c.in-len2-up.len_at_least c.control-item.is c.value-item.is)
    ∙ c.loop-rest.invariant

pub returns-clause-set : goal.returns-clause-set
returns-clause-set c =
    let d = definition_of c.args.def.now in
    c.from_vec.ensures
    ∙ sym (set_pairs-few d c.loop-rest.rest.now c.loop-rest.controls.items (omega (arith, c.in_default.len_below)))
    ∙ c.loop-rest.invariant
    ∙ sym (with_values-pairs d (map argument_of c.args.values.now) (defaults d) c.requires)

pub returns-clause-each : goal.returns-clause-each
returns-clause-each c =
    let d = definition_of c.args.def.now in
    subst (AreControlsOf d)
    (sym (c.from_vec.ensures
    ∙ sym (set_pairs-few d c.loop-rest.rest.now c.loop-rest.controls.items (omega (arith, c.in_default.len_below)))
    ∙ c.loop-rest.invariant
    ∙ sym (with_values-pairs d (map argument_of c.args.values.now) (defaults d) c.requires)))
    (controls-of d (unwrap_or (pairs control_value (map argument_of c.args.values.now)) []))
