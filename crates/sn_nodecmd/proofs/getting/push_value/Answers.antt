use Rattle.std.proofs.Common.{◌<◌, length, is_some, ap, sym, arith}
use Rattle.sn_def.specs.Defs.{definition_of}
use Rattle.sn_def.specs.declared.control.Control.{Control}
use Rattle.sn_synth.specs.Conditions.{IsFollowed, no_control}
use Rattle.sn_world.proofs.Meanings.{follows_all}
use Rattle.sn_nodecmd.specs.Runs.{name_of}
use Rattle.sn_nodecmd.proofs.GettingLemmas.{within, at-number, may-read}
use Rattle.sn_nodecmd.proofs.getting.push_value.Goals as goal

pub control_at-requires : goal.control_at-requires
control_at-requires g c =
    let d = definition_of c.args.def.now in
    let inside : c.in-Some.number < length d.controls = within d (name_of c.args.control) c.in-Some.number (sym c.in-Some.ensures) in
    omega (arith, c.requires.each.one_each)

pub control_value-value-requires-clause-bus : goal.control_value-value-requires-clause-bus
control_value-value-requires-clause-bus g c =
    let d = definition_of c.args.def.now in
    let inside : c.in-Some.number < length d.controls = within d (name_of c.args.control) c.in-Some.number (sym c.in-Some.ensures) in
    at-number (λ (x : Control). IsFollowed x.bus) c.args.controls.now c.in-Some.number c.control_at.result (omega (arith, c.requires.each.one_each)) c.requires.each.followed c.control_at.ensures

pub control_value-value-requires-clause-reads : goal.control_value-value-requires-clause-reads
control_value-value-requires-clause-reads g c =
    let d = definition_of c.args.def.now in
    let inside : c.in-Some.number < length d.controls = within d (name_of c.args.control) c.in-Some.number (sym c.in-Some.ensures) in
    may-read (g.P.Port.foot c.args.port.now) c.args.controls.now c.in-Some.number c.control_at.result (omega (arith, c.requires.each.one_each)) (follows_all (g.P.Port.foot c.args.port.now) c.requires.foot d c.args.controls.now c.requires.each) c.control_at.ensures 0 no_control (omega arith)

pub push_name-requires : goal.push_name-requires
push_name-requires g c = record { known = ap is_some (sym c.in-Some.ensures) }
