use Rattle.std.proofs.Common.{◌∙◌, ap, refl, arith, subst, Ok, List}
use Rattle.sn_def.specs.Defs.{definition_of}
use Rattle.sn_def.specs.StateWords.{state_words}
use Rattle.sn_mem.specs.declared.extents.Extent.{Extent}
use Rattle.sn_world.specs.World.{turn_of}
use Rattle.sn_world.specs.declared.stage.Held.TheVariants as held
use Rattle.sn_synth.specs.Conditions.{AreControlsOf}
use Rattle.sn_def.specs.declared.control.Control.{Control}
use Rattle.sn_world.specs.NewSynth.{with_values, defaults}
use Rattle.sn_nodecmd.specs.Asking.{request_of}
use Rattle.sn_nodecmd.specs.Placing.{Adds}
use Rattle.sn_nodecmd.specs.Telling.{TellsOf}
use Rattle.sn_nodecmd.proofs.MakingLemmas.{row_used, row_refused, row_full, row_done, next_pictures, made_is, made_pictures, made_length, made_outside}
use Rattle.sn_nodecmd.proofs.making.make.Goals as goal

pub returns-in_default-clause-row : goal.returns-in_default-clause-row
returns-in_default-clause-row g c = row_used (turn_of c.args.stage.now (g.P.Port.words c.args.port.now) c.args.replies.now) (request_of c.args.asked.now) (definition_of c.args.def.value) c.in_default.ensures

pub returns-in-Some-refusal-clause-row : goal.returns-in-Some-refusal-clause-row
returns-in-Some-refusal-clause-row g c = row_refused c.args.stage.now (g.P.Port.words c.args.port.now) c.requires.pictures (request_of c.args.asked.now) (definition_of c.args.def.value) c.in-Some.node.id c.in-Some.ensures c.args.replies.now c.in-Some-refusal.reason c.in-Some-refusal.ensures

pub add_synth-requires-clause-live : goal.add_synth-requires-clause-live
add_synth-requires-clause-live g c = λ e some. omega (arith, c.requires.pictures.live e some)

pub returns-in_default-2-clause-row : goal.returns-in_default-2-clause-row
returns-in_default-2-clause-row g c =
    let (pool, freed, full, same) = subst (λ o. Adds c.in-Some.node.id c.args.asked.now.node (λ s. held.Synth c.args.def c.in_ok-controls.controls s) (state_words c.args.stage.now.rate (definition_of c.args.def.value)) c.args.stage.now c.add_synth.new.stage (Ok o)) c.in_default-2.is c.in_ok-state.ensures.adds in
    row_full c.args.stage.now (g.P.Port.words c.args.port.now) c.requires.pictures (request_of c.args.asked.now) (definition_of c.args.def.value) c.in-Some.node.id c.in-Some.ensures c.args.replies.now c.in_default-refusal.ensures pool freed full

pub clear-requires-clause-below : goal.clear-requires-clause-below
clear-requires-clause-below g c =
    let added = subst (λ o. Adds c.in-Some.node.id c.args.asked.now.node (λ s. held.Synth c.args.def c.in_ok-controls.controls s) (state_words c.args.stage.now.rate (definition_of c.args.def.value)) c.args.stage.now c.add_synth.new.stage (Ok o)) c.in-Some-2.is c.in_ok-state.ensures.adds in
    omega (arith, added.place.size, added.place.free.to, ap (λ (r : Extent). r.at) added.freed.region, ap (λ (r : Extent). r.len) added.freed.region, c.requires.pictures.base, c.requires.pictures.bounded)

pub returns-clause-row : goal.returns-clause-row
returns-clause-row g c =
    row_done c.args.stage.now (g.P.Port.words c.args.port.now) c.requires.pictures (request_of c.args.asked.now) (definition_of c.args.def.value) c.in-Some.node.id c.in-Some.ensures c.args.replies.now c.in_default-refusal.ensures
    c.add_synth.new.stage (g.P.Port.words c.clear.new.port) c.in_ok-controls.controls (λ s. held.Synth c.args.def c.in_ok-controls.controls s) c.in-Some-2.state c.next_after-stage.result c.add_synth.new.replies (c.in_ok-controls.ensures.set ∙ ap {B = List Control} (λ v. with_values (definition_of v) (request_of c.args.asked.now).values (defaults (definition_of v))) c.deref.ensures) c.next_after-stage.ensures
    (made_is c.in-Some.node.id c.args.asked.now.node (definition_of c.args.def.value) c.in_ok-controls.controls (λ s. held.Synth c.args.def c.in_ok-controls.controls s) c.args.stage.now c.add_synth.new.stage (g.P.Port.words c.args.port.now) (g.P.Port.words c.clear.new.port) c.in-Some-2.state
    (record { own = refl; plays = refl; content = λ us. refl; held = λ rate region is. is }) (subst (λ v. AreControlsOf (definition_of v) c.in_ok-controls.controls) c.deref.ensures c.in_ok-controls.ensures.each)
    c.in_default-refusal.ensures
    c.in_ok-state.field-0 c.in_ok-state.ensures.adds c.in-Some-2.is c.clear.ensures.words)
    (subst (λ o. TellsOf c.in-Some.node.id c.args.asked.now.node c.args.stage.now c.add_synth.new.stage c.args.replies.now c.add_synth.new.replies (Ok o)) c.in-Some-2.is c.in_ok-state.ensures.told)

pub returns-clause-pictures : goal.returns-clause-pictures
returns-clause-pictures g c =
    next_pictures c.add_synth.new.stage (g.P.Port.words c.clear.new.port) c.next_after-stage.result
    (made_pictures c.in-Some.node.id c.args.asked.now.node (definition_of c.args.def.value) c.in_ok-controls.controls (λ s. held.Synth c.args.def c.in_ok-controls.controls s) c.args.stage.now c.add_synth.new.stage (g.P.Port.words c.args.port.now) (g.P.Port.words c.clear.new.port) c.in-Some-2.state
    (made_is c.in-Some.node.id c.args.asked.now.node (definition_of c.args.def.value) c.in_ok-controls.controls (λ s. held.Synth c.args.def c.in_ok-controls.controls s) c.args.stage.now c.add_synth.new.stage (g.P.Port.words c.args.port.now) (g.P.Port.words c.clear.new.port) c.in-Some-2.state
    (record { own = refl; plays = refl; content = λ us. refl; held = λ rate region is. is }) (subst (λ v. AreControlsOf (definition_of v) c.in_ok-controls.controls) c.deref.ensures c.in_ok-controls.ensures.each)
    c.in_default-refusal.ensures
    c.in_ok-state.field-0 c.in_ok-state.ensures.adds c.in-Some-2.is c.clear.ensures.words)
    c.requires.pictures)

pub returns-clause-len : goal.returns-clause-len
returns-clause-len g c =
    made_length c.in-Some.node.id c.args.asked.now.node (definition_of c.args.def.value) c.in_ok-controls.controls (λ s. held.Synth c.args.def c.in_ok-controls.controls s) c.args.stage.now c.add_synth.new.stage (g.P.Port.words c.args.port.now) (g.P.Port.words c.clear.new.port) c.in-Some-2.state
    (made_is c.in-Some.node.id c.args.asked.now.node (definition_of c.args.def.value) c.in_ok-controls.controls (λ s. held.Synth c.args.def c.in_ok-controls.controls s) c.args.stage.now c.add_synth.new.stage (g.P.Port.words c.args.port.now) (g.P.Port.words c.clear.new.port) c.in-Some-2.state
    (record { own = refl; plays = refl; content = λ us. refl; held = λ rate region is. is }) (subst (λ v. AreControlsOf (definition_of v) c.in_ok-controls.controls) c.deref.ensures c.in_ok-controls.ensures.each)
    c.in_default-refusal.ensures
    c.in_ok-state.field-0 c.in_ok-state.ensures.adds c.in-Some-2.is c.clear.ensures.words)
    c.requires.pictures

pub returns-clause-others : goal.returns-clause-others
returns-clause-others g c =
    made_outside c.in-Some.node.id c.args.asked.now.node (definition_of c.args.def.value) c.in_ok-controls.controls (λ s. held.Synth c.args.def c.in_ok-controls.controls s) c.args.stage.now c.add_synth.new.stage (g.P.Port.words c.args.port.now) (g.P.Port.words c.clear.new.port) c.in-Some-2.state
    (made_is c.in-Some.node.id c.args.asked.now.node (definition_of c.args.def.value) c.in_ok-controls.controls (λ s. held.Synth c.args.def c.in_ok-controls.controls s) c.args.stage.now c.add_synth.new.stage (g.P.Port.words c.args.port.now) (g.P.Port.words c.clear.new.port) c.in-Some-2.state
    (record { own = refl; plays = refl; content = λ us. refl; held = λ rate region is. is }) (subst (λ v. AreControlsOf (definition_of v) c.in_ok-controls.controls) c.deref.ensures c.in_ok-controls.ensures.each)
    c.in_default-refusal.ensures
    c.in_ok-state.field-0 c.in_ok-state.ensures.adds c.in-Some-2.is c.clear.ensures.words)
    c.requires.pictures
