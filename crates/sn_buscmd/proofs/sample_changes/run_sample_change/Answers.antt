use Rattle.std.proofs.Common.{◌≡◌, ℤ, Some, None, map, sym, ap, ◌∙◌, rules}
use Rattle.std.specs.Prelude.{FitsSigned}
use Rattle.std.specs.Int.{w32}
use Rattle.std.specs.Option.{option_map}
use Rattle.std.proofs.lemmas.Int.{to_z-of_z}
use Rattle.sn_osc.specs.Shape.{argument_of}
use Rattle.sn_mem.specs.declared.buffers.BufferPlace.{BufferPlace}
use Rattle.sn_mem.specs.Buffers.{samples_of}
use Rattle.sn_world.specs.BufferNumbers.{at_number}
use Rattle.sn_world.specs.BufferSamples.{change_all, changing}
use Rattle.sn_world.specs.Rows.{first_refusal}
use Rattle.sn_world.specs.World.{turn_of}
use Rattle.sn_buscmd.specs.SampleCommands.{numbered}
use Rattle.sn_buscmd.proofs.SampleRowLemmas.{asked_of, missing, refused, changed}
use Rattle.sn_buscmd.proofs.ResamplingLemmas.{may_write, resampled_pictures, kept_outside}
use Rattle.sn_buscmd.proofs.sample_changes.run_sample_change.Goals as goal

pub returns-in_default-find-clause-row : goal.returns-in_default-find-clause-row
returns-in_default-find-clause-row g c = λ replies.
    let stage = c.args.stage.now in
    let words = g.P.Port.words c.args.port.now in
    let n : ℤ = c.in-Some.number in
    let fits : FitsSigned w32 n = search rules in
    let same = to_z-of_z w32 n fits in
    let all = c.in-Some.all.items in
    let read : Some (n, all) ≡ numbered g.R.Repeated.read (map argument_of c.args.arguments.now) = ap (option_map (λ p. (p.0, p.1.items))) (sym c.in-Some.is) ∙ c.in_ok-number.ensures in
    asked_of g.R.Repeated.read (changing g.R.Judged.judge g.R.SampleChange.change) (map argument_of c.args.arguments.now) n all (turn_of stage words replies) read
    ∙ missing g.R.Judged.judge n all stage words replies _ (c.in_default-find.ensures ∙ ap (at_number stage.buffers) same)

pub returns-in-Some-first_refusal-clause-row : goal.returns-in-Some-first_refusal-clause-row
returns-in-Some-first_refusal-clause-row g c = λ replies.
    let stage = c.args.stage.now in
    let words = g.P.Port.words c.args.port.now in
    let n : ℤ = c.in-Some.number in
    let fits : FitsSigned w32 n = search rules in
    let same = to_z-of_z w32 n fits in
    let all = c.in-Some.all.items in
    let read : Some (n, all) ≡ numbered g.R.Repeated.read (map argument_of c.args.arguments.now) = ap (option_map (λ p. (p.0, p.1.items))) (sym c.in-Some.is) ∙ c.in_ok-number.ensures in
    let p : BufferPlace = c.in-Some-find.place in
    let found : Some p ≡ at_number stage.buffers n = c.in-Some-find.ensures ∙ ap (at_number stage.buffers) same in
    let why : first_refusal (g.R.Judged.judge p.extent.len) all ≡ Some c.in-Some-first_refusal.reason = ap (first_refusal (g.R.Judged.judge p.extent.len)) (sym c.deref.ensures.value) ∙ sym c.first_refusal.ensures ∙ c.in-Some-first_refusal.is in
    asked_of g.R.Repeated.read (changing g.R.Judged.judge g.R.SampleChange.change) (map argument_of c.args.arguments.now) n all (turn_of stage words replies) read
    ∙ refused g.R.Judged.judge n all stage words replies p found c.requires.pictures _ c.in-Some-first_refusal.reason why

pub change_all-requires-clause-foot : goal.change_all-requires-clause-foot
change_all-requires-clause-foot g c =
    let stage = c.args.stage.now in
    let words = g.P.Port.words c.args.port.now in
    let n : ℤ = c.in-Some.number in
    let fits : FitsSigned w32 n = search rules in
    let same = to_z-of_z w32 n fits in
    let p : BufferPlace = c.in-Some-find.place in
    let found : Some p ≡ at_number stage.buffers n = c.in-Some-find.ensures ∙ ap (at_number stage.buffers) same in
    may_write stage words n p found c.requires.pictures (g.P.Port.foot c.args.port.now) c.requires.foot

pub returns-clause-row : goal.returns-clause-row
returns-clause-row g c = λ replies.
    let stage = c.args.stage.now in
    let words = g.P.Port.words c.args.port.now in
    let n : ℤ = c.in-Some.number in
    let fits : FitsSigned w32 n = search rules in
    let same = to_z-of_z w32 n fits in
    let all = c.in-Some.all.items in
    let read : Some (n, all) ≡ numbered g.R.Repeated.read (map argument_of c.args.arguments.now) = ap (option_map (λ p. (p.0, p.1.items))) (sym c.in-Some.is) ∙ c.in_ok-number.ensures in
    let p : BufferPlace = c.in-Some-find.place in
    let found : Some p ≡ at_number stage.buffers n = c.in-Some-find.ensures ∙ ap (at_number stage.buffers) same in
    let free : first_refusal (g.R.Judged.judge p.extent.len) all ≡ None = ap (first_refusal (g.R.Judged.judge p.extent.len)) (sym c.deref.ensures.value) ∙ sym c.first_refusal.ensures ∙ c.in_default-first_refusal.is in
    let us = g.P.Port.words c.change_all.new.port in
    let samples : samples_of us p.extent ≡ change_all g.R.SampleChange.change all (samples_of words p.extent) = c.in_ok-change_all.ensures.samples ∙ ap (λ rs. change_all g.R.SampleChange.change rs (samples_of words p.extent)) c.deref-2.ensures.value in
    asked_of g.R.Repeated.read (changing g.R.Judged.judge g.R.SampleChange.change) (map argument_of c.args.arguments.now) n all (turn_of stage words replies) read
    ∙ changed g.R.Judged.judge n all stage words replies p found c.requires.pictures g.R.SampleChange.change us free c.change_all.ensures.others samples

pub returns-clause-pictures : goal.returns-clause-pictures
returns-clause-pictures g c =
    let stage = c.args.stage.now in
    let words = g.P.Port.words c.args.port.now in
    let n : ℤ = c.in-Some.number in
    let fits : FitsSigned w32 n = search rules in
    let same = to_z-of_z w32 n fits in
    let all = c.in-Some.all.items in
    let p : BufferPlace = c.in-Some-find.place in
    let found : Some p ≡ at_number stage.buffers n = c.in-Some-find.ensures ∙ ap (at_number stage.buffers) same in
    let us = g.P.Port.words c.change_all.new.port in
    let samples : samples_of us p.extent ≡ change_all g.R.SampleChange.change all (samples_of words p.extent) = c.in_ok-change_all.ensures.samples ∙ ap (λ rs. change_all g.R.SampleChange.change rs (samples_of words p.extent)) c.deref-2.ensures.value in
    resampled_pictures stage words n p found c.requires.pictures us (change_all g.R.SampleChange.change all) c.change_all.ensures.others samples

pub returns-clause-others : goal.returns-clause-others
returns-clause-others g c =
    let stage = c.args.stage.now in
    let words = g.P.Port.words c.args.port.now in
    let n : ℤ = c.in-Some.number in
    let fits : FitsSigned w32 n = search rules in
    let same = to_z-of_z w32 n fits in
    let all = c.in-Some.all.items in
    let p : BufferPlace = c.in-Some-find.place in
    let found : Some p ≡ at_number stage.buffers n = c.in-Some-find.ensures ∙ ap (at_number stage.buffers) same in
    let us = g.P.Port.words c.change_all.new.port in
    let samples : samples_of us p.extent ≡ change_all g.R.SampleChange.change all (samples_of words p.extent) = c.in_ok-change_all.ensures.samples ∙ ap (λ rs. change_all g.R.SampleChange.change rs (samples_of words p.extent)) c.deref-2.ensures.value in
    kept_outside stage words n p found c.requires.pictures us (change_all g.R.SampleChange.change all) c.change_all.ensures.others samples
