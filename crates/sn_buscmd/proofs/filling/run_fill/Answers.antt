use Rattle.std.proofs.Common.{◌≡◌, Some, None, sym, ◌∙◌, ap, map}
use Rattle.sn_osc.specs.Shape.{argument_of}
use Rattle.sn_world.specs.World.{turn_of}
use Rattle.sn_world.specs.Rows.{triples, some_of, first_refusal}
use Rattle.sn_world.specs.Buses.{bus_fill}
use Rattle.sn_buscmd.specs.Setting.{fill_run, fill_refusal}
use Rattle.sn_buscmd.proofs.SettingLemmas.{refused, changed}
use Rattle.sn_buscmd.proofs.filling.run_fill.Goals as goal

pub returns-in-Some-first_refusal-clause-row : goal.returns-in-Some-first_refusal-clause-row
returns-in-Some-first_refusal-clause-row g c = λ from stage replies pictures.
    let read : Some c.deref.result.now ≡ some_of (triples bus_fill (map argument_of c.args.arguments.now)) = ap Some c.deref.ensures.value ∙ c.in-Some.ensures ∙ ap some_of c.in_ok-triples.ensures in
    refused fill_refusal fill_run _ c.deref.result.now (turn_of stage (g.P.Port.words c.args.port.now) replies) c.in-Some-first_refusal.reason read (sym c.first_refusal.ensures ∙ c.in-Some-first_refusal.is)

pub returns-clause-row : goal.returns-clause-row
returns-clause-row g c = λ from stage replies pictures.
    let read : Some c.deref-2.result.now ≡ some_of (triples bus_fill (map argument_of c.args.arguments.now)) = ap Some c.deref-2.ensures.value ∙ c.in-Some.ensures ∙ ap some_of c.in_ok-triples.ensures in
    let free : first_refusal fill_refusal c.deref-2.result.now ≡ None = ap (first_refusal fill_refusal) (c.deref-2.ensures.value ∙ sym c.deref.ensures.value) ∙ sym c.first_refusal.ensures ∙ c.in_default-first_refusal.is in
    changed fill_refusal fill_run _ c.deref-2.result.now stage (g.P.Port.words c.args.port.now) (g.P.Port.words c.fill_runs.new.port) replies read free pictures c.fill_runs.ensures.others c.in_ok-fill_runs.ensures.buses
