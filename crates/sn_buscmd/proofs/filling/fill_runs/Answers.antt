use Rattle.std.proofs.Common.{◌≡◌, ◌≤◌, ◌<◌, ◌+◌, List, map, All, sym, ap, ◌∙◌, subst, arith}
use Rattle.sn_fills.specs.declared.fill.Fill.{Fill}
use Rattle.sn_mem.specs.Buses.{ControlBus, control_buses}
use Rattle.sn_buscmd.specs.Fills.{bus_places, fill_buses}
use Rattle.sn_buscmd.specs.Setting.{change_all}
use Rattle.sn_buscmd.proofs.FillsLemmas.{buses-alike, buses-filled, buses-within, ends-short}
use Rattle.sn_buscmd.proofs.filling.fill_runs.Goals as goal

pub once_each-requires : goal.once_each-requires
once_each-requires g c =
    let are : c.deref.result.now ≡ map bus_places c.args.runs.now = c.deref.ensures.value ∙ c.in_ok-fills.ensures in
    subst (λ (fs : List Fill). All (λ (f : Fill). f.first + f.count < 4294967296) fs) (sym are)
    (ends-short 1024 (map bus_places c.args.runs.now) (omega arith) (buses-within c.args.runs.now c.requires.all))

pub fill_each-requires-clause-within : goal.fill_each-requires-clause-within
fill_each-requires-clause-within g c =
    let are : c.deref.result.now ≡ map bus_places c.args.runs.now = c.deref.ensures.value ∙ c.in_ok-fills.ensures in
    let within : All (λ (f : Fill). f.first + f.count ≤ 1024) c.deref.result.now =
    subst (λ (fs : List Fill). All (λ (f : Fill). f.first + f.count ≤ 1024) fs) (sym are) (buses-within c.args.runs.now c.requires.all) in
    subst (λ (fs : List Fill). All (λ (f : Fill). f.first + f.count ≤ 1024) fs) (sym c.deref-2.ensures.value) (c.in_ok-once.ensures.within 1024 within)

pub returns-clause-buses : goal.returns-clause-buses
returns-clause-buses g c =
    let before : List ControlBus = control_buses (g.P.Port.words c.args.port.now) in
    let are : c.deref.result.now ≡ map bus_places c.args.runs.now = c.deref.ensures.value ∙ c.in_ok-fills.ensures in
    c.fill_each.ensures.buses
    ∙ ap (λ (fs : List Fill). change_all fill_buses fs before) c.deref-2.ensures.value
    ∙ buses-alike c.in_ok-once.once.items c.deref.result.now before c.in_ok-once.ensures.same
    ∙ ap (λ (fs : List Fill). change_all fill_buses fs before) are
    ∙ buses-filled c.args.runs.now before c.requires.all
