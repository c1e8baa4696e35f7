use Rattle.std.proofs.Common.{nat_abs, to_z, of_z, ◌∙◌, ap, sym, rules}
use Rattle.std.specs.Prelude.{FitsSigned}
use Rattle.std.specs.Int.{w32}
use Rattle.std.proofs.lemmas.Int.{to_z-of_z}
use Rattle.sn_mem.specs.Buses.{control_buses}
use Rattle.sn_world.specs.Buses.{with_value}
use Rattle.sn_buscmd.proofs.BusLemmas.{pair-set, allowed}
use Rattle.sn_buscmd.proofs.setting.set_bus.Goals as goal

pub returns-clause-buses : goal.returns-clause-buses
returns-clause-buses g c =
    let buses = control_buses (g.P.Port.words c.args.port.now) in
    let bus = c.args.pair.now.bus in
    let value = c.args.pair.now.value in
    let bus_fits : FitsSigned w32 bus = search rules in
    let value_fits : FitsSigned w32 value = search rules in
    c.set_value.ensures.buses
    ∙ ap (λ b. with_value buses (nat_abs b) (to_z w32 (of_z w32 value))) (to_z-of_z w32 bus bus_fits)
    ∙ ap (λ v. with_value buses (nat_abs bus) v) (to_z-of_z w32 value value_fits)
    ∙ sym (pair-set bus value buses (allowed bus c.requires.bus))
