use Rattle.std.proofs.Common.{◌≡◌, ◌+◌, ◌*◌, ◌%◌, nat_abs, ◌∙◌, ap, subst, sym, rules}
use Rattle.std.specs.Prelude.{FitsSigned, slice_index}
use Rattle.std.specs.Int.{w32}
use Rattle.std.proofs.lemmas.Int.{to_z-of_z}
use borrow.Author.Gap.{read_sfits}
use Rattle.sn_mem.specs.Blocks.{sample_in}
use Rattle.sn_buscmd.proofs.BusLemmas.{value-read, allowed}
use Rattle.sn_buscmd.proofs.asking.value_of.Goals as goal

pub returns-clause-value : goal.returns-clause-value
returns-clause-value g c =
    let words = g.P.Port.words c.args.port.now in
    let bus = c.args.number.now.bus in
    let bus_fits : FitsSigned w32 bus = search rules in
    let place : c.value_place.result ≡ 8320 + 2 * nat_abs bus + 1 = c.value_place.ensures.place ∙ ap (λ b. 8320 + 2 * nat_abs b + 1) (to_z-of_z w32 bus bus_fits) in
    let fits : FitsSigned w32 c.sample_of.result = subst (FitsSigned w32) (sym c.sample_of.ensures) (read_sfits w32 (c.load.result % 4294967296)) in
    to_z-of_z w32 c.sample_of.result fits ∙ c.sample_of.ensures
    ∙ ap sample_in (c.load.ensures.word ∙ ap (slice_index words) place) ∙ value-read words bus (allowed bus c.requires.bus)
