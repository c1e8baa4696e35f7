use Rattle.std.proofs.Common.{ℕ, arith, ap, sym, subst, ◌∙◌}
use mathlib.Core.Option.{none}
use Rattle.atomic_table.specs.Table.{step, Me}
use Rattle.sn_machine.specs.declared.views.View.{View}
use Rattle.sn_machine.specs.Fits.{MainFits}
use Rattle.sn_machine.proofs.Fitting.{fits_rested}
use Rattle.sn_table.specs.Tables.{came_to_rest}
use Rattle.sn_table.proofs.Steps.{keyed, rest_allows}
use Rattle.sn_table.proofs.seats.Shared.rest.Goals as goal

pub load-requires : goal.load-requires
load-requires c =
    let t = c.args.self.now in
    let main = c.args.main.now in
    let slots = t.table.shared.table_id.slots in (
      c.requires.main.0,
      omega (arith, t.count, t.some),
      keyed t.table.shared.key.words t.table.shared.key.jobs t.words t.jobs main.place.id slots main.place.me 0 (λ y. y) (λ (me : Me ℕ View). came_to_rest (step slots 0 0 0 none) me) t.key_words t.key_jobs main.first main.bare
          (rest_allows t.words t.jobs slots main.place.me.0 c.requires.may),
    )

pub invariant_of-main : goal.invariant_of-main
invariant_of-main c =
    let main = c.args.main.now in
    let e = c.load.ensures.2 in
    record { first = c.load.ensures.1 ∙ main.first; bare = ap (λ (m : Me ℕ View). m.1) e ∙ main.bare; fits = subst MainFits (sym (ap (λ (m : Me ℕ View). m.0) e)) (fits_rested main.place.me.0 main.fits) }
