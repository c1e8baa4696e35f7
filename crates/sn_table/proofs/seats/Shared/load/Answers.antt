use Rattle.std.proofs.Common.{ℕ, arith}
use mathlib.Core.Option.{none}
use Rattle.atomic_table.specs.Table.{step, Me}
use Rattle.sn_machine.specs.declared.views.View.{View}
use Rattle.sn_table.specs.Tables.{looked_idle}
use Rattle.sn_table.proofs.Steps.{keyed, idle_allows}
use Rattle.sn_table.proofs.seats.Shared.load.Goals as goal

pub load-requires : goal.load-requires
load-requires c =
    let t = c.args.self.now in
    let main = c.args.main.now in
    let slots = t.table.shared.table_id.slots in (
      c.requires.main.0,
      omega (arith, t.count, c.requires.at),
      keyed t.table.shared.key.words t.table.shared.key.jobs t.words t.jobs main.place.id slots main.place.me c.args.at (λ y. y) (λ (me : Me ℕ View). looked_idle (step slots c.args.at 0 0 none) me) t.key_words t.key_jobs main.first main.bare
          (idle_allows t.words t.jobs slots main.place.me.0 c.args.at c.requires.main.1 c.requires.idle),
    )
