use Rattle.std.proofs.Common.{ℕ, arith}
use mathlib.Core.Option.{none}
use Rattle.atomic_table.specs.Table.{step, Me}
use Rattle.sn_machine.specs.declared.views.View.{View}
use Rattle.sn_table.specs.Tables.{wrote_memory}
use Rattle.sn_table.proofs.Steps.{keyed, memory_allows}
use Rattle.sn_table.proofs.seats.Shared.store.Goals as goal

pub store-requires : goal.store-requires
store-requires c =
    let t = c.args.self.now in
    let main = c.args.main.now in
    let slots = t.table.shared.table_id.slots in (
      c.requires.main.0,
      omega (arith, t.count, c.requires.at),
      keyed t.table.shared.key.words t.table.shared.key.jobs t.words t.jobs main.place.id slots main.place.me c.args.at (λ _. c.args.value) (λ (me : Me ℕ View). λ (x : ℕ). wrote_memory (step slots c.args.at c.args.value 0 none) me c.args.value) t.key_words t.key_jobs main.first main.bare
          (memory_allows t.words t.jobs slots main.place.me.0 c.args.at c.args.value c.requires.at c.requires.idle),
    )
