use Rattle.std.proofs.Common.{◌≡◌, ◌+◌, ◌-◌, ◌<◌, length, sym, subst, arith}
use Rattle.std.specs.Prelude.{Contains}
use Rattle.sn_table.proofs.Steps.{look_allows_at}
use Rattle.sn_table.proofs.seats.Shared.glance.Goals as goal

pub load-requires : goal.load-requires
load-requires c =
    let t = c.args.self.now in
    let place = c.args.place.now in (
      c.requires.place.0,
      omega (arith, t.count, c.requires.few),
      look_allows_at t.words t.jobs t.table.shared.key.words t.table.shared.key.jobs t.table.shared.table_id.slots place.id place.me c.args.job t.key_words t.key_jobs c.requires.place.3 c.requires.place.1 c.requires.live,
    )

pub returns-clause-sweep : goal.returns-clause-sweep
returns-clause-sweep c sw l e =
    let t = c.args.self.now in
    let place = c.args.place.now in
    let word : (t.words + c.args.job) - place.me.0.size ≡ c.args.job = omega (arith, c.requires.place.1) in
    subst (Contains place.me.0.worker.ended) word (c.load.ensures.2.1 sw (subst (λ j. j < length place.me.0.worker.jobs) (sym word) l) e)
