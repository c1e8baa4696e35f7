use Rattle.std.proofs.Common.{◌≡◌, ◌+◌, ◌-◌, subst, arith}
use Rattle.sn_machine.specs.Fits.{IsFree}
use Rattle.sn_table.proofs.Steps.{claim_allows_at}
use Rattle.sn_table.proofs.seats.Shared.take.Goals as goal

pub compare_exchange-requires : goal.compare_exchange-requires
compare_exchange-requires c =
    let t = c.args.self.now in
    let place = c.args.place.now in (
      c.requires.place.0,
      omega (arith, t.count, c.requires.few),
      claim_allows_at t.words t.jobs t.table.shared.key.words t.table.shared.key.jobs t.table.shared.table_id.slots place.id place.me c.args.job t.key_words t.key_jobs c.requires.place.3 c.requires.place.1 c.requires.may,
    )

pub returns-clause-sweep : goal.returns-clause-sweep
returns-clause-sweep c sw =
    let t = c.args.self.now in
    let place = c.args.place.now in
    let word : (t.words + c.args.job) - place.me.0.size ≡ c.args.job = omega (arith, c.requires.place.1) in
    subst (λ j. (IsFree place.me.0 j → c.compare_exchange.result ≡ 0) × (c.compare_exchange.result ≡ 0 → IsFree place.me.0 j)) word (c.compare_exchange.ensures.2.1 sw)
