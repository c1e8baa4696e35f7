use Rattle.std.proofs.Common.{◌≡◌, ◌∙◌, false, length, sym, subst, arith}
use Rattle.sn_mem.specs.declared.extents.Foot.{Foot}
use Rattle.sn_mem.specs.Words.{writes}
use Rattle.sn_machine.specs.States.{memory_in}
use Rattle.sn_round.specs.Jobs.{AreWithin}
use Rattle.sn_machine.proofs.Fitting.{memory_wide}
use Rattle.sn_round.proofs.Scripting.{sequential_first, is_script}
use Rattle.sn_table.proofs.seats.Shared.go.Goals as goal

pub go_as-requires-clause-may : goal.go_as-requires-clause-may
go_as-requires-clause-may g c κs within =
    let t = c.args.self.now in
    let main = c.args.main.now in
    let v = main.place.me.0 in
    let p = c.requires.plan in
    let jobs = c.args.plan.now in
    let f = g.W.Work.outcome c.args.work.now in
    let ws = memory_in v.main.phase in
    let wide = memory_wide v main.fits c.requires.idle in
    let words : t.words ≡ length ws = sym c.requires.main.1 ∙ sym wide in
    let n = c.requires.work.0 in
    let law = g.met.W.Work g.world.𝓛 g.world.𝓜 g.world.𝓡 ((λ s x. x), (λ x. x), (λ x. x), λ x. x) in
    record {
      idle = c.requires.idle;
      base = sequential_first f (length jobs) ws;
      armed = c.requires.armed;
      order = p.order;
      free = p.free;
      within = subst (λ k. AreWithin k jobs) words p.within;
      roomy = omega (arith, p.roomy, main.fits.counts, c.requires.main.2);
      is_script = is_script f jobs ws (λ j us l. law.as_long c.args.work.now j us (omega (arith, n, l)))
          (λ j x us l no. law.only_writes c.args.work.now j x us (omega (arith, n, l)) (subst (λ (k : Foot). writes k x ≡ false) (c.requires.work.1 j l) no));
    }
