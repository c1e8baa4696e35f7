use Rattle.std.proofs.Common.{◌<◌, ◌∙◌, ℕ, length, ap, subst, sym}
use Rattle.sn_mem.specs.declared.extents.Foot.{Foot}
use Rattle.sn_mem.specs.Words.{writes}
use Rattle.sn_round.proofs.Scripting.{is_script}
use Rattle.sn_round.proofs.laws.sequential_is_a_script.Goals as goal

pub returns : goal.returns
returns g c = λ jobs base count feet.
    let laws = g.met.W.Work g.world.𝓛 g.world.𝓜 g.world.𝓡 ((λ s x. x), (λ x. x), (λ x. x), λ x. x) in
    let there : (j : ℕ) → j < length jobs → j < g.W.Work.jobs c.args.work.now = λ j l. subst (λ n. j < n) (sym count) l in
    is_script (g.W.Work.outcome c.args.work.now) jobs base
    (λ j us l. laws.as_long c.args.work.now j us (there j l))
    (λ j x us l no. laws.only_writes c.args.work.now j x us (there j l) (ap (λ (f : Foot). writes f x) (feet j l) ∙ no))
