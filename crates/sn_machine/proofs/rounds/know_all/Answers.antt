use Rattle.std.proofs.Common.{rules, ◌≡◌, ⊎_elim, eqb, true, sym, subst, arith}
use Rattle.std.specs.Prelude.{Contains}
use Rattle.std.specs.List.{list_any}
use Rattle.std.proofs.lemmas.Bool.{cases_eq}
use Rattle.sn_machine.proofs.Covering.{any_named}
use Rattle.sn_machine.proofs.rounds.know_all.Goals as goal

pub loop-job-preserved : goal.loop-job-preserved
loop-job-preserved c = λ j l.
    let n = c.loop-job.job-counter in
    let any : list_any (λ x. eqb x n) c.args.ended.now ≡ true = search rules in
    ⊎_elim
    (λ (e : j ≡ n). subst (Contains c.args.ended.now) (sym e) (any_named c.args.ended.now n any))
    (λ (d : j ≡ n → ⊥). c.loop-job.invariant j (omega (arith, l, d)))
    (cases_eq j n)
