use Rattle.std.proofs.Common.{rules, ◌≡◌, ◌∙◌, ℕ, List, length, ap, sym, subst, arith}
use Rattle.std.specs.Prelude.{Contains}
use Rattle.sn_machine.specs.declared.views.Phase.{Phase}
use Rattle.sn_machine.specs.declared.views.Phase.TheVariants.{Round}
use Rattle.sn_machine.specs.States.{jobs_in}
use Rattle.sn_machine.proofs.Seated.{in_round}
use Rattle.sn_machine.proofs.views.View.may_rest.Goals as goal

pub returns-then-self-eq0 : goal.returns-then-self-eq0
returns-then-self-eq0 c all =
    let v = c.args.self.now in
    let is : v.main.phase ≡ Round c.in-Round.plan c.in-Round.field-1 c.in-Round.field-2 c.in-Round.field-3 = search rules in
    let same : length (jobs_in v.main.phase) ≡ c.jobs.result = ap (λ (p : Phase). length (jobs_in p)) is ∙ sym c.jobs.ensures in
    record {
      running = in_round v c.in-Round.plan c.in-Round.field-1 c.in-Round.field-2 c.in-Round.field-3 is;
      none_live = search rules;
      all_ended = λ j l. subst (λ (es : List ℕ). Contains es j) c.as_slice.ensures (c.know_all.ensures all j (omega (arith, l, same)));
    }
