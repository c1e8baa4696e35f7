use Rattle.std.proofs.Common.{sym, ap, ◌∙◌}
use Rattle.std.proofs.lemmas.Bool.{not-false}
use Rattle.sn_engine.proofs.ActingLemmas.{cleared-left, cleared-answerable, cleared_kept}
use Rattle.sn_engine.proofs.acting.act_due.Goals as goal

pub returns-clause-left : goal.returns-clause-left
returns-clause-left g c =
    cleared-left c.args.now c.args.queue.now c.act_taken.new.queue c.clear_after.new.self _ c.in_ok-asked.ensures.left c.clear_after.ensures.left (ap (λ a. a.clear) (sym c.in_ok-asked.ensures.asked) ∙ not-false _ c.if-not-asked.false)

pub returns-clause-kept : goal.returns-clause-kept
returns-clause-kept g c = cleared_kept c.args.now c.args.queue.now c.act_taken.new.queue c.clear_after.new.self c.act_taken.ensures.kept c.clear_after.ensures.left

pub returns-clause-waiting : goal.returns-clause-waiting
returns-clause-waiting g c = cleared-answerable c.args.now c.act_taken.new.queue c.clear_after.new.self c.clear_after.ensures.left c.act_taken.ensures.waiting
