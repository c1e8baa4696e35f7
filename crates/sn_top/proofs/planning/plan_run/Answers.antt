use Rattle.std.proofs.Common.{inr, refl, subst}
use Rattle.sn_render.proofs.OutcomeLemmas.{complete}
use Rattle.sn_top.specs.Planning.{WritesPlan}
use Rattle.sn_top.proofs.PlanLemmas.{by_plan, no_reply}
use Rattle.sn_top.proofs.planning.plan_run.Goals as goal

pub returns-in-Ok-clause-done : goal.returns-in-Ok-clause-done
returns-in-Ok-clause-done g c = by_plan c.args.words.now c.in-Ok.settings _ c.in-Ok.ensures.ok c.plan_stream.ensures.done

pub returns-in-Ok-clause-answer : goal.returns-in-Ok-clause-answer
returns-in-Ok-clause-answer g c = by_plan c.args.words.now c.in-Ok.settings _ c.in-Ok.ensures.ok c.plan_stream.ensures.answer

pub returns-in-Ok-clause-complete : goal.returns-in-Ok-clause-complete
returns-in-Ok-clause-complete g c =
    by_plan c.args.words.now c.in-Ok.settings _ c.in-Ok.ensures.ok
    (λ bytes answer told has source out. complete c.in-Ok.settings (g.S.Source.left c.args.source.now) c.plan_stream.result answer bytes c.plan_stream.ensures.answer told has
    (λ e. source (c.plan_stream.ensures.read e)) (λ e. out (c.plan_stream.ensures.out e))
    (no_reply c.in-Ok.settings (g.S.Source.left c.args.source.now) (g.O.Sink.taken c.args.out.now) (g.O.Sink.taken c.plan_stream.new.out) c.plan_stream.result c.plan_stream.ensures.written))

pub returns-in-Ok-clause-written : goal.returns-in-Ok-clause-written
returns-in-Ok-clause-written g c = by_plan c.args.words.now c.in-Ok.settings _ c.in-Ok.ensures.ok c.plan_stream.ensures.written

pub returns-in-Ok-clause-untouched : goal.returns-in-Ok-clause-untouched
returns-in-Ok-clause-untouched g c = λ i bad. subst (λ o. WritesPlan c.in-Ok.settings (g.S.Source.left c.args.source.now) o (g.O.Sink.taken c.args.out.now) (g.O.Sink.taken c.plan_stream.new.out)) bad c.plan_stream.ensures.written

pub returns-in-Ok-clause-source_unfailed : goal.returns-in-Ok-clause-source_unfailed
returns-in-Ok-clause-source_unfailed g c = c.plan_stream.ensures.source_unfailed

pub returns-in-Ok-clause-out_unfailed : goal.returns-in-Ok-clause-out_unfailed
returns-in-Ok-clause-out_unfailed g c = c.plan_stream.ensures.out_unfailed

pub returns-in-Err-clause-source_unfailed : goal.returns-in-Err-clause-source_unfailed
returns-in-Err-clause-source_unfailed g c = inr refl

pub returns-in-Err-clause-out_unfailed : goal.returns-in-Err-clause-out_unfailed
returns-in-Err-clause-out_unfailed g c = inr refl
