use Rattle.std.proofs.Common.{◌≡◌, ◌∙◌, inr, refl, map, ap, subst, sym}
use Rattle.std.proofs.KnownBytes.{Keeps-refl}
use Rattle.std.specs.Io.KnownBytes.{Appends}
use Rattle.sn_osc.specs.Shape.{shape}
use Rattle.sn_report.specs.Lines.{HasLongest}
use Rattle.sn_report.specs.Reports.{report_of}
use Rattle.sn_render.specs.Fronts.{TakesFront}
use Rattle.sn_render.specs.Outcomes.{IsTooLong}
use Rattle.sn_render.specs.declared.outcome.Outcome.TheVariants.{Done, SoundFault}
use Rattle.sn_top.specs.Planning.{report_at_end}
use Rattle.sn_top.proofs.PlanLemmas.{done_is, not_reached, unreached_end, unreached_writes}
use Rattle.sn_top.proofs.planning.plan_packets.Goals as goal

pub returns-in-Err-clause-end : goal.returns-in-Err-clause-end
returns-in-Err-clause-end g c = unreached_end c.args.settings.now (map shape c.args.packets.items) c.in-Err.outcome c.in-Err.ensures.refused

pub returns-in-Err-clause-done : goal.returns-in-Err-clause-done
returns-in-Err-clause-done g c = λ n e. not_reached c.args.settings.now (map shape c.args.packets.items) c.in-Err.outcome (Done n) _ (λ x. x) c.in-Err.ensures.refused e

pub returns-in-Err-clause-written : goal.returns-in-Err-clause-written
returns-in-Err-clause-written g c = unreached_writes c.args.settings.now (map shape c.args.packets.items) c.in-Err.outcome (g.O.Sink.taken c.args.out.now) c.in-Err.ensures.refused

pub returns-in-Err-clause-out : goal.returns-in-Err-clause-out
returns-in-Err-clause-out g c = λ e. not_reached c.args.settings.now (map shape c.args.packets.items) c.in-Err.outcome SoundFault _ (λ x. x) c.in-Err.ensures.refused e

pub returns-in-Err-clause-out_unfailed : goal.returns-in-Err-clause-out_unfailed
returns-in-Err-clause-out_unfailed g c = inr refl

pub returns-in_default-clause-written : goal.returns-in_default-clause-written
returns-in_default-clause-written g c = Keeps-refl (g.O.Sink.taken c.args.out.now)

pub returns-in-Ok-write_all-clause-done : goal.returns-in-Ok-write_all-clause-done
returns-in-Ok-write_all-clause-done g c = λ n e.
    let s = c.args.settings.now in
    let packets = map shape c.args.packets.items in
    let line : c.as_slice.result.now ≡ report_at_end s packets = c.as_slice.ensures ∙ (c.in-Ok-engine_report.ensures.text ∙ ap report_of c.in-Ok.ensures.world) in
    record {
      blocks_are = sym (done_is c.in-Ok.reached.blocks n e) ∙ c.in-Ok.ensures.end.0;
      written = subst (Appends (g.O.Sink.taken c.args.out.now) (g.O.Sink.taken c.write_all.new.sink)) line c.in-Ok-write_all.ensures.bytes;
      longest = subst HasLongest c.in-Ok.ensures.world c.in-Ok-engine_report.ensures.longest;
    }

pub returns-clause-end : goal.returns-clause-end
returns-clause-end g c = λ long. c.in-Ok.ensures.end.1 (subst (IsTooLong c.args.settings.now) (sym c.in-Ok.ensures.end.0) long)

pub returns-clause-written : goal.returns-clause-written
returns-clause-written g c =
    let s = c.args.settings.now in
    let packets = map shape c.args.packets.items in
    let line : c.as_slice.result.now ≡ report_at_end s packets = c.as_slice.ensures ∙ (c.in-Ok-engine_report.ensures.text ∙ ap report_of c.in-Ok.ensures.world) in
    subst (TakesFront (g.O.Sink.taken c.args.out.now) (g.O.Sink.taken c.write_all.new.sink)) line c.in-Err-write_all.ensures.bytes
