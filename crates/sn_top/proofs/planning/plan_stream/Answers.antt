use Rattle.std.proofs.Common.{inr, refl, map}
use Rattle.sn_osc.specs.Shape.{shape}
use Rattle.sn_render.specs.declared.outcome.Outcome.TheVariants.{Done, SoundFault}
use Rattle.sn_render.proofs.ArrivingLemmas.{frames_playable}
use Rattle.sn_render.proofs.OutcomeLemmas.{end_answer, end_taken, never_read, unplayed}
use Rattle.sn_top.proofs.PlanLemmas.{stream_writes, unplayed_plan}
use Rattle.sn_top.proofs.planning.plan_stream.Goals as goal

pub plan_packets-requires-clause-playable : goal.plan_packets-requires-clause-playable
plan_packets-requires-clause-playable g c = λ κs lives.
    let p = c.in-Ok.ensures.packets in
    frames_playable (map shape c.in-Ok.packets.items) p.bytes p.frames p.size

pub returns-clause-answer : goal.returns-clause-answer
returns-clause-answer g c = end_answer c.args.settings.now (g.S.Source.left c.args.source.now) (map shape c.in-Ok.packets.items) c.plan_packets.result c.in-Ok.ensures.packets c.plan_packets.ensures.end

pub returns-clause-done : goal.returns-clause-done
returns-clause-done g c = λ n same. record { packets = map shape c.in-Ok.packets.items; given = c.in-Ok.ensures.packets; reports = c.plan_packets.ensures.done n same }

pub returns-clause-taken : goal.returns-clause-taken
returns-clause-taken g c = end_taken c.args.settings.now (g.S.Source.left c.args.source.now) (g.S.Source.left c.read_packets.new.source) (map shape c.in-Ok.packets.items) c.plan_packets.result c.in-Ok.ensures.packets c.in-Ok.ensures.end c.plan_packets.ensures.end

pub returns-clause-read : goal.returns-clause-read
returns-clause-read g c = λ e. never_read c.args.settings.now (map shape c.in-Ok.packets.items) c.plan_packets.result _ c.plan_packets.ensures.end e

pub returns-clause-source_unfailed : goal.returns-clause-source_unfailed
returns-clause-source_unfailed g c = inr c.in-Ok.ensures.unfailed

pub returns-clause-written : goal.returns-clause-written
returns-clause-written g c =
    stream_writes c.args.settings.now (g.S.Source.left c.args.source.now) (g.O.Sink.taken c.args.out.now) (g.O.Sink.taken c.plan_packets.new.out) (map shape c.in-Ok.packets.items) c.plan_packets.result
    c.in-Ok.ensures.packets c.plan_packets.ensures.end c.plan_packets.ensures.written

pub returns-in-Err-clause-answer : goal.returns-in-Err-clause-answer
returns-in-Err-clause-answer g c = c.in-Err.ensures.answer c.args.settings.now

pub returns-in-Err-clause-done : goal.returns-in-Err-clause-done
returns-in-Err-clause-done g c = λ n e. unplayed c.in-Err.outcome (Done n) _ (λ x. x) c.in-Err.ensures.unplayed e

pub returns-in-Err-clause-out : goal.returns-in-Err-clause-out
returns-in-Err-clause-out g c = λ e. unplayed c.in-Err.outcome SoundFault _ (λ x. x) c.in-Err.ensures.unplayed e

pub returns-in-Err-clause-written : goal.returns-in-Err-clause-written
returns-in-Err-clause-written g c = unplayed_plan c.args.settings.now (g.S.Source.left c.args.source.now) c.in-Err.outcome (g.O.Sink.taken c.args.out.now) c.in-Err.ensures.unplayed

pub returns-in-Err-clause-source_unfailed : goal.returns-in-Err-clause-source_unfailed
returns-in-Err-clause-source_unfailed g c = c.in-Err.ensures.refused

pub returns-in-Err-clause-out_unfailed : goal.returns-in-Err-clause-out_unfailed
returns-in-Err-clause-out_unfailed g c = inr refl
