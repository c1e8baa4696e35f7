-- A connection only adds to its sound and its replies.
use Rattle.std.proofs.Common.{◌≡◌, ◌+◌, ℕ, zero, suc, Bool, true, false, Result, Ok, Err, List, [], ◌∷◌, ◌++◌, length, refl, sym, ap, subst, ◌∙◌}
use Rattle.std.specs.Prelude.{if◌then◌else◌}
use Rattle.sn_osc.specs.Frames.{FirstFrame, cut, bad_size, frame, first_frame}
use Rattle.sn_osc.specs.Reading.{read}
use Rattle.sn_osc.specs.Shape.{Shape}
use Rattle.sn_osc.specs.Unpacking.{unpacked}
use Rattle.sn_osc.specs.declared.fault.PacketFault.{PacketFault}
use Rattle.sn_reply.proofs.FrameLaws.{as_many}
use Rattle.sn_engine.specs.Arriving.{offered, with_offered}
use Rattle.sn_engine.specs.Entries.{entries_of}
use Rattle.sn_engine.specs.Refusing.{bad_packet, with_bad_packet}
use Rattle.sn_engine.specs.Running.{Running, at_boundary, flow_at}
use Rattle.sn_engine.specs.declared.standing.Flow.{Flow}
use Rattle.sn_engine.specs.declared.standing.Flow.TheVariants as flows
use Rattle.sn_render.specs.Play.{after_block}
use Rattle.sn_render.proofs.StepLemmas.{IsStep, both_steps, holding, tells, boundary_step, after_block_step, Grows, grows_not, grows_both, grows}
use Rattle.sn_server.specs.PlayEvents.{Live, Over, Course, going, ended, with_packet, with_packets, keep, receive, is_worn, worn, unless_quit, after_tick, tick, at_end, closed}

-- ---- packets

packet_step : (x : Result Shape PacketFault) → IsStep (with_packet x)
packet_step (Ok x) = record {
  adds = λ sound said r. ap (λ out. holding (sound ++ r.sound) out (with_offered 0 (entries_of x) r)) (tells (offered 0 (entries_of x) r).replies said r.replies);
  clients = λ r. as_many 0 (offered 0 (entries_of x) r).replies r.replies;
}
packet_step (Err fault) = record {
  adds = λ sound said r. ap (λ out. holding (sound ++ r.sound) out (with_bad_packet 0 r)) (tells (bad_packet 0 ∷ []) said r.replies);
  clients = λ r. as_many 0 (bad_packet 0 ∷ []) r.replies;
}

pub packets_step : (packets : List (List ℕ)) → IsStep (with_packets packets)
packets_step [] = record { adds = λ sound said r. refl; clients = λ r. refl }
packets_step (packet ∷ packets) = both_steps (with_packet (read packet)) (with_packets packets) (packet_step (read packet)) (packets_step packets)

-- ---- what is played up to the end

end_is : (b : Bool) (v : Live) → (if b then worn v else closed v).play ≡ v.play
end_is true v = refl
end_is false v = refl

pub live_end : (v : Live) → (at_end (going v)).play ≡ v.play
live_end v = end_is (is_worn v) v

pub grows_end : (p : Running) (v : Live) → Grows p v.play → Grows p (at_end (going v)).play
grows_end p v g = subst (Grows p) (sym (live_end v)) g

grows_or : (b : Bool) (p : Running) (o : Over) (c : Course) → Grows p o.play → Grows p (at_end c).play → Grows p (at_end (if b then ended o else c)).play
grows_or true p o c g h = g
grows_or false p o c g h = h

grows_by : (x : Flow) (p r : Running) (c : Course) → Grows p r → Grows p (at_end c).play → Grows p (at_end (unless_quit x r c)).play
grows_by flows.On p r c g h = h
grows_by flows.Quit p r c g h = g

pub tick_grows : (n : ℕ) (v : Live) → length v.play.replies ≡ 1 → Grows v.play (at_end (tick n v)).play
tick_grows zero v alone = grows_end v.play v (grows_not v.play)
tick_grows (suc n) v alone =
    let p = v.play in
    let w = after_tick v in
    let more = tick n w in
    grows_or (is_worn v) p (worn v) (unless_quit (flow_at p) (at_boundary p) more) (grows_not p)
    (grows_by (flow_at p) p (at_boundary p) more (grows at_boundary boundary_step p alone)
    (grows_both p w.play (at_end more).play (grows after_block after_block_step p alone) (tick_grows n w (after_block_step.clients p ∙ alone))))

-- ---- bytes

keep_end : (x : FirstFrame) (v : Live) → (at_end (keep x v)).play ≡ v.play
keep_end cut v = live_end v
keep_end (frame packet rest) v = live_end v
keep_end (bad_size size) v = refl

pub receive_end : (piece : List ℕ) (v : Live) → (at_end (receive piece v)).play ≡ with_packets (unpacked (v.framing.kept ++ piece)).packets v.play
receive_end piece v =
    let u = unpacked (v.framing.kept ++ piece) in
    keep_end (first_frame u.rest) (record { play = with_packets u.packets v.play; framing = record { kept = u.rest; fed = v.framing.fed + length piece } })

pub receive_grows : (piece : List ℕ) (v : Live) → length v.play.replies ≡ 1 → Grows v.play (at_end (receive piece v)).play
receive_grows piece v alone =
    let packets = (unpacked (v.framing.kept ++ piece)).packets in
    subst (Grows v.play) (sym (receive_end piece v)) (grows (with_packets packets) (packets_step packets) v.play alone)
