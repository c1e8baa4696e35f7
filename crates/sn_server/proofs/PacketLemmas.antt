-- Packets that come to an engine over a connection.
use Rattle.std.proofs.Common.{◌≡◌, ℕ, ◌+◌, ◌≤◌, Result, Ok, Err, Some, List, [], ◌∷◌, ◌++◌, length, refl, sym, ap, ◌∙◌, arith}
use Rattle.std.specs.Int.{w32, to_be_bytes}
use Rattle.std.specs.Prelude.{IsTrue}
use Rattle.std.proofs.lemmas.List.{length-append}
use Rattle.sn_osc.specs.Bytes.{frame_bytes}
use Rattle.sn_osc.specs.Frames.{cut, first_frame, is_frame_size}
use Rattle.sn_osc.specs.Framing.{Framing}
use Rattle.sn_osc.specs.Framed.{fed_with, packet_of, Next}
use Rattle.sn_osc.specs.declared.frame.Frame.{Frame}
use Rattle.sn_osc.specs.Reading.{read}
use Rattle.sn_osc.specs.Shape.{Shape}
use Rattle.sn_osc.specs.Grammar.{Spells}
use Rattle.sn_osc.specs.Unpacking.{unpacked, one_more}
use Rattle.sn_osc.specs.declared.fault.PacketFault.{PacketFault}
use Rattle.sn_osc.proofs.Streams.{frame_first}
use Rattle.sn_osc.proofs.CutFrames.{front_is_short}
use Rattle.sn_osc.proofs.UnpackingLemmas.{unpack_frame}
use Rattle.sn_engine.specs.Arriving.{nothing_offered, next_boundary, with_offered}
use Rattle.sn_engine.specs.Entries.{entries_of}
use Rattle.sn_engine.specs.Running.{Running}
use Rattle.sn_engine.specs.declared.standing.Standing.TheVariants.{Settled}
use Rattle.sn_engine.proofs.PutLemmas.{entries_few}
use Rattle.sn_engine.specs.Refusing.{bad_packet}
use Rattle.sn_reply.proofs.FrameLaws.{as_many}
use Rattle.sn_render.proofs.ArrivingLemmas.{StaysAt, one_stays, stay_both, offered_puts}
use Rattle.sn_server.specs.PlayEvents.{with_packet, with_packets}
use Rattle.sn_server.specs.Serving.{IsReady}

pub packet_puts : (x : Shape) (bytes : List ℕ) (old new : Running) → Spells x bytes → 4 ≤ length bytes → new ≡ with_offered 0 (entries_of x) old → new.waiting.puts ≤ old.waiting.puts + length bytes
packet_puts x bytes old new spelled some is =
    omega (arith, ap (λ r. r.waiting.puts) is, offered_puts (next_boundary old) (entries_of x) (nothing_offered old.waiting), entries_few x bytes spelled some)

-- ---- nothing but what waits and what is said changes

pub packet_stays : (x : Result Shape PacketFault) (r : Running) → StaysAt r (with_packet x r)
packet_stays (Ok x) r = one_stays x r
packet_stays (Err fault) r = record { settings = refl; standing = refl; block = refl; sound = refl; clients = as_many 0 (bad_packet 0 ∷ []) r.replies }

pub packets_stay : (packets : List (List ℕ)) (r : Running) → StaysAt r (with_packets packets r)
packets_stay [] r = record { settings = refl; standing = refl; block = refl; sound = refl; clients = refl }
packets_stay (p ∷ ps) r =
    let next = with_packet (read p) r in
    stay_both r next (with_packets ps next) (packet_stays (read p) r) (packets_stay ps next)

-- ---- frame after frame is taken

framed_len : (packet : List ℕ) → length (frame_bytes packet) ≡ 4 + length packet
framed_len packet = length-append (to_be_bytes w32 (length packet)) packet

-- The frames that are left give what all of them gave at first.
pub record IsTaking (e0 : Running) (f0 : Framing) (e : Running) (f : Framing) : Type 0 where
  pub engine : with_packets (unpacked f.kept).packets e ≡ with_packets (unpacked f0.kept).packets e0
  pub rest : (unpacked f.kept).rest ≡ (unpacked f0.kept).rest
  pub fed : f.fed ≡ f0.fed
  pub settled : e.standing ≡ Settled
  pub block : e.block ≡ e0.block
  pub puts : e.waiting.puts + length f.kept ≤ e0.waiting.puts + length f0.kept

takes_one : (e0 e1 e2 : Running) (f0 f1 f2 : Framing) (packet : List ℕ) → IsTaking e0 f0 e1 f1 → IsTrue (is_frame_size (length packet)) → f1.kept ≡ frame_bytes packet ++ f2.kept → f2.fed ≡ f1.fed
    → e2 ≡ with_packet (read packet) e1 → e2.waiting.puts ≤ e1.waiting.puts + length packet → IsTaking e0 f0 e2 f2
takes_one e0 e1 e2 f0 f1 f2 packet i size parts fed is puts =
    let all : unpacked f1.kept ≡ one_more packet (unpacked f2.kept) = unpack_frame f1.kept packet f2.kept (frame_first packet f2.kept f1.kept size parts) in
    let stays = packet_stays (read packet) e1 in
    let sizes : length f1.kept ≡ length (frame_bytes packet) + length f2.kept = ap length parts ∙ length-append (frame_bytes packet) f2.kept in
    record {
      engine = ap (with_packets (unpacked f2.kept).packets) is ∙ sym (ap (λ u. with_packets u.packets e1) all) ∙ i.engine;
      rest = sym (ap (λ u. u.rest) all) ∙ i.rest;
      fed = fed ∙ i.fed;
      settled = ap (λ r. r.standing) is ∙ stays.standing ∙ i.settled;
      block = ap (λ r. r.block) is ∙ stays.block ∙ i.block;
      puts = omega (arith, i.puts, puts, sizes, framed_len packet);
    }

pub took_one : (e0 e1 e2 : Running) (f0 f1 f2 : Framing) (x : Frame) → IsTaking e0 f0 e1 f1 → Next f1 f2 (Ok (Some x)) → e2 ≡ with_packet (read (packet_of x)) e1
    → e2.waiting.puts ≤ e1.waiting.puts + length (packet_of x) → IsTaking e0 f0 e2 f2
took_one e0 e1 e2 f0 f1 f2 x i next is puts = takes_one e0 e1 e2 f0 f1 f2 (packet_of x) i next.0 next.1 next.2 is puts

-- what is left once all frames were taken
pub received_ready : (e0 e1 e2 : Running) (f0 f1 f2 : Framing) (piece : List ℕ) → IsReady e0 f0 → f1 ≡ fed_with piece f0 → e1 ≡ with_packets (unpacked f1.kept).packets e0
    → f2 ≡ record f1 { kept = (unpacked f1.kept).rest } → e2 ≡ record e1 { replies = [] ∷ [] } → e1.waiting.puts + length f2.kept ≤ e0.waiting.puts + length f1.kept
    → f0.fed + length piece ≤ 4611686018427387904 → first_frame f2.kept ≡ cut → IsReady e2 f2
received_ready e0 e1 e2 f0 f1 f2 piece ready fed offered kept sent puts few stops =
    let stays = packets_stay (unpacked f1.kept).packets e0 in
    let more : f2.fed ≡ f0.fed + length piece = ap (λ f. f.fed) kept ∙ ap (λ f. f.fed) fed in
    let size : length f1.kept ≡ length f0.kept + length piece = ap (λ f. length f.kept) fed ∙ length-append f0.kept piece in
    let same : e2.waiting.puts ≡ e1.waiting.puts = ap (λ r. r.waiting.puts) sent in
    record {
      standing = ap (λ r. r.standing) sent ∙ ap (λ r. r.standing) offered ∙ stays.standing ∙ ready.standing;
      silent = ap (λ r. r.sound) sent ∙ ap (λ r. r.sound) offered ∙ stays.sound ∙ ready.silent;
      said = ap (λ r. r.replies) sent;
      puts = omega (arith, puts, same, size, more, ready.puts);
      fed = omega (arith, more, few);
      kept = front_is_short f2.kept stops;
    }

pub received_block : (e0 e1 e2 : Running) (packets : List (List ℕ)) → e1 ≡ with_packets packets e0 → e2 ≡ record e1 { replies = [] ∷ [] } → e2.block ≡ e0.block
received_block e0 e1 e2 packets offered sent = ap (λ r. r.block) sent ∙ ap (λ r. r.block) offered ∙ (packets_stay packets e0).block

pub received_alone : (e0 e1 : Running) (packets : List (List ℕ)) → e1 ≡ with_packets packets e0 → e0.replies ≡ [] ∷ [] → length e1.replies ≡ 1
received_alone e0 e1 packets offered said = ap (λ r. length r.replies) offered ∙ (packets_stay packets e0).clients ∙ ap length said
