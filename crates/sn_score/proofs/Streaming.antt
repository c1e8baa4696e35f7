-- Packets that fit, as a stream.
use Rattle.std.proofs.Common.{◌≡◌, ℕ, ◌%◌, ◌≤◌, ◌<◌, true, List, [], ◌∷◌, ◌++◌, length, flat_map, Result, Ok, Err, IfOk, refl, sym, ap, subst, ◌∙◌, arith}
use Rattle.std.specs.Prelude.{IsTrue}
use Rattle.std.specs.Int.{w32, to_be_bytes}
use Rattle.std.proofs.lemmas.Bool.{and_from, le-leb, eq-eqb}
use Rattle.std.proofs.lemmas.List.{length-append}
use Rattle.sn_osc.specs.Shape.{Shape, message, bundle}
use Rattle.sn_osc.specs.Bytes.{are_octets, packet_bytes, frame_bytes}
use Rattle.sn_osc.specs.Frames.{is_frame_size, Frames}
use Rattle.sn_osc.specs.Grammar.{Spells}
use Rattle.sn_osc.proofs.Encoded.{packet_is, packet_spelled}
use Rattle.sn_osc.proofs.PacketLaws.{packet_whole}
use Rattle.sn_osc.proofs.Streams.{no_more, frame_len}
use Rattle.sn_score.specs.Lines.{line, message_line, bundle_line, packet_text, elements_text}
use Rattle.sn_score.specs.Score.{Fits, AllFit, Score, score_text}
use Rattle.sn_score.proofs.Packets.{fits_tests, octets_apart}

-- ---- from packets to a stream

abbrev pub stream_bytes : List Shape → List ℕ
stream_bytes packets = flat_map (λ x. frame_bytes (packet_bytes x)) packets

frame_size : (n : ℕ) → 4 ≤ n → n ≤ 65536 → n % 4 ≡ 0 → is_frame_size n ≡ true
frame_size n least most whole = and_from _ _ (and_from _ _ (le-leb 4 n least) (le-leb n 65536 most)) (eq-eqb (n % 4) 0 whole)

pub framed : (packets : List Shape) → AllFit packets → Frames packets (stream_bytes packets)
framed [] fit = refl
framed (x ∷ xs) fit =
    let t = fits_tests x fit.0 in
    let spelled : Spells x (packet_bytes x) = packet_spelled x 8 1 t.allowed (omega (arith, t.few)) in
    let whole = packet_whole x 8 1 (packet_bytes x) spelled in
    (packet_bytes x, stream_bytes xs, frame_size (length (packet_bytes x)) whole.0 t.few whole.1, spelled, framed xs fit.1, refl)

pub one_stream : (packets : List Shape) (a b : List ℕ) → Frames packets a → Frames packets b → a ≡ b
one_stream [] a b h k = h ∙ sym k
one_stream (x ∷ xs) a b h k =
    let (p, rest, size, spelled, frames, parts) = h in
    let (q, rest', size', spelled', frames', parts') = k in
    let front : p ≡ q = (packet_is x 8 1 p spelled).0 ∙ sym (packet_is x 8 1 q spelled').0 in
    let back : rest ≡ rest' = one_stream xs rest rest' frames frames' in
    parts ∙ ap (λ (t : List ℕ). frame_bytes t ++ rest) front ∙ ap (λ (t : List ℕ). frame_bytes q ++ t) back ∙ sym parts'

-- ---- from a stream to packets

pub frames_fit : (packets : List Shape) (bytes : List ℕ) → are_octets bytes ≡ true → Frames packets bytes → AllFit packets
frames_fit [] bytes octets h = tt
frames_fit (x ∷ xs) bytes octets h =
    let (p, rest, size, spelled, frames, parts) = h in
    let both = octets_apart (frame_bytes p) rest (sym (ap are_octets parts) ∙ octets) in
    (record { bytes = p; spelled = spelled; octets = (octets_apart (to_be_bytes w32 (length p)) p both.0).1; few = no_more (length p) size }, frames_fit xs rest both.1 frames)

-- ---- how many packets there are

pub few_frames : (packets : List Shape) (bytes : List ℕ) → Frames packets bytes → length packets ≤ length bytes
few_frames [] bytes h = omega arith
few_frames (x ∷ xs) bytes h =
    let (p, rest, size, spelled, frames, parts) = h in
    omega (arith, few_frames xs rest frames, frame_len p rest, ap length parts)

some_text : (x : Shape) → 1 ≤ length (packet_text x)
some_text (message m) = omega (arith, length-append (message_line m) (10 ∷ []))
some_text (bundle tag inner) = omega (arith, length-append (line (bundle_line tag) ++ elements_text inner) (line (93 ∷ [])), length-append {A = ℕ} (93 ∷ []) (10 ∷ []))

few_texts : (packets : List Shape) → length packets ≤ length (flat_map packet_text packets)
few_texts [] = omega arith
few_texts (x ∷ xs) = omega (arith, few_texts xs, some_text x, length-append (packet_text x) (flat_map packet_text xs))

pub few_written : (text : List ℕ) (packets : List Shape) → Score text packets → length packets ≤ length text
unfolding score_text
few_written text packets s = omega (arith, few_texts packets, ap length s.written)

-- ---- answers

pub few_where : {X E : Type 0} (view : X → List ℕ) (whole : List ℕ) (n : ℕ) (r : Result X E) → IfOk r (λ t. view t ≡ whole) → length whole ≤ n → IfOk r (λ t. length (view t) ≤ n)
few_where view whole n (Ok t) is few = omega (arith, ap length is, few)
few_where view whole n (Err e) is few = tt
