-- Pieces of bytes give what the bytes give.
use Rattle.std.proofs.Common.{◌≡◌, ℕ, zero, suc, ◌+◌, ◌<◌, ◌≤◌, ◌||◌, Bool, true, false, ℤ, List, [], ◌∷◌, ◌++◌, length, refl, sym, ap, ◌∙◌, append_assoc, append-nil, arith, inl, inr}
use Rattle.std.specs.Prelude.{if◌then◌else◌, nat_le}
use Rattle.std.proofs.lemmas.Bool.Decides.{leb_tells}
use Rattle.std.proofs.lemmas.List.{length-append}
use Rattle.sn_ports.specs.Links.{LinkEvent, bytes, ticks}
use Rattle.sn_osc.specs.Frames.{FirstFrame, cut, bad_size, frame, first_frame}
use Rattle.sn_osc.specs.Reading.{read}
use Rattle.sn_osc.specs.Unpacking.{Unpacked, unpacked, joined_to, no_frame}
use Rattle.sn_osc.proofs.Framing.{bad_stays}
use Rattle.sn_osc.proofs.UnpackingLemmas.{unpacked_joined, unpack_bad}
use Rattle.sn_pcm.specs.declared.settings.Settings.{Settings}
use Rattle.sn_engine.specs.Running.{Running, at_boundary, flow_at}
use Rattle.sn_engine.specs.declared.standing.Flow.{Flow}
use Rattle.sn_engine.specs.declared.standing.Flow.TheVariants as flows
use Rattle.sn_server.specs.declared.ended.Ended.TheVariants.{BadFrame}
use Rattle.sn_server.specs.PlayEvents.{Live, Over, Course, going, ended, ends, with_packet, with_packets, keep, take_frames, receive, is_worn, worn, unless_worn, unless_quit, after_tick, tick, after_event, after_events, at_end, beginning, over_events, bytes_in}
use Rattle.sn_server.proofs.PacketLemmas.{packets_stay}

-- ---- a connection that is not worn out

pub some_left : (a b : ℕ) → a < 4611686018427387904 → b < 4611686018427387904 → (nat_le 4611686018427387904 a || nat_le 4611686018427387904 b) ≡ false
some_left a b few less = (λ i. no a few i || nat_le 4611686018427387904 b) ∙ no b less
  where
    no : (n : ℕ) → n < 4611686018427387904 → nat_le 4611686018427387904 n ≡ false
    no n h = elim (leb_tells 4611686018427387904 n) [
      | inl p ↦ absurd (omega (arith, p.1, h))
      | inr p ↦ p.0
    ]

pub not_worn : (v : Live) (c : Course) → v.framing.fed < 4611686018427387904 → v.play.block < 4611686018427387904 → unless_worn v c ≡ c
not_worn v c few less = ap (λ (b : Bool). if b then ended (worn v) else c) (some_left v.framing.fed v.play.block few less)

both_packets : (xs ys : List (List ℕ)) (r : Running) → with_packets (xs ++ ys) r ≡ with_packets ys (with_packets xs r)
both_packets [] ys r = refl
both_packets (x ∷ xs) ys r = both_packets xs ys (with_packet (read x) r)

block_left : (a b : ℕ) → (nat_le 4611686018427387904 a || nat_le 4611686018427387904 b) ≡ false → b < 4611686018427387904
block_left a b e = elim (leb_tells 4611686018427387904 b) [
  | inl p ↦ absurd (at (nat_le 4611686018427387904 a) (nat_le 4611686018427387904 b) e p.0)
  | inr p ↦ p.1
]
  where
    at : (x y : Bool) → (x || y) ≡ false → y ≡ true → ⊥
    at true y e h = absurd cc
    at false true e h = absurd cc
    at false false e h = absurd cc

-- ---- two pieces, one after the other

abbrev kept_of : Unpacked → ℕ → Running → Live
kept_of u fed r = record { play = with_packets u.packets r; framing = record { kept = u.rest; fed = fed } }

pieces_on : (r : Running) (u : Unpacked) (b : List ℕ) (fed : ℕ) → fed < 4611686018427387904 → r.block < 4611686018427387904 → after_event (bytes b) (going (kept_of u fed r)) ≡ take_frames (joined_to u b) (fed + length b) r
pieces_on r u b fed few less =
    let t = unpacked (u.rest ++ b) in
    let w = kept_of u fed r in
    let before : w.play.block < 4611686018427387904 = omega (arith, less, (packets_stay u.packets r).block) in
    not_worn w (receive b w) few before
    ∙ ap (λ (p : Running). keep (first_frame t.rest) (record { play = p; framing = record { kept = t.rest; fed = fed + length b } })) (sym (both_packets u.packets t.packets r))

pieces_bad : (r : Running) (u : Unpacked) (b : List ℕ) (fed : ℕ) (size : ℤ) → first_frame u.rest ≡ bad_size size → ends (with_packets u.packets r) (BadFrame size) ≡ take_frames (joined_to u b) (fed + length b) r
pieces_bad r u b fed size e =
    let t = unpacked (u.rest ++ b) in
    let bad : first_frame (u.rest ++ b) ≡ bad_size size = bad_stays u.rest b size e in
    let none : t ≡ no_frame (u.rest ++ b) = unpack_bad (u.rest ++ b) size bad in
    let all : u.packets ++ t.packets ≡ u.packets = ap (λ (w : Unpacked). u.packets ++ w.packets) none ∙ append-nil u.packets in
    let first : first_frame t.rest ≡ bad_size size = ap (λ (w : Unpacked). first_frame w.rest) none ∙ bad in
    sym (λ i. keep (first i) (record { play = with_packets (all i) r; framing = record { kept = t.rest; fed = fed + length b } }))

pieces_by : (x : FirstFrame) (r : Running) (u : Unpacked) (b : List ℕ) (fed : ℕ) → fed < 4611686018427387904 → r.block < 4611686018427387904 → first_frame u.rest ≡ x
    → after_event (bytes b) (keep x (kept_of u fed r)) ≡ take_frames (joined_to u b) (fed + length b) r
pieces_by cut r u b fed few less e = pieces_on r u b fed few less
pieces_by (frame packet rest) r u b fed few less e = pieces_on r u b fed few less
pieces_by (bad_size size) r u b fed few less e = pieces_bad r u b fed size e

two_pieces : (v : Live) (a b : List ℕ) → v.framing.fed + length a < 4611686018427387904 → v.play.block < 4611686018427387904 → after_event (bytes b) (receive a v) ≡ receive (a ++ b) v
two_pieces v a b few less =
    let u = unpacked (v.framing.kept ++ a) in
    let joined : unpacked (v.framing.kept ++ (a ++ b)) ≡ joined_to u b = ap (λ (l : List ℕ). unpacked l) (sym (append_assoc v.framing.kept a b)) ∙ unpacked_joined (v.framing.kept ++ a) b in
    let fed : v.framing.fed + length (a ++ b) ≡ v.framing.fed + length a + length b = omega (arith, length-append a b) in
    pieces_by (first_frame u.rest) v.play u b (v.framing.fed + length a) few less refl ∙ sym (λ i. take_frames (joined i) (fed i) v.play)

joins_live : (v : Live) (a b : List ℕ) → v.framing.fed + length a < 4611686018427387904 → after_event (bytes b) (after_event (bytes a) (going v)) ≡ after_event (bytes (a ++ b)) (going v)
joins_live v a b few = at (is_worn v) refl
  where
    at : (x : Bool) → is_worn v ≡ x → after_event (bytes b) (if x then ended (worn v) else receive a v) ≡ (if x then ended (worn v) else receive (a ++ b) v)
    at true e = refl
    at false e = two_pieces v a b few (block_left v.framing.fed v.play.block e)

-- how many bytes came to a connection that goes on
abbrev pub fed_to : Course → ℕ
fed_to (ended o) = 0
fed_to (going v) = v.framing.fed

pub joins_course : (c : Course) (a b : List ℕ) → fed_to c + length a < 4611686018427387904 → after_event (bytes b) (after_event (bytes a) c) ≡ after_event (bytes (a ++ b)) c
joins_course (ended o) a b few = refl
joins_course (going v) a b few = joins_live v a b few

-- ---- how many bytes came

fed_kept : (x : FirstFrame) (v : Live) → fed_to (keep x v) ≤ v.framing.fed
fed_kept cut v = omega arith
fed_kept (frame packet rest) v = omega arith
fed_kept (bad_size size) v = omega arith

fed_if : (b : Bool) (o : Over) (c : Course) (n : ℕ) → fed_to c ≤ n → fed_to (if b then ended o else c) ≤ n
fed_if true o c n h = omega arith
fed_if false o c n h = h

fed_by : (x : Flow) (r : Running) (c : Course) (n : ℕ) → fed_to c ≤ n → fed_to (unless_quit x r c) ≤ n
fed_by flows.On r c n h = h
fed_by flows.Quit r c n h = omega arith

fed_ticks : (n : ℕ) (v : Live) → fed_to (tick n v) ≤ v.framing.fed
fed_ticks zero v = omega arith
fed_ticks (suc n) v =
    let more = tick n (after_tick v) in
    fed_if (is_worn v) (worn v) (unless_quit (flow_at v.play) (at_boundary v.play) more) v.framing.fed (fed_by (flow_at v.play) (at_boundary v.play) more v.framing.fed (fed_ticks n (after_tick v)))

abbrev pub event_bytes : LinkEvent → ℕ
event_bytes (bytes piece) = length piece
event_bytes (ticks n) = 0

pub fed_event : (e : LinkEvent) (c : Course) → fed_to (after_event e c) ≤ fed_to c + event_bytes e
fed_event e (ended o) = omega arith
fed_event (bytes piece) (going v) =
    let u = unpacked (v.framing.kept ++ piece) in
    fed_if (is_worn v) (worn v) (receive piece v) (v.framing.fed + length piece) (fed_kept (first_frame u.rest) (kept_of u (v.framing.fed + length piece) v.play))
fed_event (ticks n) (going v) = fed_if (is_worn v) (worn v) (tick n v) (v.framing.fed + 0) (omega (arith, fed_ticks n v))

more_bytes : (e : LinkEvent) (es : List LinkEvent) → bytes_in (e ∷ es) ≡ event_bytes e + bytes_in es
more_bytes (bytes piece) es = refl
more_bytes (ticks n) es = omega arith

fed_events : (es : List LinkEvent) (c : Course) → fed_to (after_events es c) ≤ fed_to c + bytes_in es
fed_events [] c = omega arith
fed_events (e ∷ es) c = omega (arith, fed_events es (after_event e c), fed_event e c, more_bytes e es)

-- ---- the law

pub events_both : (es fs : List LinkEvent) (c : Course) → after_events (es ++ fs) c ≡ after_events fs (after_events es c)
events_both [] fs c = refl
events_both (e ∷ es) fs c = events_both es fs (after_event e c)

pub joined_events : (s : Settings) (base : ℕ) (es fs : List LinkEvent) (a b : List ℕ) → bytes_in es + length a < 4611686018427387904
    → over_events s base (es ++ bytes a ∷ bytes b ∷ fs) ≡ over_events s base (es ++ bytes (a ++ b) ∷ fs)
joined_events s base es fs a b few =
    let c = after_events es (going (beginning s base)) in
    ap (λ d. at_end d) (
    events_both es (bytes a ∷ bytes b ∷ fs) (going (beginning s base))
    ∙ ap (after_events fs) (joins_course c a b (omega (arith, few, fed_events es (going (beginning s base)))))
    ∙ sym (events_both es (bytes (a ++ b) ∷ fs) (going (beginning s base))))
