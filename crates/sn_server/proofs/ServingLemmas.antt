-- A connection goes on from event to event.
use Rattle.std.proofs.Common.{◌≡◌, ℕ, zero, suc, ◌+◌, ◌-◌, ◌<◌, ◌≤◌, ◌||◌, Bool, true, Result, Ok, Err, ℤ, List, [], ◌∷◌, ◌++◌, length, Option, refl, sym, ap, subst, ◌∙◌, arith, ◌⊎◌, inl, inr}
use Rattle.std.specs.Prelude.{if◌then◌else◌, nat_le}
use Rattle.std.specs.Io.KnownBytes.{Appends}
use Rattle.std.specs.Result.{IsErrAnd}
use Rattle.std.proofs.KnownBytes.{Appends-nil, Appends-trans, Appends-kept}
use Rattle.sn_ports.specs.Transfer.{Before}
use Rattle.sn_osc.specs.Frames.{cut, bad_size, first_frame}
use Rattle.sn_osc.specs.Framed.{fed_with}
use Rattle.sn_osc.specs.Framing.{Framing}
use Rattle.sn_osc.specs.Unpacking.{unpacked}
use Rattle.sn_reply.proofs.FrameLaws.{begins_refl, begins_trans}
use Rattle.sn_engine.specs.Running.{Running, at_boundary, flow_at}
use Rattle.sn_engine.specs.declared.standing.Flow.{Flow}
use Rattle.sn_engine.specs.declared.standing.Flow.TheVariants as flows
use Rattle.sn_render.specs.Fronts.{TakesFront}
use Rattle.sn_render.specs.Play.{after_block, after_blocks, to_first}
use Rattle.sn_render.proofs.StepLemmas.{AddsTo, added, drained, boundary_step, blocks_step, begins_more, begins_under, Grows, grows_not, grows_both, grows}
use Rattle.sn_render.proofs.RowLemmas.{blocks_counted, blocks_settled}
use Rattle.sn_render.proofs.WritingLemmas.{takes_none}
use Rattle.sn_server.specs.declared.ended.Ended.{Ended}
use Rattle.sn_server.specs.declared.ended.Ended.TheVariants.{Quit, NoMemory, Closed, Cut, BadFrame, LinkFault, SoundFault, Worn}
use Rattle.sn_server.specs.PlayEvents.{Live, Course, ended, ends, with_packets, keep, receive, is_worn, worn, unless_quit, after_tick, tick, at_end}
use Rattle.sn_server.specs.Served.{TakesBetween, ByEnd}
use Rattle.sn_server.specs.Serving.{IsBad, IsLive, IsReady, HasEnded, GoesOn, IsCut, Follows, GoesThrough, IsAhead, IsRowOn, IsTickEnd, IsTicked, IsTickPart, HasQuit, IsWornOut, HasLeft}
use Rattle.sn_server.proofs.PacketLemmas.{packets_stay}
use Rattle.sn_server.proofs.GrowingLemmas.{packets_step, tick_grows, receive_end}
use Rattle.sn_server.proofs.JoiningLemmas.{not_worn}

-- ---- steps

-- a step was taken, and what it gives was written and sent
live_on : (sound_old sound_mid sound_new sent_old sent_mid sent_new : Option (List ℕ)) (v w : Live) (e0 held e1 : Running) (f0 f1 : Framing) → IsLive sound_old sound_mid sent_old sent_mid v e0 f0
    → AddsTo v.play w.play held → e1 ≡ drained held → Appends sound_mid sound_new held.sound → Appends sent_mid sent_new (to_first held.replies) → f1 ≡ w.framing → IsLive sound_old sound_new sent_old sent_new w e1 f1
live_on sound_old sound_mid sound_new sent_old sent_mid sent_new v w e0 held e1 f0 f1 live adds empty heard told framed = record {
  alone = adds.alone;
  engine = empty ∙ sym adds.rest;
  framer = framed;
  sound = subst (Appends sound_old sound_new) (sym adds.sound) (Appends-trans sound_old sound_mid sound_new v.play.sound held.sound live.sound heard);
  sent = subst (Appends sent_old sent_new) (sym adds.said) (Appends-trans sent_old sent_mid sent_new (to_first v.play.replies) (to_first held.replies) live.sent told);
}

-- ---- a course that is cut short

between_all : (old new : Option (List ℕ)) (bytes most : List ℕ) → Appends old new bytes → Before bytes most → TakesBetween old new bytes most
between_all old new bytes most taken front = (bytes, taken, begins_refl bytes, front)

-- after what was taken comes a prefix of more
between_more : (old mid new : Option (List ℕ)) (bytes more most : List ℕ) → Appends old mid bytes → TakesFront mid new more → Before (bytes ++ more) most → TakesBetween old new bytes most
between_more old mid new bytes more most taken part front =
    let (piece, appended, begins) = part in
    (bytes ++ piece, Appends-trans old mid new bytes piece taken appended, begins_more bytes piece, begins_trans (bytes ++ piece) (bytes ++ more) most (begins_under bytes piece more begins) front)

between_later : (old new : Option (List ℕ)) (less least most : List ℕ) → Before less least → TakesBetween old new least most → TakesBetween old new less most
between_later old new less least most front h =
    let (taken, appended, first, last) = h in
    (taken, appended, begins_trans less least taken front first, last)

-- nothing was written or sent since
pub cut_here : (sound_old sound_new sent_old sent_new : Option (List ℕ)) (v : Live) (e : Running) (f : Framing) (c : Course) → IsLive sound_old sound_new sent_old sent_new v e f → Grows v.play (at_end c).play
    → IsCut sound_old sound_new sent_old sent_new v c
cut_here sound_old sound_new sent_old sent_new v e f c live g = record {
  sound = between_all sound_old sound_new v.play.sound (at_end c).play.sound live.sound g.sound;
  sent = between_all sent_old sent_new (to_first v.play.replies) (to_first (at_end c).play.replies) live.sent g.replies;
}

-- the connection had come further
pub cut_later : (sound_old sound_new sent_old sent_new : Option (List ℕ)) (v w : Live) (c : Course) → Grows v.play w.play → IsCut sound_old sound_new sent_old sent_new w c → IsCut sound_old sound_new sent_old sent_new v c
cut_later sound_old sound_new sent_old sent_new v w c g h = record {
  sound = between_later sound_old sound_new v.play.sound w.play.sound (at_end c).play.sound g.sound h.sound;
  sent = between_later sent_old sent_new (to_first v.play.replies) (to_first w.play.replies) (to_first (at_end c).play.replies) g.replies h.sent;
}

-- a step was taken, and a prefix of what it gives was written and sent
cut_in : (sound_old sound_mid sound_new sent_old sent_mid sent_new : Option (List ℕ)) (v : Live) (e : Running) (f : Framing) (next held : Running) (c : Course) → IsLive sound_old sound_mid sent_old sent_mid v e f
    → AddsTo v.play next held → TakesFront sound_mid sound_new held.sound → TakesFront sent_mid sent_new (to_first held.replies) → Grows next (at_end c).play → IsCut sound_old sound_new sent_old sent_new v c
cut_in sound_old sound_mid sound_new sent_old sent_mid sent_new v e f next held c live adds heard told g =
    let last = (at_end c).play in
    record {
      sound = between_more sound_old sound_mid sound_new v.play.sound held.sound last.sound live.sound heard (subst (λ (t : List ℕ). Before t last.sound) adds.sound g.sound);
      sent = between_more sent_old sent_mid sent_new (to_first v.play.replies) (to_first held.replies) (to_first last.replies) live.sent told (subst (λ (t : List ℕ). Before t (to_first last.replies)) adds.said g.replies);
    }

-- ---- frames

-- the connection, if what follows the last whole frame is kept
abbrev pub after_piece : List ℕ → Live → Live
after_piece piece v = record {
  play = with_packets (unpacked (v.framing.kept ++ piece)).packets v.play;
  framing = record { kept = (unpacked (v.framing.kept ++ piece)).rest; fed = v.framing.fed + length piece };
}

-- what an engine holds once all whole frames were offered
owed : (v : Live) (piece : List ℕ) (sound_old sound_new sent_old sent_new : Option (List ℕ)) (e0 e1 : Running) (f0 f1 : Framing) → IsLive sound_old sound_new sent_old sent_new v e0 f0 → f1 ≡ fed_with piece f0
    → e1 ≡ with_packets (unpacked f1.kept).packets e0 → AddsTo v.play (after_piece piece v).play e1
owed v piece sound_old sound_new sent_old sent_new e0 e1 f0 f1 live fed offered =
    let packets = (unpacked (v.framing.kept ++ piece)).packets in
    let piece_fed : f1 ≡ fed_with piece v.framing = fed ∙ ap (fed_with piece) live.framer in
    let all : e1 ≡ with_packets packets e0 = offered ∙ ap (λ (f : Framing). with_packets (unpacked f.kept).packets e0) piece_fed in
    subst (AddsTo v.play (after_piece piece v).play) (sym all) (added (with_packets packets) (packets_step packets) v.play e0 live.alone live.engine)

-- no sound
quiet : (e0 e1 : Running) (packets : List (List ℕ)) → e0.sound ≡ [] → e1 ≡ with_packets packets e0 → e1.sound ≡ []
quiet e0 e1 packets silent offered = ap (λ (r : Running). r.sound) offered ∙ (packets_stay packets e0).sound ∙ silent

pub received : (v : Live) (piece : List ℕ) (sound_old sound_new sent_old sent_mid sent_new : Option (List ℕ)) (e0 e1 e2 : Running) (f0 f1 f2 : Framing) → IsLive sound_old sound_new sent_old sent_mid v e0 f0
    → f1 ≡ fed_with piece f0 → e1 ≡ with_packets (unpacked f1.kept).packets e0 → f2 ≡ record f1 { kept = (unpacked f1.kept).rest }
    → Appends sent_mid sent_new (to_first e1.replies) → e2 ≡ record e1 { replies = [] ∷ [] } → IsLive sound_old sound_new sent_old sent_new (after_piece piece v) e2 f2
received v piece sound_old sound_new sent_old sent_mid sent_new e0 e1 e2 f0 f1 f2 live fed offered kept sent empty =
    let piece_fed : f1 ≡ fed_with piece v.framing = fed ∙ ap (fed_with piece) live.framer in
    let silent : e1.sound ≡ [] = quiet e0 e1 (unpacked f1.kept).packets (ap (λ (r : Running). r.sound) live.engine) offered in
    live_on sound_old sound_new sound_new sent_old sent_mid sent_new v (after_piece piece v) e0 e1 e2 f0 f2 live (owed v piece sound_old sound_new sent_old sent_mid e0 e1 f0 f1 live fed offered)
    (empty ∙ (λ i. record e1 { sound = silent i; replies = [] ∷ [] })) (subst (Appends sound_new sound_new) (sym silent) (Appends-nil sound_new)) sent (kept ∙ ap (λ (f : Framing). record f { kept = (unpacked f.kept).rest }) piece_fed)

-- a prefix of what was answered was sent
pub received_cut : (v : Live) (piece : List ℕ) (sound_old sound_new sent_old sent_mid sent_new : Option (List ℕ)) (e0 e1 : Running) (f0 f1 : Framing) → IsLive sound_old sound_new sent_old sent_mid v e0 f0
    → f1 ≡ fed_with piece f0 → e1 ≡ with_packets (unpacked f1.kept).packets e0 → TakesFront sent_mid sent_new (to_first e1.replies) → IsCut sound_old sound_new sent_old sent_new v (receive piece v)
received_cut v piece sound_old sound_new sent_old sent_mid sent_new e0 e1 f0 f1 live fed offered part =
    cut_in sound_old sound_new sound_new sent_old sent_mid sent_new v e0 f0 (after_piece piece v).play e1 (receive piece v) live (owed v piece sound_old sound_new sent_old sent_mid e0 e1 f0 f1 live fed offered)
    (takes_none sound_new e1.sound) part (subst (Grows (after_piece piece v).play) (sym (receive_end piece v)) (grows_not (after_piece piece v).play))

pub received_whole : (v : Live) (piece : List ℕ) (sound_old sound_new sent_old sent_new : Option (List ℕ)) (e : Running) (f : Framing) → IsLive sound_old sound_new sent_old sent_new (after_piece piece v) e f → first_frame f.kept ≡ cut
    → GoesOn sound_old sound_new sent_old sent_new (receive piece v) e f
received_whole v piece sound_old sound_new sent_old sent_new e f live stops =
    let w = after_piece piece v in
    let at : first_frame w.framing.kept ≡ cut = ap (λ (g : Framing). first_frame g.kept) (sym live.framer) ∙ stops in
    record { live = w; course = ap (λ x. keep x w) at; stands = live }

bad_end : (v : Live) (piece : List ℕ) (sound_old sound_new sent_old sent_new : Option (List ℕ)) (e : Running) (f : Framing) (size : ℤ) → IsLive sound_old sound_new sent_old sent_new (after_piece piece v) e f
    → first_frame f.kept ≡ bad_size size → HasEnded sound_old sound_new sent_old sent_new (receive piece v) (BadFrame size)
bad_end v piece sound_old sound_new sent_old sent_new e f size live stops =
    let w = after_piece piece v in
    let at : first_frame w.framing.kept ≡ bad_size size = ap (λ (g : Framing). first_frame g.kept) (sym live.framer) ∙ stops in
    record {
      over = record { play = w.play; ending = BadFrame size };
      course = ap (λ x. keep x w) at;
      ending = refl;
      sound = live.sound;
      sent = live.sent;
    }

pub received_bad : (v : Live) (piece : List ℕ) (sound_old sound_new sent_old sent_new : Option (List ℕ)) (e : Running) (f : Framing) (how : Ended) → IsLive sound_old sound_new sent_old sent_new (after_piece piece v) e f
    → IsBad (first_frame f.kept) how → ByEnd how (HasEnded sound_old sound_new sent_old sent_new (receive piece v) how) (IsCut sound_old sound_new sent_old sent_new v (receive piece v))
received_bad v piece sound_old sound_new sent_old sent_new e f (BadFrame size) live stops = bad_end v piece sound_old sound_new sent_old sent_new e f size live stops
received_bad v piece sound_old sound_new sent_old sent_new e f Quit live stops = absurd stops
received_bad v piece sound_old sound_new sent_old sent_new e f NoMemory live stops = absurd stops
received_bad v piece sound_old sound_new sent_old sent_new e f Closed live stops = absurd stops
received_bad v piece sound_old sound_new sent_old sent_new e f (Cut kept) live stops = absurd stops
received_bad v piece sound_old sound_new sent_old sent_new e f LinkFault live stops = absurd stops
received_bad v piece sound_old sound_new sent_old sent_new e f SoundFault live stops = absurd stops
received_bad v piece sound_old sound_new sent_old sent_new e f (Worn n blocks) live stops = absurd stops

-- ---- blocks

after_quit : (n : ℕ) (v : Live) → v.framing.fed < 4611686018427387904 → v.play.block < 4611686018427387904 → flow_at v.play ≡ flows.Quit → tick (suc n) v ≡ ends (at_boundary v.play) Quit
after_quit n v few less quits =
    let more = tick n (after_tick v) in
    not_worn v (unless_quit (flow_at v.play) (at_boundary v.play) more) few less ∙ ap (λ (x : Flow). unless_quit x (at_boundary v.play) more) quits

after_one : (n : ℕ) (v : Live) → v.framing.fed < 4611686018427387904 → v.play.block < 4611686018427387904 → flow_at v.play ≡ flows.On → tick (suc n) v ≡ tick n (after_tick v)
after_one n v few less goes =
    let more = tick n (after_tick v) in
    not_worn v (unless_quit (flow_at v.play) (at_boundary v.play) more) few less ∙ ap (λ (x : Flow). unless_quit x (at_boundary v.play) more) goes

-- a connection after n blocks
abbrev after_row : ℕ → Live → Live
after_row n v = record { play = after_blocks n v.play; framing = v.framing }

-- n ticks at which the server goes on, and then others
row_ticks : (n m : ℕ) (v : Live) → v.framing.fed < 4611686018427387904 → v.play.block + n ≤ 4611686018427387904 → GoesThrough n v.play → tick (n + m) v ≡ tick m (after_row n v)
row_ticks zero m v few before goes = let e : 0 + m ≡ m = omega arith in ap (λ k. tick k v) e
row_ticks (suc n) m v few before goes =
    let e : suc n + m ≡ suc (n + m) = omega arith in
    ap (λ k. tick k v) e
    ∙ (after_one (n + m) v few (omega (arith, before)) (goes 0 (omega arith))
    ∙ row_ticks n m (after_tick v) few (omega (arith, before)) (λ k l. goes (suc k) (omega (arith, l))))

blocks_put : (n : ℕ) (r : Running) → (after_blocks n r).waiting.puts ≡ r.waiting.puts
blocks_put zero r = refl
blocks_put (suc n) r = blocks_put n (after_block r)

-- if the server goes on at the first boundary, and at those after it
pub goes_through : (n : ℕ) (r : Running) → flow_at r ≡ flows.On → ((k : ℕ) → 1 ≤ k → k < n → flow_at (after_blocks k r) ≡ flows.On) → GoesThrough n r
goes_through n r first later zero l = first
goes_through n r first later (suc k) l = later (suc k) (omega arith) l

-- what is held back goes on as the whole does
as_held : (n : ℕ) (sound_old sound_new sent_old sent_new : Option (List ℕ)) (v : Live) (e : Running) (f : Framing) → IsLive sound_old sound_new sent_old sent_new v e f → GoesThrough n e → GoesThrough n v.play
as_held n sound_old sound_new sent_old sent_new v e f live goes k l = ap (λ (r : Running). flow_at r) (added (after_blocks k) (blocks_step k) v.play e live.alone live.engine).rest ∙ goes k l

-- so many ticks are left of a course after a connection
pub record IsTicking (sound_old sound_new sent_old sent_new : Option (List ℕ)) (v : Live) (c : Course) (left : ℕ) (e : Running) (f : Framing) : Type 0 where
  pub live : Live
  pub course : tick left live ≡ c
  pub grown : Grows v.play live.play
  pub stands : IsLive sound_old sound_new sent_old sent_new live e f

-- more can be taken of a connection, as of the engine and the framer that hold what it does
pub some_fed : (sound_old sound_new sent_old sent_new : Option (List ℕ)) (v : Live) (e : Running) (f : Framing) → IsLive sound_old sound_new sent_old sent_new v e f → HasLeft e f → v.framing.fed < 4611686018427387904
some_fed sound_old sound_new sent_old sent_new v e f live enough = omega (arith, enough.fed, ap (λ (g : Framing). g.fed) live.framer)

pub some_blocks : (sound_old sound_new sent_old sent_new : Option (List ℕ)) (v : Live) (e : Running) (f : Framing) → IsLive sound_old sound_new sent_old sent_new v e f → HasLeft e f → v.play.block < 4611686018427387904
some_blocks sound_old sound_new sent_old sent_new v e f live enough = omega (arith, enough.block, ap (λ (r : Running). r.block) live.engine)

pub ticks_on : (sound_old sound_mid sound_new sent_old sent_mid sent_new : Option (List ℕ)) (v : Live) (c : Course) (left less most : ℕ) (e0 e1 : Running) (f : Framing) → IsTicking sound_old sound_mid sent_old sent_mid v c left e0 f → HasLeft e0 f
    → (t : IsTicked most sound_mid sound_new sent_mid sent_new e0 e1) → most ≤ left → e0.block + most ≤ 4611686018427387904 → less ≡ left - t.blocks → IsTicking sound_old sound_new sent_old sent_new v c less e1 f
ticks_on sound_old sound_mid sound_new sent_old sent_mid sent_new v c left less most e0 e1 f i enough t few early is =
    let w = i.live in
    let n : ℕ = t.blocks in
    let all : n + less ≡ left = omega (arith, is, few, t.few) in
    let fed = some_fed sound_old sound_mid sent_old sent_mid w e0 f i.stands enough in
    let before : w.play.block + n ≤ 4611686018427387904 = omega (arith, early, t.few, ap (λ (r : Running). r.block) i.stands.engine) in
    record {
      live = after_row n w;
      course = sym (row_ticks n less w fed before (as_held n sound_old sound_mid sent_old sent_mid w e0 f i.stands t.flows)) ∙ (ap (λ (k : ℕ). tick k w) all ∙ i.course);
      grown = grows_both v.play w.play (after_blocks n w.play) i.grown (grows (after_blocks n) (blocks_step n) w.play i.stands.alone);
      stands = live_on sound_old sound_mid sound_new sent_old sent_mid sent_new w (after_row n w) e0 (after_blocks n e0) e1 f f i.stands (added (after_blocks n) (blocks_step n) w.play e0 i.stands.alone i.stands.engine)
          t.engine t.sound t.replies i.stands.framer;
    }

pub ticked_ready : (most : ℕ) (sound_old sound_new sent_old sent_new : Option (List ℕ)) (e0 e1 : Running) (f : Framing) → IsReady e0 f → IsTicked most sound_old sound_new sent_old sent_new e0 e1 → IsReady e1 f
ticked_ready most sound_old sound_new sent_old sent_new e0 e1 f r t = record {
  standing = ap (λ (r : Running). r.standing) t.engine ∙ blocks_settled t.blocks e0 r.standing;
  silent = ap (λ (r : Running). r.sound) t.engine;
  said = ap (λ (r : Running). r.replies) t.engine;
  puts = omega (arith, r.puts, ap (λ (r : Running). r.waiting.puts) t.engine, blocks_put t.blocks e0);
  fed = r.fed;
  kept = r.kept;
}

pub ticked_block : (most : ℕ) (sound_old sound_new sent_old sent_new : Option (List ℕ)) (e0 e1 : Running) (t : IsTicked most sound_old sound_new sent_old sent_new e0 e1) → e1.block ≡ e0.block + t.blocks
ticked_block most sound_old sound_new sent_old sent_new e0 e1 t = ap (λ (r : Running). r.block) t.engine ∙ blocks_counted t.blocks e0

pub all_ticked : (sound_old sound_new sent_old sent_new : Option (List ℕ)) (v : Live) (c : Course) (left : ℕ) (e : Running) (f : Framing) → IsTicking sound_old sound_new sent_old sent_new v c left e f → left ≡ 0 → GoesOn sound_old sound_new sent_old sent_new c e f
all_ticked sound_old sound_new sent_old sent_new v c left e f i none = record { live = i.live; course = sym i.course ∙ ap (λ (n : ℕ). tick n i.live) none; stands = i.stands }

-- ---- ends

pub by_end : (how : Ended) (P Q : Type 0) → P → Q → ByEnd how P Q
by_end Quit P Q p q = p
by_end Closed P Q p q = p
by_end (Cut kept) P Q p q = p
by_end (BadFrame size) P Q p q = p
by_end (Worn n blocks) P Q p q = p
by_end NoMemory P Q p q = q
by_end LinkFault P Q p q = q
by_end SoundFault P Q p q = q

pub by_end_so : (how : Ended) (P R Q S : Type 0) → (P → R) → (Q → S) → ByEnd how P Q → ByEnd how R S
by_end_so Quit P R Q S f g h = f h
by_end_so Closed P R Q S f g h = f h
by_end_so (Cut kept) P R Q S f g h = f h
by_end_so (BadFrame size) P R Q S f g h = f h
by_end_so (Worn n blocks) P R Q S f g h = f h
by_end_so NoMemory P R Q S f g h = g h
by_end_so LinkFault P R Q S f g h = g h
by_end_so SoundFault P R Q S f g h = g h

-- a fact about the ends that the events give, if it is worn out
pub worn_out : (how : Ended) (bytes blocks : ℕ) (P Q : Type 0) → how ≡ Worn bytes blocks → P → ByEnd how P Q
worn_out how bytes blocks P Q is p = subst (λ (k : Ended). ByEnd k P Q) (sym is) p

-- it is worn out
pub worn_is : (sound_old sound_new sent_old sent_new : Option (List ℕ)) (v : Live) (e : Running) (f : Framing) (how : Ended) → IsLive sound_old sound_new sent_old sent_new v e f → IsWornOut e f how → (is_worn v ≡ true) × ((worn v).ending ≡ how)
worn_is sound_old sound_new sent_old sent_new v e f how live w = (
  sym (λ i. nat_le 4611686018427387904 (live.framer i).fed || nat_le 4611686018427387904 (live.engine i).block) ∙ w.most,
  sym (λ i. Worn (live.framer i).fed (live.engine i).block) ∙ sym w.numbers,
)

pub worn_tick : (sound_old sound_new sent_old sent_new : Option (List ℕ)) (v : Live) (c : Course) (left less : ℕ) (e : Running) (f : Framing) (how : Ended) → IsTicking sound_old sound_new sent_old sent_new v c left e f → left ≡ suc less → IsWornOut e f how
    → ByEnd how (HasEnded sound_old sound_new sent_old sent_new c how) (IsCut sound_old sound_new sent_old sent_new v c)
worn_tick sound_old sound_new sent_old sent_new v c left less e f how i more out =
    let w = i.live in
    let is = worn_is sound_old sound_new sent_old sent_new w e f how i.stands out in
    let rest = unless_quit (flow_at w.play) (at_boundary w.play) (tick less (after_tick w)) in
    worn_out how f.fed e.block (HasEnded sound_old sound_new sent_old sent_new c how) (IsCut sound_old sound_new sent_old sent_new v c) out.numbers (record {
      over = worn w;
      course = sym i.course ∙ ap (λ (n : ℕ). tick n w) more ∙ ap (λ (b : Bool). if b then ended (worn w) else rest) is.0;
      ending = is.1;
      sound = i.stands.sound;
      sent = i.stands.sent;
    })

quit_tick : (sound_old sound_mid sound_new sent_old sent_mid sent_new : Option (List ℕ)) (v : Live) (c : Course) (left less : ℕ) (e : Running) (f : Framing) → IsTicking sound_old sound_mid sent_old sent_mid v c left e f → left ≡ suc less → HasLeft e f → HasQuit sound_mid sound_new sent_mid sent_new e
    → HasEnded sound_old sound_new sent_old sent_new c Quit
quit_tick sound_old sound_mid sound_new sent_old sent_mid sent_new v c left less e f i more enough q =
    let w = i.live in
    let few = some_fed sound_old sound_mid sent_old sent_mid w e f i.stands enough in
    let before = some_blocks sound_old sound_mid sent_old sent_mid w e f i.stands enough in
    let adds = added at_boundary boundary_step w.play e i.stands.alone i.stands.engine in
    record {
      over = record { play = at_boundary w.play; ending = Quit };
      course = sym i.course ∙ ap (λ (n : ℕ). tick n w) more ∙ after_quit less w few before (ap (λ (r : Running). flow_at r) (sym i.stands.engine) ∙ q.flow);
      ending = refl;
      sound = Appends-kept sound_old sound_mid sound_new w.play.sound i.stands.sound q.sound;
      sent = subst (Appends sent_old sent_new) (sym adds.said) (Appends-trans sent_old sent_mid sent_new (to_first w.play.replies) (to_first (at_boundary e).replies) i.stands.sent q.replies);
    }

-- the next ticks were cut short
next_cut : (m most : ℕ) (v : Live) (sound_old sound_mid sound_new sent_old sent_mid sent_new : Option (List ℕ)) (e : Running) (f : Framing) → IsLive sound_old sound_mid sent_old sent_mid v e f → HasLeft e f → 1 ≤ m → most ≤ m
    → e.block + most ≤ 4611686018427387904 → IsTickPart most sound_mid sound_new sent_mid sent_new e → IsCut sound_old sound_new sent_old sent_new v (tick m v)
next_cut m most v sound_old sound_mid sound_new sent_old sent_mid sent_new e f live enough some few early part = at part.ahead
  where
    fed : v.framing.fed < 4611686018427387904
    fed = some_fed sound_old sound_mid sent_old sent_mid v e f live enough

    before : v.play.block < 4611686018427387904
    before = some_blocks sound_old sound_mid sent_old sent_mid v e f live enough

    cut_at : (next held : Running) (c : Course) → part.held ≡ held → tick m v ≡ c → AddsTo v.play next held → Grows next (at_end c).play → IsCut sound_old sound_new sent_old sent_new v (tick m v)
    cut_at next held c is course adds g =
        subst (λ (d : Course). IsCut sound_old sound_new sent_old sent_new v d) (sym course) (cut_in sound_old sound_mid sound_new sent_old sent_mid sent_new v e f next held c live adds
        (subst (λ (r : Running). TakesFront sound_mid sound_new r.sound) is part.sound) (subst (λ (r : Running). TakesFront sent_mid sent_new (to_first r.replies)) is part.sent) g)

    row : (n : ℕ) → n ≤ most → GoesThrough n e → part.held ≡ after_blocks n e → IsCut sound_old sound_new sent_old sent_new v (tick m v)
    row n low goes is =
        let rest : ℕ = m - n in
        let all : m ≡ n + rest = omega (arith, low, few) in
        let early_on : v.play.block + n ≤ 4611686018427387904 = omega (arith, early, low, ap (λ (r : Running). r.block) live.engine) in
        cut_at (after_blocks n v.play) (after_blocks n e) (tick rest (after_row n v)) is
        (ap (λ (k : ℕ). tick k v) all ∙ row_ticks n rest v fed early_on (as_held n sound_old sound_mid sent_old sent_mid v e f live goes))
        (added (after_blocks n) (blocks_step n) v.play e live.alone live.engine)
        (tick_grows rest (after_row n v) ((blocks_step n).clients v.play ∙ live.alone))

    at : IsAhead most e part.held → IsCut sound_old sound_new sent_old sent_new v (tick m v)
    at (inl (n, low, goes, is)) = row n low goes is
    at (inr (quits, is)) =
        let less : ℕ = m - 1 in
        let all : m ≡ suc less = omega (arith, some) in
        cut_at (at_boundary v.play) (at_boundary e) (ends (at_boundary v.play) Quit) is
        (ap (λ (k : ℕ). tick k v) all ∙ after_quit less v fed before (ap (λ (r : Running). flow_at r) (sym live.engine) ∙ quits))
        (added at_boundary boundary_step v.play e live.alone live.engine) (grows_not (at_boundary v.play))

cut_tick : (sound_old sound_mid sound_new sent_old sent_mid sent_new : Option (List ℕ)) (v : Live) (c : Course) (left most : ℕ) (e : Running) (f : Framing) → IsTicking sound_old sound_mid sent_old sent_mid v c left e f → 1 ≤ left → most ≤ left
    → e.block + most ≤ 4611686018427387904 → HasLeft e f → IsTickPart most sound_mid sound_new sent_mid sent_new e → IsCut sound_old sound_new sent_old sent_new v c
cut_tick sound_old sound_mid sound_new sent_old sent_mid sent_new v c left most e f i some few early enough part =
    let w = i.live in
    let here = next_cut left most w sound_old sound_mid sound_new sent_old sent_mid sent_new e f i.stands enough some few early part in
    cut_later sound_old sound_new sent_old sent_new v w c i.grown (subst (λ (d : Course). IsCut sound_old sound_new sent_old sent_new w d) i.course here)

-- ---- what of a tick was written

pub none_part : (most : ℕ) (sound sent : Option (List ℕ)) (r : Running) → IsTickPart most sound sound sent sent r
none_part most sound sent r = record { held = r; ahead = inl (0, omega arith, λ k l. absurd (omega (arith, l)), refl); sound = takes_none sound r.sound; sent = takes_none sent (to_first r.replies) }

pub quit_part : (most : ℕ) (sound sent_old sent_new : Option (List ℕ)) (old mid : Running) → flow_at old ≡ flows.Quit → mid ≡ at_boundary old → TakesFront sent_old sent_new (to_first mid.replies) → IsTickPart most sound sound sent_old sent_new old
quit_part most sound sent_old sent_new old mid quits is part = record { held = mid; ahead = inr (quits, is); sound = takes_none sound mid.sound; sent = part }

pub row_part : (most : ℕ) (sound_old sound_new sent_old sent_new : Option (List ℕ)) (old new heard : Running) → IsRowOn most old new → TakesFront sound_old sound_new new.sound → heard ≡ record new { sound = [] } → TakesFront sent_old sent_new (to_first heard.replies)
    → IsTickPart most sound_old sound_new sent_old sent_new old
row_part most sound_old sound_new sent_old sent_new old new heard row sound kept told = record {
  held = new;
  ahead = inl (row.blocks, row.few, row.flows, row.played);
  sound = sound;
  sent = subst (λ (bytes : List ℕ). TakesFront sent_old sent_new bytes) (ap (λ (r : Running). to_first r.replies) kept) told;
}

-- its engine has one client
pub row_alone : (most : ℕ) (old new : Running) → IsRowOn most old new → length old.replies ≡ 1 → length new.replies ≡ 1
row_alone most old new row alone = ap (λ (r : Running). length r.replies) row.played ∙ ((blocks_step row.blocks).clients old ∙ alone)

-- a row of which all was written
pub row_ticked : (most : ℕ) (sound_old sound_new sent_old sent_new : Option (List ℕ)) (old new heard e : Running) → IsRowOn most old new → Appends sound_old sound_new new.sound → heard ≡ record new { sound = [] } → Appends sent_old sent_new (to_first heard.replies)
    → e ≡ record heard { replies = [] ∷ [] } → IsTicked most sound_old sound_new sent_old sent_new old e
row_ticked most sound_old sound_new sent_old sent_new old new heard e row sound kept told empty = record {
  blocks = row.blocks;
  some = row.some;
  few = row.few;
  flows = row.flows;
  engine = empty ∙ ap (λ (r : Running). record r { replies = [] ∷ [] }) (kept ∙ ap (λ (r : Running). record r { sound = [] }) row.played);
  sound = subst (λ (r : Running). Appends sound_old sound_new r.sound) row.played sound;
  replies = subst (λ (bytes : List ℕ). Appends sent_old sent_new bytes) (ap (λ (r : Running). to_first r.replies) kept ∙ ap (λ (r : Running). to_first r.replies) row.played) told;
}

abbrev pub failed : Ended → Result (Unit {0}) Ended
failed how = Err how

pub ended_tick : (sound_old sound_mid sound_new sent_old sent_mid sent_new : Option (List ℕ)) (v : Live) (c : Course) (left most : ℕ) (e : Running) (f : Framing) (how : Ended) → IsTicking sound_old sound_mid sent_old sent_mid v c left e f → 1 ≤ left → most ≤ left
    → e.block + most ≤ 4611686018427387904 → HasLeft e f → IsTickEnd how → (failed how ≡ failed Quit → HasQuit sound_mid sound_new sent_mid sent_new e) → IsTickPart most sound_mid sound_new sent_mid sent_new e
    → ByEnd how (HasEnded sound_old sound_new sent_old sent_new c how) (IsCut sound_old sound_new sent_old sent_new v c)
ended_tick sound_old sound_mid sound_new sent_old sent_mid sent_new v c left most e f Quit i some few early enough is quit part =
    let less : ℕ = left - 1 in
    let more : left ≡ suc less = omega (arith, some) in
    quit_tick sound_old sound_mid sound_new sent_old sent_mid sent_new v c left less e f i more enough (quit refl)
ended_tick sound_old sound_mid sound_new sent_old sent_mid sent_new v c left most e f NoMemory i some few early enough is quit part = cut_tick sound_old sound_mid sound_new sent_old sent_mid sent_new v c left most e f i some few early enough part
ended_tick sound_old sound_mid sound_new sent_old sent_mid sent_new v c left most e f LinkFault i some few early enough is quit part = cut_tick sound_old sound_mid sound_new sent_old sent_mid sent_new v c left most e f i some few early enough part
ended_tick sound_old sound_mid sound_new sent_old sent_mid sent_new v c left most e f SoundFault i some few early enough is quit part = cut_tick sound_old sound_mid sound_new sent_old sent_mid sent_new v c left most e f i some few early enough part
ended_tick sound_old sound_mid sound_new sent_old sent_mid sent_new v c left most e f Closed i some few early enough is quit part = absurd is
ended_tick sound_old sound_mid sound_new sent_old sent_mid sent_new v c left most e f (Cut kept) i some few early enough is quit part = absurd is
ended_tick sound_old sound_mid sound_new sent_old sent_mid sent_new v c left most e f (BadFrame size) i some few early enough is quit part = absurd is
ended_tick sound_old sound_mid sound_new sent_old sent_mid sent_new v c left most e f (Worn n blocks) i some few early enough is quit part = absurd is

-- what a step answers that ended, or was cut short
pub follows_err : (sound_old sound_new sent_old sent_new : Option (List ℕ)) (v : Live) (c : Course) (e : Running) (f : Framing) (r : Result (Unit {0}) Ended) (how : Ended) → IsErrAnd r (λ k. k ≡ how)
    → ByEnd how (HasEnded sound_old sound_new sent_old sent_new c how) (IsCut sound_old sound_new sent_old sent_new v c) → Follows sound_old sound_new sent_old sent_new v c e f r
follows_err sound_old sound_new sent_old sent_new v c e f (Ok x) how is h = absurd is
follows_err sound_old sound_new sent_old sent_new v c e f (Err k) how is h = subst (λ (k : Ended). ByEnd k (HasEnded sound_old sound_new sent_old sent_new c k) (IsCut sound_old sound_new sent_old sent_new v c)) (sym is) h

pub follows_cut : (sound_old sound_new sent_old sent_new : Option (List ℕ)) (v : Live) (c : Course) (e : Running) (f : Framing) (r : Result (Unit {0}) Ended) (how : Ended) → IsErrAnd r (λ k. k ≡ how) → (how ≡ NoMemory) ⊎ (how ≡ LinkFault)
    → IsCut sound_old sound_new sent_old sent_new v c → Follows sound_old sound_new sent_old sent_new v c e f r
follows_cut sound_old sound_new sent_old sent_new v c e f r how is (inl none) h =
    follows_err sound_old sound_new sent_old sent_new v c e f r how is (subst (λ (k : Ended). ByEnd k (HasEnded sound_old sound_new sent_old sent_new c k) (IsCut sound_old sound_new sent_old sent_new v c)) (sym none) h)
follows_cut sound_old sound_new sent_old sent_new v c e f r how is (inr fault) h =
    follows_err sound_old sound_new sent_old sent_new v c e f r how is (subst (λ (k : Ended). ByEnd k (HasEnded sound_old sound_new sent_old sent_new c k) (IsCut sound_old sound_new sent_old sent_new v c)) (sym fault) h)
