-- A stream has one answer, and what was played is what it gives.
use Rattle.std.proofs.Common.{◌≡◌, ◌<◌, Bool, true, false, IsTrue, ℕ, ◌≤◌, ◌⊎◌, List, ◌++◌, length, Option, Some, None, refl, sym, ap, subst, ◌∙◌, arith, inl, inr}
use Rattle.std.specs.Prelude.{IfSome}
use Rattle.std.specs.Io.KnownBytes.{Appends, IsAtEnd, Keeps}
use Rattle.sn_osc.specs.Shape.{Shape}
use Rattle.sn_pcm.specs.declared.settings.Settings.{Settings}
use Rattle.sn_pcm.specs.Sound.{data_len, header_bytes}
use Rattle.sn_render.specs.declared.outcome.Outcome.{Outcome}
use Rattle.sn_render.specs.declared.outcome.Outcome.TheVariants.{Done, NoMemory, BadWords, BadStream, LongStream, LongSound, ReadFault, SoundFault, ReplyFault}
use Rattle.sn_osc.specs.declared.fault.StreamFault.{StreamFault}
use Rattle.sn_render.specs.Fronts.{TakesFront, TakeFronts, TakeBoth}
use Rattle.sn_render.specs.Outcomes.{IsTooLong, HasAnswer, IsAnswer, Played, ArePacketsOf, IsUnplayed, PlayedPart, TakesStream, Writes}
use Rattle.sn_render.specs.Playing.{HasEnd, IsEnd, PlayedPackets, PlayedFront, WritesPackets}
use Rattle.sn_render.specs.Play.{begun, last_of, played, to_end, to_first}
use Rattle.sn_engine.specs.Running.{Running}
use Rattle.sn_osc.specs.Frames.{Frames, StreamFaultAt}
use Rattle.sn_osc.proofs.Streams.{one_list, excluded, one_stream_fault}
use Rattle.sn_render.proofs.GoingLemmas.{sound_is}

bad_alone : (bytes : List ℕ) (packets : List Shape) (number place : ℕ) (fault : StreamFault) → StreamFaultAt bytes number place fault → Frames packets bytes → ⊥
bad_alone bytes packets number place fault s h = excluded packets s.before 0 bytes s.front s.rest place fault h s.frames s.parts s.why

same_last : (s : Settings) (bytes : List ℕ) (xs ys : List Shape) (n m : ℕ) → Frames xs bytes → Frames ys bytes → n ≡ last_of s xs → m ≡ last_of s ys → n ≡ m
same_last s bytes xs ys n m h h' a b = a ∙ ap (last_of s) (one_list xs ys bytes h h') ∙ sym b

same_bad : (k k' p p' : ℕ) (f f' : StreamFault) → k ≡ k' → p ≡ p' → f ≡ f' → BadStream k p f ≡ BadStream k' p' f'
same_bad k k' p p' f f' a b c = cc

one_answer : (s : Settings) (bytes : List ℕ) (a b : Outcome) → HasAnswer s bytes a → HasAnswer s bytes b → a ≡ b
one_answer s bytes NoMemory b h h' = absurd h
one_answer s bytes (BadWords i) b h h' = absurd h
one_answer s bytes ReadFault b h h' = absurd h
one_answer s bytes SoundFault b h h' = absurd h
one_answer s bytes ReplyFault b h h' = absurd h
one_answer s bytes (LongStream n) (LongStream m) h h' = ap (λ k. LongStream k) (h.0 ∙ sym h'.0)
one_answer s bytes (LongStream n) (BadStream packet place fault) h h' = absurd (omega (arith, h.1, h'.0))
one_answer s bytes (LongStream n) (LongSound m) h h' = absurd (omega (arith, h.1, h'.0))
one_answer s bytes (LongStream n) (Done m) h h' = absurd (omega (arith, h.1, h'.0))
one_answer s bytes (LongStream n) b h h' = absurd h'
one_answer s bytes (BadStream packet place fault) (LongStream m) h h' = absurd (omega (arith, h.0, h'.1))
one_answer s bytes (BadStream packet place fault) (BadStream packet' place' fault') h h' =
    let a = h.1 in
    let b = h'.1 in
    let same = one_stream_fault a.before b.before 0 a.front a.rest b.front b.rest place place' fault fault' a.frames b.frames (sym a.parts ∙ b.parts) a.why b.why in
    same_bad packet packet' place place' fault fault' (sym a.count ∙ same.0 ∙ b.count) same.1 same.2
one_answer s bytes (BadStream packet place fault) (LongSound m) h h' = let (xs, frames, last, long) = h'.1 in absurd (bad_alone bytes xs packet place fault h.1 frames)
one_answer s bytes (BadStream packet place fault) (Done m) h h' = let (xs, frames, last, short) = h'.1 in absurd (bad_alone bytes xs packet place fault h.1 frames)
one_answer s bytes (BadStream packet place fault) b h h' = absurd h'
one_answer s bytes (LongSound n) (LongStream m) h h' = absurd (omega (arith, h.0, h'.1))
one_answer s bytes (LongSound n) (BadStream packet place fault) h h' = let (xs, frames, last, long) = h.1 in absurd (bad_alone bytes xs packet place fault h'.1 frames)
one_answer s bytes (LongSound n) (LongSound m) h h' =
    let (xs, frames, last, long) = h.1 in
    let (ys, frames', last', long') = h'.1 in
    ap (λ k. LongSound k) (same_last s bytes xs ys n m frames frames' last last')
one_answer s bytes (LongSound n) (Done m) h h' =
    let (xs, frames, last, long) = h.1 in
    let (ys, frames', last', short) = h'.1 in
    absurd (short (subst (IsTooLong s) (same_last s bytes xs ys n m frames frames' last last') long))
one_answer s bytes (LongSound n) b h h' = absurd h'
one_answer s bytes (Done n) (LongStream m) h h' = absurd (omega (arith, h.0, h'.1))
one_answer s bytes (Done n) (BadStream packet place fault) h h' = let (xs, frames, last, short) = h.1 in absurd (bad_alone bytes xs packet place fault h'.1 frames)
one_answer s bytes (Done n) (LongSound m) h h' =
    let (xs, frames, last, short) = h.1 in
    let (ys, frames', last', long) = h'.1 in
    absurd (short (subst (IsTooLong s) (same_last s bytes ys xs m n frames' frames last' last) long))
one_answer s bytes (Done n) (Done m) h h' =
    let (xs, frames, last, short) = h.1 in
    let (ys, frames', last', short') = h'.1 in
    ap (λ k. Done k) (same_last s bytes xs ys n m frames frames' last last')
one_answer s bytes (Done n) b h h' = absurd h'

told : (P : List ℕ → Type 0) (stream : Option (List ℕ)) (bytes : List ℕ) → stream ≡ Some bytes → IfSome stream P → P bytes
told P stream bytes is h = subst (λ t. IfSome t P) is h

pub complete : (s : Settings) (stream : Option (List ℕ)) (result answer : Outcome) (bytes : List ℕ) → IsAnswer s stream result → stream ≡ Some bytes → HasAnswer s bytes answer
    → (result ≡ ReadFault → ⊥) → (result ≡ SoundFault → ⊥) → (result ≡ ReplyFault → ⊥) → (result ≡ answer) ⊎ (result ≡ NoMemory)
complete s stream (Done n) answer bytes is some has read sound reply = inl (one_answer s bytes (Done n) answer (told (λ b. HasAnswer s b (Done n)) stream bytes some is) has)
complete s stream (LongStream n) answer bytes is some has read sound reply = inl (one_answer s bytes (LongStream n) answer (is.0, told (λ b. 16777216 < length b) stream bytes some is.1) has)
complete s stream (LongSound n) answer bytes is some has read sound reply = inl (one_answer s bytes (LongSound n) answer (told (λ b. HasAnswer s b (LongSound n)) stream bytes some is) has)
complete s stream (BadStream packet place fault) answer bytes is some has read sound reply = inl (one_answer s bytes (BadStream packet place fault) answer (told (λ b. HasAnswer s b (BadStream packet place fault)) stream bytes some is) has)
complete s stream NoMemory answer bytes is some has read sound reply = inr refl
complete s stream (BadWords i) answer bytes is some has read sound reply = absurd is
complete s stream ReadFault answer bytes is some has read sound reply = absurd (read refl)
complete s stream SoundFault answer bytes is some has read sound reply = absurd (sound refl)
complete s stream ReplyFault answer bytes is some has read sound reply = absurd (reply refl)

done_is : (m n : ℕ) → Done m ≡ Done n → m ≡ n
done_is m n e = cc

-- what packets give was written
pub done_packets : (s : Settings) (sound_old sound_new replies_old replies_new : Option (List ℕ)) (packets : List Shape) (blocks n : ℕ) (e : Running) → blocks ≡ last_of s packets → e ≡ begun s packets
    → TakeBoth sound_old sound_new replies_old replies_new (header_bytes s (data_len s blocks) ++ (to_end blocks e).sound) (to_first (to_end blocks e).replies) → Done blocks ≡ Done n
    → PlayedPackets s packets n sound_old sound_new replies_old replies_new
done_packets s sound_old sound_new replies_old replies_new packets blocks n e last is took same =
    let took_by : ℕ → Running → Type 0 = λ k r. TakeBoth sound_old sound_new replies_old replies_new (header_bytes s (data_len s k) ++ (to_end k r).sound) (to_first (to_end k r).replies) in
    let both : took_by (last_of s packets) (begun s packets) = subst (took_by (last_of s packets)) is (subst (λ (k : ℕ). took_by k e) last took) in
    record { blocks_are = sym (done_is blocks n same) ∙ last; sound = subst (Appends sound_old sound_new) (sound_is s packets) both.sound; replies = both.replies }

pub played_told : (s : Settings) (stream sound_old sound_new replies_old replies_new : Option (List ℕ)) (packets : List Shape) (n : ℕ) → ArePacketsOf stream packets
    → PlayedPackets s packets n sound_old sound_new replies_old replies_new → Played s stream n sound_old sound_new replies_old replies_new
played_told s None sound_old sound_new replies_old replies_new packets n are played = tt
played_told s (Some bytes) sound_old sound_new replies_old replies_new packets n are played = (packets, subst (Frames packets) are.told are.frames, played.blocks_are, played.sound, played.replies)

-- the answer of a stream whose sound is too long
pub long_answer : (s : Settings) (stream : Option (List ℕ)) (bytes : List ℕ) (packets : List Shape) (blocks : ℕ) → IfSome stream (λ xs. bytes ≡ xs) → length bytes ≤ 16777216 → Frames packets bytes
    → blocks ≡ last_of s packets → IsTooLong s blocks → IfSome stream (λ xs. HasAnswer s xs (LongSound blocks))
long_answer s None bytes packets blocks are size frames last long = tt
long_answer s (Some xs) bytes packets blocks are size frames last long = (subst (λ ys. length ys ≤ 16777216) are size, (packets, subst (Frames packets) are frames, last, long))

-- the answer of a stream that is played
pub done_answer : (s : Settings) (stream : Option (List ℕ)) (bytes : List ℕ) (packets : List Shape) (blocks : ℕ) → IfSome stream (λ xs. bytes ≡ xs) → length bytes ≤ 16777216 → Frames packets bytes
    → blocks ≡ last_of s packets → (IsTooLong s blocks → ⊥) → IfSome stream (λ xs. HasAnswer s xs (Done blocks))
done_answer s None bytes packets blocks are size frames last short = tt
done_answer s (Some xs) bytes packets blocks are size frames last short = (subst (λ ys. length ys ≤ 16777216) are size, (packets, subst (Frames packets) are frames, last, short))

-- and of one whose playing was cut by a fault
pub faulty_answer : (s : Settings) (stream : Option (List ℕ)) (bytes : List ℕ) (packets : List Shape) (blocks : ℕ) → IfSome stream (λ xs. bytes ≡ xs) → length bytes ≤ 16777216 → Frames packets bytes
    → blocks ≡ last_of s packets → (IsTooLong s blocks → ⊥) → IfSome stream (λ xs. (n : ℕ) × HasAnswer s xs (Done n))
faulty_answer s None bytes packets blocks are size frames last short = tt
faulty_answer s (Some xs) bytes packets blocks are size frames last short = (blocks, done_answer s (Some xs) bytes packets blocks are size frames last short)

-- a stream of packets isn't too long
pub few_told : (stream : Option (List ℕ)) (bytes : List ℕ) → IfSome stream (λ xs. bytes ≡ xs) → length bytes ≤ 16777216 → IfSome stream (λ xs. length xs ≤ 16777216)
few_told None bytes are size = tt
few_told (Some xs) bytes are size = subst (λ ys. length ys ≤ 16777216) are size

pub not_long : (b : Bool) (P : Type 0) → (P → IsTrue b) → b ≡ false → P → ⊥
not_long true P tells is h = absurd cc
not_long false P tells is h = let t : IsTrue false = tells h in absurd cc

-- ---- a stream that has no packets

pub unplayed : (o played : Outcome) (P : Type 0) → (IsUnplayed played → ⊥) → IsUnplayed o → o ≡ played → P
unplayed o played P never is e = absurd (never (subst (λ (x : Outcome). IsUnplayed x) e is))

kept : (old : Option (List ℕ)) → Keeps old old
kept None = tt
kept (Some xs) = refl

pub unplayed_writes : (s : Settings) (stream : Option (List ℕ)) (o : Outcome) (sound replies : Option (List ℕ)) → IsUnplayed o → Writes s stream o sound sound replies replies
unplayed_writes s stream NoMemory sound replies is = inl (kept sound, kept replies)
unplayed_writes s stream (BadStream packet place fault) sound replies is = (kept sound, kept replies)
unplayed_writes s stream (LongStream n) sound replies is = (kept sound, kept replies)
unplayed_writes s stream ReadFault sound replies is = (kept sound, kept replies)
unplayed_writes s stream (Done n) sound replies is = tt
unplayed_writes s stream (BadWords i) sound replies is = (kept sound, kept replies)
unplayed_writes s stream (LongSound n) sound replies is = (kept sound, kept replies)
unplayed_writes s stream SoundFault sound replies is = absurd is
unplayed_writes s stream ReplyFault sound replies is = absurd is

-- ---- a stream whose playing was cut

pub front_packets : (s : Settings) (sound_old sound_new replies_old replies_new : Option (List ℕ)) (packets : List Shape) (blocks : ℕ) (e : Running)
    → blocks ≡ last_of s packets → (IsTooLong s blocks → ⊥) → e ≡ begun s packets
    → TakeFronts sound_old sound_new replies_old replies_new (header_bytes s (data_len s blocks) ++ (to_end blocks e).sound) (to_first (to_end blocks e).replies)
    → PlayedFront s packets sound_old sound_new replies_old replies_new
front_packets s sound_old sound_new replies_old replies_new packets blocks e last short is took =
    let took_by : ℕ → Running → Type 0 = λ k r. TakeFronts sound_old sound_new replies_old replies_new (header_bytes s (data_len s k) ++ (to_end k r).sound) (to_first (to_end k r).replies) in
    let fronts : took_by (last_of s packets) (begun s packets) = subst (took_by (last_of s packets)) is (subst (λ (k : ℕ). took_by k e) last took) in
    record {
      short = λ long. short (subst (IsTooLong s) (sym last) long);
      sound = subst (TakesFront sound_old sound_new) (sound_is s packets) fronts.sound;
      replies = fronts.replies;
    }

part_told : (s : Settings) (stream sound_old sound_new replies_old replies_new : Option (List ℕ)) (packets : List Shape) → ArePacketsOf stream packets
    → PlayedFront s packets sound_old sound_new replies_old replies_new → PlayedPart s stream sound_old sound_new replies_old replies_new
part_told s stream sound_old sound_new replies_old replies_new packets are front = record { packets = packets; given = are; short = front.short; sound = front.sound; replies = front.replies }

-- ---- from packets to the stream that they came in

pub end_answer : (s : Settings) (stream : Option (List ℕ)) (packets : List Shape) (o : Outcome) → ArePacketsOf stream packets → IsEnd s packets o → IsAnswer s stream o
end_answer s stream packets (Done n) are end = done_answer s stream are.bytes packets n are.told are.size are.frames end.0 end.1
end_answer s stream packets (LongSound n) are end = long_answer s stream are.bytes packets n are.told are.size are.frames end.0 end.1
end_answer s stream packets NoMemory are end = tt
end_answer s stream packets SoundFault are end = faulty_answer s stream are.bytes packets (last_of s packets) are.told are.size are.frames refl end
end_answer s stream packets ReplyFault are end = faulty_answer s stream are.bytes packets (last_of s packets) are.told are.size are.frames refl end
end_answer s stream packets (BadWords i) are end = absurd end
end_answer s stream packets (BadStream packet place fault) are end = absurd end
end_answer s stream packets (LongStream n) are end = absurd end
end_answer s stream packets ReadFault are end = absurd end

pub end_taken : (s : Settings) (old new : Option (List ℕ)) (packets : List Shape) (o : Outcome) → ArePacketsOf old packets → IsAtEnd new → IsEnd s packets o → TakesStream o old new
end_taken s old new packets (Done n) are at end = at
end_taken s old new packets (LongSound n) are at end = at
end_taken s old new packets NoMemory are at end = inr (at, few_told old are.bytes are.told are.size)
end_taken s old new packets SoundFault are at end = at
end_taken s old new packets ReplyFault are at end = at
end_taken s old new packets (BadWords i) are at end = absurd end
end_taken s old new packets (BadStream packet place fault) are at end = absurd end
end_taken s old new packets (LongStream n) are at end = absurd end
end_taken s old new packets ReadFault are at end = absurd end

pub end_writes : (s : Settings) (stream sound_old sound_new replies_old replies_new : Option (List ℕ)) (packets : List Shape) (o : Outcome) → ArePacketsOf stream packets
    → WritesPackets s packets o sound_old sound_new replies_old replies_new → Writes s stream o sound_old sound_new replies_old replies_new
end_writes s stream sound_old sound_new replies_old replies_new packets (Done n) are w = tt
end_writes s stream sound_old sound_new replies_old replies_new packets (LongSound n) are w = w
end_writes s stream sound_old sound_new replies_old replies_new packets NoMemory are (inl none) = inl none
end_writes s stream sound_old sound_new replies_old replies_new packets NoMemory are (inr front) = inr (part_told s stream sound_old sound_new replies_old replies_new packets are front)
end_writes s stream sound_old sound_new replies_old replies_new packets SoundFault are w = part_told s stream sound_old sound_new replies_old replies_new packets are w
end_writes s stream sound_old sound_new replies_old replies_new packets ReplyFault are w = part_told s stream sound_old sound_new replies_old replies_new packets are w
end_writes s stream sound_old sound_new replies_old replies_new packets (BadWords i) are w = absurd w
end_writes s stream sound_old sound_new replies_old replies_new packets (BadStream packet place fault) are w = absurd w
end_writes s stream sound_old sound_new replies_old replies_new packets (LongStream n) are w = absurd w
end_writes s stream sound_old sound_new replies_old replies_new packets ReadFault are w = absurd w

pub never_read : (s : Settings) (packets : List Shape) (o : Outcome) (P : Type 0) → IsEnd s packets o → o ≡ ReadFault → P
never_read s packets o P end is = absurd (subst (λ (x : Outcome). IsEnd s packets x) is end)

-- ---- packets have one outcome

pub one_end : (s : Settings) (packets : List Shape) (a b : Outcome) → HasEnd s packets a → HasEnd s packets b → a ≡ b
one_end s packets NoMemory b h h' = absurd h
one_end s packets (BadWords i) b h h' = absurd h
one_end s packets (BadStream packet place fault) b h h' = absurd h
one_end s packets (LongStream n) b h h' = absurd h
one_end s packets ReadFault b h h' = absurd h
one_end s packets SoundFault b h h' = absurd h
one_end s packets ReplyFault b h h' = absurd h
one_end s packets (LongSound n) (LongSound m) h h' = ap (λ k. LongSound k) (h.0 ∙ sym h'.0)
one_end s packets (LongSound n) (Done m) h h' = absurd (h'.1 (subst (IsTooLong s) (h.0 ∙ sym h'.0) h.1))
one_end s packets (LongSound n) b h h' = absurd h'
one_end s packets (Done n) (Done m) h h' = ap (λ k. Done k) (h.0 ∙ sym h'.0)
one_end s packets (Done n) (LongSound m) h h' = absurd (h.1 (subst (IsTooLong s) (h'.0 ∙ sym h.0) h'.1))
one_end s packets (Done n) b h h' = absurd h'

pub end_complete : (s : Settings) (packets : List Shape) (result outcome : Outcome) → IsEnd s packets result → HasEnd s packets outcome → (result ≡ SoundFault → ⊥) → (result ≡ ReplyFault → ⊥) → (result ≡ outcome) ⊎ (result ≡ NoMemory)
end_complete s packets (Done n) outcome is has sound reply = inl (one_end s packets (Done n) outcome is has)
end_complete s packets (LongSound n) outcome is has sound reply = inl (one_end s packets (LongSound n) outcome is has)
end_complete s packets NoMemory outcome is has sound reply = inr refl
end_complete s packets SoundFault outcome is has sound reply = absurd (sound refl)
end_complete s packets ReplyFault outcome is has sound reply = absurd (reply refl)
end_complete s packets (BadWords i) outcome is has sound reply = absurd is
end_complete s packets (BadStream packet place fault) outcome is has sound reply = absurd is
end_complete s packets (LongStream n) outcome is has sound reply = absurd is
end_complete s packets ReadFault outcome is has sound reply = absurd is
