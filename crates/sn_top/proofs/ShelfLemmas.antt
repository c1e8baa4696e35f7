-- A stream whose samples came in from a shelf has one outcome.
use Rattle.std.proofs.Common.{◌≡◌, ◌≤◌, ◌^◌, ◌⊎◌, ℕ, List, [], ◌∷◌, ◌++◌, length, map, Option, Some, None, refl, sym, ap, subst, ◌∙◌, arith, inl, inr}
use Rattle.std.specs.Prelude.{IfSome}
use Rattle.std.specs.List.{AllByRecursion}
use Rattle.std.specs.Io.KnownBytes.{Keeps, IsAtEnd}
use Rattle.std.proofs.KnownBytes.{Keeps-refl}
use Rattle.std.proofs.lemmas.List.{length-map}
use Rattle.sn_osc.specs.Frames.{Frames}
use Rattle.sn_osc.specs.Shape.{Shape, shape}
use Rattle.sn_osc.specs.declared.packet.Packet.{Packet}
use Rattle.sn_osc.specs.declared.fault.StreamFault.{StreamFault}
use Rattle.sn_osc.proofs.Streams.{one_list, one_stream_fault, no_more}
use Rattle.sn_pcm.specs.declared.settings.Settings.{Settings}
use Rattle.sn_render.specs.Outcomes.{IsTooLong, IsAnswer, IsUnplayed, ArePacketsOf, TakesStream}
use Rattle.sn_render.specs.Playing.{ArePlayable, HasEnd, IsEnd, PlayedPackets, WritesPackets}
use Rattle.sn_render.specs.declared.outcome.Outcome.{Outcome}
use Rattle.sn_render.specs.declared.outcome.Outcome.TheVariants.{Done, NoMemory, BadWords, BadStream, LongStream, LongSound, ReadFault, SoundFault, ReplyFault}
use Rattle.sn_render.proofs.ArrivingLemmas.{frames_playable}
use Rattle.sn_render.proofs.GatheringLemmas.{told, bad_alone}
use Rattle.sn_render.proofs.OutcomeLemmas.{few_told, one_end}
use Rattle.sn_shelf.specs.Asking.{AllKeepUnasked}
use Rattle.sn_shelf.specs.Files.{File}
use Rattle.sn_shelf.specs.Expanded.{expanded_packets}
use Rattle.sn_shelf.specs.Growth.{AllSpelledWithin}
use Rattle.sn_top.specs.declared.shelving.ShelfOutcome.{ShelfOutcome}
use Rattle.sn_top.specs.declared.shelving.ShelfOutcome.TheVariants.{Ran, ShelfFault}
use Rattle.sn_top.specs.Shelving.{AreExpanded, HasRun, IsRun, IsShelfRun, PlayedByShelf, WritesByShelf}

-- ---- the packets that are expanded

frames_within : (xs : List Shape) (bytes : List ℕ) → Frames xs bytes → AllSpelledWithin 65536 xs
frames_within [] bytes h = tt
frames_within (x ∷ xs) bytes h = let (front, rest, size, spelled, others, parts) = h in ((front, spelled, no_more (length front) size), frames_within xs rest others)

pub packets_within : (stream : Option (List ℕ)) (xs : List Shape) → ArePacketsOf stream xs → AllSpelledWithin 65536 xs
packets_within stream xs are = frames_within xs are.bytes are.frames

pub expanded_playable : (stream : Option (List ℕ)) (packets expanded : List Packet) → ArePacketsOf stream (map shape packets) → length expanded ≡ length packets → AllSpelledWithin (2 ^ 27) (map shape expanded)
    → ArePlayable (map shape expanded)
expanded_playable stream packets expanded are count spelled =
    let few = (frames_playable (map shape packets) are.bytes are.frames are.size).few in
    record { few = omega (arith, few, count, length-map packets shape, length-map expanded shape); spelled = spelled }

-- ---- outcomes of a stream without packets

pub ran_is : (a b : Outcome) → Ran a ≡ Ran b → a ≡ b
ran_is a b e = cc

pub unplayed_run : (s : Settings) (stream : Option (List ℕ)) (shelf : Option (List File)) (o : Outcome) → IsUnplayed o → IsAnswer s stream o → IsRun s stream shelf o
unplayed_run s stream shelf NoMemory u is = tt
unplayed_run s stream shelf ReadFault u is = tt
unplayed_run s stream shelf (LongStream n) u is = is
unplayed_run s stream shelf (BadStream packet place fault) u is = is
unplayed_run s stream shelf (Done n) u is = absurd u
unplayed_run s stream shelf (BadWords i) u is = absurd u
unplayed_run s stream shelf (LongSound n) u is = absurd u
unplayed_run s stream shelf SoundFault u is = absurd u
unplayed_run s stream shelf ReplyFault u is = absurd u

pub unplayed_never : (o played : Outcome) (P : Type 0) → (IsUnplayed played → ⊥) → IsUnplayed o → Ran o ≡ Ran played → P
unplayed_never o played P never is e = absurd (never (subst (λ (x : Outcome). IsUnplayed x) (ran_is o played e) is))

pub unplayed_shelf : (s : Settings) (stream : Option (List ℕ)) (shelf : Option (List File)) (o : Outcome) (sound replies : Option (List ℕ)) → IsUnplayed o → WritesByShelf s stream shelf (Ran o) sound sound replies replies
unplayed_shelf s stream shelf NoMemory sound replies is = inl (Keeps-refl sound, Keeps-refl replies)
unplayed_shelf s stream shelf (BadStream packet place fault) sound replies is = (Keeps-refl sound, Keeps-refl replies)
unplayed_shelf s stream shelf (LongStream n) sound replies is = (Keeps-refl sound, Keeps-refl replies)
unplayed_shelf s stream shelf ReadFault sound replies is = (Keeps-refl sound, Keeps-refl replies)
unplayed_shelf s stream shelf (Done n) sound replies is = tt
unplayed_shelf s stream shelf (BadWords i) sound replies is = absurd is
unplayed_shelf s stream shelf (LongSound n) sound replies is = absurd is
unplayed_shelf s stream shelf SoundFault sound replies is = absurd is
unplayed_shelf s stream shelf ReplyFault sound replies is = absurd is

-- ---- outcomes of packets that were expanded

module _ (s : Settings) (stream : Option (List ℕ)) (shelf : Option (List File)) (packets expanded : List Shape) (are : ArePacketsOf stream packets) (from : IfSome shelf (λ files. expanded ≡ expanded_packets files packets))
    (unasked : AllKeepUnasked packets expanded) where
  expansion : AreExpanded stream shelf expanded
  expansion = record { packets = packets; given = are; are = from; unasked = unasked }

  pub end_run : (o : Outcome) → IsEnd s expanded o → IsRun s stream shelf o
  end_run (Done n) end = (expanded, expansion, end)
  end_run (LongSound n) end = (expanded, expansion, end)
  end_run NoMemory end = tt
  end_run SoundFault end = (expanded, expansion, end)
  end_run ReplyFault end = (expanded, expansion, end)
  end_run (BadWords i) end = absurd end
  end_run (BadStream packet place fault) end = absurd end
  end_run (LongStream n) end = absurd end
  end_run ReadFault end = absurd end

  pub end_played : (n : ℕ) (sound_old sound_new replies_old replies_new : Option (List ℕ)) → PlayedPackets s expanded n sound_old sound_new replies_old replies_new → PlayedByShelf s stream shelf n sound_old sound_new replies_old replies_new
  end_played n sound_old sound_new replies_old replies_new played = (expanded, expansion, played)

  pub end_writes : (o : Outcome) (sound_old sound_new replies_old replies_new : Option (List ℕ)) → WritesPackets s expanded o sound_old sound_new replies_old replies_new
      → WritesByShelf s stream shelf (Ran o) sound_old sound_new replies_old replies_new
  end_writes (Done n) sound_old sound_new replies_old replies_new w = tt
  end_writes (LongSound n) sound_old sound_new replies_old replies_new w = w
  end_writes NoMemory sound_old sound_new replies_old replies_new (inl none) = inl none
  end_writes NoMemory sound_old sound_new replies_old replies_new (inr front) = inr (expanded, expansion, front)
  end_writes SoundFault sound_old sound_new replies_old replies_new w = (expanded, expansion, w)
  end_writes ReplyFault sound_old sound_new replies_old replies_new w = (expanded, expansion, w)
  end_writes (BadWords i) sound_old sound_new replies_old replies_new w = absurd w
  end_writes (BadStream packet place fault) sound_old sound_new replies_old replies_new w = absurd w
  end_writes (LongStream n) sound_old sound_new replies_old replies_new w = absurd w
  end_writes ReadFault sound_old sound_new replies_old replies_new w = absurd w

pub never_end : (s : Settings) (packets : List Shape) (o other : Outcome) (P : Type 0) → (IsEnd s packets other → ⊥) → IsEnd s packets o → Ran o ≡ Ran other → P
never_end s packets o other P never end is = absurd (never (subst (λ (x : Outcome). IsEnd s packets x) (ran_is o other is) end))

-- all of the stream was taken
pub all_taken : (s : Settings) (old new : Option (List ℕ)) (packets expanded : List Shape) (o : Outcome) → ArePacketsOf old packets → IsAtEnd new → IsEnd s expanded o → TakesStream o old new
all_taken s old new packets expanded (Done n) are at end = at
all_taken s old new packets expanded (LongSound n) are at end = at
all_taken s old new packets expanded NoMemory are at end = inr (at, few_told old are.bytes are.told are.size)
all_taken s old new packets expanded SoundFault are at end = at
all_taken s old new packets expanded ReplyFault are at end = at
all_taken s old new packets expanded (BadWords i) are at end = absurd end
all_taken s old new packets expanded (BadStream packet place fault) are at end = absurd end
all_taken s old new packets expanded (LongStream n) are at end = absurd end
all_taken s old new packets expanded ReadFault are at end = absurd end

-- ---- one outcome

-- ---- a stream and a shelf that are told

module _ (bytes : List ℕ) (files : List File) where
  framed : (xs : List Shape) → (h : AreExpanded (Some bytes) (Some files) xs) → Frames h.packets bytes
  framed xs h = subst (Frames h.packets) h.given.told h.given.frames

  few : (xs : List Shape) → AreExpanded (Some bytes) (Some files) xs → length bytes ≤ 16777216
  few xs h = subst (λ l. length l ≤ 16777216) h.given.told h.given.size

  same_expanded : (a b : List Shape) → AreExpanded (Some bytes) (Some files) a → AreExpanded (Some bytes) (Some files) b → a ≡ b
  same_expanded a b h h' = h.are ∙ ap (expanded_packets files) (one_list h.packets h'.packets bytes (framed a h) (framed b h')) ∙ sym h'.are

same_bad : (k k' p p' : ℕ) (f f' : StreamFault) → k ≡ k' → p ≡ p' → f ≡ f' → BadStream k p f ≡ BadStream k' p' f'
same_bad k k' p p' f f' a b c = cc

one_run : (s : Settings) (bytes : List ℕ) (files : List File) (a b : Outcome) → HasRun s bytes files a → HasRun s bytes files b → a ≡ b
one_run s bytes files NoMemory b h h' = absurd h
one_run s bytes files (BadWords i) b h h' = absurd h
one_run s bytes files ReadFault b h h' = absurd h
one_run s bytes files SoundFault b h h' = absurd h
one_run s bytes files ReplyFault b h h' = absurd h
one_run s bytes files (LongStream n) (LongStream m) h h' = ap (λ k. LongStream k) (h.0 ∙ sym h'.0)
one_run s bytes files (LongStream n) (BadStream packet place fault) h h' = absurd (omega (arith, h.1, h'.0))
one_run s bytes files (LongStream n) (LongSound m) h h' = let (ys, is', end') = h' in absurd (omega (arith, h.1, few bytes files ys is'))
one_run s bytes files (LongStream n) (Done m) h h' = let (ys, is', end') = h' in absurd (omega (arith, h.1, few bytes files ys is'))
one_run s bytes files (LongStream n) b h h' = absurd h'
one_run s bytes files (BadStream packet place fault) (LongStream m) h h' = absurd (omega (arith, h.0, h'.1))
one_run s bytes files (BadStream packet place fault) (BadStream packet' place' fault') h h' =
    let a = h.1 in
    let b = h'.1 in
    let same = one_stream_fault a.before b.before 0 a.front a.rest b.front b.rest place place' fault fault' a.frames b.frames (sym a.parts ∙ b.parts) a.why b.why in
    same_bad packet packet' place place' fault fault' (sym a.count ∙ same.0 ∙ b.count) same.1 same.2
one_run s bytes files (BadStream packet place fault) (LongSound m) h h' = let (xs, is, end) = h' in absurd (bad_alone bytes is.packets packet place fault h.1 (framed bytes files xs is))
one_run s bytes files (BadStream packet place fault) (Done m) h h' = let (xs, is, end) = h' in absurd (bad_alone bytes is.packets packet place fault h.1 (framed bytes files xs is))
one_run s bytes files (BadStream packet place fault) b h h' = absurd h'
one_run s bytes files (LongSound n) (LongStream m) h h' = let (xs, is, end) = h in absurd (omega (arith, h'.1, few bytes files xs is))
one_run s bytes files (LongSound n) (BadStream packet place fault) h h' = let (xs, is, end) = h in absurd (bad_alone bytes is.packets packet place fault h'.1 (framed bytes files xs is))
one_run s bytes files (LongSound n) (LongSound m) h h' =
    let (xs, is, end) = h in
    let (ys, is', end') = h' in
    one_end s xs (LongSound n) (LongSound m) end (subst (λ (zs : List Shape). HasEnd s zs (LongSound m)) (sym (same_expanded bytes files xs ys is is')) end')
one_run s bytes files (LongSound n) (Done m) h h' =
    let (xs, is, end) = h in
    let (ys, is', end') = h' in
    one_end s xs (LongSound n) (Done m) end (subst (λ (zs : List Shape). HasEnd s zs (Done m)) (sym (same_expanded bytes files xs ys is is')) end')
one_run s bytes files (LongSound n) b h h' = absurd h'
one_run s bytes files (Done n) (LongStream m) h h' = let (xs, is, end) = h in absurd (omega (arith, h'.1, few bytes files xs is))
one_run s bytes files (Done n) (BadStream packet place fault) h h' = let (xs, is, end) = h in absurd (bad_alone bytes is.packets packet place fault h'.1 (framed bytes files xs is))
one_run s bytes files (Done n) (LongSound m) h h' =
    let (xs, is, end) = h in
    let (ys, is', end') = h' in
    one_end s xs (Done n) (LongSound m) end (subst (λ (zs : List Shape). HasEnd s zs (LongSound m)) (sym (same_expanded bytes files xs ys is is')) end')
one_run s bytes files (Done n) (Done m) h h' =
    let (xs, is, end) = h in
    let (ys, is', end') = h' in
    one_end s xs (Done n) (Done m) end (subst (λ (zs : List Shape). HasEnd s zs (Done m)) (sym (same_expanded bytes files xs ys is is')) end')
one_run s bytes files (Done n) b h h' = absurd h'

told_run : (s : Settings) (stream : Option (List ℕ)) (shelf : Option (List File)) (bytes : List ℕ) (files : List File) (o : Outcome) → stream ≡ Some bytes → shelf ≡ Some files → IsRun s stream shelf o → IsRun s (Some bytes) (Some files) o
told_run s stream shelf bytes files o one other h =
    subst (λ (q : Option (List File)). IsRun s (Some bytes) q o) other (subst (λ (p : Option (List ℕ)). IsRun s p shelf o) one h)

pub complete : (s : Settings) (stream : Option (List ℕ)) (shelf : Option (List File)) (result : ShelfOutcome) (answer : Outcome) (bytes : List ℕ) (files : List File) → IsShelfRun s stream shelf result
    → stream ≡ Some bytes → shelf ≡ Some files → HasRun s bytes files answer → (result ≡ Ran ReadFault → ⊥) → (result ≡ ShelfFault → ⊥) → (result ≡ Ran SoundFault → ⊥) → (result ≡ Ran ReplyFault → ⊥)
    → (result ≡ Ran answer) ⊎ (result ≡ Ran NoMemory)
complete s stream shelf ShelfFault answer bytes files is one other has read failed sound reply = absurd (failed refl)
complete s stream shelf (Ran (Done n)) answer bytes files is one other has read failed sound reply =
    inl (ap (λ o. Ran o) (one_run s bytes files (Done n) answer (told_run s stream shelf bytes files (Done n) one other is) has))
complete s stream shelf (Ran (LongStream n)) answer bytes files is one other has read failed sound reply =
    inl (ap (λ o. Ran o) (one_run s bytes files (LongStream n) answer (told_run s stream shelf bytes files (LongStream n) one other is) has))
complete s stream shelf (Ran (LongSound n)) answer bytes files is one other has read failed sound reply =
    inl (ap (λ o. Ran o) (one_run s bytes files (LongSound n) answer (told_run s stream shelf bytes files (LongSound n) one other is) has))
complete s stream shelf (Ran (BadStream packet place fault)) answer bytes files is one other has read failed sound reply =
    inl (ap (λ o. Ran o) (one_run s bytes files (BadStream packet place fault) answer (told_run s stream shelf bytes files (BadStream packet place fault) one other is) has))
complete s stream shelf (Ran NoMemory) answer bytes files is one other has read failed sound reply = inr refl
complete s stream shelf (Ran (BadWords i)) answer bytes files is one other has read failed sound reply = absurd is
complete s stream shelf (Ran ReadFault) answer bytes files is one other has read failed sound reply = absurd (read refl)
complete s stream shelf (Ran SoundFault) answer bytes files is one other has read failed sound reply = absurd (sound refl)
complete s stream shelf (Ran ReplyFault) answer bytes files is one other has read failed sound reply = absurd (reply refl)
