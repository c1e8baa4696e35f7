-- What was written of packets was written of the stream that they came in.
use Rattle.std.proofs.Common.{◌≡◌, ℕ, List, Option, sym, subst}
use Rattle.std.proofs.KnownBytes.{Keeps-refl}
use Rattle.sn_osc.specs.Shape.{Shape}
use Rattle.sn_ports.specs.Octets.{Octets}
use Rattle.sn_pcm.specs.declared.settings.Settings.{Settings}
use Rattle.sn_render.specs.Outcomes.{ArePacketsOf, IsUnplayed}
use Rattle.sn_render.specs.Playing.{IsEnd, IsUnreached}
use Rattle.sn_render.specs.declared.outcome.Outcome.{Outcome}
use Rattle.sn_render.specs.declared.outcome.Outcome.TheVariants.{Done, NoMemory, BadWords, BadStream, LongStream, LongSound, ReadFault, SoundFault, ReplyFault}
use Rattle.sn_top.specs.Planning.{ArePlanned, ByPlanWords, ForPlanned, WritesPlan, WritesReport}

pub done_is : (m n : ℕ) → Done m ≡ Done n → m ≡ n
done_is m n e = cc

pub unreached_end : (s : Settings) (packets : List Shape) (o : Outcome) → IsUnreached s packets o → IsEnd s packets o
unreached_end s packets (LongSound n) h = h
unreached_end s packets NoMemory h = tt
unreached_end s packets (Done n) h = absurd h
unreached_end s packets SoundFault h = absurd h
unreached_end s packets ReplyFault h = absurd h
unreached_end s packets (BadWords i) h = absurd h
unreached_end s packets (BadStream packet place fault) h = absurd h
unreached_end s packets (LongStream n) h = absurd h
unreached_end s packets ReadFault h = absurd h

pub unreached_writes : (s : Settings) (packets : List Shape) (o : Outcome) (old : Option (List ℕ)) → IsUnreached s packets o → WritesReport s packets o old old
unreached_writes s packets (LongSound n) old h = Keeps-refl old
unreached_writes s packets NoMemory old h = Keeps-refl old
unreached_writes s packets (Done n) old h = absurd h
unreached_writes s packets SoundFault old h = absurd h
unreached_writes s packets ReplyFault old h = absurd h
unreached_writes s packets (BadWords i) old h = absurd h
unreached_writes s packets (BadStream packet place fault) old h = absurd h
unreached_writes s packets (LongStream n) old h = absurd h
unreached_writes s packets ReadFault old h = absurd h

pub not_reached : (s : Settings) (packets : List Shape) (o p : Outcome) (P : Type 0) → (IsUnreached s packets p → ⊥) → IsUnreached s packets o → o ≡ p → P
not_reached s packets o p P never is e = absurd (never (subst (IsUnreached s packets) e is))

pub stream_writes : (s : Settings) (stream old new : Option (List ℕ)) (packets : List Shape) (o : Outcome) → ArePacketsOf stream packets → IsEnd s packets o → WritesReport s packets o old new → WritesPlan s stream o old new
stream_writes s stream old new packets (Done n) are end w = tt
stream_writes s stream old new packets SoundFault are end w = record { packets = packets; given = are; short = end; front = w }
stream_writes s stream old new packets NoMemory are end w = w
stream_writes s stream old new packets (LongSound n) are end w = w
stream_writes s stream old new packets (BadWords i) are end w = absurd w
stream_writes s stream old new packets (BadStream packet place fault) are end w = absurd w
stream_writes s stream old new packets (LongStream n) are end w = absurd w
stream_writes s stream old new packets ReadFault are end w = absurd w
stream_writes s stream old new packets ReplyFault are end w = absurd w

pub unplayed_plan : (s : Settings) (stream : Option (List ℕ)) (o : Outcome) (old : Option (List ℕ)) → IsUnplayed o → WritesPlan s stream o old old
unplayed_plan s stream NoMemory old is = Keeps-refl old
unplayed_plan s stream (BadStream packet place fault) old is = Keeps-refl old
unplayed_plan s stream (LongStream n) old is = Keeps-refl old
unplayed_plan s stream ReadFault old is = Keeps-refl old
unplayed_plan s stream (Done n) old is = tt
unplayed_plan s stream (BadWords i) old is = Keeps-refl old
unplayed_plan s stream (LongSound n) old is = Keeps-refl old
unplayed_plan s stream SoundFault old is = absurd is
unplayed_plan s stream ReplyFault old is = absurd is

-- no plan has a reply fault
pub no_reply : (s : Settings) (stream old new : Option (List ℕ)) (o : Outcome) → WritesPlan s stream o old new → o ≡ ReplyFault → ⊥
no_reply s stream old new o w e = subst (λ (x : Outcome). WritesPlan s stream x old new) e w

pub by_plan : (words : List Octets) (s : Settings) (P : Settings → Type 0) → ArePlanned words s → P s → ByPlanWords words P
by_plan words s P chosen holds = subst (λ r. ForPlanned words r P) (sym chosen) (s, chosen, holds)
