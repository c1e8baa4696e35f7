-- What a connection gives: the engine's own steps, over the events that come; nothing is written in between.
use Rattle.std.specs.Prelude.{ℕ, zero, suc, ◌+◌, List, [], ◌∷◌, length, Some, Bool, ◌||◌, nat_le, if◌then◌else◌, Result, Ok, Err}
use Rattle.sn_ports.specs.Limits.{most_count, most_entries}
use Rattle.sn_ports.specs.Links.{LinkEvent, bytes, ticks}
use Rattle.sn_osc.specs.Framing.{Framing}
use Rattle.sn_osc.specs.Framed.{fed_with}
use Rattle.sn_osc.specs.Frames.{FirstFrame, cut, bad_size, frame, first_frame}
use Rattle.sn_osc.specs.Reading.{read}
use Rattle.sn_osc.specs.Shape.{Shape}
use Rattle.sn_osc.specs.Unpacking.{Unpacked, unpacked}
use Rattle.sn_osc.specs.declared.fault.PacketFault.{PacketFault}
use Rattle.sn_pcm.specs.declared.settings.Settings.{Settings}
use Rattle.sn_engine.specs.Arriving.{with_offered}
use Rattle.sn_engine.specs.Entries.{entries_of}
use Rattle.sn_engine.specs.Refusing.{with_bad_packet}
use Rattle.sn_engine.specs.Running.{Running, opened, at_boundary, flow_at}
use Rattle.sn_engine.specs.declared.standing.Flow.{Flow}
use Rattle.sn_engine.specs.declared.standing.Flow.TheVariants as flows
use Rattle.sn_render.specs.Play.{after_block, to_first}
use Rattle.sn_server.specs.declared.ended.Ended.{Ended}
use Rattle.sn_server.specs.declared.ended.Ended.TheVariants.{Quit, Closed, Cut, BadFrame, Worn}

-- a connection that goes on: what is played, and the bytes of an unfinished frame with the number of all that came
pub record Live : Type 0 where
  pub play : Running
  pub framing : Framing

-- a connection that has ended: what was played, and how it ended
pub record Over : Type 0 where
  pub play : Running
  pub ending : Ended

pub data Course : Type 0 where
  going : Live → Course
  ended : Over → Course

abbrev pub ends : Running → Ended → Course
ends r how = ended (record { play = r; ending = how })

-- ---- bytes

-- The entries of a packet arrive at the next boundary, from client 0. What is no packet is answered.
abbrev pub with_packet : Result Shape PacketFault → Running → Running
with_packet (Ok x) r = with_offered 0 (entries_of x) r
with_packet (Err fault) r = with_bad_packet 0 r

abbrev pub with_packets : List (List ℕ) → Running → Running
with_packets [] r = r
with_packets (packet ∷ packets) r = with_packets packets (with_packet (read packet) r)

-- what follows the last whole frame is kept, if it isn't a bad size
abbrev pub keep : FirstFrame → Live → Course
keep cut v = going v
keep (frame packet rest) v = going v
keep (bad_size size) v = ends v.play (BadFrame size)

-- whole frames are taken out of so many bytes that came
abbrev pub take_frames : Unpacked → ℕ → Running → Course
take_frames u fed r = keep (first_frame u.rest) (record { play = with_packets u.packets r; framing = record { kept = u.rest; fed = fed } })

abbrev pub take_all : Framing → Running → Course
take_all f r = take_frames (unpacked f.kept) f.fed r

-- bytes come
abbrev pub receive : List ℕ → Live → Course
receive piece v = take_all (fed_with piece v.framing) v.play

-- ---- blocks

-- as many bytes came, or as many blocks were done, as may
abbrev pub is_worn : Live → Bool
is_worn v = nat_le most_count v.framing.fed || nat_le most_count v.play.block

abbrev pub worn : Live → Over
worn v = record { play = v.play; ending = Worn v.framing.fed v.play.block }

abbrev pub unless_worn : Live → Course → Course
unless_worn v c = if is_worn v then ended (worn v) else c

abbrev pub unless_quit : Flow → Running → Course → Course
unless_quit flows.On r c = c
unless_quit flows.Quit r c = ends r Quit

-- the block after its boundary, and its settling
abbrev pub after_tick : Live → Live
after_tick v = record v { play = after_block v.play }

-- n times a boundary and, unless `/quit` was accepted at it, its block
abbrev pub tick : ℕ → Live → Course
tick zero v = going v
tick (suc n) v = unless_worn v (unless_quit (flow_at v.play) (at_boundary v.play) (tick n (after_tick v)))

-- ---- events

abbrev pub event : LinkEvent → Live → Course
event (bytes piece) v = receive piece v
event (ticks n) v = tick n v

-- after an event, if it has not ended
abbrev pub after_event : LinkEvent → Course → Course
after_event e (ended o) = ended o
after_event e (going v) = unless_worn v (event e v)

abbrev pub after_events : List LinkEvent → Course → Course
after_events [] c = c
after_events (e ∷ es) c = after_events es (after_event e c)

-- nothing more comes
abbrev pub closing : List ℕ → Ended
closing [] = Closed
closing (b ∷ bs) = Cut (length (b ∷ bs))

abbrev pub closed : Live → Over
closed v = record { play = v.play; ending = closing v.framing.kept }

abbrev pub at_end : Course → Over
at_end (ended o) = o
at_end (going v) = if is_worn v then worn v else closed v

-- ---- the whole connection

-- Nothing has come, and block 0 begins at a time. No more entries wait than may.
abbrev pub beginning : Settings → ℕ → Live
beginning s base = record { play = opened s base (Some most_entries) 1; framing = record { kept = []; fed = 0 } }

-- what was played over all events, and how it ended
abbrev pub over_events : Settings → ℕ → List LinkEvent → Over
over_events s base es = at_end (after_events es (going (beginning s base)))

pub record Performance : Type 0 where
  pub sound : List ℕ
  pub sent : List ℕ
  pub ending : Ended

-- the sound as PCM without a header, the bytes that were sent, and the ending
abbrev pub performance : Over → Performance
performance o = record { sound = o.play.sound; sent = to_first o.play.replies; ending = o.ending }

abbrev pub play_events : Settings → ℕ → List LinkEvent → Performance
play_events s base es = performance (over_events s base es)

-- how many bytes come over events
abbrev pub bytes_in : List LinkEvent → ℕ
bytes_in [] = 0
bytes_in (bytes piece ∷ es) = length piece + bytes_in es
bytes_in (ticks n ∷ es) = bytes_in es
