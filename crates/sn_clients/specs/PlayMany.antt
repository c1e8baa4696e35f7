-- What a session of several clients gives: the engine's own steps, over its turns; nothing is written in between.
use Rattle.std.specs.Prelude.{◌≡◌, ℕ, zero, suc, Bool, true, false, if◌then◌else◌, List, [], ◌∷◌, length, Some, Result, Ok, Err, slice_index_or, slice_set}
use Rattle.sn_ports.specs.Limits.{most_entries}
use Rattle.sn_osc.specs.Reading.{read}
use Rattle.sn_osc.specs.Shape.{Shape}
use Rattle.sn_osc.specs.declared.fault.PacketFault.{PacketFault}
use Rattle.sn_pcm.specs.declared.settings.Settings.{Settings}
use Rattle.sn_engine.specs.Arriving.{with_offered}
use Rattle.sn_engine.specs.Entries.{entries_of}
use Rattle.sn_engine.specs.Refusing.{with_bad_packet}
use Rattle.sn_engine.specs.Running.{Running, opened, at_boundary, flow_at}
use Rattle.sn_engine.specs.declared.standing.Flow.{Flow}
use Rattle.sn_engine.specs.declared.standing.Flow.TheVariants as flows
use Rattle.sn_render.specs.Play.{after_block}
use Rattle.sn_clients.specs.declared.turns.How.{How}
use Rattle.sn_clients.specs.declared.turns.How.TheVariants.{Quit, Over, NoMemory, SoundFault, TurnsFull}
use Rattle.sn_clients.specs.declared.turns.Turn.{Turn}
use Rattle.sn_clients.specs.declared.turns.Turn.TheVariants.{Frame, Ticks}

-- ---- what is done at each turn

-- a client's frame arrives, or a number of blocks are due
pub data Act : Type 0 where
  arrives : ℕ → List ℕ → Act
  blocks : ℕ → Act

-- the frames of each client
abbrev pub Streams : Type 0
Streams = List (List (List ℕ))

-- the next frame of a client's stream arrives, if there is one
abbrev pub next_act : ℕ → Streams → List (List ℕ) → (Streams → List Act) → List Act
next_act client streams [] more = more streams
next_act client streams (frame ∷ frames) more = arrives client frame ∷ more (slice_set streams client frames)

abbrev pub acts_from : List Turn → Streams → List Act
acts_from [] streams = []
acts_from (Frame client ∷ turns) streams = next_act client streams (slice_index_or streams client []) (acts_from turns)
acts_from (Ticks n ∷ turns) streams = blocks n ∷ acts_from turns streams

-- ---- what is played

-- what is played, and whether a boundary has accepted `/quit`
pub record Played : Type 0 where
  pub play : Running
  pub quit : Bool

-- The entries of a packet arrive at the next boundary, from this client. What is no packet is answered.
abbrev pub with_packet : ℕ → Result Shape PacketFault → Running → Running
with_packet client (Ok x) r = with_offered client (entries_of x) r
with_packet client (Err fault) r = with_bad_packet client r

abbrev pub arrived : ℕ → List ℕ → Running → Running
arrived client frame r = with_packet client (read frame) r

abbrev pub unless_quit : Flow → Running → Played → Played
unless_quit flows.On r more = more
unless_quit flows.Quit r more = record { play = r; quit = true }

-- n times a boundary and, unless `/quit` was accepted at it, its block
abbrev pub ticks : ℕ → Running → Played
ticks zero r = record { play = r; quit = false }
ticks (suc n) r = unless_quit (flow_at r) (at_boundary r) (ticks n (after_block r))

abbrev pub acted : Act → Played → Played
acted (arrives client frame) p = record p { play = arrived client frame p.play }
acted (blocks n) p = ticks n p.play

-- nothing comes after `/quit` was accepted
abbrev pub after_act : Act → Played → Played
after_act act p = if p.quit then p else acted act p

abbrev pub after_acts : List Act → Played → Played
after_acts [] p = p
after_acts (act ∷ acts) p = after_acts acts (after_act act p)

-- none of the acts comes after `/quit` was accepted
abbrev pub WhileOpen : List Act → Played → Type 0
WhileOpen [] p = Unit {0}
WhileOpen (act ∷ acts) p = (p.quit ≡ false) × WhileOpen acts (after_act act p)

-- ---- a whole session

-- Nothing has come, and block 0 begins at a time. No more entries wait than may.
abbrev pub start : Settings → ℕ → ℕ → Played
start s base clients = record { play = opened s base (Some most_entries) clients; quit = false }

-- One more boundary follows at the end `Over`, and at `Quit` if `/quit` was accepted at none of the turns.
abbrev pub closed : How → Played → Running
closed Over p = at_boundary p.play
closed Quit p = if p.quit then p.play else at_boundary p.play
closed NoMemory p = p.play
closed SoundFault p = p.play
closed TurnsFull p = p.play

-- what is played over the turns, if the frames of each client are these
abbrev pub play_many : Settings → ℕ → Streams → List Turn → How → Running
play_many s base streams turns how = closed how (after_acts (acts_from turns streams) (start s base (length streams)))
