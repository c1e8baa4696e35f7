-- The lines that are printed, and the statuses.
use Rattle.std.specs.Prelude.{ℕ, Bool, true, false, List, ◌++◌, codes, Option, Some, None}
use Rattle.std.specs.Fmt.{decimal, signed_decimal}
use Rattle.sn_osc.specs.declared.fault.PacketKind.{PacketKind}
use Rattle.sn_osc.specs.declared.fault.PacketKind.TheVariants.{Size, Start, Unended, Padding, NoTags, ShortArgs, LongArgs, BlobSize, ElementSize, Head, NestedEarly, TooDeep}
use Rattle.sn_osc.specs.declared.fault.StreamFault.{StreamFault}
use Rattle.sn_osc.specs.declared.fault.StreamFault.TheVariants.{Packet, FrameSize, FrameCut}
use Rattle.sn_render.specs.declared.outcome.Outcome.{Outcome}
use Rattle.sn_render.specs.declared.outcome.Outcome.TheVariants as outcome
use Rattle.sn_render.specs.Statuses.{outcome_status}
use Rattle.sn_server.specs.declared.ended.Ended.{Ended}
use Rattle.sn_server.specs.declared.ended.Ended.TheVariants as ends
use Rattle.sn_clients.specs.declared.turns.How.{How}
use Rattle.sn_clients.specs.declared.turns.How.TheVariants as hows
use Rattle.sn_top.specs.Connection.{served_status}
use Rattle.sn_top.specs.Converting.{converted_status}
use Rattle.sn_top.specs.declared.converting.Converted.{Converted}
use Rattle.sn_top.specs.declared.converting.Converted.TheVariants as converted
use Rattle.sn_top.specs.declared.serving.Served.{Served}
use Rattle.sn_top.specs.declared.serving.Served.TheVariants as served
use Rattle.sn_top.specs.Shelving.{shelf_status}
use Rattle.sn_top.specs.declared.shelving.ShelfOutcome.{ShelfOutcome}
use Rattle.sn_top.specs.declared.shelving.ShelfOutcome.TheVariants as shelves
use Rattle.snova.specs.declared.exit.Exit.{Exit}
use Rattle.snova.specs.declared.exit.Exit.TheVariants as exit

-- the number by which a packet's fault is printed, after a P
abbrev pub packet_number : PacketKind → ℕ
packet_number Size = 1
packet_number Start = 2
packet_number Unended = 3
packet_number Padding = 4
packet_number NoTags = 5
packet_number ShortArgs = 6
packet_number LongArgs = 7
packet_number BlobSize = 8
packet_number ElementSize = 9
packet_number Head = 10
packet_number NestedEarly = 11
packet_number TooDeep = 12

-- the same of a stream's fault
abbrev pub fault_number : StreamFault → ℕ
fault_number (Packet kind) = packet_number kind
fault_number FrameSize = 13
fault_number FrameCut = 14

abbrev pub bad_word_line : ℕ → List ℕ
bad_word_line index = codes "bad word " ++ decimal index

abbrev pub bad_stream_line : ℕ → ℕ → StreamFault → List ℕ
bad_stream_line packet place fault =
    codes "bad stream: packet " ++ decimal packet ++ codes ", byte " ++ decimal place ++ codes ", fault P" ++ decimal (fault_number fault)

-- what is printed of a rendering
abbrev pub outcome_line : Outcome → List ℕ
outcome_line (outcome.Done blocks) = codes "done " ++ decimal blocks ++ codes " blocks"
outcome_line outcome.NoMemory = codes "no memory"
outcome_line (outcome.BadWords index) = bad_word_line index
outcome_line (outcome.BadStream packet place fault) = bad_stream_line packet place fault
outcome_line (outcome.LongStream bytes) = codes "stream over 16777216 bytes"
outcome_line (outcome.LongSound blocks) = codes "sound too long: " ++ decimal blocks ++ codes " blocks"
outcome_line outcome.ReadFault = codes "read fault"
outcome_line outcome.SoundFault = codes "sound fault"
outcome_line outcome.ReplyFault = codes "reply fault"

-- what is printed of a rendering with a shelf
abbrev pub shelf_line : ShelfOutcome → List ℕ
shelf_line (shelves.Ran outcome) = outcome_line outcome
shelf_line shelves.ShelfFault = codes "shelf fault"

-- what is printed of a connection
abbrev pub end_line : Ended → List ℕ
end_line ends.Quit = codes "quit"
end_line ends.NoMemory = codes "no memory"
end_line ends.Closed = codes "closed"
end_line (ends.Cut kept) = codes "cut after " ++ decimal kept ++ codes " bytes"
end_line (ends.BadFrame size) = codes "bad frame size " ++ signed_decimal size
end_line ends.LinkFault = codes "link fault"
end_line ends.SoundFault = codes "sound fault"
end_line (ends.Worn bytes blocks) = codes "worn out"

-- what is printed of a session of several connections
abbrev pub session_line : How → List ℕ
session_line hows.Quit = codes "quit"
session_line hows.Over = codes "over"
session_line hows.NoMemory = codes "no memory"
session_line hows.SoundFault = codes "sound fault"
session_line hows.TurnsFull = codes "turns full"

abbrev pub session_status : How → ℕ
session_status hows.Quit = 0
session_status hows.Over = 0
session_status hows.NoMemory = 1
session_status hows.SoundFault = 7
session_status hows.TurnsFull = 15

abbrev pub served_line : Served → List ℕ
served_line (served.BadWords index) = bad_word_line index
served_line (served.Ran how) = end_line how

-- what is printed of a conversion
abbrev pub converted_line : Converted → List ℕ
converted_line (converted.Done packets) = codes "done " ++ decimal packets ++ codes " packets"
converted_line converted.NoMemory = codes "no memory"
converted_line (converted.BadWords index) = bad_word_line index
converted_line (converted.BadStream packet place fault) = bad_stream_line packet place fault
converted_line (converted.LongStream bytes) = codes "stream over 16777216 bytes"
converted_line converted.ReadFault = codes "read fault"
converted_line converted.OutFault = codes "out fault"
converted_line (converted.BadScore line) = codes "bad score: line " ++ decimal line

-- what is printed; of the usage nothing is said
abbrev pub exit_line : Exit → Option (List ℕ)
exit_line exit.Help = None
exit_line exit.Version = Some (codes "snova 0.1.0")
exit_line (exit.Rendered outcome) = Some (shelf_line outcome)
exit_line (exit.Served served) = Some (served_line served)
exit_line (exit.Session how) = Some (session_line how)
exit_line (exit.Converted converted) = Some (converted_line converted)
exit_line (exit.Drilled outcome) = Some (outcome_line outcome)
exit_line (exit.Planned outcome) = Some (outcome_line outcome)
exit_line exit.NoMemory = Some (codes "no memory")
exit_line exit.NotOpened = Some (codes "cannot open")

-- a drill that was done has printed its own line
abbrev pub is_unfinished : Outcome → Bool
is_unfinished (outcome.Done blocks) = false
is_unfinished outcome.NoMemory = true
is_unfinished (outcome.BadWords index) = true
is_unfinished (outcome.BadStream packet place fault) = true
is_unfinished (outcome.LongStream bytes) = true
is_unfinished (outcome.LongSound blocks) = true
is_unfinished outcome.ReadFault = true
is_unfinished outcome.SoundFault = true
is_unfinished outcome.ReplyFault = true

-- whether the line is still to be printed
abbrev pub has_line : Exit → Bool
has_line exit.Help = true
has_line exit.Version = true
has_line (exit.Rendered outcome) = true
has_line (exit.Served served) = true
has_line (exit.Session how) = true
has_line (exit.Converted converted) = true
has_line (exit.Drilled outcome) = is_unfinished outcome
has_line (exit.Planned outcome) = true
has_line exit.NoMemory = true
has_line exit.NotOpened = true

abbrev pub exit_status : Exit → ℕ
exit_status exit.Help = 0
exit_status exit.Version = 0
exit_status (exit.Rendered outcome) = shelf_status outcome
exit_status (exit.Served served) = served_status served
exit_status (exit.Session how) = session_status how
exit_status (exit.Converted converted) = converted_status converted
exit_status (exit.Drilled outcome) = outcome_status outcome
exit_status (exit.Planned outcome) = outcome_status outcome
exit_status exit.NoMemory = 1
exit_status exit.NotOpened = 9
