-- What a stream of packets gives: the engine's own steps, one after another, if nothing is written in between.
use Rattle.std.specs.Prelude.{ℕ, zero, suc, List, [], ◌∷◌, None, slice_index_or, unwrap_or}
use Rattle.sn_osc.specs.Shape.{Shape}
use Rattle.sn_pcm.specs.declared.settings.Settings.{Settings}
use Rattle.sn_pcm.specs.Pcm.{wav}
use Rattle.sn_queue.specs.Steps.{last_due}
use Rattle.sn_engine.specs.Arriving.{with_offered}
use Rattle.sn_engine.specs.Entries.{entries_of}
use Rattle.sn_engine.specs.Running.{Running, opened, at_boundary, with_block, with_settled}

-- Packets arrive from client 0, one after another, at the boundary that is next.
abbrev pub arrive : List Shape → Running → Running
arrive [] r = r
arrive (x ∷ xs) r = arrive xs (with_offered 0 (entries_of x) r)

-- an engine of one client at which all packets arrived at boundary 0; block 0 begins at time 0, and any number of
-- entries may wait
abbrev pub begun : Settings → List Shape → Running
begun s packets = arrive packets (opened s 0 None 1)

-- the number of blocks: the greatest due number
abbrev pub last_of : Settings → List Shape → ℕ
last_of s packets = unwrap_or (last_due (begun s packets).waiting) 0

-- a boundary, its block and its settling
abbrev pub after_block : Running → Running
after_block r = with_settled (with_block (at_boundary r))

-- so many of them
abbrev pub after_blocks : ℕ → Running → Running
after_blocks zero r = r
after_blocks (suc n) r = after_blocks n (after_block r)

-- and the boundary after the last
abbrev pub to_end : ℕ → Running → Running
to_end n r = at_boundary (after_blocks n r)

abbrev pub played : Settings → List Shape → Running
played s packets = to_end (last_of s packets) (begun s packets)

-- what the first client is still to be sent
abbrev pub to_first : List (List ℕ) → List ℕ
to_first replies = slice_index_or replies 0 []

abbrev pub sound_of : Settings → List Shape → List ℕ
sound_of s packets = wav s (played s packets).sound

abbrev pub replies_of : Settings → List Shape → List ℕ
replies_of s packets = to_first (played s packets).replies
