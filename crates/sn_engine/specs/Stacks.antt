-- Bundles whose entries are still to be taken, the next one last.
use Rattle.std.specs.Prelude.{ℕ, ◌+◌, List, [], ◌∷◌, ◌++◌, map}
use Rattle.sn_osc.specs.declared.packet.Bundle.{Bundle}
use Rattle.sn_osc.specs.declared.packet.Packet as packets
use Rattle.sn_osc.specs.Shape.{Shape, Shapes, message, bundle, none, more, shape, message_of}
use Rattle.sn_engine.specs.declared.entry.Enclosed.{Enclosed}
use Rattle.sn_engine.specs.declared.entry.Entry.{Entry}
use Rattle.sn_engine.specs.Entries.{Timed, bundle_entries}

abbrev pub timed_of : Entry → Timed
timed_of e = record { tag = e.tag; messages = map message_of e.messages.items }

abbrev pub shape_of : Bundle → Shape
shape_of b = shape (packets.Bundle b)

-- the entries of one of them
abbrev pub entries_at : Enclosed → List Timed
entries_at e = bundle_entries e.around (shape_of e.bundle)

-- of all of them
abbrev pub entries_left : List Enclosed → List Timed
entries_left [] = []
entries_left (e ∷ es) = entries_left es ++ entries_at e

-- of bundles in reading order
abbrev pub entries_ahead : List Enclosed → List Timed
entries_ahead [] = []
entries_ahead (e ∷ es) = entries_at e ++ entries_ahead es

abbrev mutual
  pub bundles : Shape → ℕ
  bundles (message m) = 0
  bundles (bundle tag inner) = 1 + bundles_in inner

  pub bundles_in : Shapes → ℕ
  bundles_in none = 0
  bundles_in (more x xs) = bundles x + bundles_in xs

-- how many bundles there are
abbrev pub bundles_left : List Enclosed → ℕ
bundles_left [] = 0
bundles_left (e ∷ es) = bundles (shape_of e.bundle) + bundles_left es
