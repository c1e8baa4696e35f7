-- The entries of a packet: messages that act together at one time.
use Rattle.std.specs.Prelude.{ℕ, List, [], ◌∷◌, ◌++◌}
use Rattle.sn_osc.specs.Shape.{MessageShape, Shape, Shapes, message, bundle, none, more}
use Rattle.sn_osc.specs.Bytes.{counts_as}

-- messages, and the time tag at which they act; the tag 1 is the time of their arrival
pub record Timed : Type 0 where
  pub tag : ℕ
  pub messages : List MessageShape

-- a bundle's own messages
abbrev pub messages_in : Shapes → List MessageShape
messages_in none = []
messages_in (more (message m) xs) = m ∷ messages_in xs
messages_in (more (bundle tag inner) xs) = messages_in xs

abbrev mutual
  -- A bundle inside one that counts as around: its own messages, and after them each enclosed bundle, in reading order.
  pub bundle_entries : ℕ → Shape → List Timed
  bundle_entries around (message m) = []
  bundle_entries around (bundle tag inner) = (record { tag = counts_as around tag; messages = messages_in inner }) ∷ enclosed_entries (counts_as around tag) inner

  pub enclosed_entries : ℕ → Shapes → List Timed
  enclosed_entries around none = []
  enclosed_entries around (more x xs) = bundle_entries around x ++ enclosed_entries around xs

-- a message by itself acts on arrival
abbrev pub entries_of : Shape → List Timed
entries_of (message m) = (record { tag = 1; messages = m ∷ [] }) ∷ []
entries_of (bundle tag inner) = bundle_entries 1 (bundle tag inner)
