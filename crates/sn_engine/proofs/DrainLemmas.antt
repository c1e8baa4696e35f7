-- What was reserved stays if a client's replies are drained.
use Rattle.std.proofs.Common.{◌≡◌, ◌≤◌, ◌*◌, ℕ, zero, suc, List, [], ◌∷◌, length, map, get_or, ap, ◌∙◌, arith}
use Rattle.std.specs.Prelude.{slice_set}
use Rattle.sn_ports.specs.Octets.{Octets, bytes_of}
use Rattle.sn_reply.specs.Frames.{EachHasRoom}
use Rattle.std.proofs.lemmas.List.{map-set, length-set}
use Rattle.sn_engine.specs.declared.standing.Standing.{Standing}
use Rattle.sn_engine.specs.declared.standing.Standing.TheVariants.{Settled, Bounded, Rendered, Spent}
use Rattle.sn_engine.specs.Keeping.{CanSettle, HasRoom}

-- if one of the texts has no less room than it had
room_set : (n : ℕ) (ts : List Octets) (k : ℕ) (d new : Octets) → (get_or ts k d).spare ≤ new.spare → EachHasRoom n ts → EachHasRoom n (slice_set ts k new)
room_set n [] k d new more h = h
room_set n (t ∷ ts) zero d new more h = (omega (arith, more, h.0), h.1)
room_set n (t ∷ ts) (suc k) d new more h = (h.0, room_set n ts k d new more h.1)

can_settle : (most room : ℕ) (ts : List Octets) (k : ℕ) (d new : Octets) → (get_or ts k d).spare ≤ new.spare → CanSettle most room ts → CanSettle most room (slice_set ts k new)
can_settle most room ts k d new more h = record { endings = h.endings; replies = room_set (48 * most) ts k d new more h.replies }

pub still_room : (s : Standing) (bytes samples most endings : ℕ) (ts : List Octets) (k : ℕ) (d new : Octets) → (get_or ts k d).spare ≤ new.spare → HasRoom s bytes samples most endings ts → HasRoom s bytes samples most endings (slice_set ts k new)
still_room Settled bytes samples most endings ts k d new more h = tt
still_room Bounded bytes samples most endings ts k d new more h = (h.0, h.1, can_settle most endings ts k d new more h.2)
still_room Rendered bytes samples most endings ts k d new more h = can_settle most endings ts k d new more h
still_room Spent bytes samples most endings ts k d new more h = tt

pub as_long : (ts : List Octets) (k : ℕ) (t : Octets) → length (slice_set ts k t) ≡ length ts
as_long ts k t = length-set ts k t

pub bytes_set : (ts : List Octets) (k : ℕ) (t : Octets) → t.bytes ≡ [] → map bytes_of (slice_set ts k t) ≡ slice_set (map bytes_of ts) k []
bytes_set ts k t none = map-set bytes_of ts k t ∙ ap (slice_set (map bytes_of ts) k) none
