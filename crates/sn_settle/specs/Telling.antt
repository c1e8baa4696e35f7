-- What the bytes that wait for each client are after events were told.
use Rattle.std.specs.Prelude.{◌≡◌, ◌≤◌, ◌<◌, ◌+◌, ◌*◌, ℕ, Bool, List, [], ◌++◌, length, slice_index_or}
use Rattle.sn_ports.specs.Limits.{most_clients}
use Rattle.sn_ports.specs.Octets.{Octets}
use Rattle.sn_reply.specs.Frames.{frames_to}
use Rattle.sn_reply.specs.Replies.{ReplyShape}
use Rattle.sn_reply.specs.declared.events.Notice.{Notice}
use Rattle.sn_world.specs.declared.endings.Ending.{Ending}
use Rattle.sn_world.specs.Noted.{Noted}
use Rattle.sn_world.specs.Settling.{notices_of}

abbrev pub out_of : List Octets → ℕ → Octets
out_of outs client = slice_index_or outs client (record { bytes = []; spare = 0 })

-- the bytes of each client have room for so many more
abbrev pub HaveRoom : ℕ → List Octets → Type 0
HaveRoom n outs = (client : ℕ) → client < length outs → n ≤ (out_of outs client).spare

-- each client's bytes are followed by the frames of the replies to it
pub record AreSent (replies : List ReplyShape) (old new : List Octets) : Type 0 where
  pub clients : length new ≡ length old
  pub frames : (client : ℕ) → client < length old → (out_of new client).bytes ≡ (out_of old client).bytes ++ frames_to client replies

-- Events were told to the clients whose flags are on. A frame has 48 bytes at most.
pub record AreTold (flags : List Bool) (events : List Notice) (old new : List Octets) : Type 0 where
  pub sent : AreSent (notices_of flags events) old new
  pub room : (client : ℕ) → client < length old → (out_of old client).spare ≤ (out_of new client).spare + 48 * length events

-- endings were noted after those that were there
pub record AreNoted (endings : List Ending) (old new : Noted) : Type 0 where
  pub items : new.items ≡ old.items ++ endings
  pub room : old.spare ≤ new.spare + length endings

-- there is room to tell events and to note endings
pub record CanLook (events : List Notice) (endings : List Ending) (outs : List Octets) (noted : Noted) : Type 0 where
  pub clients : length outs ≤ most_clients
  pub bytes : HaveRoom (48 * length events) outs
  pub room : length endings ≤ noted.spare

-- events were told, and endings were noted
pub record AreSeen (flags : List Bool) (events : List Notice) (endings : List Ending) (old new : List Octets) (before after : Noted) : Type 0 where
  pub told : AreTold flags events old new
  pub noted : AreNoted endings before after
