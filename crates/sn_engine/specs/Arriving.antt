-- Packets that arrive: their entries are put, or refused if as many wait as may.
use Rattle.std.specs.Prelude.{◌≡◌, ◌≤◌, ◌^◌, ℕ, ◌+◌, ◌==◌, Bool, false, if◌then◌else◌, List, [], ◌∷◌, ◌++◌, length, Option, Some, None, codes}
use Rattle.sn_osc.specs.Shape.{MessageShape, Shape}
use Rattle.sn_osc.specs.Grammar.{Spells}
use Rattle.sn_queue.specs.Waiting.{WaitingList}
use Rattle.sn_queue.specs.Steps.{put}
use Rattle.sn_reply.specs.Failing.{fail_message}
use Rattle.sn_reply.specs.Frames.{with_frames}
use Rattle.sn_reply.specs.Replies.{ReplyShape}
use Rattle.sn_reply.specs.declared.reason.Reason.TheVariants.{QueueFull}
use Rattle.sn_reply.specs.declared.replies.To.TheVariants.{Client}
use Rattle.sn_engine.specs.declared.standing.Standing.{Standing}
use Rattle.sn_engine.specs.declared.standing.Standing.TheVariants.{Settled, Bounded, Rendered, Spent}
use Rattle.sn_engine.specs.Entries.{Timed}
use Rattle.sn_engine.specs.Running.{Running}

-- a packet that has a spelling of at most 2 ^ 27 bytes, as each that was decoded
abbrev pub IsSpelled : Shape → Type 0
IsSpelled x = (bytes : List ℕ) × Spells x bytes × (length bytes ≤ 2 ^ 27)

-- the next boundary that has not been run
abbrev pub boundary_after : Standing → ℕ → ℕ
boundary_after Settled block = block
boundary_after Bounded block = block + 1
boundary_after Rendered block = block
boundary_after Spent block = block

abbrev pub next_boundary : Running → ℕ
next_boundary r = boundary_after r.standing r.block

-- what waits, what was said, and how many entries were refused
pub record Offered : Type 0 where
  pub waiting : WaitingList
  pub replies : List ReplyShape
  pub refused : ℕ

abbrev pub nothing_offered : WaitingList → Offered
nothing_offered q = record { waiting = q; replies = []; refused = 0 }

-- whether as many entries wait as may
abbrev pub is_full_at : Option ℕ → ℕ → Bool
is_full_at None n = false
is_full_at (Some limit) n = limit == n

abbrev pub is_full : WaitingList → Bool
is_full q = is_full_at q.limit (length q.waiting)

-- a refused entry is answered by the address of its first message, or as a bundle if it has none
abbrev pub address_of : List MessageShape → List ℕ
address_of [] = codes "#bundle"
address_of (m ∷ ms) = m.address

abbrev pub refusal_of : ℕ → Timed → ReplyShape
refusal_of from e = record { to = Client from; message = fail_message (address_of e.messages) QueueFull }

-- an entry that arrives at a boundary from a client
abbrev pub offer_entry : ℕ → ℕ → Timed → Offered → Offered
offer_entry boundary from e o =
    if is_full o.waiting then record o { replies = o.replies ++ refusal_of from e ∷ []; refused = o.refused + 1 }
    else record o { waiting = put o.waiting e.tag boundary from e.messages }

-- entries, in the order of their numbers
abbrev pub offer_entries : ℕ → ℕ → List Timed → Offered → Offered
offer_entries boundary from [] o = o
offer_entries boundary from (e ∷ es) o = offer_entries boundary from es (offer_entry boundary from e o)

abbrev pub offered : ℕ → List Timed → Running → Offered
offered from es r = offer_entries (next_boundary r) from es (nothing_offered r.waiting)

-- entries that arrive at the next boundary from a client
abbrev pub with_offered : ℕ → List Timed → Running → Running
with_offered from es r = record r { waiting = (offered from es r).waiting; replies = with_frames 0 (offered from es r).replies r.replies }

-- If memory ran out, the first entries were offered, and the others were not.
pub record IsPartlyOffered (boundary from : ℕ) (es : List Timed) (old new : WaitingList) : Type 0 where
  pub front : List Timed
  pub rest : List Timed
  pub parts : es ≡ front ++ rest
  pub waiting : new ≡ (offer_entries boundary from front (nothing_offered old)).waiting

-- nothing but what waits and what is to be sent has changed
abbrev pub KeepsOthers : Running → Running → Type 0
KeepsOthers old new = new ≡ record old { waiting = new.waiting; replies = new.replies }
