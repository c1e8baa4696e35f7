-- A boundary between two blocks: the entries that are due act.
use Rattle.std.specs.Prelude.{ℕ, zero, suc, Bool, false, not, ◌||◌, if◌then◌else◌, List, [], ◌∷◌, ◌++◌, filter}
use Rattle.sn_osc.specs.Shape.{MessageShape}
use Rattle.sn_queue.specs.Waiting.{Waiting, WaitingList}
use Rattle.sn_queue.specs.Steps.{is_due}
use Rattle.sn_world.specs.World.{World, Turn}
use Rattle.sn_world.specs.Ending.{Next, nothing, quitting, clearing, completing, is_clearing, is_quitting}
use Rattle.sn_world.specs.Commands.{deepest, command, next_after}
use Rattle.sn_reply.specs.Replies.{ReplyShape}
use Rattle.sn_clash.specs.declared.clash.Clash.{Clash}
use Rattle.sn_clash.specs.Clashing.{clashes_of}
use Rattle.sn_engine.specs.Clashing.{told_clashes}
use Rattle.sn_engine.specs.declared.acting.Asked.{Asked}

-- the turn after a message, and what is still done besides
pub record Acted : Type 0 where
  pub turn : Turn
  pub next : Next

abbrev pub acted : ℕ → MessageShape → Turn → Acted
acted from m t = record { turn = command from m t; next = next_after from m t }

-- The completion message that was carried, if one was, acts as any message of the same client. If it fails, what
-- carried it stays done.
abbrev pub completed : ℕ → Next → Turn → Acted
completed from nothing t = record { turn = t; next = nothing }
completed from quitting t = record { turn = t; next = quitting }
completed from clearing t = record { turn = t; next = clearing }
completed from (completing m) t = acted from m t

-- so many of them, each right after the one that carried it
unfoldable pub all_completed : ℕ → ℕ → Acted → Acted
all_completed zero from a = a
all_completed (suc n) from a = all_completed n from (completed from a.next a.turn)

-- A message of a client acts, and each completion message right after the command that carried it. A command in which
-- more than eight nest is refused. So after eight none is left: the law `no_completion_is_left` says so.
abbrev pub act_message : ℕ → MessageShape → Turn → Acted
act_message from m t = all_completed deepest from (acted from m t)

-- messages of a client, one after another
abbrev pub act_messages : ℕ → List MessageShape → Turn → Turn
act_messages from [] t = t
act_messages from (m ∷ ms) t = act_messages from ms (act_message from m t).turn

-- entries, one after another, and never split
abbrev pub act_entries : List Waiting → Turn → Turn
act_entries [] t = t
act_entries (w ∷ ws) t = act_entries ws (act_messages w.from w.messages t)

-- ---- what is asked of the server besides

-- by a message: an accepted `/clearSched` or `/quit`
abbrev pub asked_by : Next → Asked
asked_by n = record { clear = is_clearing n; quit = is_quitting n }

abbrev pub nothing_asked : Asked
nothing_asked = record { clear = false; quit = false }

abbrev pub both : Asked → Asked → Asked
both a b = record { clear = a.clear || b.clear; quit = a.quit || b.quit }

abbrev pub messages_ask : ℕ → List MessageShape → Turn → Asked
messages_ask from [] t = nothing_asked
messages_ask from (m ∷ ms) t = both (asked_by (act_message from m t).next) (messages_ask from ms (act_message from m t).turn)

abbrev pub entries_ask : List Waiting → Turn → Asked
entries_ask [] t = nothing_asked
entries_ask (w ∷ ws) t = both (messages_ask w.from w.messages t) (entries_ask ws (act_messages w.from w.messages t))

-- ---- boundary b

-- the entries that are due at it, and those that are not
abbrev pub due_at : ℕ → WaitingList → List Waiting
due_at b q = filter (is_due q b) q.waiting

abbrev pub later_than : ℕ → WaitingList → List Waiting
later_than b q = filter (λ w. not (is_due q b w)) q.waiting

-- the entries that still wait after it: those that are not due, and none if one that is due clears them
abbrev pub left_at : ℕ → WaitingList → Turn → List Waiting
left_at b q t = if (entries_ask (due_at b q) t).clear then [] else later_than b q

-- a world to which nothing was said yet
abbrev pub unsaid : World → Turn
unsaid w = record { world = w; replies = [] }

-- the world and the replies after the entries that are due acted in their order
abbrev pub turn_at : ℕ → WaitingList → World → Turn
turn_at b q w = act_entries (due_at b q) (unsaid w)

-- the clashes of its members, after those entries acted
abbrev pub clashes_at : ℕ → WaitingList → World → List Clash
clashes_at b q w = clashes_of (turn_at b q w).world

-- the replies at it, and then those that tell of the clashes that were not there at the boundary before
abbrev pub replies_at : ℕ → WaitingList → List Clash → World → List ReplyShape
replies_at b q before w = (turn_at b q w).replies ++ told_clashes before (clashes_at b q w)

-- what waits after it
abbrev pub waiting_at : ℕ → WaitingList → World → WaitingList
waiting_at b q w = record q { waiting = left_at b q (unsaid w) }

-- whether the server ends at it
abbrev pub quits_at : ℕ → WaitingList → World → Bool
quits_at b q w = (entries_ask (due_at b q) (unsaid w)).quit
