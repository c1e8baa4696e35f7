-- What the calls do to a waiting list.
use Rattle.std.specs.Prelude.{◌+◌, ℕ, max, nat_le, Bool, not, if◌then◌else◌, List, [], ◌∷◌, map, length, Option, Some, None, unwrap_or}
use Rattle.std.specs.List.{filter}
use Rattle.sn_osc.specs.Shape.{MessageShape}
use Rattle.sn_queue.specs.Time.{due, key_of}
use Rattle.sn_queue.specs.Waiting.{Waiting, WaitingList}

-- after the entries whose key is not greater
abbrev pub insert : Waiting → List Waiting → List Waiting
insert w [] = w ∷ []
insert w (v ∷ vs) = if nat_le v.key w.key then v ∷ insert w vs else w ∷ v ∷ vs

abbrev pub entry_of : WaitingList → ℕ → ℕ → ℕ → List MessageShape → Waiting
entry_of q tag boundary from messages = record { key = key_of tag boundary q.base q.rate; number = q.puts; from = from; messages = messages }

abbrev pub put : WaitingList → ℕ → ℕ → ℕ → List MessageShape → WaitingList
put q tag boundary from messages = record q { puts = q.puts + 1; waiting = insert (entry_of q tag boundary from messages) q.waiting }

abbrev pub due_of : WaitingList → Waiting → ℕ
due_of q w = due w.key q.base q.rate

abbrev pub is_due : WaitingList → ℕ → Waiting → Bool
is_due q now w = nat_le (due_of q w) now

abbrev pub first : {X : Type 0} → (X → Bool) → List X → Option X
first test [] = None
first test (x ∷ xs) = if test x then Some x else first test xs

abbrev pub without_first : {X : Type 0} → (X → Bool) → List X → List X
without_first test [] = []
without_first test (x ∷ xs) = if test x then xs else x ∷ without_first test xs

-- The first due entry of the list. The list stands in the order of keys and, if these are equal, of numbers. So each
-- other due entry has a greater key, or the same key and a greater number.
abbrev pub first_due : WaitingList → ℕ → Option Waiting
first_due q now = first (is_due q now) q.waiting

abbrev pub without_first_due : WaitingList → ℕ → WaitingList
without_first_due q now = record q { waiting = without_first (is_due q now) q.waiting }

abbrev pub greatest : List ℕ → Option ℕ
greatest [] = None
greatest (n ∷ ns) = Some (max n (unwrap_or (greatest ns) 0))

abbrev pub last_due : WaitingList → Option ℕ
last_due q = greatest (map (due_of q) q.waiting)

abbrev pub clear_after : WaitingList → ℕ → WaitingList
clear_after q now = record q { waiting = filter (is_due q now) q.waiting }

abbrev pub count_after : WaitingList → ℕ → ℕ
count_after q now = length (filter (λ w. not (is_due q now w)) q.waiting)
