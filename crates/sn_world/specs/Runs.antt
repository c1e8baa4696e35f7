-- Runs of places, as buses or samples in a row, and of values for them.
use Rattle.std.specs.Prelude.{ℕ, suc, zero, ◌+◌, ℤ, pos, negsuc, nat_abs, List, [], ◌∷◌, ◌++◌, length, map, Option, Some, None, Result, if◌then◌else◌, nat_le, codes}
use Rattle.std.specs.Option.{option_map}
use Rattle.sn_ports.specs.Limits.{most_values}
use Rattle.sn_osc.specs.Shape.{Argument, int, string, blob, arguments, MessageShape}
use Rattle.sn_mem.specs.Buses.{ControlBus}
use Rattle.sn_reply.specs.declared.reason.Reason.{Reason}
use Rattle.sn_world.specs.declared.repetition.Run.{Run}
use Rattle.sn_world.specs.World.{World, Turn}
use Rattle.sn_world.specs.Rows.{row, question, pairs, some_of}
use Rattle.sn_world.specs.Buses.{run_refusal, set_run, value_at}

-- ---- runs without values

-- a first place and a count of 0 or more
abbrev pub place_run : Argument → Argument → Option Run
place_run (int first) (int (pos count)) = Some (record { first = first; count = count })
place_run (int first) (int (negsuc n)) = None
place_run (int first) (string s) = None
place_run (int first) (blob b) = None
place_run (string s) y = None
place_run (blob b) y = None

-- how many places there are in all runs
abbrev pub total_of : {R : Type 0} → (R → ℕ) → List R → ℕ
total_of count [] = 0
total_of count (r ∷ rs) = count r + total_of count rs

abbrev pub total_count : List Run → ℕ
total_count rs = total_of (λ r. r.count) rs

abbrev pub asks_few : Option (List Run) → Option (List Run)
asks_few None = None
asks_few (Some rs) = if nat_le (total_count rs) most_values then Some rs else None

-- ---- runs with values: (first count value..)..

-- a first place, and the values from it on
pub record ValuesAt : Type 0 where
  pub first : ℤ
  pub values : List ℤ

-- values, and runs after them
pub record Tail : Type 0 where
  pub values : List ℤ
  pub runs : List ValuesAt

-- the number of an argument that is one
abbrev pub number : Argument → Option ℤ
number (int n) = Some n
number (string s) = None
number (blob b) = None

abbrev pub count_of : Option Run → ℕ
count_of None = 0
count_of (Some r) = r.count

-- one more value before the others
abbrev pub with_value : Option ℤ → Option Tail → Option Tail
with_value None t = None
with_value (Some v) None = None
with_value (Some v) (Some t) = Some (record t { values = v ∷ t.values })

-- the values before the runs are those of a run
abbrev pub with_run : Option Run → Option Tail → Option Tail
with_run None t = None
with_run (Some r) None = None
with_run (Some r) (Some t) = Some (record { values = []; runs = record { first = r.first; values = t.values } ∷ t.runs })

-- so many values, and then runs to the end
abbrev pub tail_of : ℕ → List Argument → Option Tail
tail_of zero [] = Some (record { values = []; runs = [] })
tail_of zero (x ∷ []) = None
tail_of zero (x ∷ y ∷ rest) = with_run (place_run x y) (tail_of (count_of (place_run x y)) rest)
tail_of (suc n) [] = None
tail_of (suc n) (x ∷ rest) = with_value (number x) (tail_of n rest)

abbrev pub runs_of : Tail → List ValuesAt
runs_of t = t.runs

abbrev pub value_runs : List Argument → Option (List ValuesAt)
value_runs xs = option_map runs_of (tail_of 0 xs)

-- the arguments that say runs: of each its first place, how many values it has, and the values
abbrev pub run_arguments : List ValuesAt → List Argument
run_arguments [] = []
run_arguments (r ∷ rs) = int r.first ∷ int (pos (length r.values)) ∷ map int r.values ++ run_arguments rs

-- ---- `/c_setn` (bus count value..)..

abbrev pub judge_setn : World → ValuesAt → Option Reason
judge_setn w r = run_refusal r.first (length r.values)

abbrev pub act_setn : ValuesAt → Turn → Turn
act_setn r t = record t { world = record t.world { control_buses = set_run r.first r.values t.world.control_buses } }

abbrev pub setn_row : ℕ → List Argument → Turn → Result Turn Reason
setn_row from xs = row judge_setn act_setn (some_of (value_runs xs))

-- ---- `/c_getn` (bus count)..

abbrev pub judge_getn : World → Run → Option Reason
judge_getn w r = run_refusal r.first r.count

-- the values of so many buses from a bus on
abbrev pub values_from : List ControlBus → ℕ → ℕ → List Argument
values_from buses n zero = []
values_from buses n (suc count) = int (value_at buses n) ∷ values_from buses (n + 1) count

-- each run, and its values
abbrev pub runs_and_values : List ControlBus → List Run → List Argument
runs_and_values buses [] = []
runs_and_values buses (r ∷ rs) = int r.first ∷ int (pos r.count) ∷ values_from buses (nat_abs r.first) r.count ++ runs_and_values buses rs

-- `/c_setn` (bus count value..)..
abbrev pub answer_getn : List ControlBus → List Run → MessageShape
answer_getn buses rs = record { address = codes "/c_setn"; body = arguments (runs_and_values buses rs) }

abbrev pub getn_row : ℕ → List Argument → Turn → Result Turn Reason
getn_row from xs = question judge_getn (λ w. answer_getn w.control_buses) from (asks_few (some_of (pairs place_run xs)))
