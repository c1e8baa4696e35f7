-- The commands on control buses, and `/sync`.
use Rattle.std.specs.Prelude.{ℕ, suc, zero, ◌+◌, ℤ, pos, negsuc, Bool, false, not, ◌&&◌, List, [], ◌∷◌, replicate, Option, Some, None, Result, Ok, Err, nat_lt, nat_le, codes}
use Rattle.sn_ports.specs.Limits.{control_bus_count}
use Rattle.sn_osc.specs.Shape.{Argument, int, string, blob, arguments, MessageShape}
use Rattle.sn_reply.specs.declared.reason.Reason.{Reason}
use Rattle.sn_reply.specs.declared.reason.Reason.TheVariants.{Bus, Arguments}
use Rattle.sn_world.specs.declared.repetition.BusNumber.{BusNumber}
use Rattle.sn_world.specs.declared.repetition.BusValue.{BusValue}
use Rattle.sn_world.specs.declared.repetition.BusFill.{BusFill}
use Rattle.sn_mem.specs.Buses.{ControlBus}
use Rattle.sn_world.specs.World.{World, Turn, replied}
use Rattle.sn_world.specs.Rows.{first_of, row, question, singles, pairs, triples, some_of}

-- There are 1,024 control buses.
abbrev pub is_bus : ℤ → Bool
is_bus (pos n) = nat_lt n control_bus_count
is_bus (negsuc n) = false

-- The first bus of a run is one, even if the run is empty, and so is the last bus of a run that is not empty.
abbrev pub is_run : ℤ → ℕ → Bool
is_run (pos n) count = nat_lt n control_bus_count && nat_le (n + count) control_bus_count
is_run (negsuc n) count = false

-- the reason against a bus, and that against a run
abbrev pub bus_refusal : ℤ → Option Reason
bus_refusal bus = first_of ((not (is_bus bus), Bus) ∷ [])

abbrev pub run_refusal : ℤ → ℕ → Option Reason
run_refusal bus count = first_of ((not (is_run bus count), Bus) ∷ [])

-- the buses after a value was set
abbrev pub with_value : List ControlBus → ℕ → ℤ → List ControlBus
with_value [] n v = []
with_value (b ∷ bs) zero v = record b { value = v } ∷ bs
with_value (b ∷ bs) (suc n) v = b ∷ with_value bs n v

abbrev pub set_bus : ℤ → ℤ → List ControlBus → List ControlBus
set_bus (pos n) v buses = with_value buses n v
set_bus (negsuc n) v buses = buses

-- the buses after values were set from a bus on, one after the other
abbrev pub with_values : List ControlBus → ℕ → List ℤ → List ControlBus
with_values buses n [] = buses
with_values buses n (v ∷ vs) = with_values (with_value buses n v) (n + 1) vs

abbrev pub set_run : ℤ → List ℤ → List ControlBus → List ControlBus
set_run (pos n) vs buses = with_values buses n vs
set_run (negsuc n) vs buses = buses

-- the value of a bus
abbrev pub value_at : List ControlBus → ℕ → ℤ
value_at [] n = pos 0
value_at (b ∷ bs) zero = b.value
value_at (b ∷ bs) (suc n) = value_at bs n

abbrev pub value_of : List ControlBus → ℤ → ℤ
value_of buses (pos n) = value_at buses n
value_of buses (negsuc n) = pos 0

-- ---- `/c_set` (bus value)..

abbrev pub bus_value : Argument → Argument → Option BusValue
bus_value (int bus) (int value) = Some (record { bus = bus; value = value })
bus_value (int bus) (string s) = None
bus_value (int bus) (blob b) = None
bus_value (string s) y = None
bus_value (blob b) y = None

abbrev pub judge_set : World → BusValue → Option Reason
judge_set w r = bus_refusal r.bus

abbrev pub act_set : BusValue → Turn → Turn
act_set r t = record t { world = record t.world { control_buses = set_bus r.bus r.value t.world.control_buses } }

abbrev pub set_row : ℕ → List Argument → Turn → Result Turn Reason
set_row from xs = row judge_set act_set (some_of (pairs bus_value xs))

-- ---- `/c_get` bus..

abbrev pub bus_number : Argument → Option BusNumber
bus_number (int bus) = Some (record { bus = bus })
bus_number (string s) = None
bus_number (blob b) = None

abbrev pub judge_get : World → BusNumber → Option Reason
judge_get w r = bus_refusal r.bus

-- each bus and its value
abbrev pub buses_and_values : List ControlBus → List BusNumber → List Argument
buses_and_values buses [] = []
buses_and_values buses (r ∷ rs) = int r.bus ∷ int (value_of buses r.bus) ∷ buses_and_values buses rs

-- `/c_set` (bus value)..
abbrev pub answer_get : List ControlBus → List BusNumber → MessageShape
answer_get buses rs = record { address = codes "/c_set"; body = arguments (buses_and_values buses rs) }

abbrev pub get_row : ℕ → List Argument → Turn → Result Turn Reason
get_row from xs = question judge_get (λ w. answer_get w.control_buses) from (some_of (singles bus_number xs))

-- ---- `/sync` n

abbrev pub synced : ℤ → MessageShape
synced n = record { address = codes "/synced"; body = arguments (int n ∷ []) }

abbrev pub sync_number : List Argument → Option ℤ
sync_number (int n ∷ []) = Some n
sync_number _ = None

abbrev pub sync_outcome : ℕ → Option ℤ → Turn → Result Turn Reason
sync_outcome from None t = Err Arguments
sync_outcome from (Some n) t = Ok (replied from (synced n) t)

abbrev pub sync_row : ℕ → List Argument → Turn → Result Turn Reason
sync_row from xs t = sync_outcome from (sync_number xs) t

-- ---- runs of buses

-- a bus, a count of 0 or more, and a value
abbrev pub bus_fill : Argument → Argument → Argument → Option BusFill
bus_fill (int bus) (int (pos count)) (int value) = Some (record { bus = bus; count = count; value = value })
bus_fill (int bus) (int (pos count)) (string s) = None
bus_fill (int bus) (int (pos count)) (blob b) = None
bus_fill (int bus) (int (negsuc n)) z = None
bus_fill (int bus) (string s) z = None
bus_fill (int bus) (blob b) z = None
bus_fill (string s) y z = None
bus_fill (blob b) y z = None

-- ---- `/c_fill` (bus count value)..

abbrev pub judge_fill : World → BusFill → Option Reason
judge_fill w r = run_refusal r.bus r.count

abbrev pub act_fill : BusFill → Turn → Turn
act_fill r t = record t { world = record t.world { control_buses = set_run r.bus (replicate r.count r.value) t.world.control_buses } }

abbrev pub fill_row : ℕ → List Argument → Turn → Result Turn Reason
fill_row from xs = row judge_fill act_fill (some_of (triples bus_fill xs))
