-- Control buses that are set one after the other.
use Rattle.std.specs.Prelude.{◌≡◌, ◌≤◌, ◌<◌, ℕ, List, [], ◌∷◌, length, replicate, slice_index, Option}
use Rattle.sn_mem.specs.Layout.{audio_words, bus_words}
use Rattle.sn_mem.specs.Buses.{ControlBus}
use Rattle.sn_reply.specs.declared.reason.Reason.{Reason}
use Rattle.sn_world.specs.declared.repetition.BusNumber.{BusNumber}
use Rattle.sn_world.specs.declared.repetition.BusValue.{BusValue}
use Rattle.sn_world.specs.declared.repetition.BusFill.{BusFill}
use Rattle.sn_world.specs.declared.repetition.Run.{Run}
use Rattle.sn_world.specs.Runs.{ValuesAt}
use Rattle.sn_world.specs.Buses.{set_bus, set_run, bus_refusal, run_refusal}

abbrev pub value_refusal : BusValue → Option Reason
value_refusal r = bus_refusal r.bus

abbrev pub number_refusal : BusNumber → Option Reason
number_refusal r = bus_refusal r.bus

abbrev pub fill_refusal : BusFill → Option Reason
fill_refusal r = run_refusal r.bus r.count

abbrev pub place_refusal : Run → Option Reason
place_refusal r = run_refusal r.first r.count

abbrev pub values_refusal : ValuesAt → Option Reason
values_refusal r = run_refusal r.first (length r.values)

abbrev pub set_pair : BusValue → List ControlBus → List ControlBus
set_pair r buses = set_bus r.bus r.value buses

abbrev pub fill_run : BusFill → List ControlBus → List ControlBus
fill_run r buses = set_run r.bus (replicate r.count r.value) buses

abbrev pub set_values : ValuesAt → List ControlBus → List ControlBus
set_values r buses = set_run r.first r.values buses

-- the buses after all repetitions
abbrev pub change_all : {R : Type 0} → (R → List ControlBus → List ControlBus) → List R → List ControlBus → List ControlBus
change_all change [] buses = buses
change_all change (r ∷ rs) buses = change_all change rs (change r buses)

-- all words but those of the control buses stay as they were
pub record KeepsOtherWords (old new : List ℕ) : Type 0 where
  pub len : length new ≡ length old
  pub below : (k : ℕ) → k < audio_words → slice_index new k ≡ slice_index old k
  pub above : (k : ℕ) → bus_words ≤ k → slice_index new k ≡ slice_index old k
