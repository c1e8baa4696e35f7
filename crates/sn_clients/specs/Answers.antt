-- What contracts say of a relay and its ends.
use Rattle.std.specs.Prelude.{◌≡◌, ℕ, Bool, false, List, [], Some, slice_get}
use Rattle.crossbeam_queue.specs.Passes.{IsPassOf, ruled_capacity, view}
use Rattle.sn_clients.specs.declared.ends.Sender.{Sender}
use Rattle.sn_clients.specs.declared.ends.End.{End}
use Rattle.sn_clients.specs.declared.ends.End.TheVariants.{Out}
use Rattle.sn_clients.specs.declared.seats.Relay.{Relay}
use Rattle.sn_clients.specs.declared.seats.Inlet.{Inlet}
use Rattle.sn_clients.specs.declared.seats.Outlet.{Outlet}
use Rattle.sn_clients.specs.Ends.{new_sender, sender_in}
use Rattle.sn_clients.specs.StopWord.{found_in, set_in}

-- how many notes the relay holds at most
abbrev pub room_of : Relay → ℕ
room_of relay = ruled_capacity relay.queue

-- the outlet is one of the relay
abbrev pub IsOutletOf : Relay → Outlet → Type 0
IsOutletOf relay outlet = IsPassOf relay.queue outlet.pass × (outlet.seat.table_id ≡ relay.stop.shared.table_id)

-- the inlet is one of the relay
abbrev pub IsInletOf : Relay → Inlet → Type 0
IsInletOf relay inlet = IsPassOf relay.queue inlet.pass × (inlet.seat.table_id ≡ relay.stop.shared.table_id)

-- what the outlet knows of the queue
abbrev pub end_of : Outlet → End
end_of outlet = view outlet.pass

-- the outlet has set the stop word
abbrev pub has_stopped : Outlet → Bool
has_stopped outlet = set_in outlet.seat.me.0

-- an inlet's client, and what it has put
abbrev pub sender_of : Inlet → Sender
sender_of inlet = sender_in (view inlet.pass)

-- the inlet last found the stop word set
abbrev pub has_found : Inlet → Bool
has_found inlet = found_in inlet.seat.me.0

-- an inlet of this client that has put nothing and not found the stop word set
pub record IsNewInlet (relay : Relay) (client : ℕ) (inlet : Inlet) : Type 0 where
  pub inlet_of : IsInletOf relay inlet
  pub nothing : sender_of inlet ≡ new_sender client
  pub unfound : has_found inlet ≡ false

-- one new inlet for each client, client 0's first
abbrev pub AreNewInlets : Relay → List Inlet → Type 0
AreNewInlets relay inlets = (client : ℕ) (inlet : Inlet) → slice_get inlets client ≡ Some inlet → IsNewInlet relay client inlet

-- the outlet of this number of inlets, which has taken nothing, gathered none and not stopped
pub record IsNewOutlet (relay : Relay) (clients : ℕ) (outlet : Outlet) : Type 0 where
  pub outlet_of : IsOutletOf relay outlet
  pub nothing : end_of outlet ≡ Out clients [] []
  pub going : has_stopped outlet ≡ false
