-- Clients before and after they are read.
use Rattle.std.specs.Prelude.{◌≡◌, ◌⊎◌, ◌≤◌, ℕ, true, List, [], Option, Some, None}
use Rattle.sn_ports.specs.Causes.{Rose}
use Rattle.sn_clients.specs.declared.seats.Inlet.{Inlet}
use Rattle.sn_clients.specs.declared.seats.Relay.{Relay}
use Rattle.sn_clients.specs.declared.clients.Client.{Client}
use Rattle.sn_clients.specs.declared.clients.ClientEnd.TheVariants.{ReadFault}
use Rattle.sn_clients.specs.Answers.{IsInletOf, has_found, sender_of}
use Rattle.sn_clients.specs.Ends.{new_sender}
use Rattle.sn_clients.specs.Reading.{HasRead}

-- an inlet is there, and this holds of it
abbrev pub Seated : (Inlet → Type 0) → Option Inlet → Type 0
Seated P None = ⊥
Seated P (Some inlet) = P inlet

-- the client with this number has an inlet that has put nothing
abbrev pub HasInlet : {S : Type 0} → Relay → ℕ → Client S → Type 0
HasInlet relay number client = Seated (λ inlet. IsInletOf relay inlet × (sender_of inlet ≡ new_sender number)) client.inlet

module _ {S : Type 0} (relay : Relay) (left : S → Option (List ℕ)) (faults : S → ℕ) where
  -- The reader of the client with this number has ended, and its end has its cause.
  pub record ReadTo (number : ℕ) (old new : Client S) (inlet : Inlet) : Type 0 where
    pub inlet_of : IsInletOf relay inlet
    pub client : (sender_of inlet).client ≡ number
    pub read : HasRead (left old.source) (left new.source) (Rose (faults old.source) (faults new.source)) (has_found inlet ≡ true) (sender_of inlet).frames new.read

  pub record IsRead (number : ℕ) (old new : Client S) : Type 0 where
    pub inlet : Seated (ReadTo number old new) new.inlet
    pub same : new.end ≡ new.read
    pub later : faults old.source ≤ faults new.source
    pub unfailed : (new.read ≡ ReadFault) ⊎ (faults new.source ≡ faults old.source)
