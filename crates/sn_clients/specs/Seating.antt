-- Clients that are given inlets, and give them back.
use Rattle.std.specs.Prelude.{◌≡◌, ℕ, Bool, true, false, if◌then◌else◌, List, [], replicate, Option, None, Some}
use Rattle.sn_ports.specs.Limits.{most_entries}
use Rattle.sn_engine.specs.Running.{opened}
use Rattle.sn_pcm.specs.declared.settings.Settings.{Settings}
use Rattle.sn_clients.specs.declared.clients.Client.{Client}
use Rattle.sn_clients.specs.declared.clients.ClientEnd.TheVariants.{SendFault, Stopped}
use Rattle.sn_clients.specs.declared.desk.Desk.{Desk}
use Rattle.sn_clients.specs.declared.ends.Sender.{Sender}
use Rattle.sn_clients.specs.declared.seats.Inlet.{Inlet}
use Rattle.sn_clients.specs.declared.seats.Relay.{Relay}
use Rattle.sn_clients.specs.Answers.{IsInletOf, IsNewInlet, IsNewOutlet, has_found, sender_of}
use Rattle.sn_clients.specs.Clients.{Seated}

-- a session of `clients` clients in which nothing was done
pub record IsBegun (relay : Relay) (s : Settings) (base clients : ℕ) (desk : Desk) : Type 0 where
  pub outlet : IsNewOutlet relay clients desk.outlet
  pub engine : desk.engine.running ≡ opened s base (Some most_entries) clients
  pub turns : desk.turns.items ≡ []
  pub failed : desk.failed.items ≡ replicate clients false

module _ {S : Type 0} where
  -- the client with this number was given a new inlet
  pub record IsSeated (relay : Relay) (number : ℕ) (old new : Client S) : Type 0 where
    pub inlet : Inlet
    pub fresh : IsNewInlet relay number inlet
    pub seated : new ≡ record old { end = Stopped; read = Stopped; inlet = Some inlet }

  -- it has an inlet of its own
  abbrev pub IsSeatOf : Relay → ℕ → Client S → Type 0
  IsSeatOf relay number client = Seated (λ inlet. IsInletOf relay inlet × ((sender_of inlet).client ≡ number)) client.inlet

  -- The inlet was gathered: this is what it had put. If it had found the stop word set, the outlet had set it.
  pub record IsGathered (stopped : Bool) (number : ℕ) (old new : Client S) (sender : Sender) : Type 0 where
    pub inlet : Seated (λ inlet. (sender_of inlet ≡ sender) × (has_found inlet ≡ true → stopped ≡ true)) old.inlet
    pub client : sender.client ≡ number
    pub left : new ≡ record old { inlet = None }

  -- how it ended
  abbrev pub told : Bool → Client S → Client S
  told failed client = record client { end = if failed then SendFault else client.end }

  -- its session has ended before it began
  pub record IsStopped (old new : Client S) : Type 0 where
    pub source : new.source ≡ old.source
    pub read : new.read ≡ Stopped
    pub end : new.end ≡ Stopped
