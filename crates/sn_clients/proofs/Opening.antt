-- The ends of a relay that is being made.
use Rattle.std.proofs.Common.{◌≡◌, ◌∙◌, ◌+◌, ◌++◌, ℕ, List, [], ◌∷◌, length, length-append, sym, ap, subst, ⊎_elim}
use Rattle.std.proofs.lemmas.Option.{none-some}
use Rattle.sn_clients.specs.declared.seats.Inlet.{Inlet}
use Rattle.sn_clients.specs.declared.seats.Outlet.{Outlet}
use Rattle.sn_clients.specs.declared.seats.Relay.{Relay}
use Rattle.sn_clients.specs.Ends.{with_inlet}
use Rattle.sn_clients.specs.Answers.{AreNewInlets, IsNewInlet, IsNewOutlet, IsOutletOf, end_of, has_stopped}
use Rattle.sn_clients.proofs.Lists.{get_push}

pub none_made : (relay : Relay) → AreNewInlets relay []
none_made relay client inlet is = absurd (none-some inlet is)

more : (relay : Relay) (inlets : List Inlet) (inlet : Inlet) (client : ℕ) → AreNewInlets relay inlets → length inlets ≡ client → IsNewInlet relay client inlet → AreNewInlets relay (inlets ++ inlet ∷ [])
more relay inlets inlet client h long new k other is = ⊎_elim
    (λ old. h k other old.1)
    (λ last. subst (λ (y : Inlet). IsNewInlet relay k y) last.1 (subst (λ (i : ℕ). IsNewInlet relay i inlet) (sym (last.0 ∙ long)) new))
    (get_push inlets inlet other k is)

pub inlets_more : (relay : Relay) (old new : List Inlet) (inlet : Inlet) (client : ℕ) → new ≡ old ++ inlet ∷ [] → AreNewInlets relay old → length old ≡ client → IsNewInlet relay client inlet → AreNewInlets relay new × (length new ≡ client + 1)
inlets_more relay old new inlet client is h long next = (
  subst (AreNewInlets relay) (sym is) (more relay old inlet client h long next),
  ap length is ∙ length-append old (inlet ∷ []) ∙ ap (λ (n : ℕ). n + 1) long,
)

pub outlet_more : (relay : Relay) (clients : ℕ) (old new : Outlet) → IsNewOutlet relay clients old → IsOutletOf relay new → end_of new ≡ with_inlet (end_of old) → has_stopped new ≡ has_stopped old → IsNewOutlet relay (clients + 1) new
outlet_more relay clients old new h of end same = record { outlet_of = of; nothing = end ∙ ap with_inlet h.nothing; going = same ∙ h.going }
