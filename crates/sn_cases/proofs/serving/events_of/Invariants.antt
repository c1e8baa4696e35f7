use Rattle.sn_ports.specs.Links.{ArePlayable}
use Rattle.sn_cases.proofs.serving.events_of.Given as goal

abbrev pub invariant-loop-step : goal.invariant-loop-step
invariant-loop-step l = ArePlayable l.events.items
