-- One more event that can be played.
use Rattle.std.proofs.Common.{List, [], ◌∷◌, ◌++◌}
use Rattle.sn_ports.specs.Links.{IsPlayable, ArePlayable}
use Rattle.sn_ports.specs.declared.links.Event.{Event}

pub one_more : (es : List Event) (e : Event) → ArePlayable es → IsPlayable e → ArePlayable (es ++ e ∷ [])
one_more [] e all here = (here, tt)
one_more (x ∷ es) e all here = (all.0, one_more es e all.1 here)
