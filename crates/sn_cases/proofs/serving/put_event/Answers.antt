use Rattle.std.proofs.Common.{sym, subst}
use Rattle.sn_ports.specs.Links.{ArePlayable}
use Rattle.sn_cases.proofs.PlayableLemmas.{one_more}
use Rattle.sn_cases.proofs.serving.put_event.Goals as goal

pub returns : goal.returns
returns c = subst ArePlayable (sym c.in_ok-push.ensures.items) (one_more c.args.events.now.items c.args.event c.requires.before c.requires.playable)
