use Rattle.std.proofs.Common.{length, map, refl, sym, ap, subst, arith}
use Rattle.std.proofs.lemmas.List.{length-map}
use Rattle.sn_osc.specs.Shape.{shape}
use Rattle.sn_ports.specs.Octets.{bytes_of}
use Rattle.sn_engine.specs.Answerable.{AreAnswerable}
use Rattle.sn_engine.specs.Arriving.{offered}
use Rattle.sn_engine.specs.Entries.{entries_of}
use Rattle.sn_engine.specs.Running.{Running}
use Rattle.sn_engine.specs.Stacks.{timed_of}
use Rattle.sn_engine.proofs.ClientLemmas.{none_lost, none_sent}
use Rattle.sn_engine.proofs.OfferLemmas.{on_err}
use Rattle.sn_engine.proofs.PutLemmas.{spelled_answerable, spelled_few}
use Rattle.sn_engine.proofs.Pasts.{running_is}
use Rattle.sn_engine.proofs.engine.Engine.offer.Goals as goal

pub offer_entries-requires-clause-few : goal.offer_entries-requires-clause-few
offer_entries-requires-clause-few c =
    omega (arith, spelled_few (shape c.args.packet) c.requires.spelled, ap length c.in_ok-entries.ensures, length-map c.in_ok-entries.entries.items timed_of)

pub offer_entries-requires-clause-entries : goal.offer_entries-requires-clause-entries
offer_entries-requires-clause-entries c = subst AreAnswerable (sym c.in_ok-entries.ensures) (spelled_answerable (shape c.args.packet) c.requires.spelled)

pub returns-in_err-entries-clause-behind : goal.returns-in_err-entries-clause-behind
returns-in_err-entries-clause-behind c = none_lost c.args.self.now.running.replies c.args.self.now.running.replies refl

pub returns-in_err-entries-clause-front : goal.returns-in_err-entries-clause-front
returns-in_err-entries-clause-front c =
    on_err c.from_residual.result (none_sent c.args.self.now.running.replies c.args.self.now.running.replies (offered c.args.from (entries_of (shape c.args.packet)) c.args.self.now.running).replies refl)

pub returns-in_err-refused-clause-behind : goal.returns-in_err-refused-clause-behind
returns-in_err-refused-clause-behind c = none_lost c.args.self.now.running.replies (map bytes_of c.self.inside.replies.items) (ap (λ (r : Running). r.replies) (running_is c.self.view_is))

pub returns-in_err-refused-clause-front : goal.returns-in_err-refused-clause-front
returns-in_err-refused-clause-front c =
    on_err c.from_residual-in_err-refused.result
    (none_sent c.args.self.now.running.replies (map bytes_of c.self.inside.replies.items) (offered c.args.from (entries_of (shape c.args.packet)) c.args.self.now.running).replies (ap (λ (r : Running). r.replies) (running_is c.self.view_is)))
