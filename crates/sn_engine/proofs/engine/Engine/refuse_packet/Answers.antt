use Rattle.std.proofs.Common.{[], ◌∷◌, refl}
use Rattle.sn_engine.specs.Refusing.{bad_packet}
use Rattle.sn_engine.proofs.ClientLemmas.{none_lost, none_sent}
use Rattle.sn_engine.proofs.OfferLemmas.{on_err}
use Rattle.sn_engine.proofs.engine.Engine.refuse_packet.Goals as goal

pub returns-in_err-said-clause-behind : goal.returns-in_err-said-clause-behind
returns-in_err-said-clause-behind c = none_lost c.args.self.now.running.replies c.args.self.now.running.replies refl

pub returns-in_err-said-clause-front : goal.returns-in_err-said-clause-front
returns-in_err-said-clause-front c = on_err c.from_residual.result (none_sent c.args.self.now.running.replies c.args.self.now.running.replies (bad_packet c.args.from ∷ []) refl)
