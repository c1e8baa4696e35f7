use Rattle.sn_buscmd.proofs.PlacingLemmas.{gone_some, gone_none}
use Rattle.sn_buscmd.proofs.buffer_holding.give_old.Goals as goal

pub returns-in-Some : goal.returns-in-Some
returns-in-Some c = record { gone = gone_some c.args.old c.in-Some.place c.args.pool.now c.give_back.new.self c.in-Some.is c.give_back.ensures.counted c.give_back.ensures.given }

pub returns-in_default : goal.returns-in_default
returns-in_default c = record { gone = gone_none c.args.old c.args.pool.now c.in_default.is }
