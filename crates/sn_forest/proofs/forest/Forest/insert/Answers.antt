use Rattle.std.proofs.Common.{arith}
use Rattle.sn_forest.proofs.Calls.{inserted_at}
use Rattle.sn_forest.proofs.forest.Forest.insert.Goals as goal

pub invariant_of-self-2 : goal.invariant_of-self-2
invariant_of-self-2 g c = (inserted_at c.self.inside.slots c.reserve.new.self c.insert_reserved-key.new.self c.paste.new.slots c.self.inside.root c.self.inside.end c.paste.new.end c.insert_reserved-key.result c.args.place c.fresh.result c.args.value c.corner-corner.result c.args.self.now c.self.invariant c.self.view_is c.requires.place c.reserve.ensures.rest_kept c.insert_reserved-key.ensures.was_vacant c.insert_reserved-key.ensures.updates c.insert_reserved-key.ensures.len c.fresh.ensures.value c.fresh.ensures.links (omega (arith, c.insert_reserved-key.ensures.key)) c.corner-corner.ensures c.paste.ensures.slots c.paste.ensures.end).sound

pub returns-clause-ok : goal.returns-clause-ok
returns-clause-ok g c = (inserted_at c.self.inside.slots c.reserve.new.self c.insert_reserved-key.new.self c.paste.new.slots c.self.inside.root c.self.inside.end c.paste.new.end c.insert_reserved-key.result c.args.place c.fresh.result c.args.value c.corner-corner.result c.args.self.now c.self.invariant c.self.view_is c.requires.place c.reserve.ensures.rest_kept c.insert_reserved-key.ensures.was_vacant c.insert_reserved-key.ensures.updates c.insert_reserved-key.ensures.len c.fresh.ensures.value c.fresh.ensures.links (omega (arith, c.insert_reserved-key.ensures.key)) c.corner-corner.ensures c.paste.ensures.slots c.paste.ensures.end).is
