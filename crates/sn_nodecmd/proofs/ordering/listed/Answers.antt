use Rattle.std.proofs.Common.{◌∙◌, ap}
use Rattle.std.specs.List.{dedup}
use Rattle.std.proofs.lemmas.List.Filters.{dedup_is}
use Rattle.sn_world.specs.NodeOrder.{is_same}
use Rattle.sn_nodecmd.proofs.ordering.listed.Goals as goal

pub returns-clause-listed : goal.returns-clause-listed
returns-clause-listed c = dedup_is is_same _ _ c.dedup.ensures.filtered ∙ ap (dedup is_same) c.attached-there.ensures.there
