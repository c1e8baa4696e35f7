use Rattle.sn_buscmd.proofs.QueryLemmas.{can_be_said}
use Rattle.sn_buscmd.proofs.buffer_querying.push_infos.Goals as goal

pub push_info-requires-clause-place : goal.push_info-requires-clause-place
push_info-requires-clause-place c = can_be_said c.args.stage.now c.requires.pictures.0 _ c.find.result c.requires.pictures.1 c.find.ensures
