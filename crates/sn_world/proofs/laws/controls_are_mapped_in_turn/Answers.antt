use Rattle.sn_world.proofs.MapFolds.{each_mapped}
use Rattle.sn_world.proofs.laws.controls_are_mapped_in_turn.Goals as goal

pub returns : goal.returns
returns c = λ from xs t. each_mapped xs t
