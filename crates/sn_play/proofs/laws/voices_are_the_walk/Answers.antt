use Rattle.sn_play.proofs.Stages.{voices_walk}
use Rattle.sn_play.proofs.laws.voices_are_the_walk.Goals as goal

pub returns : goal.returns
returns c = λ words p. voices_walk c.args.stage.now c.root_holds_all.ensures words p
