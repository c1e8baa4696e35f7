use Rattle.sn_play.proofs.LanedStage.{world_below}
use Rattle.sn_play.proofs.laws.worlds_lie_below.Goals as goal

pub returns : goal.returns
returns c = λ words first pictures lies. world_below c.args.stage.now words pictures first lies
