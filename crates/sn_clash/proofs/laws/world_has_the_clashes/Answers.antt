use Rattle.sn_clash.proofs.Worlds.{same_clashes}
use Rattle.sn_clash.proofs.laws.world_has_the_clashes.Goals as goal

pub returns : goal.returns
returns c = λ words. same_clashes c.args.stage.now words
