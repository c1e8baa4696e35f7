use Rattle.std.proofs.Common.{ap}
use Rattle.sn_engine.specs.Playing.{Playing}
use Rattle.sn_engine.proofs.engine.Engine.stage.Goals as goal

pub returns : goal.returns
returns c = record {
  words = c.self.inside.memory.words;
  stands = ap (λ (p : Playing). p.running.world) c.self.view_is;
  pictures = c.self.invariant.0;
}
