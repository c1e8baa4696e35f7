use Rattle.std.proofs.Common.{length, ap, arith}
use Rattle.sn_engine.proofs.HearingLemmas.{words_same}
use Rattle.sn_engine.proofs.Memories.{wide}
use Rattle.sn_engine.proofs.memory.Memory.word.Goals as goal

pub load-requires-clause-at : goal.load-requires-clause-at
load-requires-clause-at c =
    let e = c.self.inside in
    let i = c.self.invariant in
    omega (arith, c.requires, ap length (words_same c.self.view_is), wide e.shared e.main i.0 i.1)
