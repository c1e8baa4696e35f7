use Rattle.sn_pool.proofs.Runs.{beside_unused}
use Rattle.sn_pool.proofs.holes.Holes.release.Goals as goal

pub joined_before-run-requires-clause-beside : goal.joined_before-run-requires-clause-beside
joined_before-run-requires-clause-beside c = beside_unused c.args.self.now.runs c.args.extent c.layout.ensures.runs c.requires.some c.requires.used
