use Rattle.std.proofs.Common.{◌≤◌, arith}
use Rattle.sn_def.specs.Defs.{definition_of}
use Rattle.sn_def.specs.StateWords.{state_words}
use Rattle.sn_def.proofs.Counting.{few}
use Rattle.sn_def.proofs.definition.Def.state_words.Goals as goal

pub total_words-requires : goal.total_words-requires
total_words-requires c =
    let bound : state_words c.args.rate (definition_of c.args.self.now) ≤ 1474560768 = few c.args.rate (definition_of c.args.self.now) c.requires c.args.self.now.written in
    rw c.as_slice.ensures (omega arith)

pub returns-clause-bound : goal.returns-clause-bound
returns-clause-bound c =
    let bound : state_words c.args.rate (definition_of c.args.self.now) ≤ 1474560768 = few c.args.rate (definition_of c.args.self.now) c.requires c.args.self.now.written in
    rw (c.total_words.ensures, c.as_slice.ensures) bound
