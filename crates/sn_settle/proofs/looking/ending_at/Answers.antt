use Rattle.std.proofs.Common.{sym}
use Rattle.sn_def.specs.StateWords.{unit_words}
use Rattle.sn_def.proofs.RowLaws.{ender_words}
use Rattle.sn_settle.proofs.Reading.{read_word}
use Rattle.sn_settle.proofs.looking.ending_at.Goals as goal

pub load-requires : goal.load-requires
load-requires g c =
    read_word (g.P.Port.foot c.args.port.now) c.args.at (unit_words c.requires.reads.0 c.args.unit.now) c.requires.reads.1 (ender_words c.requires.reads.0 c.args.unit.now c.in-Some.action (sym c.in-Some.ensures))
