use Rattle.std.proofs.Common.{ap, sym, ◌∙◌}
use Rattle.sn_mem.specs.declared.extents.Foot.{Foot}
use Rattle.sn_mem.specs.Words.{writes}
use Rattle.sn_def.specs.StateWords.{unit_words}
use Rattle.sn_world.proofs.Meanings.{touched}
use Rattle.sn_def.proofs.RowLaws.{ender_words}
use Rattle.sn_settle.proofs.Reading.{write_word}
use Rattle.sn_settle.proofs.words.settle_unit.Goals as goal

pub load-requires : goal.load-requires
load-requires g c =
    touched (g.P.Port.foot c.args.port.now) c.args.at
    (write_word (g.P.Port.foot c.args.port.now) c.args.at (unit_words c.requires.writes.0 c.args.unit.now) c.requires.writes.1 (ender_words c.requires.writes.0 c.args.unit.now c.in-Some._action (sym c.in-Some.ensures)))

pub store-requires : goal.store-requires
store-requires g c =
    ap (λ (f : Foot). writes f c.args.at) c.load.ensures.foot
    ∙ write_word (g.P.Port.foot c.args.port.now) c.args.at (unit_words c.requires.writes.0 c.args.unit.now) c.requires.writes.1 (ender_words c.requires.writes.0 c.args.unit.now c.in-Some._action (sym c.in-Some.ensures))
