use Rattle.sn_def.proofs.Layouts.{kept_at}
use Rattle.sn_def.proofs.definition.Def.kept_words.Goals as goal

pub returns-in-44100 : goal.returns-in-44100
returns-in-44100 c = rw (c.row_at.ensures, c.deref.ensures.value, c.in-44100.is) (kept_at 44100 c.args.self.now.units c.args.self.now.low.items c.args.number c.args.self.now.low_is)

pub returns-in-48000 : goal.returns-in-48000
returns-in-48000 c = rw (c.row_at-in-48000.ensures, c.deref-in-48000.ensures.value, c.in-48000.is) (kept_at 48000 c.args.self.now.units c.args.self.now.middle.items c.args.number c.args.self.now.middle_is)

pub returns-in-96000 : goal.returns-in-96000
returns-in-96000 c = rw (c.row_at-in-96000.ensures, c.deref-in-96000.ensures.value, c.in-96000.is) (kept_at 96000 c.args.self.now.units c.args.self.now.high.items c.args.number c.args.self.now.high_is)
