use Rattle.std.proofs.Common.{◌≡◌, ◌+◌, true, ap, ◌∙◌, arith}
use Rattle.sn_mem.specs.declared.extents.Foot.{Foot}
use Rattle.sn_mem.specs.Words.{touches}
use Rattle.sn_def.specs.StateWords.{unit_words}
use Rattle.sn_def.specs.Facts.{sends}
use Rattle.sn_def.proofs.RowLaws.{sender_words}
use Rattle.sn_settle.proofs.Reading.{read_word}
use Rattle.sn_settle.proofs.looking.trigger_at.Goals as goal

pub load-requires : goal.load-requires
load-requires g c =
    let sent : sends c.args.unit.now.kind ≡ true = cc in
    let n = unit_words c.requires.reads.0 c.args.unit.now in
    read_word (g.P.Port.foot c.args.port.now) c.args.at n c.requires.reads.1 (omega (arith, sender_words c.requires.reads.0 c.args.unit.now sent))

pub overflow_add-at : goal.overflow_add-at
overflow_add-at g c =
    let sent : sends c.args.unit.now.kind ≡ true = cc in
    omega (arith, c.requires.reads.1.below, sender_words c.requires.reads.0 c.args.unit.now sent)

pub load-requires-2 : goal.load-requires-2
load-requires-2 g c =
    let sent : sends c.args.unit.now.kind ≡ true = cc in
    ap (λ (f : Foot). touches f (c.args.at + 1)) c.load.ensures.foot ∙ c.requires.reads.1.each 1 (omega (arith, sender_words c.requires.reads.0 c.args.unit.now sent))

pub overflow_add-at-2 : goal.overflow_add-at-2
overflow_add-at-2 g c =
    let sent : sends c.args.unit.now.kind ≡ true = cc in
    omega (arith, c.requires.reads.1.below, sender_words c.requires.reads.0 c.args.unit.now sent)

pub load-requires-3 : goal.load-requires-3
load-requires-3 g c =
    let sent : sends c.args.unit.now.kind ≡ true = cc in
    ap (λ (f : Foot). touches f (c.args.at + 2)) (c.load-2.ensures.foot ∙ c.load.ensures.foot) ∙ c.requires.reads.1.each 2 (omega (arith, sender_words c.requires.reads.0 c.args.unit.now sent))
