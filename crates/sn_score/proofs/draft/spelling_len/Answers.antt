use Rattle.sn_osc.specs.Shape.{shape}
use Rattle.sn_score.proofs.Spelling.{no_spelling, long_spelling, some_spelling}
use Rattle.sn_score.proofs.draft.spelling_len.Goals as goal

pub returns-then-not-spellable : goal.returns-then-not-spellable
returns-then-not-spellable c = no_spelling (shape c.args.packet.now) c.spellable.result c.spellable.ensures c.if-not-spellable.true

pub returns-then-len-gt-MOST_PACKET : goal.returns-then-len-gt-MOST_PACKET
returns-then-len-gt-MOST_PACKET c = long_spelling (shape c.args.packet.now) c.packet_len-len.result c.packet_len-len.ensures.len c.if-len-gt-MOST_PACKET.true

pub returns : goal.returns
returns c =
    some_spelling (shape c.args.packet.now) c.spellable.result c.packet_len-len.result c.spellable.ensures c.if-not-spellable.false c.packet_len-len.ensures.octets c.packet_len-len.ensures.len c.if-len-gt-MOST_PACKET.false
