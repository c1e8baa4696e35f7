use Rattle.std.proofs.Common.{◌∙◌, map}
use Rattle.sn_osc.specs.Shape.{shape}
use Rattle.sn_drill.specs.Line.{drill_line}
use Rattle.sn_top.proofs.DrillLemmas.{rate_fits, blocks_fit, playable, drilled}
use Rattle.sn_top.proofs.drilling.play_drill.Goals as goal

pub drill_packets-requires-clause-rate : goal.drill_packets-requires-clause-rate
drill_packets-requires-clause-rate g c = (rate_fits c.args.chosen.now.settings).0

pub drill_packets-requires-clause-some : goal.drill_packets-requires-clause-some
drill_packets-requires-clause-some g c = (blocks_fit c.args.chosen.now.blocks c.args.chosen.now.blocks_are).0

pub drill_packets-requires-clause-few : goal.drill_packets-requires-clause-few
drill_packets-requires-clause-few g c = (blocks_fit c.args.chosen.now.blocks c.args.chosen.now.blocks_are).1

pub play-outcome-requires-clause-playable : goal.play-outcome-requires-clause-playable
play-outcome-requires-clause-playable g c = λ κs lives.
    let chosen = c.args.chosen.now in
    playable chosen.settings chosen.seed chosen.blocks (map shape c.in_ok-packets.packets.items) (blocks_fit chosen.blocks chosen.blocks_are).1 c.in_ok-packets.ensures

pub returns-clause-last : goal.returns-clause-last
returns-clause-last g c =
    let chosen = c.args.chosen.now in
    (drilled chosen.settings chosen.seed chosen.blocks c.in-Done.blocks (map shape c.in_ok-packets.packets.items) c.new-sound.result.bytes.bytes c.play-outcome.new.sound.bytes.bytes
    c.new-replies.result.bytes.bytes c.play-outcome.new.replies.bytes.bytes (blocks_fit chosen.blocks chosen.blocks_are).0 c.in_ok-packets.ensures c.new-sound.ensures.bytes c.new-replies.ensures.bytes
    (c.play-outcome.ensures.done c.in-Done.blocks c.in-Done.is)).0

pub returns-clause-blocks : goal.returns-clause-blocks
returns-clause-blocks g c =
    let chosen = c.args.chosen.now in
    (drilled chosen.settings chosen.seed chosen.blocks c.in-Done.blocks (map shape c.in_ok-packets.packets.items) c.new-sound.result.bytes.bytes c.play-outcome.new.sound.bytes.bytes
    c.new-replies.result.bytes.bytes c.play-outcome.new.replies.bytes.bytes (blocks_fit chosen.blocks chosen.blocks_are).0 c.in_ok-packets.ensures c.new-sound.ensures.bytes c.new-replies.ensures.bytes
    (c.play-outcome.ensures.done c.in-Done.blocks c.in-Done.is)).1

pub returns-clause-line : goal.returns-clause-line
returns-clause-line g c =
    let chosen = c.args.chosen.now in
    c.in_ok-line.ensures ∙ (λ i. drill_line chosen.blocks (c.taken.ensures i) (c.taken-2.ensures i)) ∙
    (drilled chosen.settings chosen.seed chosen.blocks c.in-Done.blocks (map shape c.in_ok-packets.packets.items) c.new-sound.result.bytes.bytes c.play-outcome.new.sound.bytes.bytes
    c.new-replies.result.bytes.bytes c.play-outcome.new.replies.bytes.bytes (blocks_fit chosen.blocks chosen.blocks_are).0 c.in_ok-packets.ensures c.new-sound.ensures.bytes c.new-replies.ensures.bytes
    (c.play-outcome.ensures.done c.in-Done.blocks c.in-Done.is)).2
