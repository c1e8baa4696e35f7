use Rattle.std.proofs.Common.{◌+◌, ℕ, ℤ, true, List, ap, refl, ◌∙◌, arith}
use Rattle.sn_mem.proofs.Feet.{part_at, read_part}
use Rattle.sn_io.specs.OverWords.{onto_block}
use Rattle.sn_io.proofs.joints.add_lane.Goals as goal

pub load_samples-samples-requires : goal.load_samples-samples-requires
load_samples-samples-requires g c =
    let f = g.P.Port.foot c.args.port.now in
    let m = c.args.moved.now in
    read_part f f m.lane.at 65 (m.lane.at + 1) 64 c.requires.may.lane refl (omega arith) (omega arith)

pub put_block-requires-clause-bus : goal.put_block-requires-clause-bus
put_block-requires-clause-bus g c =
    let m = c.args.moved.now in
    part_at (g.P.Port.foot c.args.port.now) (g.P.Port.foot c.load_samples-samples.new.self) m.bus.at 65 m.bus.at 65 c.requires.may.bus c.load_samples-samples.ensures.foot (omega arith) (omega arith)

pub returns-clause-words : goal.returns-clause-words
returns-clause-words g c =
    let ws = g.P.Port.words c.args.port.now in
    let m = c.args.moved.now in
    c.put_block.ensures.words
    ∙ ap (λ (us : List ℕ). onto_block true c.args.block us m.bus.at c.load_samples-samples.result) c.load_samples-samples.ensures.words
    ∙ ap (λ (xs : List ℤ). onto_block true c.args.block ws m.bus.at xs) c.load_samples-samples.ensures.value
