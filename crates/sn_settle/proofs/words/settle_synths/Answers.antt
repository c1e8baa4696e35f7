use Rattle.std.proofs.Common.{◌≤◌, ◌<◌, ◌+◌, ◌∙◌, length, drop, map, refl, ap, sym, subst, arith, List}
use Rattle.sn_settle.specs.Eventful.{SynthAt, synth_at, all_settled, AreWithin}
use Rattle.sn_settle.proofs.Reading.{drop_next, drop_past}
use Rattle.sn_settle.proofs.words.settle_synths.Goals as goal

pub loop-synth-init : goal.loop-synth-init
loop-synth-init g c = record { words = refl; within = c.requires.within; foot = refl; rest = refl }

pub settle_synth-requires-clause-within : goal.settle_synth-requires-clause-within
settle_synth-requires-clause-within g c =
    let stage = c.args.stage.now in
    let lt : c.loop-synth.synth-index < length c.args.synths.now = omega arith in
    let is = ap (map synth_at) (drop_next c.args.synths.now c.loop-synth.synth-index c.synth-item.result lt c.synth-item.is) in
    (subst (AreWithin stage.rate stage.pool.region) is c.loop-synth.invariant.within).0

pub loop-synth-preserved : goal.loop-synth-preserved
loop-synth-preserved g c =
    let stage = c.args.stage.now in
    let i = c.loop-synth.invariant in
    let lt : c.loop-synth.synth-index < length c.args.synths.now = omega arith in
    let left = map synth_at (drop (c.loop-synth.synth-index + 1) c.args.synths.now) in
    let is = ap (map synth_at) (drop_next c.args.synths.now c.loop-synth.synth-index c.synth-item.result lt c.synth-item.is) in
    record {
      words = ap (all_settled stage.rate left) c.settle_synth.ensures.words
          ∙ sym (ap (λ (ss : List SynthAt). all_settled stage.rate ss (g.P.Port.words c.loop-synth.port)) is)
          ∙ i.words;
      within = (subst (AreWithin stage.rate stage.pool.region) is i.within).1;
      foot = c.settle_synth.ensures.port.0 ∙ i.foot;
      rest = c.settle_synth.ensures.port.1 ∙ i.rest;
    }

pub returns-clause-words : goal.returns-clause-words
returns-clause-words g c =
    let past : length c.args.synths.now ≤ c.loop-synth.synth-index = omega arith in
    let gone = ap (map synth_at) (drop_past c.args.synths.now c.loop-synth.synth-index past) in
    sym (ap (λ (ss : List SynthAt). all_settled c.args.stage.now.rate ss (g.P.Port.words c.loop-synth.port)) gone) ∙ c.loop-synth.invariant.words
