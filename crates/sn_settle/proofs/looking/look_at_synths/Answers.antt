use Rattle.std.proofs.Common.{◌≤◌, ◌<◌, ◌+◌, ◌∙◌, length, drop, map, refl, ap, sym, subst, arith, List, ℕ}
use Rattle.sn_settle.specs.Eventful.{SynthAt, synth_at, synth_triggers, synth_endings, all_triggers, all_endings, AreWithin}
use Rattle.sn_settle.specs.Telling.{CanLook, AreSeen}
use Rattle.sn_settle.proofs.Sending.{IsUnderway, underway_none, underway_can, underway_next, underway_all}
use Rattle.sn_settle.proofs.Reading.{drop_next, drop_past}
use Rattle.sn_settle.proofs.looking.look_at_synths.Goals as goal

pub loop-synth-init : goal.loop-synth-init
loop-synth-init g c = record {
  underway = underway_none c.args.stage.now.notify _ _ _ _ c.args.outs.now c.args.endings.now refl refl;
  within = c.requires.within;
  words = refl;
  foot = refl;
  rest = refl;
}

pub look_at_synth-requires-clause-within : goal.look_at_synth-requires-clause-within
look_at_synth-requires-clause-within g c =
    let stage = c.args.stage.now in
    let lt : c.loop-synth.synth-index < length c.args.synths.now = omega arith in
    let is = ap (map synth_at) (drop_next c.args.synths.now c.loop-synth.synth-index c.synth-item.result lt c.synth-item.is) in
    (subst (AreWithin stage.rate stage.pool.region) is c.loop-synth.invariant.within).0

pub look_at_synth-requires-clause-can : goal.look_at_synth-requires-clause-can
look_at_synth-requires-clause-can g c =
    let stage = c.args.stage.now in
    let ws = g.P.Port.words c.args.port.now in
    let i = c.loop-synth.invariant in
    let lt : c.loop-synth.synth-index < length c.args.synths.now = omega arith in
    let s = synth_at c.synth-item.result in
    let all = map synth_at c.args.synths.now in
    let left = map synth_at (drop (c.loop-synth.synth-index + 1) c.args.synths.now) in
    let is = ap (map synth_at) (drop_next c.args.synths.now c.loop-synth.synth-index c.synth-item.result lt c.synth-item.is) in
    subst (λ (us : List ℕ). CanLook (synth_triggers stage.rate c.args.block s us) (synth_endings stage.rate s us) c.loop-synth.outs c.loop-synth.endings) (sym i.words)
    (underway_can stage.notify (all_triggers stage.rate c.args.block all ws) (synth_triggers stage.rate c.args.block s ws) (all_triggers stage.rate c.args.block left ws) (all_endings stage.rate all ws) (synth_endings stage.rate s ws) (all_endings stage.rate left ws)
    c.args.outs.now c.loop-synth.outs c.args.endings.now c.loop-synth.endings c.requires.can
    (subst (λ (ss : List SynthAt). IsUnderway stage.notify (all_triggers stage.rate c.args.block all ws) (all_triggers stage.rate c.args.block ss ws) (all_endings stage.rate all ws) (all_endings stage.rate ss ws) c.args.outs.now c.loop-synth.outs c.args.endings.now c.loop-synth.endings) is i.underway))

pub loop-synth-preserved : goal.loop-synth-preserved
loop-synth-preserved g c =
    let stage = c.args.stage.now in
    let ws = g.P.Port.words c.args.port.now in
    let i = c.loop-synth.invariant in
    let lt : c.loop-synth.synth-index < length c.args.synths.now = omega arith in
    let s = synth_at c.synth-item.result in
    let all = map synth_at c.args.synths.now in
    let left = map synth_at (drop (c.loop-synth.synth-index + 1) c.args.synths.now) in
    let is = ap (map synth_at) (drop_next c.args.synths.now c.loop-synth.synth-index c.synth-item.result lt c.synth-item.is) in
    record {
      underway = underway_next stage.notify (all_triggers stage.rate c.args.block all ws) (synth_triggers stage.rate c.args.block s ws) (all_triggers stage.rate c.args.block left ws) (all_endings stage.rate all ws) (synth_endings stage.rate s ws) (all_endings stage.rate left ws)
          c.args.outs.now c.loop-synth.outs c.look_at_synth.new.outs c.args.endings.now c.loop-synth.endings c.look_at_synth.new.endings
          (subst (λ (ss : List SynthAt). IsUnderway stage.notify (all_triggers stage.rate c.args.block all ws) (all_triggers stage.rate c.args.block ss ws) (all_endings stage.rate all ws) (all_endings stage.rate ss ws) c.args.outs.now c.loop-synth.outs c.args.endings.now c.loop-synth.endings) is i.underway)
          (subst (λ (us : List ℕ). AreSeen stage.notify (synth_triggers stage.rate c.args.block s us) (synth_endings stage.rate s us) c.loop-synth.outs c.look_at_synth.new.outs c.loop-synth.endings c.look_at_synth.new.endings) i.words c.look_at_synth.ensures.seen);
      within = (subst (AreWithin stage.rate stage.pool.region) is i.within).1;
      words = c.look_at_synth.ensures.words ∙ i.words;
      foot = c.look_at_synth.ensures.port.0 ∙ i.foot;
      rest = c.look_at_synth.ensures.port.1 ∙ i.rest;
    }

pub returns-clause-seen : goal.returns-clause-seen
returns-clause-seen g c =
    let stage = c.args.stage.now in
    let ws = g.P.Port.words c.args.port.now in
    let all = map synth_at c.args.synths.now in
    let left = map synth_at (drop c.loop-synth.synth-index c.args.synths.now) in
    let past : length c.args.synths.now ≤ c.loop-synth.synth-index = omega arith in
    let gone = ap (map synth_at) (drop_past c.args.synths.now c.loop-synth.synth-index past) in
    underway_all stage.notify (all_triggers stage.rate c.args.block all ws) (all_triggers stage.rate c.args.block left ws) (all_endings stage.rate all ws) (all_endings stage.rate left ws) c.args.outs.now c.loop-synth.outs c.args.endings.now c.loop-synth.endings
    (ap (λ (ss : List SynthAt). all_triggers stage.rate c.args.block ss ws) gone) (ap (λ (ss : List SynthAt). all_endings stage.rate ss ws) gone) c.loop-synth.invariant.underway
