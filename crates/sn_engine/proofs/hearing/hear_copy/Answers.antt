use Rattle.std.proofs.Common.{◌≡◌, ◌*◌, length, ap, ◌∙◌, refl, arith}
use Rattle.sn_engine.proofs.HearingLemmas.{room_for_one, words_same}
use Rattle.sn_engine.proofs.CopyLemmas.{none_copied, next_copied, few_copied, copied_made}
use Rattle.sn_engine.proofs.hearing.hear_copy.Goals as goal

pub loop-frame-init : goal.loop-frame-init
loop-frame-init c = record {
  samples = none_copied c.args.channels c.args.at c.args.memory.now.words c.clear.new.self.items c.clear.ensures.items;
  room = omega (arith, c.requires.room, c.clear.ensures.capacity);
  same = refl;
}

pub loop-frame-preserved : goal.loop-frame-preserved
loop-frame-preserved c =
    let i = c.loop-frame.invariant in
    record {
      samples = next_copied c.args.channels c.args.at c.args.memory.now.words c.loop-frame.memory.words c.loop-frame.frame c.loop-frame.samples.items c.append_copied.new.samples.items i.samples (words_same i.same) c.append_copied.ensures.samples;
      room = omega (arith, i.room, c.append_copied.ensures.room);
      same = c.append_copied.ensures.same ∙ i.same;
    }

pub returns-clause-few : goal.returns-clause-few
returns-clause-few c =
    let last : c.loop-frame.frame ≡ 64 = omega (arith, c.loop-frame-test.false, c.loop-frame.auto.frame-end) in
    few_copied c.args.channels c.args.at c.args.memory.now.words c.loop-frame.frame c.loop-frame.samples.items c.requires.channels last c.loop-frame.invariant.samples

pub append_copied-requires-clause-room : goal.append_copied-requires-clause-room
append_copied-requires-clause-room c =
    let made : length c.loop-frame.samples.items ≡ c.loop-frame.frame * c.args.channels = ap length c.loop-frame.invariant.samples ∙ copied_made c.args.channels c.args.at c.args.memory.now.words c.loop-frame.frame in
    room_for_one c.loop-frame.frame c.args.channels _ _ c.requires.channels c.loop-frame-test.true made c.loop-frame.invariant.room

pub append_copied-requires-clause-inside : goal.append_copied-requires-clause-inside
append_copied-requires-clause-inside c = omega (arith, c.requires.inside, ap length (words_same c.loop-frame.invariant.same))
