use Rattle.std.proofs.Common.{◌≡◌, ◌*◌, length, ap, sym, subst, ◌∙◌, arith, ℕ, List}
use Rattle.sn_world.specs.World.{world_of}
use Rattle.sn_engine.specs.Hearing.{AreWritten}
use Rattle.sn_engine.proofs.HearingLemmas.{no_frames, next_frame, few_frames, frames_made, room_for_one, words_same, still_wide}
use Rattle.sn_engine.proofs.hearing.hear_block.Goals as goal

pub loop-frame-init : goal.loop-frame-init
loop-frame-init c = record {
  samples = no_frames c.args.channels c.args.block (world_of c.args.stage.now c.args.memory.now.words) c.clear.new.self.items c.clear.ensures.items;
  room = omega (arith, c.requires.room, c.clear.ensures.capacity);
  same = c.written_buses-written.ensures.same;
}

pub loop-frame-preserved : goal.loop-frame-preserved
loop-frame-preserved c =
    let i = c.loop-frame.invariant in
    let are : AreWritten c.args.block c.loop-frame.memory.words 8 c.written_buses-written.result =
    subst (λ (ws : List ℕ). AreWritten c.args.block ws 8 c.written_buses-written.result) (sym (words_same i.same)) c.written_buses-written.ensures.written in
    record {
      samples = next_frame c.args.channels c.args.block (world_of c.args.stage.now c.args.memory.now.words) (world_of c.args.stage.now c.loop-frame.memory.words) c.loop-frame.frame
          c.loop-frame.samples.items c.append_frame.new.samples.items i.samples (ap (λ (ws : List ℕ). world_of c.args.stage.now ws) (words_same i.same)) (c.append_frame.ensures.samples c.args.block are);
      room = omega (arith, i.room, c.append_frame.ensures.room);
      same = c.append_frame.ensures.same ∙ i.same;
    }

pub returns-clause-few : goal.returns-clause-few
returns-clause-few c =
    let last : c.loop-frame.frame ≡ 64 = omega (arith, c.loop-frame-test.false, c.loop-frame.auto.frame-end) in
    few_frames c.args.channels c.args.block (world_of c.args.stage.now c.args.memory.now.words) c.loop-frame.frame c.loop-frame.samples.items c.requires.channels last c.loop-frame.invariant.samples

pub append_frame-requires-clause-room : goal.append_frame-requires-clause-room
append_frame-requires-clause-room c =
    let made : length c.loop-frame.samples.items ≡ c.loop-frame.frame * c.args.channels =
    ap length c.loop-frame.invariant.samples ∙ frames_made c.args.channels c.args.block (world_of c.args.stage.now c.args.memory.now.words) c.loop-frame.frame in
    room_for_one c.loop-frame.frame c.args.channels _ _ c.requires.channels c.loop-frame-test.true made c.loop-frame.invariant.room

pub append_frame-requires-clause-wide : goal.append_frame-requires-clause-wide
append_frame-requires-clause-wide c = still_wide c.loop-frame.invariant.same c.requires.wide
