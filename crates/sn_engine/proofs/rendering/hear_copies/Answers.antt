use Rattle.std.proofs.Common.{◌≡◌, ◌≤◌, ◌+◌, ◌*◌, ◌∙◌, ℕ, ℤ, List, length, le_refl, refl, ap, arith, rules}
use Rattle.sn_quiet.specs.Walks.{walks}
use Rattle.sn_world.specs.World.{world_of}
use Rattle.sn_engine.specs.Outputs.{copied_frames, outputs}
use Rattle.sn_engine.proofs.CopyLemmas.{frames_are}
use Rattle.sn_engine.proofs.HearingLemmas.{words_same}
use Rattle.sn_engine.proofs.RenderLemmas.{few_bytes, no_sounds, sound_more}
use Rattle.sn_engine.proofs.rendering.hear_copies.Goals as goal

pub loop-number-init : goal.loop-number-init
loop-number-init c = record {
  same = refl;
  sound = λ words played. no_sounds c.args.part.now.settings.now c.args.part.now.first (world_of c.args.part.now.stage.now words) c.args.sound.now.bytes;
  spare = omega arith;
  samples = c.requires.samples;
}

pub loop-number-preserved : goal.loop-number-preserved
loop-number-preserved c =
    let part = c.args.part.now in
    let i = c.loop-number.invariant in
    let k : ℕ = c.loop-number.number in
    let heard = c.hear_copy.ensures in
    let deref : c.deref.result.now ≡ c.hear_copy.new.samples.items = search rules in
    let few : length c.deref.result.now ≤ 512 = omega (arith, ap (λ (xs : List ℤ). length xs) deref, heard.few) in record {
      same = heard.same ∙ i.same;
      sound = λ words played.
          let us : List ℕ = c.args.memory.now.words in
          let samples : c.hear_copy.new.samples.items ≡ outputs part.settings.now (part.first + k) (walks part.first (k + 1) (world_of part.stage.now words)) =
          heard.samples
          ∙ (ap (λ (vs : List ℕ). copied_frames part.settings.now.channels (part.copies + 512 * k) vs 64) (words_same i.same)
          ∙ frames_are part.stage.now part.first c.args.blocks part.copies part.settings.now.channels words us played k 64 c.loop-number-test.true (le_refl 64)) in
          sound_more part.settings.now part.first k (world_of part.stage.now words) _ c.args.sound.now.bytes c.loop-number.sound.bytes c.frames.new.out.bytes c.deref.result.now (i.sound words played) refl (deref ∙ samples) c.frames.ensures.bytes;
      spare = omega (arith, i.spare, c.frames.ensures.room, few_bytes part.settings.now (length c.deref.result.now) few);
      samples = heard.room;
    }

pub hear_copy-requires-clause-inside : goal.hear_copy-requires-clause-inside
hear_copy-requires-clause-inside c = omega (arith, c.requires.inside, c.loop-number-test.true, ap length (words_same c.loop-number.invariant.same))

pub hear_copy-requires-clause-bounded : goal.hear_copy-requires-clause-bounded
hear_copy-requires-clause-bounded c = omega (arith, c.requires.bounded, c.loop-number-test.true)

pub frames-requires : goal.frames-requires
frames-requires c =
    let deref : c.deref.result.now ≡ c.hear_copy.new.samples.items = search rules in
    let few : length c.deref.result.now ≤ 512 = omega (arith, ap (λ (xs : List ℤ). length xs) deref, c.hear_copy.ensures.few) in
    omega (arith, c.requires.room, c.loop-number.invariant.spare, few_bytes c.args.part.now.settings.now (length c.deref.result.now) few, c.loop-number-test.true)

pub returns-clause-spare : goal.returns-clause-spare
returns-clause-spare c = omega (arith, c.loop-number.invariant.spare, c.loop-number.auto.number-end)
