use Rattle.std.proofs.Common.{◌≡◌, ◌+◌, ◌++◌, ℕ, List, length, refl, subst, arith, rules, ◌∙◌, ap}
use Rattle.sn_quiet.specs.Walks.{walks}
use Rattle.sn_world.specs.World.{World, world_of}
use Rattle.sn_engine.specs.Outputs.{sounds}
use Rattle.sn_engine.specs.Planning.{LanesRest}
use Rattle.sn_engine.specs.Spans.{AreRounds}
use Rattle.sn_engine.proofs.LaneLemmas.{still_laned}
use Rattle.sn_engine.proofs.RoundLemmas.{AreRendered, none_rendered, rendered_on}
use Rattle.sn_engine.proofs.RowLemmas.{still_copied}
use Rattle.sn_engine.proofs.rendering.render.Goals as goal

pub loop-done-init : goal.loop-done-init
loop-done-init g c = record {
  few = omega arith;
  rendered = none_rendered c.args.part.now c.args.part.now.first (length c.args.crew.now.hands.items) c.args.memory.now c.args.sound.now.bytes c.requires.pictures c.requires.resting;
  spare = omega arith;
  samples = c.requires.samples;
  crew = refl;
}

pub loop-done-preserved : goal.loop-done-preserved
loop-done-preserved g c =
    let part = c.args.part.now in
    let i = c.loop-done.invariant in
    let first = c.render_first-done.ensures in
    let k : ℕ = c.render_first-done.result in
    let next : ℕ = part.first + c.from.result in
    let number : c.from.result ≡ c.loop-done.done = search rules in
    let more : AreRendered part next k (length c.loop-done.crew.hands.items) c.loop-done.memory c.render_first-done.new.memory c.loop-done.sound.bytes c.render_first-done.new.sound.bytes = record {
      world = first.world;
      pictures = first.pictures;
      resting = first.resting;
      long = first.length;
      sound = first.sound;
      rounds = first.rounds;
      stores = first.stores;
    } in
    record {
      few = omega (arith, first.few, i.few);
      rendered = rendered_on part part.first next c.loop-done.done k (length c.args.crew.now.hands.items) (length c.loop-done.crew.hands.items) c.args.memory.now c.loop-done.memory c.render_first-done.new.memory c.args.sound.now.bytes c.loop-done.sound.bytes c.render_first-done.new.sound.bytes
          (ap (λ n. part.first + n) number) i.crew i.rendered more;
      spare = omega (arith, i.spare, first.spare);
      samples = first.samples;
      crew = first.crew ∙ i.crew;
    }

pub render_first-done-requires-clause-pictures : goal.render_first-done-requires-clause-pictures
render_first-done-requires-clause-pictures g c κs within = c.loop-done.invariant.rendered.pictures

pub render_first-done-requires-clause-copies : goal.render_first-done-requires-clause-copies
render_first-done-requires-clause-copies g c κs within =
    let part = c.args.part.now in
    still_copied part.settings.now.channels part.stage.now part.stage.now c.args.memory.now.words c.loop-done.memory.words part.outputs.now part.copies refl c.loop-done.invariant.rendered.long c.requires.copies

pub render_first-done-requires-clause-some : goal.render_first-done-requires-clause-some
render_first-done-requires-clause-some g c κs within = omega (arith, c.loop-done-test.true)

pub render_first-done-requires-clause-early : goal.render_first-done-requires-clause-early
render_first-done-requires-clause-early g c κs within =
    let number : c.from.result ≡ c.loop-done.done = search rules in
    omega (arith, c.requires.early, number, c.loop-done-test.true)

pub render_first-done-requires-clause-lanes : goal.render_first-done-requires-clause-lanes
render_first-done-requires-clause-lanes g c κs within =
    let stage = c.args.part.now.stage.now in
    still_laned stage stage c.args.memory.now.words c.loop-done.memory.words refl c.loop-done.invariant.rendered.long c.requires.lanes

pub render_first-done-requires-clause-resting : goal.render_first-done-requires-clause-resting
render_first-done-requires-clause-resting g c κs within =
    let part = c.args.part.now in
    let number : c.loop-done.done ≡ c.from.result = search rules in
    subst (λ n. LanesRest part.stage.now (part.first + n) c.loop-done.memory.words) number c.loop-done.invariant.rendered.resting

pub render_first-done-requires-clause-room : goal.render_first-done-requires-clause-room
render_first-done-requires-clause-room g c κs within = omega (arith, c.requires.room, c.loop-done.invariant.spare, c.loop-done.invariant.few)

pub returns : goal.returns
returns g c =
    let part = c.args.part.now in
    let w : World = world_of part.stage.now c.args.memory.now.words in
    let last : c.loop-done.done ≡ part.blocks = omega (arith, c.loop-done-test.false, c.loop-done.invariant.few) in
    let all : AreRendered part part.first part.blocks (length c.args.crew.now.hands.items) c.args.memory.now c.loop-done.memory c.args.sound.now.bytes c.loop-done.sound.bytes =
    subst (λ n. AreRendered part part.first n (length c.args.crew.now.hands.items) c.args.memory.now c.loop-done.memory c.args.sound.now.bytes c.loop-done.sound.bytes) last c.loop-done.invariant.rendered in
    record {
      world = all.world;
      pictures = all.pictures;
      resting = all.resting;
      length = all.long;
      sound = all.sound;
      samples = c.loop-done.invariant.samples;
      rounds = all.rounds;
      stores = all.stores;
      crew = c.loop-done.invariant.crew;
    }
