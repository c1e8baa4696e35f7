use Rattle.std.proofs.Common.{◌≡◌, ◌≤◌, ◌+◌, ◌++◌, ◌∷◌, [], ℕ, ℤ, List, length, refl, ap, sym, subst, ◌∙◌, arith, rules}
use Rattle.sn_machine.specs.declared.views.Rested.{Rested}
use Rattle.sn_round.specs.declared.jobs.Job.{Job}
use Rattle.sn_quiet.specs.Walks.{walks}
use Rattle.sn_world.specs.Pictures.{Pictures}
use Rattle.sn_world.specs.Walk.{walk}
use Rattle.sn_world.specs.World.{World, world_of}
use Rattle.sn_world.specs.declared.stage.Stage.{Stage}
use Rattle.sn_engine.specs.Outputs.{frames_of, outputs}
use Rattle.sn_engine.specs.Planning.{HasLanes, IsPlanOf, LanesRest}
use Rattle.sn_engine.specs.Remembered.{Remembered}
use Rattle.sn_engine.proofs.LaneLemmas.{still_laned}
use Rattle.sn_engine.proofs.RenderLemmas.{few_bytes, no_rounds, no_sounds, no_walks, rounds_more, sound_more, walk_more, walked_at}
use Rattle.sn_engine.proofs.rendering.render_each.Goals as goal

pub loop-number-init : goal.loop-number-init
loop-number-init g c =
    let part = c.args.part.now in
    let w : World = world_of part.stage.now c.args.memory.now.words in
    let none : part.first ≡ part.first + 0 = omega arith in
    record {
      resting = subst (λ b. LanesRest part.stage.now b c.args.memory.now.words) none c.requires.resting;
      world = no_walks part.first w;
      pictures = c.requires.pictures;
      long = refl;
      sound = no_sounds part.settings.now part.first w c.args.sound.now.bytes;
      spare = omega arith;
      samples = c.requires.samples;
      rounds = no_rounds c.args.memory.now.rounds (record { jobs = part.planned.now.jobs; crew = length c.args.crew.now.hands.items });
      stores = refl;
      crew = refl;
    }

pub loop-number-preserved : goal.loop-number-preserved
loop-number-preserved g c =
    let part = c.args.part.now in
    let i = c.loop-number.invariant in
    let k : ℕ = c.loop-number.number in
    let b = c.block-block in
    let ws : List ℕ = c.loop-number.memory.words in
    let us : List ℕ = c.round.new.self.words in
    let w : World = world_of part.stage.now c.args.memory.now.words in
    let v : World = world_of part.stage.now us in
    let heard = c.hear_block.ensures in
    let after : world_of part.stage.now c.hear_block.new.memory.words ≡ v = ap (λ (m : Remembered). world_of part.stage.now m.words) heard.same in
    let next : v ≡ walk (part.first + k) (world_of part.stage.now ws) = walked_at part.stage.now b.result.stage.now (part.first + k) b.result.block ws us b.ensures.stage b.ensures.block c.round.ensures.world in
    let walked : v ≡ walks part.first (k + 1) w = walk_more part.first k w (world_of part.stage.now ws) v i.world next in
    let same : c.deref.result.now ≡ c.hear_block.new.samples.items = search rules in
    let samples : c.deref.result.now ≡ outputs part.settings.now (part.first + k) v = same ∙ (heard.samples ∙ ap (λ m. frames_of part.settings.now.channels m v 64) b.ensures.block) in
    let few : length c.deref.result.now ≤ 512 = omega (arith, ap (λ (xs : List ℤ). length xs) same, heard.few) in
    let rested : List Job → ℕ → List Rested = λ js n. c.loop-number.memory.rounds ++ record { jobs = js; crew = n } ∷ [] in
    let next_at : b.result.block + 1 ≡ part.first + (k + 1) = omega (arith, b.ensures.block) in
    record {
      resting = subst (λ (m : Remembered). LanesRest part.stage.now (part.first + (k + 1)) m.words) (sym heard.same)
          (subst (λ (s : Stage). LanesRest s (part.first + (k + 1)) us) b.ensures.stage (subst (λ n. LanesRest b.result.stage.now n us) next_at c.round.ensures.resting));
      world = after ∙ walked;
      pictures = subst (λ (m : Remembered). Pictures part.stage.now m.words) (sym heard.same) (subst (λ (s : Stage). Pictures s us) b.ensures.stage c.round.ensures.pictures);
      long = ap (λ (m : Remembered). length m.words) heard.same ∙ (c.round.ensures.length ∙ i.long);
      sound = sound_more part.settings.now part.first k w v c.args.sound.now.bytes c.loop-number.sound.bytes c.frames.new.out.bytes c.deref.result.now i.sound walked samples c.frames.ensures.bytes;
      spare = omega (arith, i.spare, c.frames.ensures.room, few_bytes part.settings.now (length c.deref.result.now) few);
      samples = heard.room;
      rounds = ap (λ (m : Remembered). m.rounds) heard.same ∙ rounds_more c.args.memory.now.rounds c.loop-number.memory.rounds c.round.new.self.rounds (record { jobs = part.planned.now.jobs; crew = length c.args.crew.now.hands.items }) k i.rounds
          (c.round.ensures.rounds ∙ (λ t. rested (b.ensures.plan t) (i.crew t)));
      stores = ap (λ (m : Remembered). m.stores) heard.same ∙ (c.round.ensures.stores ∙ i.stores);
      crew = c.round.ensures.crew ∙ i.crew;
    }

pub round-requires-clause-pictures : goal.round-requires-clause-pictures
round-requires-clause-pictures g c κs within = subst (λ (s : Stage). Pictures s c.loop-number.memory.words) (sym c.block-block.ensures.stage) c.loop-number.invariant.pictures

pub round-requires-clause-planned : goal.round-requires-clause-planned
round-requires-clause-planned g c κs within =
    let b = c.block-block in
    subst (λ (s : Stage). IsPlanOf s b.result.plan.now) (sym b.ensures.stage) (subst (λ (js : List Job). IsPlanOf c.args.part.now.stage.now js) (sym b.ensures.plan) c.requires.planned)

pub round-requires-clause-early : goal.round-requires-clause-early
round-requires-clause-early g c κs within = omega (arith, c.block-block.ensures.block, c.requires.early, c.loop-number-test.true)

pub round-requires-clause-lanes : goal.round-requires-clause-lanes
round-requires-clause-lanes g c κs within =
    let stage = c.args.part.now.stage.now in
    let ws : List ℕ = c.loop-number.memory.words in
    subst (λ (s : Stage). HasLanes s ws) (sym c.block-block.ensures.stage) (still_laned stage stage c.args.memory.now.words ws refl c.loop-number.invariant.long c.requires.lanes)

pub round-requires-clause-resting : goal.round-requires-clause-resting
round-requires-clause-resting g c κs within =
    let b = c.block-block in
    let ws : List ℕ = c.loop-number.memory.words in
    subst (λ (s : Stage). LanesRest s b.result.block ws) (sym b.ensures.stage) (subst (λ n. LanesRest c.args.part.now.stage.now n ws) (sym b.ensures.block) c.loop-number.invariant.resting)

pub returns-clause-resting : goal.returns-clause-resting
returns-clause-resting g c =
    let part = c.args.part.now in
    let last : c.loop-number.number ≡ part.blocks = omega (arith, c.loop-number-test.false, c.loop-number.auto.number-end) in
    subst (λ n. LanesRest part.stage.now (part.first + n) c.loop-number.memory.words) last c.loop-number.invariant.resting

pub hear_block-requires-clause-wide : goal.hear_block-requires-clause-wide
hear_block-requires-clause-wide g c = omega (arith, c.round.ensures.pictures.fits)

pub hear_block-requires-clause-block : goal.hear_block-requires-clause-block
hear_block-requires-clause-block g c = omega (arith, c.block-block.ensures.block, c.requires.early, c.loop-number-test.true)

pub frames-requires : goal.frames-requires
frames-requires g c =
    let same : c.deref.result.now ≡ c.hear_block.new.samples.items = search rules in
    let few : length c.deref.result.now ≤ 512 = omega (arith, ap (λ (xs : List ℤ). length xs) same, c.hear_block.ensures.few) in
    omega (arith, c.requires.room, c.loop-number.invariant.spare, few_bytes c.args.part.now.settings.now (length c.deref.result.now) few, c.loop-number-test.true)

pub returns-clause-spare : goal.returns-clause-spare
returns-clause-spare g c = omega (arith, c.loop-number.invariant.spare, c.loop-number.auto.number-end)
