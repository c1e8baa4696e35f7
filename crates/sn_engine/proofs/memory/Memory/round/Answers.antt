use Rattle.std.proofs.Common.{◌≡◌, ◌+◌, ◌++◌, ◌∷◌, [], ℕ, List, length, refl, ap, sym, subst, ◌∙◌, arith}
use Rattle.sn_machine.specs.States.{memory_in}
use Rattle.sn_round.specs.Jobs.{AreWithin}
use Rattle.sn_table.specs.Answers.{main_view}
use Rattle.sn_world.specs.Pictures.{Pictures}
use Rattle.sn_world.specs.Walk.{walk}
use Rattle.sn_world.specs.World.{world_of}
use Rattle.sn_world.proofs.Changes.{pictured_again}
use Rattle.sn_engine.specs.Planning.{HasLanes, LanesRest, first_lane, lanes_for}
use Rattle.sn_engine.specs.Remembered.{Remembered}
use Rattle.sn_engine.proofs.HearingLemmas.{words_same}
use Rattle.sn_engine.proofs.LaneLemmas.{block_ready, lanes_few, rest_of_some}
use Rattle.sn_engine.proofs.Memories.{wide}
use Rattle.sn_engine.proofs.memory.Memory.round.Goals as goal

pub round-requires-clause-may : goal.round-requires-clause-may
round-requires-clause-may g c κs within =
    let before : List ℕ = memory_in (main_view c.self.inside.main).main.phase in
    let same : before ≡ c.args.self.now.words = words_same c.self.view_is in
    block_ready c.args.block.now before (subst (Pictures c.args.block.now.stage.now) (sym same) c.requires.pictures) (subst (HasLanes c.args.block.now.stage.now) (sym same) c.requires.lanes) c.requires.planned c.requires.early

pub round-requires-clause-main : goal.round-requires-clause-main
round-requires-clause-main g c κs within = c.self.invariant.0

pub round-requires-clause-idle : goal.round-requires-clause-idle
round-requires-clause-idle g c κs within = c.self.invariant.1

pub round-requires-clause-plan : goal.round-requires-clause-plan
round-requires-clause-plan g c κs within =
    let e = c.self.inside in
    let i = c.self.invariant in
    let planned = c.requires.planned in
    let before : List ℕ = memory_in (main_view e.main).main.phase in
    let same : before ≡ c.args.self.now.words = words_same c.self.view_is in
    let pictures : Pictures c.args.block.now.stage.now before = subst (Pictures c.args.block.now.stage.now) (sym same) c.requires.pictures in
    let lanes : HasLanes c.args.block.now.stage.now before = subst (HasLanes c.args.block.now.stage.now) (sym same) c.requires.lanes in
    record {
      order = planned.order;
      free = planned.free;
      within = subst (λ (n : ℕ). AreWithin n c.args.block.now.plan.now) (wide e.shared e.main i.0 i.1) (c.block_is_the_walk.ensures.feet before (block_ready c.args.block.now before pictures lanes planned c.requires.early) pictures (omega (arith, lanes.fits, lanes_few planned.laned)));
      roomy = omega (arith, planned.few, i.2);
    }

pub round-requires-clause-work : goal.round-requires-clause-work
round-requires-clause-work g c κs within = (refl, λ j low. refl)

pub invariant_of-self : goal.invariant_of-self
invariant_of-self g c = (c.round.ensures.main, c.round.ensures.round.idle, c.self.invariant.2)

pub returns-clause-world : goal.returns-clause-world
returns-clause-world g c =
    let stage = c.args.block.now.stage.now in
    let before : List ℕ = memory_in (main_view c.self.inside.main).main.phase in
    let same : before ≡ c.args.self.now.words = words_same c.self.view_is in
    let pictures : Pictures stage before = subst (Pictures stage) (sym same) c.requires.pictures in
    let lanes : HasLanes stage before = subst (HasLanes stage) (sym same) c.requires.lanes in
    let resting : LanesRest stage c.args.block.now.block before = subst (LanesRest stage c.args.block.now.block) (sym same) c.requires.resting in
    ap (world_of stage) c.round.ensures.round.memory_is
    ∙ c.block_is_the_walk.ensures.walk before (block_ready c.args.block.now before pictures lanes c.requires.planned c.requires.early) pictures (omega (arith, lanes.fits, lanes_few c.requires.planned.laned)) (rest_of_some (first_lane stage) (lanes_for c.requires.planned.laned) c.args.block.now.block before (lanes_few c.requires.planned.laned) resting)
    ∙ ap (λ (ws : List ℕ). walk c.args.block.now.block (world_of stage ws)) same

pub returns-clause-resting : goal.returns-clause-resting
returns-clause-resting g c =
    let stage = c.args.block.now.stage.now in
    let before : List ℕ = memory_in (main_view c.self.inside.main).main.phase in
    let same : before ≡ c.args.self.now.words = words_same c.self.view_is in
    let pictures : Pictures stage before = subst (Pictures stage) (sym same) c.requires.pictures in
    let lanes : HasLanes stage before = subst (HasLanes stage) (sym same) c.requires.lanes in
    let resting : LanesRest stage c.args.block.now.block before = subst (LanesRest stage c.args.block.now.block) (sym same) c.requires.resting in
    subst (LanesRest stage (c.args.block.now.block + 1)) (sym c.round.ensures.round.memory_is)
    (c.block_is_the_walk.ensures.rests before (block_ready c.args.block.now before pictures lanes c.requires.planned c.requires.early) pictures (omega (arith, lanes.fits, lanes_few c.requires.planned.laned)) 4096 (lanes_few c.requires.planned.laned) resting)

pub returns-clause-pictures : goal.returns-clause-pictures
returns-clause-pictures g c =
    let stage = c.args.block.now.stage.now in
    let before : List ℕ = memory_in (main_view c.self.inside.main).main.phase in
    let after : List ℕ = memory_in (main_view c.round.new.main).main.phase in
    let pictures : Pictures stage before = subst (Pictures stage) (sym (words_same c.self.view_is)) c.requires.pictures in
    let script = c.block_is_the_walk.ensures.script before in
    let long : length after ≡ length before = ap length c.round.ensures.round.memory_is ∙ script.wide (length c.args.block.now.plan.now) (omega arith) in
    pictured_again stage after before long pictures

pub returns-clause-rounds : goal.returns-clause-rounds
returns-clause-rounds g c =
    c.round.ensures.round.rested
    ∙ ap (λ (m : Remembered). m.rounds ++ record { jobs = c.args.block.now.plan.now; crew = length c.args.crew.now.hands.items } ∷ []) c.self.view_is

pub returns-clause-stores : goal.returns-clause-stores
returns-clause-stores g c = c.round.ensures.round.stores ∙ ap (λ (m : Remembered). m.stores) c.self.view_is

pub returns-clause-crew : goal.returns-clause-crew
returns-clause-crew g c = c.round.ensures.same

pub returns-clause-length : goal.returns-clause-length
returns-clause-length g c =
    let before : List ℕ = memory_in (main_view c.self.inside.main).main.phase in
    let script = c.block_is_the_walk.ensures.script before in
    ap length c.round.ensures.round.memory_is ∙ (script.wide (length c.args.block.now.plan.now) (omega arith) ∙ ap length (words_same c.self.view_is))
