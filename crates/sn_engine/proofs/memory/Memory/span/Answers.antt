use Rattle.std.proofs.Common.{◌≡◌, ◌≤◌, ◌+◌, ◌*◌, ◌++◌, ◌∷◌, [], ℕ, List, length, refl, ap, sym, subst, ◌∙◌, arith}
use Rattle.sn_machine.specs.States.{memory_in}
use Rattle.sn_round.specs.Jobs.{AreWithin}
use Rattle.sn_table.specs.Answers.{main_view}
use Rattle.sn_world.specs.Pictures.{Pictures}
use Rattle.sn_play.specs.Spans.{ArePlayed, IsSpanReady}
use Rattle.sn_engine.specs.Planning.{HasLanes, LanesRest}
use Rattle.sn_engine.specs.Remembered.{Remembered}
use Rattle.sn_engine.proofs.CopyLemmas.{same_channels}
use Rattle.sn_engine.proofs.HearingLemmas.{words_same}
use Rattle.sn_engine.proofs.LaneLemmas.{rest_of_lanes, rest_of_row, rest_of_some}
use Rattle.sn_engine.proofs.Memories.{wide}
use Rattle.sn_engine.proofs.memory.Memory.span.Goals as goal

pub round-requires-clause-may : goal.round-requires-clause-may
round-requires-clause-may g c κs within = c.requires.ready.ready

pub round-requires-clause-main : goal.round-requires-clause-main
round-requires-clause-main g c κs within = c.self.invariant.0

pub round-requires-clause-idle : goal.round-requires-clause-idle
round-requires-clause-idle g c κs within = c.self.invariant.1

pub round-requires-clause-plan : goal.round-requires-clause-plan
round-requires-clause-plan g c κs within =
    let e = c.self.inside in
    let i = c.self.invariant in
    let span = c.args.span.now in
    let before : List ℕ = memory_in (main_view e.main).main.phase in
    let same : before ≡ c.args.self.now.words = words_same c.self.view_is in
    let pictures : Pictures span.first.stage.now before = subst (Pictures span.first.stage.now) (sym same) c.requires.pictures in
    let lanes : HasLanes span.first.stage.now before = subst (HasLanes span.first.stage.now) (sym same) c.requires.lanes in
    let fits : c.requires.ready.ready.first + 65 * c.requires.ready.ready.most ≤ length before = omega (arith, lanes.fits, c.requires.ready.first, c.requires.ready.ready.most_few) in
    record {
      order = c.is_well_formed.ensures;
      free = c.requires.free;
      within = subst (λ (n : ℕ). AreWithin n span.all.now) (wide e.shared e.main i.0 i.1) (c.span_is_the_walks.ensures.feet before c.requires.ready.ready pictures fits);
      roomy = omega (arith, c.requires.few, i.2);
    }

pub round-requires-clause-work : goal.round-requires-clause-work
round-requires-clause-work g c κs within = (refl, λ j low. refl)

pub invariant_of-self : goal.invariant_of-self
invariant_of-self g c = (c.round.ensures.main, c.round.ensures.round.idle, c.self.invariant.2)

pub returns-clause-played : goal.returns-clause-played
returns-clause-played g c = λ channels outputs.
    let ready : IsSpanReady c.args.span.now = c.requires.ready.ready in
    let as_many : ready.channels ≡ channels = same_channels ready.channels channels c.args.span.now.outputs.now ready.outputs_are outputs in
    let span = c.args.span.now in
    let before : List ℕ = memory_in (main_view c.self.inside.main).main.phase in
    let after : List ℕ = memory_in (main_view c.round.new.main).main.phase in
    let same : before ≡ c.args.self.now.words = words_same c.self.view_is in
    let pictures : Pictures span.first.stage.now before = subst (Pictures span.first.stage.now) (sym same) c.requires.pictures in
    let lanes : HasLanes span.first.stage.now before = subst (HasLanes span.first.stage.now) (sym same) c.requires.lanes in
    let fits : c.requires.ready.ready.first + 65 * c.requires.ready.ready.most ≤ length before = omega (arith, lanes.fits, c.requires.ready.first, c.requires.ready.ready.most_few) in
    subst (λ n. ArePlayed span.first.stage.now span.first.block span.blocks span.copies n c.args.self.now.words after) as_many
    (subst (λ (ws : List ℕ). ArePlayed span.first.stage.now span.first.block span.blocks span.copies ready.channels ws after) same
    (subst (λ (us : List ℕ). ArePlayed span.first.stage.now span.first.block span.blocks span.copies ready.channels before us) (sym c.round.ensures.round.memory_is) (c.span_is_the_walks.ensures.played before ready pictures fits (rest_of_some ready.first ready.most span.first.block before ready.most_few (rest_of_row span before c.requires.ready (subst (LanesRest span.first.stage.now span.first.block) (sym same) c.requires.resting))))))

pub returns-clause-resting : goal.returns-clause-resting
returns-clause-resting g c =
    let span = c.args.span.now in
    let before : List ℕ = memory_in (main_view c.self.inside.main).main.phase in
    let same : before ≡ c.args.self.now.words = words_same c.self.view_is in
    let pictures : Pictures span.first.stage.now before = subst (Pictures span.first.stage.now) (sym same) c.requires.pictures in
    let lanes : HasLanes span.first.stage.now before = subst (HasLanes span.first.stage.now) (sym same) c.requires.lanes in
    let resting : LanesRest span.first.stage.now span.first.block before = subst (LanesRest span.first.stage.now span.first.block) (sym same) c.requires.resting in
    let row = c.requires.ready in
    let fits : row.ready.first + 65 * row.ready.most ≤ length before = omega (arith, lanes.fits, row.first, row.ready.most_few) in
    subst (LanesRest span.first.stage.now (span.first.block + span.blocks)) (sym c.round.ensures.round.memory_is)
    (rest_of_lanes span (span.first.block + span.blocks) _ row (c.span_is_the_walks.ensures.rests before row.ready pictures fits 4096 row.ready.most_few (rest_of_row span before row resting)))

pub returns-clause-length : goal.returns-clause-length
returns-clause-length g c =
    let before : List ℕ = memory_in (main_view c.self.inside.main).main.phase in
    let same : before ≡ c.args.self.now.words = words_same c.self.view_is in
    let script = c.span_is_the_walks.ensures.script before in
    ap length c.round.ensures.round.memory_is ∙ (script.wide (length c.args.span.now.all.now) (omega arith) ∙ ap length same)

pub returns-clause-rounds : goal.returns-clause-rounds
returns-clause-rounds g c =
    c.round.ensures.round.rested
    ∙ ap (λ (m : Remembered). m.rounds ++ record { jobs = c.args.span.now.all.now; crew = length c.args.crew.now.hands.items } ∷ []) c.self.view_is

pub returns-clause-stores : goal.returns-clause-stores
returns-clause-stores g c = c.round.ensures.round.stores ∙ ap (λ (m : Remembered). m.stores) c.self.view_is

pub returns-clause-crew : goal.returns-clause-crew
returns-clause-crew g c = c.round.ensures.same
