use Rattle.std.proofs.Common.{◌≡◌, ◌≤◌, ◌+◌, ◌∙◌, ℕ, List, length, sym, ap, subst, arith}
use Rattle.sn_round.specs.declared.jobs.Job.{Job}
use Rattle.sn_span.proofs.Places.{length-unrolled}
use Rattle.sn_world.specs.Pictures.{Pictures}
use Rattle.sn_world.proofs.Changes.{pictured_again}
use Rattle.sn_world.specs.World.{world_of}
use Rattle.sn_world.specs.declared.stage.Stage.{Stage}
use Rattle.sn_play.specs.Spans.{ArePlayed}
use Rattle.sn_engine.specs.Planning.{HasLanes, LanesRest}
use Rattle.sn_engine.specs.Remembered.{Remembered}
use Rattle.sn_engine.proofs.RowLemmas.{played_from, span_ready}
use Rattle.sn_engine.proofs.rendering.render_span.Goals as goal

pub span-requires-clause-pictures : goal.span-requires-clause-pictures
span-requires-clause-pictures g c κs within = subst (λ (s : Stage). Pictures s c.args.memory.now.words) (sym c.block-first.ensures.stage) c.requires.pictures

pub span-requires-clause-ready : goal.span-requires-clause-ready
span-requires-clause-ready g c κs within =
    let part = c.args.part.now in
    let s = c.requires.spanned in
    span_ready _ part.settings.now.channels part.stage.now part.planned.now.jobs c.args.memory.now.words c.block-first.ensures.stage c.block-first.ensures.plan c.requires.pictures c.requires.planned c.requires.copies c.requires.lanes s.all_are s.few
    (omega (arith, c.block-first.ensures.block, c.requires.early))

pub span-requires-clause-free : goal.span-requires-clause-free
span-requires-clause-free g c κs within = c.requires.spanned.free

pub span-requires-clause-few : goal.span-requires-clause-few
span-requires-clause-few g c κs within =
    let part = c.args.part.now in
    let s = c.requires.spanned in
    omega (arith, s.room, ap (λ (js : List Job). length js) s.all_are, length-unrolled part.planned.now.jobs part.outputs.now part.copies c.args.span.now.blocks)

pub span-requires-clause-lanes : goal.span-requires-clause-lanes
span-requires-clause-lanes g c κs within = subst (λ (s : Stage). HasLanes s c.args.memory.now.words) (sym c.block-first.ensures.stage) c.requires.lanes

pub span-requires-clause-resting : goal.span-requires-clause-resting
span-requires-clause-resting g c κs within =
    let part = c.args.part.now in
    let ws : List ℕ = c.args.memory.now.words in
    let at : c.block-first.result.block ≡ part.first = omega (arith, c.block-first.ensures.block) in
    subst (λ (s : Stage). LanesRest s c.block-first.result.block ws) (sym c.block-first.ensures.stage) (subst (λ n. LanesRest part.stage.now n ws) (sym at) c.requires.resting)

pub hear_copies-requires-clause-inside : goal.hear_copies-requires-clause-inside
hear_copies-requires-clause-inside g c = omega (arith, c.requires.copies.fits, c.span.ensures.length, c.requires.spanned.few)

pub hear_copies-requires-clause-bounded : goal.hear_copies-requires-clause-bounded
hear_copies-requires-clause-bounded g c = omega (arith, c.requires.copies.bounded, c.requires.spanned.few)

pub hear_copies-requires-clause-channels : goal.hear_copies-requires-clause-channels
hear_copies-requires-clause-channels g c = c.requires.copies.few

pub returns-clause-world : goal.returns-clause-world
returns-clause-world g c =
    let part = c.args.part.now in
    let at : c.block-first.result.block ≡ part.first = omega (arith, c.block-first.ensures.block) in
    let played : ArePlayed part.stage.now part.first c.args.span.now.blocks part.copies part.settings.now.channels c.args.memory.now.words c.span.new.self.words =
    played_from part.stage.now _ _ part.first c.args.span.now.blocks part.copies part.settings.now.channels c.args.memory.now.words c.span.new.self.words c.block-first.ensures.stage at (c.span.ensures.played part.settings.now.channels c.requires.copies.outputs_are) in
    ap (λ (m : Remembered). world_of part.stage.now m.words) c.hear_copies.ensures.same ∙ played.world

pub returns-clause-pictures : goal.returns-clause-pictures
returns-clause-pictures g c = pictured_again c.args.part.now.stage.now c.hear_copies.new.memory.words c.args.memory.now.words (ap (λ (m : Remembered). length m.words) c.hear_copies.ensures.same ∙ c.span.ensures.length) c.requires.pictures

pub returns-clause-resting : goal.returns-clause-resting
returns-clause-resting g c =
    let part = c.args.part.now in
    let at : c.block-first.result.block ≡ part.first = omega (arith, c.block-first.ensures.block) in
    let played : List ℕ = c.span.new.self.words in
    subst (λ (m : Remembered). LanesRest part.stage.now (part.first + c.args.span.now.blocks) m.words) (sym c.hear_copies.ensures.same)
    (subst (λ (s : Stage). LanesRest s (part.first + c.args.span.now.blocks) played) c.block-first.ensures.stage (subst (λ n. LanesRest c.block-first.result.stage.now (n + c.args.span.now.blocks) played) at c.span.ensures.resting))

pub returns-clause-length : goal.returns-clause-length
returns-clause-length g c = ap (λ (m : Remembered). length m.words) c.hear_copies.ensures.same ∙ c.span.ensures.length

pub returns-clause-sound : goal.returns-clause-sound
returns-clause-sound g c =
    let part = c.args.part.now in
    let at : c.block-first.result.block ≡ part.first = omega (arith, c.block-first.ensures.block) in
    c.hear_copies.ensures.sound c.args.memory.now.words
    (played_from part.stage.now _ _ part.first c.args.span.now.blocks part.copies part.settings.now.channels c.args.memory.now.words c.span.new.self.words c.block-first.ensures.stage at (c.span.ensures.played part.settings.now.channels c.requires.copies.outputs_are))

pub returns-clause-rounds : goal.returns-clause-rounds
returns-clause-rounds g c = ap (λ (m : Remembered). m.rounds) c.hear_copies.ensures.same ∙ c.span.ensures.rounds

pub returns-clause-stores : goal.returns-clause-stores
returns-clause-stores g c = ap (λ (m : Remembered). m.stores) c.hear_copies.ensures.same ∙ c.span.ensures.stores
