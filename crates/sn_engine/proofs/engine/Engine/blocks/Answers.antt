use Rattle.std.proofs.Common.{◌≡◌, ◌+◌, ◌∙◌, length, refl, ap, sym, subst, arith, rules}
use Rattle.std.specs.Prelude.{vec_capacity}
use Rattle.sn_tree.specs.Trees.{running_labels}
use Rattle.sn_world.specs.SettleWords.{walk_room}
use Rattle.sn_world.specs.World.{world_of}
use Rattle.sn_engine.specs.Keeping.{HasRoom, IsRoom}
use Rattle.sn_engine.specs.Planning.{LanesRest}
use Rattle.sn_engine.specs.Playing.{Playing}
use Rattle.sn_engine.specs.declared.standing.Standing.{Standing}
use Rattle.sn_engine.specs.declared.standing.Standing.TheVariants.{Bounded}
use Rattle.sn_engine.proofs.LaneLemmas.{still_laned}
use Rattle.sn_engine.proofs.Pasts.{running_is, past_is}
use Rattle.sn_engine.proofs.RowLemmas.{at_least_one, at_most_many, row_played, rounds_rested, still_copied}
use Rattle.sn_engine.proofs.engine.Engine.blocks.Goals as goal

pub render-requires-clause-pictures : goal.render-requires-clause-pictures
render-requires-clause-pictures g c κs within = c.self.invariant.0

pub render-requires-clause-planned : goal.render-requires-clause-planned
render-requires-clause-planned g c κs within =
    let i = c.self.invariant in
    (i.7 (i.8 (ap (λ (p : Playing). p.running.standing) c.self.view_is ∙ c.requires.bounded))).plan

pub render-requires-clause-spanned : goal.render-requires-clause-spanned
render-requires-clause-spanned g c κs within =
    let i = c.self.invariant in
    i.9 (i.8 (ap (λ (p : Playing). p.running.standing) c.self.view_is ∙ c.requires.bounded))

pub render-requires-clause-copies : goal.render-requires-clause-copies
render-requires-clause-copies g c κs within = c.self.invariant.10

pub render-requires-clause-lanes : goal.render-requires-clause-lanes
render-requires-clause-lanes g c κs within = c.self.invariant.11

pub render-requires-clause-resting : goal.render-requires-clause-resting
render-requires-clause-resting g c κs within = c.self.invariant.12

pub render-requires-clause-early : goal.render-requires-clause-early
render-requires-clause-early g c κs within = omega (arith, ap (λ (p : Playing). p.running.block) c.self.view_is, c.requires.block)

pub render-requires-clause-samples : goal.render-requires-clause-samples
render-requires-clause-samples g c κs within =
    let i = c.self.invariant in
    let e = c.self.inside in
    let most = walk_room (running_labels e.stage.tree.attached) in
    let standing : e.standing ≡ Bounded = ap (λ (p : Playing). p.running.standing) c.self.view_is ∙ c.requires.bounded in
    let room : HasRoom Bounded e.sound.spare (vec_capacity e.samples) most e.endings.spare e.replies.items =
    subst (λ (s : Standing). HasRoom s e.sound.spare (vec_capacity e.samples) most e.endings.spare e.replies.items) standing i.2 in
    room.1

pub render-requires-clause-room : goal.render-requires-clause-room
render-requires-clause-room g c κs within =
    let i = c.self.invariant in
    let e = c.self.inside in
    let most = walk_room (running_labels e.stage.tree.attached) in
    let standing : e.standing ≡ Bounded = ap (λ (p : Playing). p.running.standing) c.self.view_is ∙ c.requires.bounded in
    let room : HasRoom Bounded e.sound.spare (vec_capacity e.samples) most e.endings.spare e.replies.items =
    subst (λ (s : Standing). HasRoom s e.sound.spare (vec_capacity e.samples) most e.endings.spare e.replies.items) standing i.2 in
    omega (arith, room.0, at_most_many c.args.self.now c.args.n c.requires.quiet)

pub invariant_of-self : goal.invariant_of-self
invariant_of-self g c =
    let i = c.self.invariant in
    let e = c.self.inside in
    let most = walk_room (running_labels e.stage.tree.attached) in
    let standing : e.standing ≡ Bounded = ap (λ (p : Playing). p.running.standing) c.self.view_is ∙ c.requires.bounded in
    let room : HasRoom Bounded e.sound.spare (vec_capacity e.samples) most e.endings.spare e.replies.items =
    subst (λ (s : Standing). HasRoom s e.sound.spare (vec_capacity e.samples) most e.endings.spare e.replies.items) standing i.2 in
    let number : c.from.result ≡ c.args.n = search rules in
    let kept : IsRoom Bounded e.room most = subst (λ (s : Standing). IsRoom s e.room most) standing i.3 in (
      c.render.ensures.pictures,
      i.1,
      room.2,
      kept,
      i.4,
      i.5,
      i.6,
      i.7,
      λ e. absurd cc,
      i.9,
      still_copied e.settings.channels e.stage e.stage e.memory.words c.render.new.memory.words e.outputs e.copies refl c.render.ensures.length i.10,
      still_laned e.stage e.stage e.memory.words c.render.new.memory.words refl c.render.ensures.length i.11,
      subst (λ n. LanesRest e.stage (e.block + n) c.render.new.memory.words) (sym number) c.render.ensures.resting,
      λ e. i.8 standing,
    )

pub returns-clause-running : goal.returns-clause-running
returns-clause-running g c =
    let e = c.self.inside in
    let number : c.from.result ≡ c.args.n = search rules in
    row_played _ c.args.self.now.running c.args.n (e.block + c.from.result) (world_of e.stage c.render.new.memory.words) c.render.new.sound.bytes (running_is c.self.view_is) (ap (λ m. e.block + m) number) (at_least_one c.args.self.now c.args.n c.requires.quiet) c.render.ensures.world c.render.ensures.sound

pub returns-clause-past : goal.returns-clause-past
returns-clause-past g c =
    rounds_rested _ c.args.self.now.past c.self.inside.outputs c.self.inside.copies c.args.n c.render.new.memory.rounds c.render.new.memory.stores (length c.render.new.crew.hands.items) (past_is c.self.view_is) c.render.ensures.rounds c.render.ensures.stores c.render.ensures.crew
