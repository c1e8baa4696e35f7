use Rattle.std.proofs.Common.{◌∙◌, refl, ap, arith}
use Rattle.sn_pool.specs.Pools.{PoolState, times}
use Rattle.sn_tree.specs.Trees.{none}
use Rattle.sn_tree.specs.Model.{NodeTree}
use Rattle.sn_world.specs.declared.stage.Held.{Held}
use Rattle.sn_world.specs.Pictures.{live_held, amount}
use Rattle.sn_world.proofs.FreedLemmas.{room_for}
use Rattle.sn_nodecmd.proofs.Underway.{underway_live, underway_room, underway_pictures}
use Rattle.sn_nodecmd.proofs.folding.commit.Goals as goal

pub end_freed-requires-clause-live : goal.end_freed-requires-clause-live
end_freed-requires-clause-live c = λ e some.
    omega (arith, underway_live c.requires.0 c.args.mark c.requires.1 c.args.stage.now c.requires.2 c.requires.3 e some, ap (λ (t : NodeTree Held). times e (live_held t.detached)) c.commit.ensures)

pub end_freed-requires-clause-room : goal.end_freed-requires-clause-room
end_freed-requires-clause-room c =
    room_for (amount (λ e. 1) (live_held c.commit.new.self.detached)) c.args.stage.now.pool.journal
    (omega (arith, underway_room c.requires.0 c.args.mark c.requires.1 c.args.stage.now c.requires.2 c.requires.3, ap (λ (t : NodeTree Held). amount (λ e. 1) (live_held t.detached)) c.commit.ensures))

pub returns-clause-pictures : goal.returns-clause-pictures
returns-clause-pictures c = λ left old words is p.
    underway_pictures left c.args.mark old c.args.stage.now is _ words p
    (c.end_freed.ensures.tree ∙ ap (λ (t : NodeTree Held). let n : NodeTree Held = record t { detached = none } in n) c.commit.ensures)
    (λ e some. omega (arith, c.end_freed.ensures.live e some, ap (λ (t : NodeTree Held). times e (live_held t.detached)) c.commit.ensures, ap (λ (q : PoolState). times e q.live) c.commit-2.ensures))
    (ap (λ (q : PoolState). q.region) c.commit-2.ensures ∙ c.end_freed.ensures.region)
    (ap (λ (q : PoolState). q.journal) c.commit-2.ensures)
    refl
    refl
