use Rattle.std.proofs.Common.{rules, ◌≡◌, ◌∙◌, refl, ap, arith, w32}
use mir.Val.{SFits}
use Rattle.std.proofs.lemmas.Int.{to_z-of_z}
use Rattle.sn_pool.specs.Pools.{times}
use Rattle.sn_tree.specs.Trees.{subtree}
use Rattle.sn_tree.specs.Members.{members}
use Rattle.sn_world.specs.Pictures.{held_extents, live_held, amount}
use Rattle.sn_world.proofs.FreedLemmas.{room_for}
use Rattle.sn_nodecmd.proofs.Replacing.{member_extents, members-live, next-amount, next-times, none-times}
use Rattle.sn_nodecmd.proofs.placing.give_back_below.Goals as goal

pub loop-member-init : goal.loop-member-init
loop-member-init c =
    let fit : SFits w32 c.args.new.now.target = search rules in
    let items = simp to_z-of_z at c.members-member-items.ensures in
    let all : c.into_iter-member-iterator.result ≡ members (subtree c.args.new.now.target c.args.tree.now.attached) = c.into_iter-member-iterator.ensures.into_iter_gives ∙ items in
    let same : member_extents c.into_iter-member-iterator.result ≡ live_held (subtree c.args.new.now.target c.args.tree.now.attached) = ap member_extents all ∙ members-live (subtree c.args.new.now.target c.args.tree.now.attached) in
    record {
      live = λ e some. omega (arith, ap (times e) same);
      room = omega (arith, ap (amount (λ e. 1)) same, c.requires.room);
      mark = refl;
      saved = refl;
      region = refl;
    }

pub give_back-requires-clause-live : goal.give_back-requires-clause-live
give_back-requires-clause-live c = λ e some. omega (arith, next-times e c.loop-member.member-iterator _ _ c.in-Some.ensures.steps, c.loop-member.invariant.live e some, c.requires.live e some)

pub give_back-requires-clause-room : goal.give_back-requires-clause-room
give_back-requires-clause-room c =
    room_for (amount (λ e. 1) (held_extents c.in-Some.member.payload.now)) c.loop-member.pool.journal
    (omega (arith, next-amount (λ e. 1) c.loop-member.member-iterator _ _ c.in-Some.ensures.steps, c.loop-member.invariant.room))

pub loop-member-preserved : goal.loop-member-preserved
loop-member-preserved c = record {
  live = λ e some. omega (arith, next-times e c.loop-member.member-iterator _ _ c.in-Some.ensures.steps, c.loop-member.invariant.live e some, c.give_back.ensures.live e some);
  room = omega (arith, next-amount (λ e. 1) c.loop-member.member-iterator _ _ c.in-Some.ensures.steps, c.loop-member.invariant.room, c.give_back.ensures.room);
  mark = c.give_back.ensures.mark ∙ c.loop-member.invariant.mark;
  saved = c.give_back.ensures.saved ∙ c.loop-member.invariant.saved;
  region = c.give_back.ensures.region ∙ c.loop-member.invariant.region;
}

pub returns-clause-live : goal.returns-clause-live
returns-clause-live c = λ e some. omega (arith, none-times e c.loop-member.member-iterator c.in-None.ensures.steps.0, c.loop-member.invariant.live e some)
