use Rattle.std.proofs.Common.{◌≤◌, ap, arith}
use Rattle.sn_pool.specs.Pools.{PoolState, room_of}
use Rattle.sn_world.specs.Pictures.{held_extents, amount}
use Rattle.sn_world.proofs.FreedLemmas.{own_group, own_synth, own_self, own_amount, own_empty, room_for_one, room_given}
use Rattle.sn_world.proofs.freed.give_back.Goals as goal

pub give_back-requires-clause-live : goal.give_back-requires-clause-live
give_back-requires-clause-live c =
    omega (arith, own_self c.args.held.now c.in-Synth.state (ap held_extents c.in-Synth.is), c.requires.live c.in-Synth.state (omega (arith, c.if-state-gt0.true)))

pub give_back-requires-clause-room : goal.give_back-requires-clause-room
give_back-requires-clause-room c =
    let some : 1 ≤ amount (λ e. 1) (held_extents c.args.held.now) = omega (arith, own_amount c.args.held.now c.in-Synth.state (ap held_extents c.in-Synth.is)) in
    room_for_one (amount (λ e. 1) (held_extents c.args.held.now)) c.args.pool.now.journal some c.requires.room

pub returns-in-Group-clause-live : goal.returns-in-Group-clause-live
returns-in-Group-clause-live c = λ e some. omega (arith, own_group c.args.held.now e (ap held_extents c.in-Group.is))

pub returns-then-state-gt0-clause-live : goal.returns-then-state-gt0-clause-live
returns-then-state-gt0-clause-live c = λ e some. omega (arith, own_synth c.args.held.now e c.in-Synth.state (ap held_extents c.in-Synth.is), c.give_back.ensures.counted e)

pub returns-then-state-gt0-clause-room : goal.returns-then-state-gt0-clause-room
returns-then-state-gt0-clause-room c =
    omega (arith, own_amount c.args.held.now c.in-Synth.state (ap held_extents c.in-Synth.is), room_given c.args.pool.now.journal, ap (λ (p : PoolState). room_of p.journal) c.give_back.ensures.given)

pub returns-else-state-gt0-clause-live : goal.returns-else-state-gt0-clause-live
returns-else-state-gt0-clause-live c = λ e some. omega (arith, own_empty c.args.held.now e c.in-Synth.state (ap held_extents c.in-Synth.is) (omega (arith, c.if-state-gt0.false)) some)
