use Rattle.std.proofs.Common.{ap, sym, subst, ◌∙◌}
use Rattle.sn_reply.specs.declared.events.Notice.TheVariants.{End}
use Rattle.sn_mem.specs.declared.extents.Extent.{Extent}
use Rattle.sn_pool.specs.Pools.{mark_of}
use Rattle.sn_world.specs.Freed.{HasRoomFor}
use Rattle.sn_world.specs.Pictures.{live_held, amount}
use Rattle.sn_world.proofs.FreedLemmas.{none_open}
use Rattle.sn_world.proofs.Turning.{is_there}
use Rattle.sn_settle.proofs.Acted.{free_live, freed_acted}
use Rattle.sn_settle.proofs.acting.free.Goals as goal

pub take_out-requires-clause-there : goal.take_out-requires-clause-there
take_out-requires-clause-there c = is_there c.args.ending.now.node c.args.stage.now.tree.attached c.args.view.now c.requires.there

pub end_freed-requires-clause-live : goal.end_freed-requires-clause-live
end_freed-requires-clause-live c = free_live c.args.stage.now c.requires.pictures.0 c.take_out.new.tree c.args.ending.now.node c.requires.pictures.1 c.take_out.ensures

pub end_freed-requires-clause-room : goal.end_freed-requires-clause-room
end_freed-requires-clause-room c = subst (HasRoomFor (amount (λ (e : Extent). 1) (live_held c.take_out.new.tree.detached))) (sym c.requires.pictures.1.closed) tt

pub returns : goal.returns
returns c =
    freed_acted c.args.stage.now c.args.ending.now.node c.args.view.now c.take_out.new.tree c.end_freed.new.tree c.end_freed.new.pool (End c.neighbours_of.result) c.args.outs.now c.tell.new.outs
    c.take_out.ensures c.end_freed.ensures.tree c.end_freed.ensures.live (none_open c.end_freed.new.pool.journal (c.end_freed.ensures.mark ∙ ap mark_of c.requires.pictures.1.closed)) c.end_freed.ensures.region (ap End c.neighbours_of.ensures) c.tell.ensures
