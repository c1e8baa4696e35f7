use Rattle.std.proofs.Common.{pos, get_or, w32, rules}
use Rattle.std.proofs.lemmas.Int.{to_z-of_z}
use Rattle.sn_world.proofs.Continuing.{continues_then}
use Rattle.sn_world.specs.World.{turn_of}
use Rattle.sn_nodecmd.proofs.EmptyingLemmas.{keeps_more, spares_more, freed_one}
use Rattle.sn_nodecmd.proofs.emptying.free_each.Goals as goal

pub returns-in_err-free_one-clause-keeps : goal.returns-in_err-free_one-clause-keeps
returns-in_err-free_one-clause-keeps c =
    keeps_more c.args.stage.now c.loop-id.stage c.free_one.new.stage c.loop-id.invariant.keeps c.loop-id.invariant.spares c.free_one.ensures.keeps c.free_one.ensures.spares

pub loop-id-preserved : goal.loop-id-preserved
loop-id-preserved c = record {
  keeps = keeps_more c.args.stage.now c.loop-id.stage c.free_one.new.stage c.loop-id.invariant.keeps c.loop-id.invariant.spares c.free_one.ensures.keeps c.free_one.ensures.spares;
  spares = spares_more c.args.stage.now.tree c.loop-id.stage.tree c.free_one.new.stage.tree c.loop-id.invariant.spares c.free_one.ensures.spares;
  row = λ words.
      freed_one c.args.ids.now c.loop-id.id-index (pos 0) _ (turn_of c.loop-id.stage words c.loop-id.replies) (turn_of c.free_one.new.stage words c.free_one.new.replies) _
      c.loop-id-test.true (to_z-of_z w32 (get_or c.args.ids.now c.loop-id.id-index (pos 0)) (search rules)) (c.in_ok-free_one.ensures.row words) (c.loop-id.invariant.row words);
  continues = continues_then c.args.replies.now c.loop-id.replies c.free_one.new.replies c.loop-id.invariant.continues c.free_one.ensures.continues;
}
