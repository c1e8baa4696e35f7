use Rattle.std.proofs.Common.{ℕ, List, None, get_or, refl, sym, ap, ◌∙◌}
use Rattle.sn_io.specs.BufferUnits.{set_at}
use Rattle.sn_io.specs.BuffersOverWords.{set_word}
use Rattle.sn_io.proofs.Walking.{scattered_none, scattered_more}
use Rattle.sn_io.proofs.buffer_samples.scatter_frames.Goals as goal

pub loop-at-init : goal.loop-at-init
loop-at-init g c = record { words = sym (scattered_none (set_word c.args.place.extent.at) c.args.inputs.now c.args.first c.args.place.channels c.args.frames.now (g.P.Port.words c.args.port.now)); foot = refl; rest = refl }

pub loop-at-preserved : goal.loop-at-preserved
loop-at-preserved g c = record {
  words = c.set_at.ensures.words
      ∙ (ap (λ (us : List ℕ). set_at (set_word c.args.place.extent.at) c.args.inputs.now c.args.first c.args.place.channels c.loop-at.at (get_or c.args.frames.now c.loop-at.at None) us) c.loop-at.invariant.words
      ∙ sym (scattered_more (set_word c.args.place.extent.at) c.args.inputs.now c.args.first c.args.place.channels c.args.frames.now c.loop-at.at (g.P.Port.words c.args.port.now)));
  foot = c.set_at.ensures.port.0 ∙ c.loop-at.invariant.foot;
  rest = c.set_at.ensures.port.1 ∙ c.loop-at.invariant.rest;
}
