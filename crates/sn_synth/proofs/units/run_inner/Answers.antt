use Rattle.std.proofs.Common.{◌∙◌, sym}
use Rattle.sn_filt.specs.Rings.{most_frames}
use Rattle.sn_synth.proofs.RowLaws.{generator_words}
use Rattle.sn_synth.proofs.units.run_inner.Goals as goal

-- a generator has a fixed number of words
pub run-requires-clause-size : goal.run-requires-clause-size
run-requires-clause-size g c = generator_words c.args.kind (most_frames c.args.now.now.rate c.args.inputs.now) c.args.state.len (sym c.is_generator.ensures ∙ c.if-is_generator.true) c.requires.size
