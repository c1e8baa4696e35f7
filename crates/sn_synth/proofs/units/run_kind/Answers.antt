use Rattle.std.proofs.Common.{◌∙◌, sym}
use Rattle.sn_filt.specs.Rings.{most_frames}
use Rattle.sn_synth.proofs.RowLaws.{buffer_unit_words}
use Rattle.sn_synth.proofs.units.run_kind.Goals as goal

-- a unit on a buffer has a fixed number of words
pub run_buffer_unit-requires-clause-size : goal.run_buffer_unit-requires-clause-size
run_buffer_unit-requires-clause-size g c = buffer_unit_words c.args.kind (most_frames c.args.now.now.rate c.args.inputs.now) c.args.state.len (sym c.is_buffer_unit.ensures ∙ c.if-is_buffer_unit.true) c.requires.can.size
