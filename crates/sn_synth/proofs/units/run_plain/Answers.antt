use Rattle.std.proofs.Common.{◌∙◌, sym}
use Rattle.sn_filt.specs.Rings.{most_frames}
use Rattle.sn_synth.proofs.RowLaws.{bus_unit_words}
use Rattle.sn_synth.proofs.units.run_plain.Goals as goal

-- a unit on buses or triggers has a fixed number of words
pub run-requires-clause-size : goal.run-requires-clause-size
run-requires-clause-size g c = bus_unit_words c.args.kind (most_frames c.args.now.now.rate c.args.inputs.now) c.args.state.len (sym c.is_bus_unit.ensures ∙ c.if-is_bus_unit.true) c.requires.size
