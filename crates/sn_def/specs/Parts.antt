-- The parts of a unit line as the program holds them.
use Rattle.sn_def.specs.declared.parts.Parts.{Parts}
use Rattle.sn_def.specs.Reading.{UnitParts}
use Rattle.sn_def.specs.Answers.{texts}

abbrev pub parts_seen : Parts → UnitParts
parts_seen p = record { outputs = texts p.outputs.now; unit = p.unit.now; inputs = texts p.inputs.now }
