-- The rows of the table as the program has them.
use Rattle.sn_def.specs.declared.table.Row.{Row}
use Rattle.sn_def.specs.Units.{UnitRow}

abbrev pub row_seen : Row → UnitRow
row_seen r = record {
  family = r.family;
  name = r.name.now;
  inputs = r.inputs.now;
  signals = r.signals;
  least = r.least;
  most = r.most;
  words = r.words;
  uses = r.uses;
  ends = r.ends;
  sends = r.sends;
}
