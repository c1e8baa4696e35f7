use Rattle.std.proofs.Common.{refl}
use Rattle.std.specs.Fmt.{digits}
use Rattle.sn_fixed.specs.Literal.{literal}
use Rattle.sn_def.specs.Units.{row_of, kind_named}
use Rattle.sn_def.specs.Definition.{named, place_of}
use Rattle.sn_def.specs.Reading.{text_at, body_at, line_at, is_name, unit_parts, unit_at, unit_of, wires_at, inputs_at, input_at}
use Rattle.sn_def.specs.Printing.{print_of}
use Rattle.sn_examples.proofs.definitions.printing.Goals as goal

pub returns-clause-same : goal.returns-clause-same
unfolding digits literal row_of kind_named named place_of text_at body_at line_at is_name unit_parts unit_at unit_of wires_at inputs_at input_at print_of
returns-clause-same c = refl

pub returns-clause-raw : goal.returns-clause-raw
unfolding digits literal row_of kind_named named place_of text_at body_at line_at is_name unit_parts unit_at unit_of wires_at inputs_at input_at print_of
returns-clause-raw c = refl
