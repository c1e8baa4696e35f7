use Rattle.sn_def.proofs.Telling.{text_told, fault_told}
use Rattle.sn_def.proofs.text.read.Goals as goal

pub returns : goal.returns
returns c = record {
  read = c.read_lines.ensures;
  text = text_told c.args.text.now c.read_lines.result c.read_lines.ensures;
  fault = fault_told c.literal_bytes.ensures c.args.text.now c.read_lines.result c.read_lines.ensures;
}
