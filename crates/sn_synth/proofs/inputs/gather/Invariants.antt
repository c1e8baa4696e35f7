use Rattle.std.proofs.Common.{◌≡◌, take, length}
use Rattle.sn_synth.specs.Synths.{input_blocks}
use Rattle.sn_synth.proofs.inputs.gather.Given as goal

abbrev pub invariant-loop-input : goal.invariant-loop-input
invariant-loop-input l = record {
  blocks : l.blocks ≡ input_blocks l.values l.wires (take l.input-index l.inputs);
  long : length l.blocks ≡ l.input-index;
}
