use Rattle.sn_world.specs.Rows.{pairs, triples}
use Rattle.sn_world.specs.Runs.{value_runs}
use Rattle.sn_world.specs.BufferSamples.{sample_value, value_refusal, set_value, right_runs, values_refusal, set_values, sample_fill, fill_refusal, fill_values}
use Rattle.sn_world.proofs.SampleFolds.{each_changed}
use Rattle.sn_world.proofs.laws.samples_change_in_turn.Goals as goal

pub returns : goal.returns
returns c = record {
  set = λ from xs t. each_changed value_refusal set_value (pairs sample_value) xs t;
  setn = λ from xs t. each_changed values_refusal set_values (λ ys. right_runs (value_runs ys)) xs t;
  fill = λ from xs t. each_changed fill_refusal fill_values (triples sample_fill) xs t;
}
