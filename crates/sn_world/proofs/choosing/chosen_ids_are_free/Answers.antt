use Rattle.sn_world.proofs.ChosenIds.{chosen_free, group_in_use, synth_in_use}
use Rattle.sn_world.proofs.choosing.chosen_ids_are_free.Goals as goal

pub returns : goal.returns
returns c = record {
  free = chosen_free;
  groups = group_in_use;
  synths = synth_in_use;
}
