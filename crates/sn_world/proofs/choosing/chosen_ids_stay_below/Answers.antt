use Rattle.sn_world.proofs.ChoosingLaws.{opening_chosen, command_chosen, walk_chosen, settled_chosen}
use Rattle.sn_world.proofs.choosing.chosen_ids_stay_below.Goals as goal

pub returns : goal.returns
returns c = record {
  opens = opening_chosen;
  commands = command_chosen;
  blocks = walk_chosen;
  settles = settled_chosen;
}
