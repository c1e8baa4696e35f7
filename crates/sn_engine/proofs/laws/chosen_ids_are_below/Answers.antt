use Rattle.sn_world.proofs.ChoosingLaws.{opening_chosen}
use Rattle.sn_engine.specs.Running.{opened}
use Rattle.sn_engine.proofs.ChosenLemmas.{boundary_chosen, block_chosen, settling_chosen, steps_chosen}
use Rattle.sn_engine.proofs.laws.chosen_ids_are_below.Goals as goal

pub returns : goal.returns
returns c = record {
  opens = λ s base limit clients. opening_chosen s.rate s.memory clients;
  boundaries = boundary_chosen;
  blocks = block_chosen;
  settles = settling_chosen;
  runs = λ s base limit clients rs steps. steps_chosen rs (opened s base limit clients) steps (opening_chosen s.rate s.memory clients);
}
