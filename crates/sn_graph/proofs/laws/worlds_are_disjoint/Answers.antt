use Rattle.sn_graph.proofs.Worlds.{world_buffers, world_disjoint, world_states}
use Rattle.sn_graph.proofs.laws.worlds_are_disjoint.Goals as goal

pub returns : goal.returns
returns c = record {
  buffers = λ words p. world_buffers c.args.stage.now words p;
  states = λ words p. world_states c.args.stage.now words p;
  disjoint = λ words p. world_disjoint c.args.stage.now words p;
}
