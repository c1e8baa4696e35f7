use Rattle.std.proofs.Common.{length}
use Rattle.sn_io.proofs.Meaning.{run_means}
use Rattle.sn_io.proofs.Keeping.{run_keeps}
use Rattle.sn_io.proofs.block.run.Goals as goal

pub returns : goal.returns
returns g c =
    let m = run_means c.args.kind c.args.now.now (length c.args.outputs.now) c.args.state.at c.args.state.len (g.P.Port.foot c.args.port.now) (g.P.Port.words c.args.port.now) (g.P.Port.words c.run_kind.new.port) c.args.inputs.now c.run_kind.new.outputs
    c.requires.size c.requires.apart c.requires.state c.requires.buses (g.met.P.Port.inside c.args.port.now) c.run_kind.ensures.words c.run_kind.ensures.outputs in
    record {
      words = c.run_kind.ensures.words;
      outputs = c.run_kind.ensures.outputs;
      buses = m.buses;
      state = m.state;
      gives = m.gives;
      others = m.others;
      kept = λ j off. run_keeps c.args.kind c.args.now.now (g.P.Port.foot c.args.port.now) (length c.args.outputs.now) (g.P.Port.words c.args.port.now) (g.P.Port.words c.run_kind.new.port) c.args.state.at c.args.state.len c.args.inputs.now
          c.run_kind.ensures.words c.requires.state c.requires.size c.requires.buses j off;
      length = m.long;
      port = c.run_kind.ensures.port;
    }
