use Rattle.std.proofs.Common.{length}
use Rattle.sn_io.proofs.Standing.{no_buffers}
use Rattle.sn_io.proofs.BufferRuns.{run_means, run_keeps, run_long}
use Rattle.sn_io.proofs.buffers.run_buffer_unit.Goals as goal

pub returns : goal.returns
returns g c =
    let at = c.args.state.at in
    let len = c.args.state.len in
    let f = g.P.Port.foot c.args.port.now in
    let places = c.args.buffers.now in
    let ws = g.P.Port.words c.args.port.now in
    let us = g.P.Port.words c.run_kind.new.port in
    let n = length c.args.outputs.now in
    let means = run_means c.args.kind c.args.now.now n at len f places ws us c.args.inputs.now c.run_kind.new.outputs
    c.requires.kind c.requires.size c.requires.state c.requires.buffer (g.met.P.Port.inside c.args.port.now) c.run_kind.ensures.words c.run_kind.ensures.outputs in
    record {
      words = c.run_kind.ensures.words;
      outputs = c.run_kind.ensures.outputs;
      buffers = λ apart. (means apart).buffers;
      state = λ apart. (means apart).state;
      gives = λ apart. (means apart).gives;
      others = λ apart j off free. (means apart).others j off (no_buffers places j free);
      kept = run_keeps c.args.kind c.args.now.now n at len f places ws us c.args.inputs.now c.run_kind.ensures.words c.requires.size c.requires.state c.requires.buffer;
      length = run_long c.args.kind c.args.now.now n at len places ws us c.args.inputs.now c.run_kind.ensures.words;
      port = c.run_kind.ensures.port;
    }
