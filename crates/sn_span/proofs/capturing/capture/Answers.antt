use Rattle.std.proofs.Common.{◌∙◌, arith, refl}
use Rattle.sn_span.proofs.Copying.{captured_none, captured_more, captured_all, reads_bus, writes_bus, beside_bus}
use Rattle.sn_span.specs.Captures.{no_extent}
use Rattle.sn_span.proofs.capturing.capture.Goals as goal

pub loop-number-init : goal.loop-number-init
loop-number-init g c = record { made = captured_none c.args.block (g.P.Port.words c.args.port.now) c.args.outputs.now c.args.at; foot = refl; rest = refl }

pub loop-number-preserved : goal.loop-number-preserved
loop-number-preserved g c =
    let i = c.loop-number.invariant in
    record {
      made = captured_more c.args.block (g.P.Port.words c.args.port.now) (g.P.Port.words c.loop-number.port) (g.P.Port.words c.capture_bus.new.port) c.args.outputs.now c.args.at c.loop-number.number no_extent
          c.loop-number-test.true c.requires.can.buses c.requires.can.beside i.made c.capture_bus.ensures.words;
      foot = c.capture_bus.ensures.port.0 ∙ i.foot;
      rest = c.capture_bus.ensures.port.1 ∙ i.rest;
    }

pub capture_bus-requires-clause-long : goal.capture_bus-requires-clause-long
capture_bus-requires-clause-long g c = c.requires.can.buses c.loop-number.number no_extent c.loop-number-test.true

pub capture_bus-requires-clause-reads : goal.capture_bus-requires-clause-reads
capture_bus-requires-clause-reads g c = reads_bus (g.P.Port.foot c.args.port.now) (g.P.Port.foot c.loop-number.port) c.args.outputs.now c.args.at c.loop-number.number no_extent c.loop-number.invariant.foot c.requires.can c.loop-number-test.true

pub capture_bus-requires-clause-writes : goal.capture_bus-requires-clause-writes
capture_bus-requires-clause-writes g c = writes_bus (g.P.Port.foot c.args.port.now) (g.P.Port.foot c.loop-number.port) c.args.outputs.now c.args.at c.loop-number.number c.loop-number.invariant.foot c.requires.can c.loop-number-test.true

pub capture_bus-requires-clause-beside : goal.capture_bus-requires-clause-beside
capture_bus-requires-clause-beside g c = beside_bus (g.P.Port.foot c.args.port.now) c.args.outputs.now c.args.at c.loop-number.number no_extent c.requires.can c.loop-number-test.true

pub returns-clause-words : goal.returns-clause-words
returns-clause-words g c = captured_all c.args.block (g.P.Port.words c.args.port.now) (g.P.Port.words c.loop-number.port) c.args.outputs.now c.args.at c.loop-number.number (omega (arith, c.loop-number-test.false)) c.loop-number.invariant.made
