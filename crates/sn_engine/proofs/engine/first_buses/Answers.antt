use Rattle.std.proofs.Common.{◌≡◌, ◌∙◌, ap, arith}
use Rattle.sn_mem.specs.Blocks.{table}
use Rattle.sn_mem.specs.Layout.{audio_place}
use Rattle.sn_engine.proofs.OpeningLemmas.{no_places, one_more_place}
use Rattle.sn_engine.proofs.engine.first_buses.Goals as goal

pub loop-bus-init : goal.loop-bus-init
loop-bus-init c = no_places c.new-outputs.result c.new-outputs.ensures

pub loop-bus-preserved : goal.loop-bus-preserved
loop-bus-preserved c = one_more_place c.loop-bus.bus c.loop-bus.outputs c.push.new.self c.audio.result c.loop-bus.invariant c.audio.ensures c.in_ok-push.ensures.ok

pub returns : goal.returns
returns c =
    let last : c.loop-bus.bus ≡ c.args.channels = omega (arith, c.loop-bus-test.false, c.loop-bus.auto.bus-end) in
    c.loop-bus.invariant ∙ ap (table audio_place) last
