use Rattle.std.proofs.Common.{ℕ, ◌+◌, List, ℤ, Option, length, refl, sym, ap, ◌∙◌}
use Rattle.sn_mem.specs.Buses.{control_buses}
use Rattle.sn_mem.proofs.Tables.{table_none, table_push, length-table}
use Rattle.sn_io.specs.Channels.{control_channel}
use Rattle.sn_io.specs.BusInputs.{control_in}
use Rattle.sn_io.proofs.inputs.read_control.Goals as goal

pub loop-channel-init : goal.loop-channel-init
loop-channel-init g c = record {
  made = c.clear.ensures ∙ sym (table_none (λ i. control_in (control_buses (g.P.Port.words c.args.port.now)) (control_channel c.args.inputs.now i)));
  long = ap (λ (bs : List (List ℤ)). length bs) c.clear.ensures;
  words = refl;
  foot = refl;
  rest = refl;
}

pub loop-channel-preserved : goal.loop-channel-preserved
loop-channel-preserved g c =
    let ws = g.P.Port.words c.args.port.now in
    let f : ℕ → List ℤ = λ i. control_in (control_buses ws) (control_channel c.args.inputs.now i) in
    let i = c.loop-channel.invariant in
    let made = table_push f c.loop-channel.channel c.loop-channel.outputs c.push.new.self c.control_in-samples.result i.made
    (c.control_in-samples.ensures.value
    ∙ (ap (λ (ws : List ℕ). control_in (control_buses ws) c.control_channel.result) i.words
    ∙ ap (λ (o : Option ℕ). control_in (control_buses ws) o) c.control_channel.ensures.number)) c.push.ensures in
    record {
      made = made;
      long = ap (λ (bs : List (List ℤ)). length bs) made ∙ length-table f (c.loop-channel.channel + 1);
      words = c.control_in-samples.ensures.words ∙ i.words;
      foot = c.control_in-samples.ensures.port.0 ∙ i.foot;
      rest = c.control_in-samples.ensures.port.1 ∙ i.rest;
    }
