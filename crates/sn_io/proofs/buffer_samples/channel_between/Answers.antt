use Rattle.std.proofs.Common.{pos, Option, None, get_or, sym, ap, ◌∙◌}
use Rattle.std.specs.Option.{option_map}
use Rattle.sn_mem.specs.declared.buffers.BufferPlace.{BufferPlace}
use Rattle.sn_mem.specs.Blocks.{table}
use Rattle.sn_mem.specs.Buffers.{buffer_of}
use Rattle.sn_io.specs.BufferUnits.{sample_between}
use Rattle.sn_io.proofs.Heard.{same_value}
use Rattle.sn_io.proofs.buffer_samples.channel_between.Goals as goal

pub returns-in-None-clause-value : goal.returns-in-None-clause-value
returns-in-None-clause-value g c =
    let ws = g.P.Port.words c.args.port.now in
    c.silence.ensures ∙ (same_value (pos 0) 64 ∙ sym (ap (λ (o : Option BufferPlace). table (λ k. sample_between (option_map (buffer_of ws) o) (get_or c.args.points.now k None) c.args.channel) 64) c.in-None.is))
