use Rattle.std.proofs.Common.{pos, replicate, ap, sym, ◌∙◌}
use Rattle.sn_mem.specs.Buffers.{samples_of}
use Rattle.sn_world.specs.BufferReading.{ints_in}
use Rattle.sn_buscmd.specs.Making.{samples_for}
use Rattle.sn_buscmd.proofs.SampleLemmas.{filled-entirely, length-samples}
use Rattle.sn_buscmd.proofs.buffer_holding.set_first.Goals as goal

pub returns-in-Zeros-clause-samples : goal.returns-in-Zeros-clause-samples
returns-in-Zeros-clause-samples g c =
    let words = g.P.Port.words c.args.port.now in
    let long = length-samples words c.args.words in
    c.fill_samples.ensures.samples ∙ filled-entirely (samples_of words c.args.words) c.args.words.len (pos 0) long
    ∙ ap (λ n. replicate n (pos 0)) (long ∙ c.requires.size) ∙ ap (samples_for c.args.new.now) (sym c.in-Zeros.is)

pub returns-in-Read-clause-samples : goal.returns-in-Read-clause-samples
returns-in-Read-clause-samples g c =
    c.set_all.ensures.samples ∙ ap (λ n. ints_in n c.in-Read.bytes.now) c.requires.size ∙ ap (samples_for c.args.new.now) (sym c.in-Read.is)
