use Rattle.std.proofs.Common.{ℕ, Option, Some, SFits, w32, rules, ap, sym, ◌∙◌}
use Rattle.std.proofs.lemmas.Int.{to_z-of_z}
use Rattle.sn_mem.specs.Buffers.{buffer_of}
use Rattle.sn_io.specs.BufferUnits.{sample_at}
use Rattle.sn_io.proofs.BufferWords.{sample_there}
use Rattle.sn_io.proofs.buffer_samples.sample_at.Goals as goal

pub returns-in-Some-clause-value : goal.returns-in-Some-clause-value
returns-in-Some-clause-value g c =
    let ws = g.P.Port.words c.args.port.now in
    let p = c.args.place in
    let fits : SFits w32 c.sample_of.result = search rules in
    to_z-of_z w32 c.sample_of.result fits
    ∙ (sample_there ws p c.in-Some.frame c.args.channel c.word_at.result c.load-word.result c.sample_of.result c.word_at.ensures.value c.word_at.ensures.inside c.load-word.ensures.word c.sample_of.ensures
    ∙ sym (ap (λ (o : Option ℕ). sample_at (Some (buffer_of ws p)) o c.args.channel) c.in-Some.is))
