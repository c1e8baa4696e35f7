use Rattle.std.proofs.Common.{◌<◌, ◌+◌, ◌-◌, length, ◌∙◌, ap, arith, rules}
use Rattle.std.specs.Prelude.{FitsSigned}
use Rattle.std.specs.Int.{w32}
use Rattle.std.proofs.lemmas.Int.{to_z-of_z}
use Rattle.sn_mem.specs.Blocks.{word_for}
use Rattle.sn_buscmd.proofs.SampleLemmas.{stored_sample, stored_around, last_touched}
use Rattle.sn_buscmd.proofs.samples.set_sample.Goals as goal

pub returns-clause-samples : goal.returns-clause-samples
returns-clause-samples g c =
    let words = g.P.Port.words c.args.port.now in
    let e = c.args.words in
    let fits : FitsSigned w32 c.args.value = search rules in
    let last : e.at + (e.len - 1) < length words = g.met.P.Port.inside c.args.port.now (e.at + (e.len - 1)) (last_touched (g.P.Port.foot c.args.port.now) e c.args.index c.requires.foot c.requires.index) in
    stored_sample words (g.P.Port.words c.store.new.self) e c.args.index c.word_of.result c.args.value fits c.requires.index (omega arith) c.store.ensures.changed
    (c.word_of.ensures.value ∙ ap word_for (to_z-of_z w32 c.args.value fits))

pub returns-clause-others : goal.returns-clause-others
returns-clause-others g c = stored_around (g.P.Port.words c.args.port.now) (g.P.Port.words c.store.new.self) c.args.words c.args.index c.word_of.result c.requires.index c.store.ensures.changed
