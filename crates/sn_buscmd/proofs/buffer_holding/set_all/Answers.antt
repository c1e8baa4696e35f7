use Rattle.std.proofs.Common.{rules, ◌≡◌, ◌<◌, ◌∙◌, ap, arith, length, set, subst, sym, take}
use Rattle.std.specs.Prelude.{FitsSigned}
use Rattle.std.specs.Int.{w32, from_be_bytes}
use Rattle.std.proofs.lemmas.Int.{to_z-of_z}
use Rattle.std.proofs.lemmas.List.{length-drop}
use borrow.Author.Gap.{read_sfits}
use Rattle.sn_mem.specs.Buffers.{samples_of}
use Rattle.sn_buscmd.specs.Samples.{KeepsAround}
use Rattle.sn_buscmd.proofs.ReadingLemmas.{all_read, sets_next}
use Rattle.sn_buscmd.proofs.SampleLemmas.{length-samples}
use Rattle.sn_buscmd.proofs.buffer_holding.set_all.Goals as goal

pub loop-index-preserved : goal.loop-index-preserved
loop-index-preserved g c =
    let at = c.loop-index in
    let words = c.args.words in
    let old = samples_of (g.P.Port.words at.port) words in
    let new = samples_of (g.P.Port.words c.set_sample.new.port) words in
    let within : at.index < words.len = search rules in
    let fits : FitsSigned w32 c.sample_in_front.result = subst (FitsSigned w32) (sym c.sample_in_front.ensures) (read_sfits w32 (from_be_bytes w32 (take 4 at.rest.now))) in
    let one : new ≡ set old at.index c.sample_in_front.result = c.set_sample.ensures.samples ∙ ap (set old at.index) (to_z-of_z w32 c.sample_in_front.result fits) in
    let others : KeepsAround words (g.P.Port.words c.args.port.now) (g.P.Port.words c.set_sample.new.port) = search rules in
    record {
      left = sets_next words.len at.index at.rest.now c.behind_sample-rest.result.now old new _ within (one ∙ ap (set old at.index) c.sample_in_front.ensures) c.behind_sample-rest.ensures at.invariant.left;
      whole = omega (arith, within, at.invariant.whole, ap length c.behind_sample-rest.ensures, length-drop 4 at.rest.now);
      others = others;
      foot = c.set_sample.ensures.port.0 ∙ at.invariant.foot;
      rest = c.set_sample.ensures.port.1 ∙ at.invariant.rest;
    }

pub returns-clause-samples : goal.returns-clause-samples
returns-clause-samples g c =
    let at = c.loop-index in
    let words = c.args.words in
    let done : at.index ≡ words.len = search rules in
    all_read words.len at.index c.args.bytes.now at.rest.now (samples_of (g.P.Port.words at.port) words) (samples_of (g.P.Port.words c.args.port.now) words) done (length-samples (g.P.Port.words c.args.port.now) words) at.invariant.left
