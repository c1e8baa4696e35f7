use Rattle.std.proofs.Common.{◌≡◌, ◌≤◌, ◌<◌, ◌+◌, ℕ, ℤ, List, map, All, sym, ap, ◌∙◌, subst, arith}
use Rattle.sn_fills.specs.declared.fill.Fill.{Fill}
use Rattle.sn_mem.specs.Buffers.{samples_of}
use Rattle.sn_world.specs.BufferSamples.{change_all}
use Rattle.sn_buscmd.specs.Fills.{sample_places, fill_samples}
use Rattle.sn_buscmd.proofs.FillsLemmas.{samples-alike, samples-filled, samples-within, ends-short}
use Rattle.sn_buscmd.proofs.sample_changes.SampleFillSampleChange.change_all.Goals as goal

pub once_each-requires : goal.once_each-requires
once_each-requires g c =
    let size : ℕ = c.args.words.len in
    let are : c.deref.result.now ≡ map sample_places c.args.all.now = c.deref.ensures.value ∙ c.in_ok-fills.ensures in
    subst (λ (fs : List Fill). All (λ (f : Fill). f.first + f.count < 4294967296) fs) (sym are)
    (ends-short size (map sample_places c.args.all.now) (omega arith) (samples-within size c.args.all.now c.requires.free))

pub fill_each-requires-clause-within : goal.fill_each-requires-clause-within
fill_each-requires-clause-within g c =
    let size : ℕ = c.args.words.len in
    let are : c.deref.result.now ≡ map sample_places c.args.all.now = c.deref.ensures.value ∙ c.in_ok-fills.ensures in
    let within : All (λ (f : Fill). f.first + f.count ≤ size) c.deref.result.now =
    subst (λ (fs : List Fill). All (λ (f : Fill). f.first + f.count ≤ size) fs) (sym are) (samples-within size c.args.all.now c.requires.free) in
    subst (λ (fs : List Fill). All (λ (f : Fill). f.first + f.count ≤ size) fs) (sym c.deref-2.ensures.value) (c.in_ok-once.ensures.within size within)

pub returns-clause-samples : goal.returns-clause-samples
returns-clause-samples g c =
    let before : List ℤ = samples_of (g.P.Port.words c.args.port.now) c.args.words in
    let are : c.deref.result.now ≡ map sample_places c.args.all.now = c.deref.ensures.value ∙ c.in_ok-fills.ensures in
    c.fill_each.ensures.samples
    ∙ ap (λ (fs : List Fill). change_all fill_samples fs before) c.deref-2.ensures.value
    ∙ samples-alike c.in_ok-once.once.items c.deref.result.now before c.in_ok-once.ensures.same
    ∙ ap (λ (fs : List Fill). change_all fill_samples fs before) are
    ∙ samples-filled c.args.all.now before
