use Rattle.std.proofs.Common.{◌≡◌, ◌<◌, ◌+◌, ℕ, List, length, get_or, pos, ap, ◌∙◌, arith}
use Rattle.std.proofs.lemmas.Bool.{or_left}
use Rattle.sn_mem.specs.Words.{has}
use Rattle.sn_mem.specs.Blocks.{put, sample_words, word_for}
use Rattle.sn_mem.specs.Copies.{localized}
use Rattle.sn_mem.proofs.Copying.{put_in_copy}
use Rattle.sn_mem.proofs.Tables.{length-table}
use Rattle.sn_mem.proofs.Windows.{samples_alone}
use Rattle.sn_mem.proofs.local.LocalPortPort.store_samples.Goals as goal

pub returns-then-end-self-clause-changed : goal.returns-then-end-self-clause-changed
returns-then-end-self-clause-changed g c =
    let port = c.args.self.now.port.now in
    let f = g.P.Port.foot port in
    let run : List ℕ = sample_words c.args.samples.now in
    let long : length run ≡ 64 = length-table (λ k. word_for (get_or c.args.samples.now k (pos 0))) 64 in
    let may = λ (i : ℕ) (lt : i < length run). or_left (has f.writes (c.args.at + i)) (has f.reads (c.args.at + i)) (c.requires.each i (omega (arith, lt, long))) in
    ap (localized f (g.P.Port.words port)) c.put_samples.ensures ∙ put_in_copy f (g.P.Port.words port) c.args.self.now.copy.now c.args.at run (λ i lt. g.met.P.Port.inside port (c.args.at + i) (may i lt)) (omega (arith, long, c.if-end-self.true)) may

pub returns-else-end-self-clause-changed : goal.returns-else-end-self-clause-changed
returns-else-end-self-clause-changed g c =
    let port = c.args.self.now.port.now in
    c.store_run.ensures.changed
    ∙ ap (put (localized (g.P.Port.foot port) (g.P.Port.words port) c.args.self.now.copy.now) c.args.at) (c.put_samples-else-end-self.ensures ∙ samples_alone c.args.samples.now)
