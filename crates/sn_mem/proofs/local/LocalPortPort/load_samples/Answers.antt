use Rattle.std.proofs.Common.{◌+◌, sym, ◌∙◌}
use Rattle.sn_mem.specs.Copies.{localized}
use Rattle.sn_mem.proofs.Copying.{run_in_copy}
use Rattle.sn_mem.proofs.Windows.{samples_of_window, samples_same}
use Rattle.sn_mem.proofs.local.LocalPortPort.load_samples.Goals as goal

pub returns-then-end-self-clause-value : goal.returns-then-end-self-clause-value
returns-then-end-self-clause-value g c =
    let port = c.args.self.now.port.now in
    let f = g.P.Port.foot port in
    let seen = localized f (g.P.Port.words port) c.args.self.now.copy.now in
    c.copied_samples.ensures ∙ sym (samples_same seen c.args.self.now.copy.now c.args.at
    (run_in_copy f (g.P.Port.words port) c.args.self.now.copy.now c.args.at 64 (λ i lt. g.met.P.Port.inside port (c.args.at + i) (c.requires.each i lt)) c.if-end-self.true c.requires.each))

pub returns-else-end-self-clause-value : goal.returns-else-end-self-clause-value
returns-else-end-self-clause-value g c =
    let port = c.args.self.now.port.now in
    c.samples_in.ensures ∙ samples_of_window c.load_run.new.into (localized (g.P.Port.foot port) (g.P.Port.words port) c.args.self.now.copy.now) c.args.at c.load_run.ensures.value
