use Rattle.std.proofs.Common.{◌∙◌}
use Rattle.sn_mem.proofs.Windows.{samples_of_window}
use Rattle.sn_mem.proofs.port.Port.load_samples.Goals as goal

pub returns-clause-value : goal.returns-clause-value
returns-clause-value g c = c.samples_in.ensures ∙ samples_of_window c.load_run.new.into (g.Self.Port.words c.args.self.now) c.args.at c.load_run.ensures.value
