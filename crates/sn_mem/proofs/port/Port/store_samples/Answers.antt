use Rattle.std.proofs.Common.{ap, ◌∙◌}
use Rattle.sn_mem.specs.Blocks.{put}
use Rattle.sn_mem.proofs.Windows.{samples_alone}
use Rattle.sn_mem.proofs.port.Port.store_samples.Goals as goal

pub returns-clause-changed : goal.returns-clause-changed
returns-clause-changed g c = c.store_run.ensures.changed ∙ ap (put (g.Self.Port.words c.args.self.now) c.args.at) (c.put_samples.ensures ∙ samples_alone c.args.samples.now)
