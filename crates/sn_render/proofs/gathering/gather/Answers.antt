use Rattle.std.proofs.Common.{map}
use Rattle.sn_osc.specs.Shape.{shape}
use Rattle.sn_render.proofs.GatheringLemmas.{only_packets, only_refused}
use Rattle.sn_render.proofs.gathering.gather.Goals as goal

pub returns-clause-only_packets : goal.returns-clause-only_packets
returns-clause-only_packets g c = λ bytes packets is size frames still.
    only_packets (λ v. map shape v.items) (g.S.Source.left c.args.source.now) c.gathered.result bytes packets c.gathered.ensures.packets c.gathered.ensures.refused is size frames (λ e. still (c.gathered.ensures.read e))

pub returns-clause-only_refused : goal.returns-clause-only_refused
returns-clause-only_refused g c = λ bytes e is has still.
    only_refused (λ v. map shape v.items) (g.S.Source.left c.args.source.now) c.gathered.result bytes e c.gathered.ensures.packets c.gathered.ensures.refused is has (λ e. still (c.gathered.ensures.read e))
