use Rattle.std.proofs.Common.{rules, ◌+◌, refl, arith}
use Rattle.sn_mem.proofs.Feet.{may_touch}
use Rattle.sn_filt.proofs.LineLaws.{past_there}
use Rattle.sn_filt.proofs.lines.past.Goals as goal

pub load-requires : goal.load-requires
load-requires g c = may_touch (g.P.Port.foot c.args.port.now) (g.P.Port.foot c.args.port.now) c.args.state.at c.args.state.len (c.args.state.at + c.args.head + c.before-before.result) c.requires.state refl (omega arith) (omega arith)

pub returns-clause-value : goal.returns-clause-value
returns-clause-value g c = past_there c.args.head c.args.place c.args.frames c.args.state.at c.args.state.len c.before-before.result c.load.result (g.P.Port.words c.args.port.now) _ c.before-before.ensures.value c.before-before.ensures.bound c.load.ensures.word (search rules)
