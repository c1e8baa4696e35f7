use Rattle.std.proofs.Common.{rules, ◌+◌, ◌∙◌, ℕ, List, get_or, ap, arith}
use Rattle.sn_mem.proofs.Feet.{may_touch}
use Rattle.sn_filt.proofs.LineLaws.{comb_there}
use Rattle.sn_filt.proofs.lines.first_comb.Goals as goal

pub load-requires : goal.load-requires
load-requires g c = may_touch (g.P.Port.foot c.args.port.now) (g.P.Port.foot c.first_place-place.new.port) c.args.state.at c.args.state.len (c.args.state.at + 1) c.requires.state c.first_place-place.ensures.port.0 (omega arith) (omega arith)

pub returns-clause-value : goal.returns-clause-value
returns-clause-value g c = comb_there c.args.state.at c.args.state.len c.first_place-place.result c.load.result _ (g.P.Port.words c.args.port.now) (omega arith) c.first_place-place.ensures.value (c.load.ensures.word ∙ ap (λ (ws : List ℕ). get_or ws (c.args.state.at + 1) 0) c.first_place-place.ensures.words) (search rules)
