use Rattle.std.proofs.Common.{◌≡◌, ◌<◌, ◌+◌, ◌*◌, set, length, true, ◌∙◌, ap, arith, rules}
use Rattle.std.specs.Prelude.{FitsSigned}
use Rattle.std.specs.Int.{w32}
use Rattle.std.proofs.lemmas.Int.{to_z-of_z}
use Rattle.sn_mem.specs.Words.{writes}
use Rattle.sn_mem.specs.Blocks.{word_for}
use Rattle.sn_mem.proofs.Masks.{touched}
use Rattle.sn_buscmd.proofs.BusLemmas.{stored_to, others-set}
use Rattle.sn_buscmd.proofs.setting.set_value.Goals as goal

pub returns-clause-buses : goal.returns-clause-buses
returns-clause-buses g c =
    let words = g.P.Port.words c.args.port.now in
    let value = c.args.value in
    let fits : FitsSigned w32 value = search rules in
    let place : c.control.result.at + 1 ≡ 8320 + 2 * c.args.number + 1 = ap (λ e. e.at + 1) c.control.ensures in
    let last : writes (g.P.Port.foot c.args.port.now) 10367 ≡ true = c.requires.foot 10367 (omega arith) in
    let long : 10367 < length words = g.met.P.Port.inside c.args.port.now 10367 (touched (g.P.Port.foot c.args.port.now) 10367 last) in
    stored_to words (g.P.Port.words c.store.new.self) c.args.number c.word_of.result value fits c.requires.bus
    (c.store.ensures.changed ∙ ap (λ i. set words i c.word_of.result) place)
    (c.word_of.ensures.value ∙ ap word_for (to_z-of_z w32 value fits)) (omega arith)

pub returns-clause-others : goal.returns-clause-others
returns-clause-others g c =
    let words = g.P.Port.words c.args.port.now in
    let place : c.control.result.at ≡ 8320 + 2 * c.args.number = ap (λ e. e.at) c.control.ensures in
    others-set words (g.P.Port.words c.store.new.self) (c.control.result.at + 1) c.word_of.result c.store.ensures.changed (omega arith) (omega arith)
