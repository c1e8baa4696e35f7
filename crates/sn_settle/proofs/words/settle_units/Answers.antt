use Rattle.std.proofs.Common.{◌≤◌, ◌<◌, ◌+◌, ◌∙◌, length, drop, refl, ap, sym, subst, arith, List, ℕ}
use Rattle.sn_mem.specs.Words.{MayWrite}
use Rattle.sn_def.specs.StateWords.{unit_words}
use Rattle.sn_def.specs.declared.unit.Unit.{Unit as UnitLine}
use Rattle.sn_def.proofs.Layouts.{first_is}
use Rattle.sn_world.specs.Settling.{settled_at, settled_units}
use Rattle.sn_settle.proofs.Reading.{drop_next, drop_past, place_of, placed, next_place, part_write, next_fits}
use Rattle.sn_settle.proofs.words.settle_units.Goals as goal

pub loop-unit-init : goal.loop-unit-init
loop-unit-init g c = record { words = ap (λ (n : ℕ). settled_units c.args.rate c.args.units.now n (g.P.Port.words c.args.port.now)) (omega arith); count = refl; foot = refl; rest = refl }

pub unit_words-words-requires : goal.unit_words-words-requires
unit_words-words-requires g c = rw (← c.requires.same) (omega (arith, c.requires.writes.below))

pub overflow_add-at : goal.overflow_add-at
overflow_add-at g c =
    let lt : c.loop-unit.unit-index < length c.args.units.now = omega arith in
    let first = first_is c.args.rate c.args.units.now c.args.def.now.units c.loop-unit.number c.loop-unit.unit-index c.unit_words-words.result c.unit_words-words.ensures c.loop-unit.invariant.count c.requires.same in
    let fits = next_fits c.args.rate c.args.units.now c.args.at c.loop-unit.unit-index c.unit-item.result _ lt c.unit-item.is (placed c.args.rate c.args.units.now c.args.at c.loop-unit.unit-index) _ refl c.requires.writes.below in
    omega (arith, first, fits)

pub settle_unit-requires : goal.settle_unit-requires
settle_unit-requires g c =
    let lt : c.loop-unit.unit-index < length c.args.units.now = omega arith in
    let i = c.loop-unit.invariant in
    let first = first_is c.args.rate c.args.units.now c.args.def.now.units c.loop-unit.number c.loop-unit.unit-index c.unit_words-words.result c.unit_words-words.ensures i.count c.requires.same in
    let may = part_write c.args.rate c.args.units.now c.args.at c.loop-unit.unit-index c.unit-item.result _ lt c.unit-item.is (placed c.args.rate c.args.units.now c.args.at c.loop-unit.unit-index) (g.P.Port.foot c.args.port.now) (g.P.Port.foot c.loop-unit.port) i.foot c.requires.writes in
    record { writes = (c.args.rate, subst (λ (n : ℕ). MayWrite (g.P.Port.foot c.loop-unit.port) (c.args.at + n) (unit_words c.args.rate c.unit-item.result)) (sym first) may) }

pub loop-unit-preserved : goal.loop-unit-preserved
loop-unit-preserved g c =
    let lt : c.loop-unit.unit-index < length c.args.units.now = omega arith in
    let i = c.loop-unit.invariant in
    let u = c.unit-item.result in
    let here = place_of c.args.rate c.args.units.now c.args.at c.loop-unit.unit-index in
    let left = drop (c.loop-unit.unit-index + 1) c.args.units.now in
    let first = first_is c.args.rate c.args.units.now c.args.def.now.units c.loop-unit.number c.loop-unit.unit-index c.unit_words-words.result c.unit_words-words.ensures i.count c.requires.same in
    record {
      words = ap (λ (n : ℕ). settled_units c.args.rate left n (g.P.Port.words c.settle_unit.new.port)) (next_place c.args.rate c.args.units.now c.args.at c.loop-unit.unit-index u lt c.unit-item.is)
          ∙ ap (settled_units c.args.rate left (here + unit_words c.args.rate u)) (c.settle_unit.ensures.words ∙ ap (λ (n : ℕ). settled_at u (c.args.at + n) (g.P.Port.words c.loop-unit.port)) first)
          ∙ sym (ap (λ (us : List UnitLine). settled_units c.args.rate us here (g.P.Port.words c.loop-unit.port)) (drop_next c.args.units.now c.loop-unit.unit-index u lt c.unit-item.is))
          ∙ i.words;
      count = omega (arith, i.count);
      foot = c.settle_unit.ensures.port.0 ∙ i.foot;
      rest = c.settle_unit.ensures.port.1 ∙ i.rest;
    }

pub returns-clause-words : goal.returns-clause-words
returns-clause-words g c =
    let past : length c.args.units.now ≤ c.loop-unit.unit-index = omega arith in
    let here = place_of c.args.rate c.args.units.now c.args.at c.loop-unit.unit-index in
    sym (ap (λ (us : List UnitLine). settled_units c.args.rate us here (g.P.Port.words c.loop-unit.port)) (drop_past c.args.units.now c.loop-unit.unit-index past)) ∙ c.loop-unit.invariant.words
