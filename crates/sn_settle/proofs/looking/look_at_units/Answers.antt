use Rattle.std.proofs.Common.{◌≡◌, ◌≤◌, ◌<◌, ◌+◌, ◌∙◌, length, drop, refl, ap, sym, subst, arith, List, ℕ}
use Rattle.sn_mem.specs.Words.{MayRead}
use Rattle.sn_def.proofs.Layouts.{first_is}
use Rattle.sn_def.specs.StateWords.{unit_words}
use Rattle.sn_def.specs.declared.unit.Unit.{Unit as UnitLine}
use Rattle.sn_world.specs.Settling.{triggers_at, endings_at, unit_triggers, unit_endings}
use Rattle.sn_settle.specs.Telling.{CanLook, AreSeen}
use Rattle.sn_settle.proofs.Sending.{IsUnderway, underway_none, underway_can, underway_next, underway_all}
use Rattle.sn_settle.proofs.Reading.{drop_next, drop_past, place_of, placed, next_place, next_fits, part_read, seen_next}
use Rattle.sn_settle.proofs.looking.look_at_units.Goals as goal

pub loop-unit-init : goal.loop-unit-init
loop-unit-init g c =
    let now = c.args.now.now in
    let ws = g.P.Port.words c.args.port.now in
    let begin : place_of now.rate c.args.units.now c.args.at 0 ≡ c.args.at = omega arith in
    record {
      underway = subst (λ (n : ℕ). IsUnderway c.args.flags.now (unit_triggers now.rate now.block now.node c.args.units.now c.args.at ws) (unit_triggers now.rate now.block now.node c.args.units.now n ws) (unit_endings now.rate now.node c.args.units.now c.args.at ws) (unit_endings now.rate now.node c.args.units.now n ws) c.args.outs.now c.args.outs.now c.args.endings.now c.args.endings.now) (sym begin)
          (underway_none c.args.flags.now _ _ _ _ c.args.outs.now c.args.endings.now refl refl);
      count = refl;
      words = refl;
      foot = refl;
      rest = refl;
    }

pub unit_words-words-requires : goal.unit_words-words-requires
unit_words-words-requires g c = rw (← c.requires.same) (omega (arith, c.requires.reads.below))

pub overflow_add-at : goal.overflow_add-at
overflow_add-at g c =
    let lt : c.loop-unit.unit-index < length c.args.units.now = omega arith in
    let first = first_is c.args.now.now.rate c.args.units.now c.args.def.now.units c.loop-unit.number c.loop-unit.unit-index c.unit_words-words.result c.unit_words-words.ensures c.loop-unit.invariant.count c.requires.same in
    let fits = next_fits c.args.now.now.rate c.args.units.now c.args.at c.loop-unit.unit-index c.unit-item.result _ lt c.unit-item.is (placed c.args.now.now.rate c.args.units.now c.args.at c.loop-unit.unit-index) _ refl c.requires.reads.below in
    omega (arith, first, fits)

pub look_at_unit-requires-clause-reads : goal.look_at_unit-requires-clause-reads
look_at_unit-requires-clause-reads g c =
    let lt : c.loop-unit.unit-index < length c.args.units.now = omega arith in
    let i = c.loop-unit.invariant in
    let first = first_is c.args.now.now.rate c.args.units.now c.args.def.now.units c.loop-unit.number c.loop-unit.unit-index c.unit_words-words.result c.unit_words-words.ensures c.loop-unit.invariant.count c.requires.same in
    let may = part_read c.args.now.now.rate c.args.units.now c.args.at c.loop-unit.unit-index c.unit-item.result _ lt c.unit-item.is (placed c.args.now.now.rate c.args.units.now c.args.at c.loop-unit.unit-index) (g.P.Port.foot c.args.port.now) (g.P.Port.foot c.loop-unit.port) i.foot c.requires.reads in
    (c.args.now.now.rate, subst (λ (n : ℕ). MayRead (g.P.Port.foot c.loop-unit.port) (c.args.at + n) (unit_words c.args.now.now.rate c.unit-item.result)) (sym first) may)

pub look_at_unit-requires-clause-can : goal.look_at_unit-requires-clause-can
look_at_unit-requires-clause-can g c =
    let lt : c.loop-unit.unit-index < length c.args.units.now = omega arith in
    let ws = g.P.Port.words c.args.port.now in
    let now = c.args.now.now in
    let u = c.unit-item.result in
    let first = first_is c.args.now.now.rate c.args.units.now c.args.def.now.units c.loop-unit.number c.loop-unit.unit-index c.unit_words-words.result c.unit_words-words.ensures c.loop-unit.invariant.count c.requires.same in
    let at = place_of c.args.now.now.rate c.args.units.now c.args.at c.loop-unit.unit-index in
    let left = drop (c.loop-unit.unit-index + 1) c.args.units.now in
    let is = drop_next c.args.units.now c.loop-unit.unit-index u lt c.unit-item.is in
    subst (λ (n : ℕ). CanLook (triggers_at now.block now.node u (c.args.at + n) (g.P.Port.words c.loop-unit.port)) (endings_at now.node u (c.args.at + n) (g.P.Port.words c.loop-unit.port)) c.loop-unit.outs c.loop-unit.endings) (sym first)
    (subst (λ (us : List ℕ). CanLook (triggers_at now.block now.node u at us) (endings_at now.node u at us) c.loop-unit.outs c.loop-unit.endings) (sym c.loop-unit.invariant.words)
    (underway_can c.args.flags.now _ (triggers_at now.block now.node u at ws) (unit_triggers now.rate now.block now.node left (at + unit_words now.rate u) ws) _ (endings_at now.node u at ws) (unit_endings now.rate now.node left (at + unit_words now.rate u) ws)
    c.args.outs.now c.loop-unit.outs c.args.endings.now c.loop-unit.endings c.requires.can
    (seen_next now.rate now.block now.node c.args.flags.now (drop c.loop-unit.unit-index c.args.units.now) left u at ws is _ _ c.args.outs.now c.loop-unit.outs c.args.endings.now c.loop-unit.endings c.loop-unit.invariant.underway)))

pub loop-unit-preserved : goal.loop-unit-preserved
loop-unit-preserved g c =
    let lt : c.loop-unit.unit-index < length c.args.units.now = omega arith in
    let i = c.loop-unit.invariant in
    let ws = g.P.Port.words c.args.port.now in
    let now = c.args.now.now in
    let u = c.unit-item.result in
    let first = first_is c.args.now.now.rate c.args.units.now c.args.def.now.units c.loop-unit.number c.loop-unit.unit-index c.unit_words-words.result c.unit_words-words.ensures c.loop-unit.invariant.count c.requires.same in
    let at = place_of c.args.now.now.rate c.args.units.now c.args.at c.loop-unit.unit-index in
    let left = drop (c.loop-unit.unit-index + 1) c.args.units.now in
    let is = drop_next c.args.units.now c.loop-unit.unit-index u lt c.unit-item.is in
    let all_triggers = unit_triggers now.rate now.block now.node c.args.units.now c.args.at ws in
    let all_endings = unit_endings now.rate now.node c.args.units.now c.args.at ws in
    let under = underway_next c.args.flags.now all_triggers (triggers_at now.block now.node u at ws) (unit_triggers now.rate now.block now.node left (at + unit_words now.rate u) ws) all_endings (endings_at now.node u at ws) (unit_endings now.rate now.node left (at + unit_words now.rate u) ws)
    c.args.outs.now c.loop-unit.outs c.look_at_unit.new.outs c.args.endings.now c.loop-unit.endings c.look_at_unit.new.endings
    (seen_next now.rate now.block now.node c.args.flags.now (drop c.loop-unit.unit-index c.args.units.now) left u at ws is all_triggers all_endings c.args.outs.now c.loop-unit.outs c.args.endings.now c.loop-unit.endings i.underway)
    (subst (λ (us : List ℕ). AreSeen c.args.flags.now (triggers_at now.block now.node u at us) (endings_at now.node u at us) c.loop-unit.outs c.look_at_unit.new.outs c.loop-unit.endings c.look_at_unit.new.endings) i.words
    (subst (λ (n : ℕ). AreSeen c.args.flags.now (triggers_at now.block now.node u (c.args.at + n) (g.P.Port.words c.loop-unit.port)) (endings_at now.node u (c.args.at + n) (g.P.Port.words c.loop-unit.port)) c.loop-unit.outs c.look_at_unit.new.outs c.loop-unit.endings c.look_at_unit.new.endings) first c.look_at_unit.ensures.seen)) in
    record {
      underway = subst (λ (n : ℕ). IsUnderway c.args.flags.now all_triggers (unit_triggers now.rate now.block now.node left n ws) all_endings (unit_endings now.rate now.node left n ws) c.args.outs.now c.look_at_unit.new.outs c.args.endings.now c.look_at_unit.new.endings) (sym (next_place now.rate c.args.units.now c.args.at c.loop-unit.unit-index u lt c.unit-item.is)) under;
      count = omega (arith, i.count);
      words = c.look_at_unit.ensures.words ∙ i.words;
      foot = c.look_at_unit.ensures.port.0 ∙ i.foot;
      rest = c.look_at_unit.ensures.port.1 ∙ i.rest;
    }

pub returns-clause-seen : goal.returns-clause-seen
returns-clause-seen g c =
    let ws = g.P.Port.words c.args.port.now in
    let now = c.args.now.now in
    let past : length c.args.units.now ≤ c.loop-unit.unit-index = omega arith in
    let gone = drop_past c.args.units.now c.loop-unit.unit-index past in
    let here = place_of now.rate c.args.units.now c.args.at c.loop-unit.unit-index in
    underway_all c.args.flags.now _ (unit_triggers now.rate now.block now.node (drop c.loop-unit.unit-index c.args.units.now) here ws) _ (unit_endings now.rate now.node (drop c.loop-unit.unit-index c.args.units.now) here ws)
    c.args.outs.now c.loop-unit.outs c.args.endings.now c.loop-unit.endings
    (ap (λ (us : List UnitLine). unit_triggers now.rate now.block now.node us here ws) gone) (ap (λ (us : List UnitLine). unit_endings now.rate now.node us here ws) gone) c.loop-unit.invariant.underway
