use Rattle.std.proofs.Common.{◌≡◌, ◌+◌, ◌-◌, take, drop, arith, ap}
use Rattle.sn_def.specs.Defs.{definition_of}
use Rattle.sn_def.proofs.PrintLoop.{units_room, units_text}
use Rattle.sn_def.proofs.printing.print_units.Goals as goal

pub loop-unit-preserved : goal.loop-unit-preserved
loop-unit-preserved c =
    let u = c.unit-item.result in
    let i = c.loop-unit.unit-index in
    let width : c.loop-unit.first + u.outputs - c.loop-unit.first ≡ u.outputs = omega arith in
    record {
      room = units_room c.args.units.now u i c.loop-unit.first _ c.loop-unit-test.true c.unit-item.is c.loop-unit.invariant.room;
      text = units_text (definition_of c.args.def.now) c.args.names.now _ c.args.units.now u i c.loop-unit.first c.loop-unit.text.bytes c.print_unit.new.text.bytes _ c.loop-unit-test.true c.unit-item.is (ap (λ n. take n (drop c.loop-unit.first c.args.names.now)) width) c.in_ok-print_unit.ensures c.loop-unit.invariant.text;
    }
