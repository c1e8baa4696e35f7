use Rattle.std.proofs.Common.{◌≡◌, ◌<◌, ◌≤◌, [], ◌∷◌, get_or, length, arith, true, false, length-append}
use Rattle.sn_def.specs.Definition.{with_wires}
use Rattle.sn_def.specs.Reading.{is_known}
use Rattle.sn_def.specs.Answers.{texts}
use Rattle.sn_def.proofs.Fielding.{text_there, as_many}
use Rattle.sn_def.proofs.WireLoop.{wire_twice, wire_new, wires_done}
use Rattle.sn_def.proofs.wires.give_wires.Goals as goal

pub returns-then-is_some : goal.returns-then-is_some
returns-then-is_some c =
    let names = c.args.names.now in
    let lt : c.loop-name.name-index < length (texts names) = rw (as_many names) c.loop-name-test.true in
    let twice : is_known c.loop-name.given (get_or (texts names) c.loop-name.name-index []) ≡ true = rw (text_there names c.loop-name.name-index, ← c.find.ensures, ← c.is_some.ensures) c.if-is_some.true in
    wire_twice c.loop-name.given (texts names) c.loop-name.name-index _ lt twice c.loop-name.invariant.read

pub loop-name-preserved : goal.loop-name-preserved
loop-name-preserved c =
    let names = c.args.names.now in
    let i = c.loop-name.name-index in
    let lt : i < length (texts names) = rw (as_many names) c.loop-name-test.true in
    let fresh : is_known c.loop-name.given (get_or (texts names) i []) ≡ false = rw (text_there names i, ← c.find.ensures, ← c.is_some.ensures) c.if-is_some.false in
    let is : c.in_ok-given.given ≡ with_wires c.loop-name.given (get_or (texts names) i [] ∷ []) = rw (text_there names i) c.in_ok-given.ensures in
    record {
      room = rw is (omega (arith, c.loop-name.invariant.room, length-append c.loop-name.given.wires (get_or (texts names) i [] ∷ [])));
      read = rw is (wire_new c.loop-name.given (texts names) i _ lt fresh c.loop-name.invariant.read);
    }

pub returns : goal.returns
returns c =
    let le : length (texts c.args.names.now) ≤ c.loop-name.name-index = rw (as_many c.args.names.now) c.loop-name-test.false in
    wires_done c.loop-name.given (texts c.args.names.now) c.loop-name.name-index _ le c.loop-name.invariant.read
