use Rattle.std.proofs.Common.{◌-◌, length, take, drop, get_or, refl}
use borrow.Rule.Slice.PartAt.{part_to_end}
use Rattle.std.proofs.lemmas.Result.{on_ok_weaker}
use Rattle.sn_def.specs.declared.arrays.Run.{Run}
use Rattle.sn_def.proofs.PrintLoop.{run_fits, arrays_text, last_text}
use Rattle.sn_def.proofs.printing.print_control_lines.Goals as goal

-- what would stand past the last array
abbrev none : Run
none = record { first = 0; len = 0 }

pub print_run-requires-clause-within : goal.print_run-requires-clause-within
print_run-requires-clause-within c =
    (run_fits c.args.arrays.now c.loop-array.array-index (get_or c.args.arrays.now c.loop-array.array-index none) none c.loop-array.next (length c.args.controls.now) c.loop-array-test.true refl c.loop-array.invariant.fit).1

pub loop-array-preserved : goal.loop-array-preserved
loop-array-preserved c =
    let rs = c.args.arrays.now in
    let ps = c.args.controls.now in
    let i = c.loop-array.array-index in
    let next = c.loop-array.next in
    let r : Run = get_or rs i none in
    let f = run_fits rs i r none next (length ps) c.loop-array-test.true refl c.loop-array.invariant.fit in
    record {
      fit = f.2;
      text = arrays_text ps (take (r.first - next) (drop next ps)) (take r.len (drop r.first ps)) rs r none i next c.loop-array.text.bytes _ c.print_run.new.text.bytes _ c.loop-array-test.true refl f.0 refl refl refl c.in_ok-print_run.ensures c.loop-array.invariant.text;
    }

pub returns : goal.returns
returns c =
    let ps = c.args.controls.now in
    let next = c.loop-array.next in
    on_ok_weaker c.print_controls.result (λ e. last_text ps (take (length ps - next) (drop next ps)) c.args.arrays.now c.loop-array.array-index next c.loop-array.text.bytes c.print_controls.new.text.bytes _ c.loop-array-test.false (part_to_end ps next) e c.loop-array.invariant.text) c.print_controls.ensures
