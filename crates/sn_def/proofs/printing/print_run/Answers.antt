use Rattle.std.proofs.Common.{◌≡◌, ◌+◌, ◌-◌, arith}
use Rattle.std.proofs.lemmas.Result.{on_ok_weaker}
use Rattle.sn_def.proofs.PrintLoop.{run_text}
use Rattle.sn_def.proofs.printing.print_run.Goals as goal

pub returns : goal.returns
returns c =
    let r = c.args.array.now in
    let wide : r.first + r.len - r.first ≡ r.len = omega arith in
    on_ok_weaker c.print_array.result (λ e. run_text c.args.controls.now r (r.first + r.len - r.first) c.args.text.now.bytes c.print_controls.new.text.bytes c.print_array.new.text.bytes _ wide c.in_ok-print_controls.ensures e) c.print_array.ensures
