use Rattle.std.proofs.Common.{rules, ◌≡◌, ◌==◌, length, false}
use Rattle.std.proofs.lemmas.Result.{on_ok_weaker}
use Rattle.sn_def.proofs.PrintLoop.{outputs_text}
use Rattle.sn_def.proofs.printing.print_outputs.Goals as goal

pub returns : goal.returns
returns c =
    let some : (length c.args.names.now == 0) ≡ false = search rules in
    on_ok_weaker c.append.result (λ e. outputs_text c.args.names.now c.args.text.now.bytes c.print_names.new.text.bytes c.append.new.self.bytes some c.in_ok-print_names.ensures e) c.append.ensures.ok
