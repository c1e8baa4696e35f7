use Rattle.std.proofs.lemmas.Result.{on_ok_weaker}
use Rattle.sn_def.proofs.PrintLoop.{array_text}
use Rattle.sn_def.proofs.printing.print_array.Goals as goal

pub returns : goal.returns
returns c =
    on_ok_weaker c.append-3.result (λ e. array_text c.args.controls.now c.args.text.now.bytes c.append.new.self.bytes c.append-2.new.self.bytes c.print_values.new.text.bytes c.append-3.new.self.bytes
    c.first_name.result.now c.first_name.ensures c.in_ok-append.ensures.ok c.in_ok-append-2.ensures.ok c.in_ok-print_values.ensures e) c.append-3.ensures.ok
