use Rattle.std.proofs.Common.{◌≡◌, ◌++◌, ◌∷◌, List, ap, map, subst, flat_map}
use Rattle.std.proofs.lemmas.Result.{on_ok_weaker}
use Rattle.sn_ports.specs.Octets.{Octets}
use Rattle.sn_def.specs.Defs.{definition_of}
use Rattle.sn_def.specs.Units.{UnitRow}
use Rattle.sn_def.specs.Printing.{input_printed}
use Rattle.sn_def.specs.declared.unit.Input.{Input}
use Rattle.sn_def.proofs.PrintLoop.{unit_text}
use Rattle.sn_def.proofs.printing.print_unit.Goals as goal

pub returns : goal.returns
returns c =
    on_ok_weaker c.append-2.result (λ e. unit_text (definition_of c.args.def.now) (map (λ (n : Octets). n.bytes) c.args.names.now) c.args.unit.now c.args.text.now.bytes c.print_outputs.new.text.bytes c.append.new.self.bytes c.print_inputs.new.text.bytes c.append-2.new.self.bytes
    c.row_of.result.name.now (ap (λ (r : UnitRow). r.name) c.row_of.ensures) c.in_ok-print_outputs.ensures c.in_ok-append.ensures.ok (subst (λ (xs : List Input). c.print_inputs.new.text.bytes ≡ c.append.new.self.bytes ++ flat_map (λ x. 32 ∷ input_printed (definition_of c.args.def.now) x) xs) c.as_slice.ensures c.in_ok-print_inputs.ensures) e) c.append-2.ensures.ok
