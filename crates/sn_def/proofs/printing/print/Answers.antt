use Rattle.std.proofs.Common.{◌≡◌, ◌∙◌, ap, length, sym, arith}
use Rattle.std.proofs.lemmas.List.{length-map}
use Rattle.sn_ports.specs.Octets.{Octets}
use Rattle.sn_def.specs.Defs.{definition_of}
use Rattle.sn_def.specs.Params.{parameter_of}
use Rattle.sn_def.specs.Printing.{version_for}
use Rattle.sn_def.specs.Reading.{text_at}
use Rattle.sn_def.specs.WellFormed.{outputs_of}
use Rattle.sn_def.proofs.Forming.{formed}
use Rattle.sn_def.proofs.Sets.{printed_back}
use Rattle.sn_def.proofs.PrintLoop.{whole_print}
use Rattle.sn_def.proofs.Whole.{in_grammar}
use Rattle.sn_def.proofs.printing.print.Goals as goal

pub print_control_lines-requires : goal.print_control_lines-requires
print_control_lines-requires c =
    let d = definition_of c.args.def.now in
    let ok = formed d c.args.def.now.written in
    let many : length c.as_slice-controls.result.now ≡ length d.controls = sym (length-map c.as_slice-controls.result.now parameter_of) ∙ ap length c.as_slice-controls.ensures in
    rw (many, c.as_slice-arrays.ensures) ok.arrays

pub print_units-requires : goal.print_units-requires
print_units-requires c =
    let d = definition_of c.args.def.now in
    let ok = formed d c.args.def.now.written in
    let many : length c.as_slice-2.result.now ≡ length d.wires = sym (length-map c.as_slice-2.result.now (λ (n : Octets). n.bytes)) ∙ ap length c.as_slice-2.ensures in
    let sum : outputs_of c.as_slice-3.result.now ≡ length d.wires = ap outputs_of c.as_slice-3.ensures ∙ ok.outputs in
    omega arith

pub returns-clause-printed : goal.returns-clause-printed
returns-clause-printed c =
    let d = definition_of c.args.def.now in
    let many : length c.as_slice-controls.result.now ≡ length d.controls = sym (length-map c.as_slice-controls.result.now parameter_of) ∙ ap length c.as_slice-controls.ensures in
    let version : c.version_for-version.result ≡ version_for d.arrays (length d.controls) = c.version_for-version.ensures ∙ ap (λ rs. version_for rs (length c.as_slice-controls.result.now)) c.as_slice-arrays.ensures ∙ ap (version_for d.arrays) many in
    whole_print d c.as_slice-controls.result.now c.as_slice-arrays.result.now c.as_slice-2.result.now c.as_slice-3.result.now c.version_for-version.result c.in_ok-text.text.bytes c.print_control_lines.new.text.bytes c.print_units.new.text.bytes c.append.new.self.bytes c.as_slice.result.now
    c.as_slice-controls.ensures c.as_slice-arrays.ensures c.as_slice-2.ensures c.as_slice-3.ensures c.as_slice.ensures version c.in_ok-text.ensures c.in_ok-print_control_lines.ensures c.in_ok-print_units.ensures c.in_ok-append.ensures.ok

pub returns-clause-read : goal.returns-clause-read
returns-clause-read c = ap text_at (returns-clause-printed c) ∙ printed_back c.digits_read_back.ensures c.literal_bytes.ensures (definition_of c.args.def.now) c.args.def.now.written

pub returns-clause-text : goal.returns-clause-text
returns-clause-text c = in_grammar c.append.new.self.bytes (definition_of c.args.def.now) (returns-clause-read c)
