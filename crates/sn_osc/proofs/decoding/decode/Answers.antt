use Rattle.std.proofs.Common.{subst, arith}
use Rattle.sn_osc.specs.Shape.{shape}
use Rattle.sn_osc.specs.Reading.{Gives}
use Rattle.sn_osc.proofs.PacketLaws.{read_again}
use Rattle.sn_osc.proofs.PacketFound.{read_found}
use Rattle.sn_osc.proofs.Decoded.{is_found, is_bad}
use Rattle.sn_osc.proofs.decoding.decode.Goals as goal

pub returns-clause-found : goal.returns-clause-found
returns-clause-found c = is_found c.args.bytes.now c.read.result (λ i. omega (arith, c.type_inv.bytes i)) c.read.ensures

pub returns-clause-bad : goal.returns-clause-bad
returns-clause-bad c = is_bad c.args.bytes.now c.read.result (λ i. omega (arith, c.type_inv.bytes i)) c.read.ensures

pub returns-clause-only_found : goal.returns-clause-only_found
returns-clause-only_found c = λ x few spelled. subst (Gives shape c.read.result) (read_again c.args.bytes.now x few spelled) c.read.ensures

pub returns-clause-only_bad : goal.returns-clause-only_bad
returns-clause-only_bad c = λ f first. subst (Gives shape c.read.result) (read_found c.args.bytes.now f.kind f.place first) c.read.ensures
