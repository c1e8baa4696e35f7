use Rattle.std.proofs.Common.{◌≤◌, ◌+◌, ◌*◌, ◌/◌, ℕ, arith}
use Rattle.std.proofs.Math.Nat.{div-mul-le_self, mul-le-mul_right}
use Rattle.std.proofs.lemmas.Nat.{le-div}
use Rattle.sn_engine.proofs.spans.most_blocks.Goals as goal

pub returns : goal.returns
returns c =
    let count : ℕ = c.args.jobs + 1 in
    let all : 65536 / count * count ≤ 65536 = div-mul-le_self 65536 count in
    let low : c.min.result ≤ 65536 / count = omega (arith, c.min.ensures) in
    let less : c.min.result * count ≤ 65536 / count * count = mul-le-mul_right count low in
    record {
      few = omega (arith, c.min.ensures);
      room = omega (arith, less, all);
      most = λ n few room. let m : n ≤ 65536 / count = le-div n 65536 count (omega arith) room in omega (arith, c.min.ensures, few, m);
    }
