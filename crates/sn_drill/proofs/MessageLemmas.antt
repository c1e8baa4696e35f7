-- Numbers as arguments.
use Rattle.std.proofs.Common.{◌≡◌, ◌<◌, ◌^◌, ℕ, pos}
use Rattle.std.specs.Int.{w32, cast_signed}
use Rattle.std.proofs.lemmas.Int.{to_z_pos}

pub count_pos : (n : ℕ) → n < 2 ^ 31 → cast_signed w32 n ≡ pos n
count_pos n few = to_z_pos w32 n few
