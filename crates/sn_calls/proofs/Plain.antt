-- All words of one owner may be read and written.
use Rattle.std.proofs.Common.{◌≤◌, ◌<◌, ℕ, ◌+◌, false, arith}
use Rattle.std.proofs.lemmas.Bool.{or_left}
use Rattle.sn_mem.specs.Words.{covers, everything, has, MayWrite, MayRead}
use Rattle.sn_mem.proofs.Meetings.{covered}

pub plain_may_write : (n at k : ℕ) → at + k ≤ n → n < 4294967296 → MayWrite (everything n) at k
plain_may_write n at k le low = record { below = omega arith; each = λ i lt. or_left (covers (record { at = 0; len = n }) (at + i)) false (covered (record { at = 0; len = n }) (at + i) (omega arith) (omega arith)) }

pub plain_may_read : (n at k : ℕ) → at + k ≤ n → n < 4294967296 → MayRead (everything n) at k
plain_may_read n at k le low = record { below = omega arith; each = λ i lt. or_left (has (everything n).writes (at + i)) (has (everything n).reads (at + i)) ((plain_may_write n at k le low).each i lt) }
