-- The bytes of an address, kept in place or apart.
use Rattle.std.specs.Prelude.{ℕ, ◌≤◌, List, take}
use Rattle.sn_osc.specs.declared.packet.Kept.{Kept}
use Rattle.sn_osc.specs.declared.packet.Kept.TheVariants as kept

pub record AddressShape : Type 0 where
  pub bytes : List ℕ

abbrev pub kept_bytes : Kept → List ℕ
kept_bytes (kept.Short len bytes) = take len bytes
kept_bytes (kept.Long text) = text.bytes

-- at most 23 bytes are kept in place
abbrev pub IsKept : Kept → Type 0
IsKept (kept.Short len bytes) = len ≤ 23
IsKept (kept.Long text) = Unit {0}
