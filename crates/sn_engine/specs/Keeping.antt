-- What an engine has reserved.
use Rattle.std.specs.Prelude.{◌≡◌, ◌≤◌, ◌*◌, ℕ, List}
use Rattle.sn_ports.specs.Limits.{most_span, block_samples}
use Rattle.sn_ports.specs.Octets.{Octets}
use Rattle.sn_reply.specs.Frames.{EachHasRoom}
use Rattle.sn_engine.specs.declared.standing.Standing.{Standing}
use Rattle.sn_engine.specs.declared.standing.Standing.TheVariants.{Settled, Bounded, Rendered, Spent}

-- to settle a block of which so many triggers and ends may come
pub record CanSettle (most room : ℕ) (out : List Octets) : Type 0 where
  pub endings : most ≤ room
  pub replies : EachHasRoom (48 * most) out

-- After a boundary there is room for the bytes of a span, for the samples of one, and to settle them.
abbrev pub HasRoom : Standing → ℕ → ℕ → ℕ → ℕ → List Octets → Type 0
HasRoom Settled bytes samples most endings replies = Unit {0}
HasRoom Bounded bytes samples most endings replies = (3 * (most_span * block_samples) ≤ bytes) × (block_samples ≤ samples) × CanSettle most endings replies
HasRoom Rendered bytes samples most endings replies = CanSettle most endings replies
HasRoom Spent bytes samples most endings replies = Unit {0}

-- so many bytes are kept free of what each client may be sent
abbrev pub IsRoom : Standing → ℕ → ℕ → Type 0
IsRoom Settled room most = Unit {0}
IsRoom Bounded room most = room ≡ 48 * most
IsRoom Rendered room most = room ≡ 48 * most
IsRoom Spent room most = Unit {0}
