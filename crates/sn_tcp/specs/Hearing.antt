-- What a line gives: bytes that its socket has left, and blocks.
use Rattle.std.specs.Prelude.{ℕ, List, [], take, Result, Option, MatchOption, MatchResult}
use Rattle.std.specs.Io.KnownBytes.{Keeps, Consumes, IsAtEnd}
use Rattle.sn_ports.specs.declared.links.Fed.{Fed}
use Rattle.sn_ports.specs.declared.links.Fed.TheVariants as fed

-- what was given was consumed of what a socket has left, if that is known
abbrev pub Hears : Option (List ℕ) → Option (List ℕ) → List ℕ → Fed → Type 0
Hears old new into (fed.Bytes n) = Consumes old new (take n into)
Hears old new into (fed.Ticks n) = Keeps old new
Hears old new into fed.End = Consumes old new [] × IsAtEnd new

-- at Ok what was given was consumed, and at Err nothing was
abbrev pub NextHears : {E : Type 0} → Option (List ℕ) → Option (List ℕ) → Result Fed E → List ℕ → Type 0
NextHears old new r into = MatchResult r (Hears old new into) (λ _. Keeps old new)

-- the same, if perhaps nothing was given
abbrev pub MayHear : {E : Type 0} → Option (List ℕ) → Option (List ℕ) → Result (Option Fed) E → List ℕ → Type 0
MayHear old new r into = MatchResult r (λ given. MatchOption given (Keeps old new) (Hears old new into)) (λ _. Keeps old new)
