-- When blocks are due, in nanoseconds after the start, and how many are given.
use Rattle.std.specs.Prelude.{◌≡◌, ℕ, ◌+◌, ◌-◌, ◌*◌, ◌/◌, ◌^◌, ◌≤◌, ◌<◌, min, Bool, cond, Result, Option, MatchOption, MatchResult}
use Rattle.sn_ports.specs.Limits.{most_ticks}
use Rattle.sn_ports.specs.declared.links.Fed.{Fed}
use Rattle.sn_ports.specs.declared.links.Fed.TheVariants as fed

-- block k is due after k * 64 / rate seconds
abbrev pub IsDue : ℕ → ℕ → ℕ → Type 0
IsDue rate nanos k = k * 64000000000 ≤ nanos * rate

-- how many blocks are due; so it is the number of the first that isn't
abbrev pub blocks_due : ℕ → ℕ → ℕ
blocks_due rate nanos = nanos * rate / 64000000000 + 1

-- how many blocks may be given in all
abbrev pub most_given : ℕ
most_given = 2 ^ 127

-- how many more blocks are to come, of which so many were given: by the sound the next one, since what takes the sound took the one before; by
-- the clock those that are due
abbrev pub blocks_to_come : Bool → ℕ → ℕ → ℕ → ℕ
blocks_to_come by_sound rate nanos given = cond by_sound (min 1 (most_given - given)) (min (blocks_due rate nanos - given) most_ticks)

-- it is so long until the first block that isn't due is due, and no shorter
pub record IsUntilNext (rate nanos wait : ℕ) : Type 0 where
  pub due : IsDue rate (nanos + wait) (blocks_due rate nanos)
  pub first : (w : ℕ) → w < wait → IsDue rate (nanos + w) (blocks_due rate nanos) → ⊥

-- how many blocks are given
abbrev pub blocks_of : Fed → ℕ
blocks_of (fed.Bytes n) = 0
blocks_of (fed.Ticks n) = n
blocks_of fed.End = 0

-- at Ok the blocks that are given are counted, and at Err none are
abbrev pub NextGives : {E : Type 0} → ℕ → ℕ → Result Fed E → Type 0
NextGives old new r = MatchResult r (λ f. new ≡ old + blocks_of f) (λ _. new ≡ old)

-- the same, if perhaps nothing is given
abbrev pub MayGive : {E : Type 0} → ℕ → ℕ → Result (Option Fed) E → Type 0
MayGive old new r = MatchResult r (λ given. MatchOption given (new ≡ old) (λ f. new ≡ old + blocks_of f)) (λ _. new ≡ old)
