-- Words that agree where they are seen, and changes of words that see and change a foot alone.
use Rattle.std.specs.Prelude.{◌≡◌, ℕ, Bool, true, false, List, ℤ, length, slice_index}
use Rattle.sn_mem.specs.declared.extents.Foot.{Foot}
use Rattle.sn_mem.specs.Words.{writes, touches}

-- two lists of words of one length that agree on each word that is seen
pub record Agree (seen : ℕ → Bool) (us ws : List ℕ) : Type 0 where
  pub long : length us ≡ length ws
  pub same : (x : ℕ) → seen x ≡ true → slice_index us x ≡ slice_index ws x

-- after a unit's block the words agree, and the outputs are the same
pub record BlocksAgree (seen : ℕ → Bool) (r s : List ℕ × List (List ℤ)) : Type 0 where
  pub words : Agree seen r.0 s.0
  pub outputs : r.1 ≡ s.1

-- A change sees and changes a foot alone. It keeps the number of the words, and each word that may not be written. What
-- it makes of the words that may be touched depends on them alone.
pub record IsByFoot (f : Foot) (change : List ℕ → List ℕ) : Type 0 where
  pub long : (ws : List ℕ) → length (change ws) ≡ length ws
  pub keeps : (ws : List ℕ) (x : ℕ) → writes f x ≡ false → slice_index (change ws) x ≡ slice_index ws x
  pub agree : (us ws : List ℕ) → Agree (touches f) us ws → Agree (touches f) (change us) (change ws)

-- what a foot may write or touch, a wider one may too
pub record IsPart (part whole : Foot) : Type 0 where
  pub written : (x : ℕ) → writes part x ≡ true → writes whole x ≡ true
  pub touched : (x : ℕ) → touches part x ≡ true → touches whole x ≡ true
