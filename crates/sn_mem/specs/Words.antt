-- Extents and feet as sets of words.
use Rattle.std.specs.Prelude.{◌≡◌, ℕ, ◌+◌, ◌<◌, Bool, true, false, ◌||◌, ◌&&◌, nat_le, nat_lt, List, [], ◌∷◌, ◌⊎◌}
use Rattle.std.proofs.Common.{⊎_elim, sym, true≢false, arith}
use Rattle.std.proofs.lemmas.Bool.{and_parts, or_cases, ltb-true}
use Rattle.sn_mem.specs.declared.extents.Extent.{Extent}
use Rattle.sn_mem.specs.declared.extents.Foot.{Foot}

-- the word x lies in the extent
abbrev pub covers : Extent → ℕ → Bool
covers e x = nat_le e.at x && nat_lt x (e.at + e.len)

abbrev pub has : List Extent → ℕ → Bool
has [] x = false
has (e ∷ es) x = covers e x || has es x

abbrev pub writes : Foot → ℕ → Bool
writes f x = has f.writes x

abbrev pub touches : Foot → ℕ → Bool
touches f x = has f.writes x || has f.reads x

-- one of the two writes a word that the other reads or writes
abbrev pub Clash : Foot → Foot → Type 0
Clash a b = (x : ℕ) × (((writes a x ≡ true) × (touches b x ≡ true)) ⊎ ((writes b x ≡ true) × (touches a x ≡ true)))

-- each of the n words from a place on may be written
pub record MayWrite (f : Foot) (at n : ℕ) : Type 0 where
  pub below : at + n < 4294967296
  pub each : (i : ℕ) → i < n → writes f (at + i) ≡ true

-- each of them may be read
pub record MayRead (f : Foot) (at n : ℕ) : Type 0 where
  pub below : at + n < 4294967296
  pub each : (i : ℕ) → i < n → touches f (at + i) ≡ true

-- a port is the same except for its words: what may be read and written, and what else a caller knows of it
abbrev pub SameButWords : {Port Rest : Type 0} → (Port → Foot) → (Port → Rest) → Port → Port → Type 0
SameButWords foot rest old new = (foot new ≡ foot old) × (rest new ≡ rest old)

-- each of n words
abbrev pub everything : ℕ → Foot
everything n = record { reads = []; writes = record { at = 0; len = n } ∷ [] }

-- it has those words alone
pub everything_is : (n x : ℕ) → touches (everything n) x ≡ true → x < n
everything_is n x t = ⊎_elim
    (λ (e : covers (record { at = 0; len = n }) x || false ≡ true). ⊎_elim (λ (c : covers (record { at = 0; len = n }) x ≡ true). let p = and_parts (nat_le 0 x) (nat_lt x (0 + n)) c in omega (arith, ltb-true x (0 + n) p.1)) (λ e. absurd (true≢false (sym e))) (or_cases (covers (record { at = 0; len = n }) x) false e))
    (λ e. absurd (true≢false (sym e)))
    (or_cases (covers (record { at = 0; len = n }) x || false) false t)
