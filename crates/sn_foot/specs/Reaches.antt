-- What nodes reach.
use Rattle.std.specs.Prelude.{◌≡◌, ℕ, Bool, true, ◌||◌, ◌++◌, ◌⊎◌}
use Rattle.sn_mem.specs.declared.extents.Foot.{Foot}
use Rattle.sn_mem.specs.Words.{has, touches}
use Rattle.sn_foot.specs.declared.reach.Reach.{Reach}

-- a foot for it: what is mixed is written too
abbrev pub unmoved : Reach → Foot
unmoved r = record { reads = r.reads; writes = r.writes ++ r.mixes }

-- the first writes a word that the second reads, writes or mixes, or mixes one that the second reads or writes
abbrev pub MeetsAt : Reach → Reach → ℕ → Type 0
MeetsAt a b x = ((has a.writes x ≡ true) × (touches (unmoved b) x ≡ true)) ⊎ ((has a.mixes x ≡ true) × ((has b.writes x || has b.reads x) ≡ true))

-- so does one of the two with the other
abbrev pub ReachesClash : Reach → Reach → Type 0
ReachesClash a b = (x : ℕ) × (MeetsAt a b x ⊎ MeetsAt b a x)
