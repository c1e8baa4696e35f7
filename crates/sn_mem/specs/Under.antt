-- The words of a foot below a number.
use Rattle.std.specs.Prelude.{◌≡◌, ℕ, ◌<◌, true}
use Rattle.std.proofs.Common.{⊎_elim}
use Rattle.std.proofs.lemmas.Bool.{or_cases, or_left, or_right}
use Rattle.sn_mem.specs.declared.extents.Foot.{Foot}
use Rattle.sn_mem.specs.Words.{has, touches, writes}
use Rattle.sn_mem.specs.Lanes.{words_where}
use Rattle.sn_mem.specs.Through.{where_is}

abbrev pub foot_below : ℕ → Foot → Foot
foot_below end f = record { reads = words_where (has f.reads) end; writes = words_where (has f.writes) end }

pub written_below : (end : ℕ) (f : Foot) (x : ℕ) → writes (foot_below end f) x ≡ true → (x < end) × (writes f x ≡ true)
written_below end f x h = where_is (has f.writes) end x h

pub touched_below : (end : ℕ) (f : Foot) (x : ℕ) → touches (foot_below end f) x ≡ true → (x < end) × (touches f x ≡ true)
touched_below end f x t = ⊎_elim
    (λ (h : has (words_where (has f.writes) end) x ≡ true). let p = where_is (has f.writes) end x h in (p.0, or_left (has f.writes x) (has f.reads x) p.1))
    (λ (h : has (words_where (has f.reads) end) x ≡ true). let p = where_is (has f.reads) end x h in (p.0, or_right (has f.writes x) (has f.reads x) p.1))
    (or_cases (has (words_where (has f.writes) end) x) (has (words_where (has f.reads) end) x) t)
