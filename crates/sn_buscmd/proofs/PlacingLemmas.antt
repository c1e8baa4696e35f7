-- Words of the pool for a new buffer.
use Rattle.std.proofs.Common.{◌≡◌, ◌<◌, ◌+◌, ◌-◌, ℕ, List, [], ◌∷◌, Option, Some, None, refl, ap, ◌∙◌, arith}
use Rattle.std.specs.Prelude.{if◌then◌else◌}
use Rattle.sn_mem.specs.declared.extents.Extent.{Extent}
use Rattle.sn_mem.specs.declared.buffers.BufferPlace.{BufferPlace}
use Rattle.sn_pool.specs.Pools.{PoolState, Journal, same_extent, times, one_given, mark_of, saved_of, without_extent}
use Rattle.sn_pool.specs.Regions.{first_free, least_place}
use Rattle.sn_mem.specs.Buffers.{place_extents}
use Rattle.sn_buscmd.specs.Samples.{IsGone}

pub times_one : (e x : Extent) → times e (x ∷ []) ≡ (if same_extent e x then 1 else 0)
unfolding times
times_one e x = omega arith

pub times_none : (e : Extent) → times e [] ≡ 0
unfolding times
times_none e = refl

-- more words than the region has
pub too_many : (region : Extent) (live : List Extent) (n : ℕ) → region.len < n → least_place region live n ≡ None
unfolding first_free
too_many region live n more = ap (first_free live n region.at) (let none : region.len + 1 - n ≡ 0 = omega arith in none)

marked : (j : Option Journal) → mark_of (one_given j) ≡ mark_of j
marked None = refl
marked (Some j) = refl

saved : (j : Option Journal) → saved_of (one_given j) ≡ saved_of j
saved None = refl
saved (Some j) = refl

pub gone_some : (o : Option BufferPlace) (p : BufferPlace) (old new : PoolState) → o ≡ Some p → ((e : Extent) → times e old.live ≡ (if same_extent e p.extent then 1 else 0) + times e new.live)
    → new ≡ record old { live = without_extent p.extent old.live; journal = one_given old.journal } → IsGone o old new
gone_some o p old new is counted given = record {
  left = λ e. omega (arith, counted e, times_one e p.extent, ap (λ (q : Option BufferPlace). times e (place_extents q)) is);
  region = ap (λ (s : PoolState). s.region) given;
  mark = ap (λ (s : PoolState). mark_of s.journal) given ∙ marked old.journal;
  saved = ap (λ (s : PoolState). saved_of s.journal) given ∙ saved old.journal;
}

pub gone_none : (o : Option BufferPlace) (pool : PoolState) → o ≡ None → IsGone o pool pool
gone_none o pool is = record {
  left = λ e. omega (arith, times_none e, ap (λ (q : Option BufferPlace). times e (place_extents q)) is);
  region = refl;
  mark = refl;
  saved = refl;
}
