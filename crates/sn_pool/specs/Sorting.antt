-- Extents in one order.
use Rattle.std.specs.Prelude.{◌≡◌, ℕ, ◌+◌, ◌&&◌, ◌||◌, Bool, false, nat_eq, nat_lt, if◌then◌else◌, List, AllPairs}
use Rattle.sn_mem.specs.declared.extents.Extent.{Extent}
use Rattle.sn_pool.specs.declared.sorted.Order.{Order}
use Rattle.sn_pool.specs.declared.sorted.Order.TheVariants.{Place, Size}
use Rattle.sn_pool.specs.Pools.{times, same_extent}

-- The first comes before the second: by place and then length, or by length and then place.
abbrev pub before : Order → Extent → Extent → Bool
before Place a b = nat_lt a.at b.at || (nat_eq a.at b.at && nat_lt a.len b.len)
before Size a b = nat_lt a.len b.len || (nat_eq a.len b.len && nat_lt a.at b.at)

-- None stands after one that it comes before.
abbrev pub AreInOrder : Order → List Extent → Type 0
AreInOrder order es = AllPairs (λ a b. before order b a ≡ false) es

-- The new extents are the old ones and e.
abbrev pub IsOneMore : Extent → List Extent → List Extent → Type 0
IsOneMore e old new = (x : Extent) → times x new ≡ (if same_extent x e then 1 else 0) + times x old

-- Extents, their order, and for how many there is room.
pub record Row : Type 0 where
  pub order : Order
  pub items : List Extent
  pub room : ℕ
