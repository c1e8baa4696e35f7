-- What is held of a pool is live, after an extent comes or goes.
use Rattle.std.proofs.Common.{◌≡◌, ℕ, zero, suc, ◌+◌, ◌<◌, ◌≤◌, Bool, true, if◌then◌else◌, List, [], ◌∷◌, ◌++◌, length, get_or, Some, refl, ap, subst, ◌∙◌, arith}
use Rattle.std.specs.Prelude.{remove, slice_get}
use Rattle.std.proofs.lemmas.Bool.{and_from, eq-eqb}
use Rattle.std.proofs.Common.{eqb}
use Rattle.sn_mem.specs.declared.extents.Extent.{Extent}
use Rattle.sn_pool.specs.Pools.{same_extent, times}
use Rattle.sn_calls.specs.Holding.{AreLive}

same_itself : (e : Extent) → same_extent e e ≡ true
same_itself e = and_from (eqb e.at e.at) (eqb e.len e.len) (eq-eqb e.at e.at refl) (eq-eqb e.len e.len refl)

times_behind : (e x : Extent) (xs : List Extent) → times e (xs ++ x ∷ []) ≡ (if same_extent e x then 1 else 0) + times e xs
unfolding times
times_behind e x [] = omega arith
times_behind e x (y ∷ ys) = omega (arith, times_behind e x ys)

times_removed : (e : Extent) (xs : List Extent) (k : ℕ) (d : Extent) → k < length xs → times e xs ≡ (if same_extent e (get_or xs k d) then 1 else 0) + times e (remove xs k)
unfolding times
times_removed e [] k d lt = absurd (omega arith)
times_removed e (x ∷ xs) zero d lt = refl
times_removed e (x ∷ xs) (suc k) d lt = omega (arith, times_removed e xs k d (omega arith))

-- an extent that stands somewhere is counted
pub times_at : (e : Extent) (xs : List Extent) (k : ℕ) (d : Extent) → k < length xs → e ≡ get_or xs k d → 0 < times e xs
times_at e xs k d lt is =
    let same : same_extent e (get_or xs k d) ≡ true = subst (λ (y : Extent). same_extent e y ≡ true) is (same_itself e) in
    let one : (if same_extent e (get_or xs k d) then 1 else 0) ≡ 1 = ap {B = ℕ} (λ (b : Bool). if b then 1 else 0) same in
    omega (arith, one, times_removed e xs k d lt)

pub first_counted : (e : Extent) (xs : List Extent) → slice_get xs 0 ≡ Some e → 0 < times e xs
unfolding times
first_counted e [] is = absurd cc
first_counted e (x ∷ xs) is =
    let here : e ≡ x = cc in
    let same : same_extent e x ≡ true = subst (λ (y : Extent). same_extent e y ≡ true) here (same_itself e) in
    let one : (if same_extent e x then 1 else 0) ≡ 1 = ap {B = ℕ} (λ (b : Bool). if b then 1 else 0) same in
    omega (arith, one)

-- an extent that is put after others is there once more
pub counted_in : (e new : Extent) (xs more : List Extent) → more ≡ xs ++ new ∷ [] → times e more ≡ (if same_extent e new then 1 else 0) + times e xs
counted_in e new xs more is = ap (times e) is ∙ times_behind e new xs

-- an extent that was taken is held
pub taken_live : (held live held' live' : List Extent) (new : Extent) → AreLive held live → ((e : Extent) → times e held' ≡ (if same_extent e new then 1 else 0) + times e held) → ((e : Extent) → times e live' ≡ (if same_extent e new then 1 else 0) + times e live) → AreLive held' live'
taken_live held live held' live' new all more taken = λ e. omega (arith, all e, more e, taken e)

-- what was held before is live still
pub still_live : (held live held' live' : List Extent) (new : Extent) → AreLive held live → held' ≡ held → ((e : Extent) → times e live' ≡ (if same_extent e new then 1 else 0) + times e live) → AreLive held' live'
still_live held live held' live' new all same taken = λ e. omega (arith, all e, ap (times e) same, taken e)

-- an extent that is taken out of a list was in it once more
pub counted_out : (e out : Extent) (xs rest : List Extent) (k : ℕ) → k < length xs → out ≡ get_or xs k out → rest ≡ remove xs k → times e xs ≡ (if same_extent e out then 1 else 0) + times e rest
counted_out e out xs rest k lt is left =
    let same : (if same_extent e out then 1 else 0) ≡ (if same_extent e (get_or xs k out) then 1 else 0) = ap {B = ℕ} (λ (y : Extent). if same_extent e y then 1 else 0) is in
    omega (arith, times_removed e xs k out lt, same, ap (times e) left)

-- one that was given back is held no more
pub given_live : (held live held' live' : List Extent) (out : Extent) → AreLive held live → ((e : Extent) → times e held ≡ (if same_extent e out then 1 else 0) + times e held') → ((e : Extent) → times e live ≡ (if same_extent e out then 1 else 0) + times e live') → AreLive held' live'
given_live held live held' live' out all fewer given = λ e. omega (arith, all e, fewer e, given e)

-- what is held is live
pub live_too : (held live : List Extent) (e : Extent) → AreLive held live → 0 < times e held → 0 < times e live
live_too held live e all some = omega (arith, all e, some)

-- more live extents, of which the held ones are among
pub more_live : (held live after : List Extent) → AreLive held live → ((x : Extent) → times x live ≤ times x after) → AreLive held after
more_live held live after all more = λ x. omega (arith, all x, more x)
