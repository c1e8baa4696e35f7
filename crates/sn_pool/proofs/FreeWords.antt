-- How many words are free among extents laid out one after the other.
use Rattle.std.proofs.Common.{◌≡◌, ℕ, ◌+◌, ◌-◌, ◌<◌, ◌≤◌, Bool, true, false, ◌||◌, if◌then◌else◌, List, [], ◌∷◌, refl, ap, arith, zero, suc}
use Rattle.std.proofs.lemmas.Bool.{or_left}
use Rattle.sn_mem.specs.declared.extents.Extent.{Extent}
use Rattle.sn_mem.specs.Words.{covers, has}
use Rattle.sn_pool.specs.Pools.{AreLaidOut}
use Rattle.sn_pool.specs.Gaps.{words_of}
use Rattle.sn_pool.specs.Regions.{count_free}
use Rattle.sn_pool.proofs.LaidOut.{laid_out_within}
use Rattle.sn_mem.proofs.Meetings.{covered, after}
use Rattle.sn_pool.proofs.FreeRuns.{unused_below}

-- each of the words from p is used or not as one Bool says
count_each : (live : List Extent) (p n : ℕ) (used : Bool) → ((x : ℕ) → p ≤ x → x < p + n → has live x ≡ used) → count_free live p n ≡ (if used then 0 else n)
unfolding count_free
count_each live p zero true each = refl
count_each live p zero false each = refl
count_each live p (suc n) true each =
    let first = ap {B = ℕ} (λ b. if b then 0 else 1) (each p (omega arith) (omega arith)) in
    let rest = count_each live (p + 1) n true (λ x low high. each x (omega arith) (omega arith)) in
    omega (arith, first, rest)
count_each live p (suc n) false each =
    let first = ap {B = ℕ} (λ b. if b then 0 else 1) (each p (omega arith) (omega arith)) in
    let rest = count_each live (p + 1) n false (λ x low high. each x (omega arith) (omega arith)) in
    omega (arith, first, rest)

count_same : (one other : List Extent) (p n : ℕ) → ((x : ℕ) → p ≤ x → x < p + n → has one x ≡ has other x) → count_free one p n ≡ count_free other p n
unfolding count_free
count_same one other p zero each = refl
count_same one other p (suc n) each =
    let first = ap {B = ℕ} (λ b. if b then 0 else 1) (each p (omega arith) (omega arith)) in
    let rest = count_same one other (p + 1) n (λ x low high. each x (omega arith) (omega arith)) in
    omega (arith, first, rest)

count_join : (live : List Extent) (p a b : ℕ) → count_free live p (a + b) ≡ count_free live p a + count_free live (p + a) b
unfolding count_free
count_join live p zero b = omega (arith, ap (count_free live p) (let z : 0 + b ≡ b = omega arith in z), ap (λ q. count_free live q b) (let z : p + 0 ≡ p = omega arith in z))
count_join live p (suc a) b =
    let longer = ap (count_free live p) (let z : suc a + b ≡ suc (a + b) = omega arith in z) in
    let place = ap (λ q. count_free live q b) (let z : p + suc a ≡ p + 1 + a = omega arith in z) in
    omega (arith, longer, place, count_join live (p + 1) a b)

pub count_free_is : (from to : ℕ) (es : List Extent) → AreLaidOut from to es → count_free es from (to - from) + words_of es ≡ to - from
unfolding words_of
count_free_is from to [] h = omega (arith, count_each [] from (to - from) false (λ x low high. refl))
count_free_is from to (e ∷ es) h =
    let all = e ∷ es in
    let end = e.at + e.len in
    let within = laid_out_within end to es h.2 in
    let gap = e.at - from in
    let rest = to - end in
    let split = ap (count_free all from) (let z : to - from ≡ gap + (e.len + rest) = omega (arith, h.0, within) in z) in
    let place = ap (λ q. count_free all q (e.len + rest)) (let z : from + gap ≡ e.at = omega (arith, h.0) in z) in
    let unused = count_each all from gap false (λ x low high. unused_below e.at to all (omega arith, h.1, h.2) x (omega arith)) in
    let used = count_each all e.at e.len true (λ x low high. or_left (covers e x) (has es x) (covered e x low high)) in
    let others = count_same all es end rest (λ x low high. ap (λ b. b || has es x) (after e x low)) in
    omega (arith, h.0, within, split, place, unused, used, others, count_join all from gap (e.len + rest), count_join all e.at e.len rest, count_free_is end to es h.2)

-- What the extents leave of the region is the number of free words.
pub left_is_free : (region : Extent) (live : List Extent) (left : ℕ) → AreLaidOut region.at (region.at + region.len) live → left + words_of live ≡ region.len → left ≡ count_free live region.at region.len
left_is_free region live left h e =
    let whole : region.at + region.len - region.at ≡ region.len = omega arith in
    omega (arith, count_free_is region.at (region.at + region.len) live h, ap (count_free live region.at) whole, e)
