-- There is at most one run of free words more than there are live extents.
use Rattle.std.proofs.Common.{◌≡◌, ◌≢◌, ℕ, ◌+◌, ◌<◌, ◌≤◌, ◌||◌, ⊎_elim, not, true, false, List, [], ◌∷◌, length, sym, refl, ap, ◌∙◌, arith, true≢false}
use Rattle.std.proofs.lemmas.Bool.{cases_lt, or_from, or_left, or_right}
use Rattle.sn_mem.specs.declared.extents.Extent.{Extent}
use Rattle.sn_mem.specs.Words.{covers, has}
use Rattle.sn_mem.proofs.Meetings.{covered, before, after}
use Rattle.sn_pool.specs.declared.sorted.Order.TheVariants.{Place}
use Rattle.sn_pool.specs.Pools.{times, AreLaidOut}
use Rattle.sn_pool.specs.Sorting.{AreInOrder}
use Rattle.sn_pool.specs.Holes.{AreRuns}
use Rattle.sn_pool.proofs.LaidOut.{laid_out_within}
use Rattle.sn_pool.proofs.FreeRuns.{unused_below}
use Rattle.sn_pool.proofs.Orders.{head_first, tail_order, times_here, times_later}
use Rattle.sn_pool.proofs.Runs.{runs_less, another}
use Rattle.sn_pool.proofs.Least.{place_first}

-- Runs in order between the two places, with a word between each and the next.
abbrev pub AreSpread : ℕ → ℕ → List Extent → Type 0
AreSpread from to [] = Unit {0}
AreSpread from to (h ∷ hs) = (from ≤ h.at) × (1 ≤ h.len) × (h.at + h.len ≤ to) × AreSpread (h.at + h.len + 1) to hs

pub spread_from : (from to : ℕ) (runs : List Extent) → AreRuns runs → AreInOrder Place runs → ((e : Extent) → 0 < times e runs → (from ≤ e.at) × (e.at + e.len ≤ to)) → AreSpread from to runs
unfolding times
spread_from from to [] h sorted each = tt
spread_from from to (x ∷ xs) h sorted each =
    let here = times_here x xs in
    let bounds = each x here in
    let rest : AreRuns xs = runs_less x (x ∷ xs) xs h (λ y. refl) in (
      bounds.0,
      (h.each x here).0,
      bounds.1,
      spread_from (x.at + x.len + 1) to xs rest (tail_order Place x xs sorted) (λ y some.
          let later = times_later y x xs some in
          let low = place_first y x (head_first Place x xs sorted y some) in
          let differ : x ≢ y = λ is. another x (x ∷ xs) xs h (λ z. refl) y some (sym is) in (
            ⊎_elim
                (λ (l : x.at + x.len < y.at). let t : x.at + x.len + 1 ≤ y.at = omega arith in t)
                (λ (m : y.at + y.len < x.at). absurd (omega (arith, m, low)))
                (h.parted x y here later differ),
            (each y later).1,
          )),
    )

spread_below : (from to : ℕ) (hs : List Extent) → AreSpread from to hs → (x : ℕ) → x < from → has hs x ≡ false
spread_below from to [] s x lt = refl
spread_below from to (h ∷ hs) s x lt =
    or_from (covers h x) (has hs x) (before h x (omega (arith, s.0))) (spread_below (h.at + h.len + 1) to hs s.3 x (omega (arith, s.0)))

-- The words between the two places are in the runs if they are not live.
abbrev pub AreRest : ℕ → ℕ → List Extent → List Extent → Type 0
AreRest from to live hs = (x : ℕ) → from ≤ x → x < to → has hs x ≡ not (has live x)

-- no word is in both
clash : (from to : ℕ) (live hs : List Extent) → AreRest from to live hs → (x : ℕ) → from ≤ x → x < to → has hs x ≡ true → has live x ≡ true → ⊥
clash from to live hs rest x low high a b = true≢false (sym a ∙ rest x low high ∙ ap not b)

-- no word is in none
gap : (from to : ℕ) (live hs : List Extent) → AreRest from to live hs → (x : ℕ) → from ≤ x → x < to → has hs x ≡ false → has live x ≡ false → ⊥
gap from to live hs rest x low high a b = true≢false (sym (rest x low high ∙ ap not b) ∙ a)

-- the word after a run is in no other
behind : (from to : ℕ) (h : Extent) (hs : List Extent) → AreSpread from to (h ∷ hs) → has (h ∷ hs) (h.at + h.len) ≡ false
behind from to h hs s = or_from (covers h (h.at + h.len)) (has hs (h.at + h.len)) (after h (h.at + h.len) (omega arith)) (spread_below (h.at + h.len + 1) to hs s.3 (h.at + h.len) (omega arith))

one_at_most : (from to : ℕ) (hs : List Extent) → AreSpread from to hs → AreRest from to [] hs → length hs ≤ 1
one_at_most from to [] s rest = omega arith
one_at_most from to (h ∷ []) s rest = omega arith
one_at_most from to (h ∷ (k ∷ ks)) s rest =
    absurd (gap from to [] (h ∷ (k ∷ ks)) rest (h.at + h.len) (omega (arith, s.0)) (omega (arith, s.3.0, s.3.1, s.3.2)) (behind from to h (k ∷ ks) s) refl)

-- the runs after the first live extent begin after it
from_end : (from to : ℕ) (e : Extent) (es : List Extent) (h : Extent) (hs : List Extent) → AreLaidOut from to (e ∷ es) → AreSpread from to (h ∷ hs) → AreRest from to (e ∷ es) (h ∷ hs) → h.at < e.at → AreSpread (e.at + e.len) to hs
from_end from to e es h [] l s rest less = tt
from_end from to e es h (k ∷ ks) l s rest less =
    let end = laid_out_within (e.at + e.len) to es l.2 in
    let all = h ∷ (k ∷ ks) in
    let low : e.at + e.len ≤ k.at = ⊎_elim
    (λ (short : k.at < e.at + e.len). absurd (⊎_elim
    (λ (ahead : k.at < e.at).
    gap from to (e ∷ es) all rest (h.at + h.len) (omega (arith, s.0)) (omega (arith, s.3.0, end)) (behind from to h (k ∷ ks) s)
    (unused_below e.at to (e ∷ es) (omega arith, l.1, l.2) (h.at + h.len) (omega (arith, s.3.0))))
    (λ (in_e : e.at ≤ k.at).
    clash from to (e ∷ es) all rest k.at (omega (arith, s.0, s.3.0)) (omega (arith, end))
    (or_right (covers h k.at) (has (k ∷ ks) k.at) (or_left (covers k k.at) (has ks k.at) (covered k k.at (omega arith) (omega (arith, s.3.1)))))
    (or_left (covers e k.at) (has es k.at) (covered e k.at in_e short)))
    (cases_lt k.at e.at)))
    (λ (past : e.at + e.len ≤ k.at). past)
    (cases_lt k.at (e.at + e.len)) in
    (low, s.3.1, s.3.2, s.3.3)

pub runs_number : (from to : ℕ) (live hs : List Extent) → AreLaidOut from to live → AreSpread from to hs → AreRest from to live hs → length hs ≤ length live + 1
runs_number from to [] hs l s rest = one_at_most from to hs s rest
runs_number from to (e ∷ es) [] l s rest = omega arith
runs_number from to (e ∷ es) (h ∷ hs) l s rest =
    let end = laid_out_within (e.at + e.len) to es l.2 in
    let all = h ∷ hs in
    ⊎_elim
    (λ (less : h.at < e.at).
    let fits : h.at + h.len ≤ e.at = ⊎_elim
    (λ (over : e.at < h.at + h.len). absurd (clash from to (e ∷ es) all rest e.at (omega (arith, l.0)) (omega (arith, end, l.1))
    (or_left (covers h e.at) (has hs e.at) (covered h e.at (omega arith) over))
    (or_left (covers e e.at) (has es e.at) (covered e e.at (omega arith) (omega (arith, l.1))))))
    (λ (t : h.at + h.len ≤ e.at). t)
    (cases_lt e.at (h.at + h.len)) in
    let later = runs_number (e.at + e.len) to es hs l.2 (from_end from to e es h hs l s rest less)
    (λ x low high.
    ap (λ b. b || has hs x) (sym (after h x (omega (arith, low, fits)))) ∙ rest x (omega (arith, l.0, low)) high ∙ ap (λ b. not (b || has es x)) (after e x low)) in
    omega (arith, later))
    (λ (more : e.at ≤ h.at).
    let low : e.at + e.len ≤ h.at = ⊎_elim
    (λ (short : h.at < e.at + e.len). absurd (clash from to (e ∷ es) all rest h.at (omega (arith, s.0)) (omega (arith, s.1, s.2))
    (or_left (covers h h.at) (has hs h.at) (covered h h.at (omega arith) (omega (arith, s.1))))
    (or_left (covers e h.at) (has es h.at) (covered e h.at more short))))
    (λ (past : e.at + e.len ≤ h.at). past)
    (cases_lt h.at (e.at + e.len)) in
    let later = runs_number (e.at + e.len) to es all l.2 (low, s.1, s.2, s.3)
    (λ x above high. rest x (omega (arith, l.0, above)) high ∙ ap (λ b. not (b || has es x)) (after e x above)) in
    omega (arith, later))
    (cases_lt h.at e.at)
