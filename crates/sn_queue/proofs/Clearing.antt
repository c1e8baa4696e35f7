-- The last entry of the ordered map is due last.
use Rattle.std.proofs.Common.{◌≡◌, ◌≤◌, ◌<◌, ◌+◌, ◌-◌, ℕ, false, not, List, [], ◌∷◌, ◌++◌, map, length, Option, Some, None, IfSome, IfNone, arith, refl, ap, sym, subst, ◌∙◌}
use Rattle.std.specs.Prelude.{slice_get, unwrap_or}
use Rattle.std.specs.List.{AllByRecursion, filter}
use Rattle.std.specs.BTreeMap.{BTreeMap}
use Rattle.std.proofs.lemmas.Bool.{lt-leb}
use Rattle.std.proofs.lemmas.List.Filters.{length-filter_both}
use Rattle.sn_queue.specs.declared.entry.Rank.{Rank}
use Rattle.sn_queue.specs.declared.entry.Batch.{Batch}
use Rattle.sn_queue.specs.declared.queue.Queue.TheInside.{Inside}
use Rattle.sn_queue.specs.Time.{IsInReach}
use Rattle.sn_queue.specs.Waiting.{Waiting, WaitingList, ActsBefore, DiffersFrom, AllPairwise, IsInOrder}
use Rattle.sn_queue.specs.Meaning.{waiting_at, meaning}
use Rattle.sn_queue.specs.Steps.{due_of, is_due, greatest, last_due, clear_after, count_after}
use Rattle.sn_queue.proofs.Order.{All-front, AllPairwise-front, greatest-last, all_due, filter-all, filter-front, split_last}

map-front : {X Y : Type 0} (f : X → Y) (xs : List X) (y : X) → map f (xs ++ y ∷ []) ≡ map f xs ++ f y ∷ []
map-front f [] y = refl
map-front f (x ∷ xs) y = ap (λ ys. f x ∷ ys) (map-front f xs y)

pub greatest-entry : (q : WaitingList) (es : List (Rank × Batch)) (p : Rank × Batch) → AllPairwise ActsBefore (map waiting_at es) → slice_get es (length es - 1) ≡ Some p
    → greatest (map (due_of q) (map waiting_at es)) ≡ Some (due_of q (waiting_at p))
greatest-entry q es p order e =
    let split = split_last es p e in
    let parts : map waiting_at es ≡ map waiting_at split.0 ++ waiting_at p ∷ [] = ap (map waiting_at) split.1 ∙ map-front waiting_at split.0 p in
    ap (λ ws. greatest (map (due_of q) ws)) parts ∙ greatest-last q (map waiting_at split.0) (waiting_at p) (subst (AllPairwise ActsBefore) parts order)

-- a list that loses its last entry stays in order
shorter : (q : WaitingList) (ws : List Waiting) (w : Waiting) → IsInOrder q → q.waiting ≡ ws ++ w ∷ [] → length ws ≤ length q.waiting → IsInOrder (record q { waiting = ws })
shorter q ws w o parts fewer =
    record {
      rate = o.rate;
      puts = o.puts;
      limit = lower q.limit o.limit;
      order = AllPairwise-front ActsBefore ws w (subst (AllPairwise ActsBefore) parts o.order);
      distinct = AllPairwise-front DiffersFrom ws w (subst (AllPairwise DiffersFrom) parts o.distinct);
      numbers = All-front (λ v. v.number < q.puts) ws w (subst (AllByRecursion (λ v. v.number < q.puts)) parts o.numbers);
      keys = All-front (λ v. IsInReach v.key q.base q.rate) ws w (subst (AllByRecursion (λ v. IsInReach v.key q.base q.rate)) parts o.keys);
    } where
      lower : (limit : Option ℕ) → IfSome limit (λ n. length q.waiting ≤ n) → IfSome limit (λ n. length ws ≤ n)
      lower None h = tt
      lower (Some n) h = omega (arith, fewer, h)

length-front : {X : Type 0} (xs : List X) (y : X) → length xs ≤ length (xs ++ y ∷ [])
length-front [] y = omega arith
length-front (x ∷ xs) y = omega (arith, length-front xs y)

pub IsInOrder-popped : (q : Inside) (m : BTreeMap Rank Batch) (r : Option (Rank × Batch)) → IsInOrder (meaning q)
    → IfSome r (λ p. q.waiting.entries ≡ m.entries ++ p ∷ []) → IfNone r (m.entries ≡ q.waiting.entries) → IsInOrder (meaning (record q { waiting = m }))
IsInOrder-popped q m None o removal same = subst (λ es. IsInOrder (record (meaning q) { waiting = map waiting_at es })) (sym same) o
IsInOrder-popped q m (Some p) o removal same =
    let parts : (meaning q).waiting ≡ map waiting_at m.entries ++ waiting_at p ∷ [] = ap (map waiting_at) removal ∙ map-front waiting_at m.entries p in
    let fewer : length (map waiting_at m.entries) ≤ length (meaning q).waiting = subst (λ ws. length (map waiting_at m.entries) ≤ length ws) (sym parts) (length-front (map waiting_at m.entries) (waiting_at p)) in
    shorter (meaning q) (map waiting_at m.entries) (waiting_at p) o parts fewer

pub clear_after-popped : (q : Inside) (m : BTreeMap Rank Batch) (r : Option (Rank × Batch)) (now n : ℕ) → IsInOrder (meaning q)
    → IfSome r (λ p. q.waiting.entries ≡ m.entries ++ p ∷ []) → IfNone r (m.entries ≡ q.waiting.entries) → last_due (meaning q) ≡ Some n → now < n
    → clear_after (meaning (record q { waiting = m })) now ≡ clear_after (meaning q) now
clear_after-popped q m None now n o removal same last late = ap (λ es. clear_after (record (meaning q) { waiting = map waiting_at es }) now) same
clear_after-popped q m (Some p) now n o removal same last late =
    let ws = map waiting_at m.entries in
    let parts : (meaning q).waiting ≡ ws ++ waiting_at p ∷ [] = ap (map waiting_at) removal ∙ map-front waiting_at m.entries p in
    let order = subst (AllPairwise ActsBefore) parts o.order in
    let greatest_is : last_due (meaning q) ≡ Some (due_of (meaning q) (waiting_at p)) = ap (λ vs. greatest (map (due_of (meaning q)) vs)) parts ∙ greatest-last (meaning q) ws (waiting_at p) order in
    let is : due_of (meaning q) (waiting_at p) ≡ n = cc in
    let later : is_due (meaning q) now (waiting_at p) ≡ false = lt-leb (due_of (meaning q) (waiting_at p)) now (subst (λ k. now < k) (sym is) late) in
    let kept = ap (filter (is_due (meaning q) now)) parts ∙ filter-front (is_due (meaning q) now) ws (waiting_at p) later in
    ap (λ vs. record (meaning q) { waiting = vs }) (sym kept)

pub clear_after-all : (q : WaitingList) (now n : ℕ) → last_due q ≡ Some n → n ≤ now → clear_after q now ≡ q
clear_after-all q now n last early =
    let bound : unwrap_or (last_due q) 0 ≤ now = subst (λ o. unwrap_or o 0 ≤ now) (sym last) early in
    ap (λ ws. record q { waiting = ws }) (filter-all (is_due q now) q.waiting (all_due q now q.waiting bound))

pub length-clear_after : (q : WaitingList) (now : ℕ) → length (clear_after q now).waiting + count_after q now ≡ length q.waiting
length-clear_after q now = length-filter_both (is_due q now) (λ w. not (is_due q now w)) (λ _. refl) q.waiting
