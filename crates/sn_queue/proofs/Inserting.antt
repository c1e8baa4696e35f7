-- Insertion keeps the order, and is the ordered map's.
use Rattle.std.proofs.Common.{◌≡◌, ◌≤◌, ◌<◌, ◌+◌, ℕ, true, false, ◌⊎◌, cond, leb, List, [], ◌∷◌, map, length, ◌^◌, Option, Some, None, IfSome, subst, arith, refl, ap, sym, ◌∙◌, inl, inr, ⊎_elim, Ordering}
use Rattle.std.proofs.lemmas.Bool.{leb-true, leb-false, cases_order}
use Rattle.std.specs.List.{AllByRecursion}
use Rattle.std.specs.Ordering.{nat_cmp, ordering_then}
use Rattle.std.specs.BTreeMap.{BTreeMap, insert_entry}
use Rattle.sn_queue.specs.declared.clock.Clock.{Clock}
use Rattle.sn_queue.specs.declared.entry.Rank.{Rank}
use Rattle.sn_queue.specs.declared.entry.Batch.{Batch}
use Rattle.sn_osc.specs.Shape.{MessageShape, message_of}
use Rattle.sn_queue.specs.declared.queue.Queue.TheInside.{Inside}
use Rattle.sn_queue.specs.Time.{key_of, IsInReach}
use Rattle.sn_queue.specs.Waiting.{Waiting, WaitingList, ActsBefore, DiffersFrom, AllPairwise, IsInOrder}
use Rattle.sn_queue.specs.Meaning.{waiting_at, meaning}
use Rattle.sn_queue.specs.Steps.{insert, put}
use Rattle.sn_queue.proofs.Order.{key_le, All-weaker, All-insert, length-insert}

-- v acts before w, if it was put before w and its key is not greater
before_later : (v w : Waiting) → v.number < w.number → v.key ≤ w.key → ActsBefore v w
before_later v w number key = ⊎_elim
    (λ (e : v.key ≡ w.key). inr (e, number))
    (λ (s : (v.key < w.key) ⊎ (w.key < v.key)). inl (⊎_elim (λ (l : v.key < w.key). l) (λ (l : w.key < v.key). absurd (omega arith)) s))
    (cases_order v.key w.key)

before_all : (w v : Waiting) (vs : List Waiting) → w.key < v.key → AllByRecursion (ActsBefore v) vs → AllByRecursion (ActsBefore w) (v ∷ vs)
before_all w v vs lower after =
    (inl lower, All-weaker (ActsBefore v) (ActsBefore w) (λ u h. let up : v.key ≤ u.key = key_le v u h in inl (omega arith)) vs after)

pub order-insert : (w : Waiting) (vs : List Waiting) → AllByRecursion (λ v. v.number < w.number) vs → AllPairwise ActsBefore vs → AllPairwise ActsBefore (insert w vs)
order-insert w [] later order = (tt, tt)
order-insert w (v ∷ vs) later order =
    (elim (leb v.key w.key) as (λ b. leb v.key w.key ≡ b → AllPairwise ActsBefore (cond b (v ∷ insert w vs) (w ∷ v ∷ vs))) [
      | true ↦ λ e. (All-insert (ActsBefore v) w (before_later v w later.0 (leb-true v.key w.key e)) vs order.0, order-insert w vs later.1 order.1)
      | false ↦ λ e. (before_all w v vs (leb-false v.key w.key e) order.0, order)
    ]) refl

pub distinct-insert : (w : Waiting) (vs : List Waiting) → AllByRecursion (λ v. v.number < w.number) vs → AllPairwise DiffersFrom vs → AllPairwise DiffersFrom (insert w vs)
distinct-insert w [] later distinct = (tt, tt)
distinct-insert w (v ∷ vs) later distinct = elim (leb v.key w.key) as (λ b. AllPairwise DiffersFrom (cond b (v ∷ insert w vs) (w ∷ v ∷ vs))) [
  | true ↦ (All-insert (DiffersFrom v) w (λ e. omega (arith, e, later)) vs distinct.0, distinct-insert w vs later.1 distinct.1)
  | false ↦ (All-weaker (λ v. v.number < w.number) (DiffersFrom w) (λ u h e. omega (arith, e, h)) (v ∷ vs) later, distinct)
]

-- how places are compared
abbrev pub rank_cmp : Rank → Rank → Ordering
rank_cmp a b = ordering_then (nat_cmp a.key b.key) (nat_cmp a.number b.number)

pub waiting-insert_entry : (k : Rank) (h : Batch) (es : List (Rank × Batch)) → AllByRecursion (λ w. w.number < k.number) (map waiting_at es)
    → map waiting_at (insert_entry rank_cmp es k h) ≡ insert (waiting_at (k, h)) (map waiting_at es)
waiting-insert_entry k h [] later = refl
waiting-insert_entry k h (e ∷ es) later = grind (arith, waiting-insert_entry k h es later.1, later.0)

limit-more : (o : Option ℕ) (n : ℕ) → IfSome o (λ m. n ≤ m) → (o ≡ Some n → ⊥) → IfSome o (λ m. n + 1 ≤ m)
limit-more None n h apart = tt
limit-more (Some m) n h apart = ⊎_elim
    (λ (e : n ≡ m). absurd (apart (ap Some (sym e))))
    (λ (s : (n < m) ⊎ (m < n)). ⊎_elim (λ (l : n < m). omega arith) (λ (l : m < n). absurd (omega arith)) s)
    (cases_order n m)

pub IsInOrder-put : (q : WaitingList) (tag boundary from : ℕ) (messages : List MessageShape) → IsInOrder q → q.puts < 2 ^ 62 → (q.limit ≡ Some (length q.waiting) → ⊥)
    → IsInReach (key_of tag boundary q.base q.rate) q.base q.rate → IsInOrder (put q tag boundary from messages)
IsInOrder-put q tag boundary from messages o few room reach =
    let w : Waiting = record { key = key_of tag boundary q.base q.rate; number = q.puts; from = from; messages = messages } in
    let more : AllByRecursion (λ v. v.number < q.puts + 1) q.waiting = All-weaker (λ v. v.number < q.puts) (λ v. v.number < q.puts + 1) (λ v h. omega arith) q.waiting o.numbers in
    record {
      rate = o.rate;
      puts = omega (arith, few);
      limit = subst (λ n. IfSome q.limit (λ m. n ≤ m)) (sym (length-insert w q.waiting)) (limit-more q.limit (length q.waiting) o.limit room);
      order = order-insert w q.waiting o.numbers o.order;
      distinct = distinct-insert w q.waiting o.numbers o.distinct;
      numbers = All-insert (λ v. v.number < q.puts + 1) w (omega arith) q.waiting more;
      keys = All-insert (λ v. IsInReach v.key q.base q.rate) w reach q.waiting o.keys;
    }

pub meaning-put : (q : Inside) (k : Clock) (m : BTreeMap Rank Batch) (h : Batch) (key tag boundary : ℕ) → IsInOrder (meaning q) → k.base ≡ q.clock.base → k.rate ≡ q.clock.rate → key ≡ key_of tag boundary q.clock.base q.clock.rate
    → m.entries ≡ insert_entry rank_cmp q.waiting.entries (record { key = key; number = q.puts }) h
    → meaning (record q { clock = k; puts = q.puts + 1; waiting = m }) ≡ put (meaning q) tag boundary h.from (map message_of h.messages)
meaning-put q k m h key tag boundary o base rate value entries =
    let list = ap (map waiting_at) entries ∙ waiting-insert_entry (record { key = key; number = q.puts }) h q.waiting.entries o.numbers in
    cc (list, value, base, rate)
