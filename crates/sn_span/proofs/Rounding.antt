-- The last words of an unrolled plan are those of its rounds one after the other.
use Rattle.std.proofs.Common.{◌≡◌, ◌≢◌, inl, inr, ⊎_elim, true≢false, ℕ, zero, suc, ◌+◌, ◌*◌, ◌<◌, ◌≤◌, Bool, true, false, ◌||◌, List, [], ◌∷◌, length, get_or, sym, ap, subst, ◌∙◌, arith}
use Rattle.std.specs.Prelude.{nat_le, nat_lt}
use Rattle.std.proofs.lemmas.Bool.{cases_eq, cases_lt, cases_Bool, and_parts, or_cases, leb-true, ltb-true}
use Rattle.sn_mem.specs.declared.extents.Extent.{Extent}
use Rattle.sn_mem.specs.declared.extents.Foot.{Foot}
use Rattle.sn_mem.specs.Words.{covers, has, writes, touches}
use Rattle.sn_mem.proofs.Meetings.{covered, before, after}
use Rattle.sn_round.specs.declared.jobs.Job.{Job}
use Rattle.sn_round.specs.Jobs.{AreWithin, foot_at}
use Rattle.sn_round.specs.Scripts.{list_at, sequential}
use Rattle.sn_round.proofs.Scripting.{sequential_first, sequential_step}
use Rattle.sn_span.specs.Unrolling.{AreApart, start, copy_at, capture_foot, unrolled}
use Rattle.sn_span.specs.Rounds.{rounds, IsOutside}
use Rattle.sn_span.proofs.Places.{start_next, start_less, length-unrolled, at_job, at_capture, place_of}

-- ---- one job after another

unfoldable pub after_jobs : (ℕ → List ℕ → List ℕ) → ℕ → List ℕ → List ℕ
after_jobs g zero ws = ws
after_jobs g (suc i) ws = g i (after_jobs g i ws)

pub list_is : (g : ℕ → List ℕ → List ℕ) (n i : ℕ) (ws : List ℕ) → i ≤ n → list_at (sequential g n ws) i ≡ after_jobs g i ws
unfolding after_jobs
list_is g n zero ws l = sequential_first g n ws
list_is g n (suc i) ws l =
    let s : suc i ≡ i + 1 = omega arith in
    ap (list_at (sequential g n ws)) s ∙ (sequential_step g n i ws (omega (arith, l)) ∙ ap (g i) (list_is g n i ws (omega (arith, l))))

next_is : (g : ℕ → List ℕ → List ℕ) (m i : ℕ) (ws : List ℕ) → m ≡ suc i → after_jobs g m ws ≡ g i (after_jobs g i ws)
unfolding after_jobs
next_is g m i ws e = ap (λ k. after_jobs g k ws) e

-- ---- extents

from : (e : Extent) (x : ℕ) → covers e x ≡ true → e.at ≤ x
from e x c = leb-true e.at x (and_parts (nat_le e.at x) (nat_lt x (e.at + e.len)) c).0

to : (e : Extent) (x : ℕ) → covers e x ≡ true → x < e.at + e.len
to e x c = ltb-true x (e.at + e.len) (and_parts (nat_le e.at x) (nat_lt x (e.at + e.len)) c).1

only : (e : Extent) (x : ℕ) → has (e ∷ []) x ≡ true → covers e x ≡ true
only e x h = ⊎_elim (λ (c : covers e x ≡ true). c) (λ (d : false ≡ true). absurd (true≢false (sym d))) (or_cases (covers e x) false h)

none : (e : Extent) (x : ℕ) → covers e x ≡ false → has (e ∷ []) x ≡ false
none e x h = ap (λ (b : Bool). b || false) h

untouched : (ws rs : List Extent) (x : ℕ) → has ws x || has rs x ≡ false → has ws x ≡ false
untouched ws rs x h = ⊎_elim
    (λ (t : has ws x ≡ true). absurd (true≢false (sym (ap (λ (b : Bool). b || has rs x) t) ∙ h)))
    (λ (t : has ws x ≡ false). t)
    (cases_Bool (has ws x))

-- what the jobs make of words sees and changes no more than their feet
pub record RestsOnFeet (all : List Job) (g : ℕ → List ℕ → List ℕ) : Type 0 where
  pub long : (j : ℕ) (ws : List ℕ) → j < length all → length (g j ws) ≡ length ws
  pub keeps : (j x : ℕ) (ws : List ℕ) → j < length all → writes (foot_at all j) x ≡ false → get_or (g j ws) x 0 ≡ get_or ws x 0
  pub by_foot : (j : ℕ) (us ws : List ℕ) → j < length all → length us ≡ length ws → ((x : ℕ) → touches (foot_at all j) x ≡ true → get_or us x 0 ≡ get_or ws x 0)
      → (x : ℕ) → writes (foot_at all j) x ≡ true → get_or (g j us) x 0 ≡ get_or (g j ws) x 0

-- job i of block k makes f k i of the words
abbrev pub DoesAsRounds : (ℕ → ℕ → List ℕ → List ℕ) → ℕ → ℕ → (ℕ → List ℕ → List ℕ) → Type 0
DoesAsRounds f n blocks g = (k i : ℕ) (words : List ℕ) → k < blocks → i < n → g (start n k + i) words ≡ f k i words

-- words that are the same outside the copies of the first k blocks
record Alike (at k : ℕ) (us ws : List ℕ) : Type 0 where
  long : length us ≡ length ws
  same : (x : ℕ) → IsOutside at k x → get_or us x 0 ≡ get_or ws x 0

less : (at k m x : ℕ) → k ≤ m → IsOutside at m x → IsOutside at k x
less at k m x l o = ⊎_elim (λ (p : x < at). inl p) (λ (p : at + 512 * m ≤ x). inr (omega (arith, p, l))) o

module _ (jobs : List Job) (outputs : List Extent) (copies : Extent) (blocks : ℕ) (g : ℕ → List ℕ → List ℕ) (f : ℕ → ℕ → List ℕ → List ℕ) (base : List ℕ)
    (room : 512 * blocks ≤ copies.len) (apart : AreApart jobs outputs copies) (made : DoesAsRounds f (length jobs) blocks g) (rests : RestsOnFeet (unrolled jobs outputs copies.at blocks) g) where
  abbrev n : ℕ
  n = length jobs

  abbrev at : ℕ
  at = copies.at

  abbrev all : List Job
  all = unrolled jobs outputs at blocks

  there : (k i : ℕ) → k < blocks → i ≤ n → start n k + i < length all
  there k i l m = omega (arith, length-unrolled jobs outputs at blocks, start_less n k blocks l, m)

  -- a word that is touched by what has no word of the copies
  off : (b : Bool) (k x : ℕ) → k ≤ blocks → b ≡ true → (covers copies x ≡ true → b ≡ false) → IsOutside at k x
  off b k x l t never = ⊎_elim
      (λ (p : x < at). inl p)
      (λ (p : at ≤ x). ⊎_elim
      (λ (q : x < at + 512 * k). absurd (true≢false (sym t ∙ never (covered copies x p (omega (arith, q, l, room))))))
      (λ (q : at + 512 * k ≤ x). inr q)
      (cases_lt x (at + 512 * k)))
      (cases_lt x at)

  foot_of_job : (k i : ℕ) → k < blocks → i < n → foot_at all (start n k + i) ≡ foot_at jobs i
  foot_of_job k i l m = ap (λ (x : Job). x.foot) (at_job jobs outputs at blocks k i l m)

  foot_of_capture : (k : ℕ) → k < blocks → foot_at all (start n k + n) ≡ capture_foot outputs at k
  foot_of_capture k l = ap (λ (x : Job). x.foot) (at_capture jobs outputs at blocks k l)

  job_touches : (k h i x : ℕ) → k < blocks → h ≤ blocks → i < n → touches (foot_at all (start n k + i)) x ≡ true → IsOutside at h x
  job_touches k h i x l b m t = off (touches (foot_at jobs i) x) h x b (ap (λ (d : Foot). touches d x) (sym (foot_of_job k i l m)) ∙ t) (λ c. apart.of_jobs i x m c)

  capture_touches : (k x : ℕ) → k < blocks → touches (foot_at all (start n k + n)) x ≡ true → IsOutside at k x
  capture_touches k x l t = ⊎_elim
      (λ (w : has (copy_at at k ∷ []) x ≡ true). inr (from (copy_at at k) x (only (copy_at at k) x w)))
      (λ (r : has outputs x ≡ true). off (has outputs x) k x (omega (arith, l)) r (λ c. apart.of_outputs x c))
      (or_cases (has (copy_at at k ∷ []) x) (has outputs x) (ap (λ (d : Foot). touches d x) (sym (foot_of_capture k l)) ∙ t))

  -- a job writes no copy
  job_keeps : (k i x : ℕ) (ws : List ℕ) → k < blocks → i < n → covers copies x ≡ true → get_or (g (start n k + i) ws) x 0 ≡ get_or ws x 0
  job_keeps k i x ws l m c = rests.keeps (start n k + i) x ws (there k i l (omega (arith, m))) (ap (λ (d : Foot). writes d x) (foot_of_job k i l m) ∙ untouched (foot_at jobs i).writes (foot_at jobs i).reads x (apart.of_jobs i x m c))

  -- a capture writes its copy alone
  capture_keeps : (k x : ℕ) (ws : List ℕ) → k < blocks → covers (copy_at at k) x ≡ false → get_or (g (start n k + n) ws) x 0 ≡ get_or ws x 0
  capture_keeps k x ws l c = rests.keeps (start n k + n) x ws (there k n l (omega arith)) (ap (λ (d : Foot). writes d x) (foot_of_capture k l) ∙ none (copy_at at k) x c)

  -- a job that touches no such copy makes what is alike of what is alike
  alike_after : (k j : ℕ) (us ws : List ℕ) → j < length all → ((x : ℕ) → touches (foot_at all j) x ≡ true → IsOutside at k x) → Alike at k us ws → Alike at k (g j us) (g j ws)
  alike_after k j us ws l seen a = record {
    long = rests.long j us l ∙ (a.long ∙ sym (rests.long j ws l));
    same = λ x o. ⊎_elim
        (λ (w : writes (foot_at all j) x ≡ true). rests.by_foot j us ws l a.long (λ y t. a.same y (seen y t)) x w)
        (λ (w : writes (foot_at all j) x ≡ false). rests.keeps j x us l w ∙ (a.same x o ∙ sym (rests.keeps j x ws l w)))
        (cases_Bool (writes (foot_at all j) x));
  }

  abbrev span_at : ℕ → List ℕ
  span_at j = after_jobs g j base

  abbrev round_at : ℕ → List ℕ
  round_at k = rounds f n k base

  -- the words before job i of a block
  in_a_block : (k i : ℕ) → k < blocks → i ≤ n → Alike at k (span_at (start n k)) (round_at k) → Alike at k (span_at (start n k + i)) (after_jobs (f k) i (round_at k))
  unfolding after_jobs
  in_a_block k zero l m a = let e : start n k ≡ start n k + 0 = omega arith in subst (λ j. Alike at k (span_at j) (round_at k)) e a
  in_a_block k (suc i) l m a =
      let here : i < n = omega (arith, m) in
      let us : List ℕ = span_at (start n k + i) in
      let ws : List ℕ = after_jobs (f k) i (round_at k) in
      let one : Alike at k (g (start n k + i) us) (g (start n k + i) ws) = alike_after k (start n k + i) us ws (there k i l (omega (arith, m))) (λ x t. job_touches k k i x l (omega (arith, l)) here t) (in_a_block k i l (omega (arith, m)) a) in
      let s : start n k + suc i ≡ suc (start n k + i) = omega arith in
      subst (λ (vs : List ℕ). Alike at k vs (f k i ws)) (sym (next_is g (start n k + suc i) (start n k + i) base s))
      (subst (λ (vs : List ℕ). Alike at k (g (start n k + i) us) vs) (made k i ws l here) one)

  block_keeps : (k i x : ℕ) → k < blocks → i ≤ n → covers copies x ≡ true → get_or (span_at (start n k + i)) x 0 ≡ get_or (span_at (start n k)) x 0
  block_keeps k zero x l m c = let e : start n k + 0 ≡ start n k = omega arith in ap (λ j. get_or (span_at j) x 0) e
  block_keeps k (suc i) x l m c =
      let s : start n k + suc i ≡ suc (start n k + i) = omega arith in
      ap (λ (vs : List ℕ). get_or vs x 0) (next_is g (start n k + suc i) (start n k + i) base s)
      ∙ (job_keeps k i x (span_at (start n k + i)) l (omega (arith, m)) c ∙ block_keeps k i x l (omega (arith, m)) c)

  -- the words before block k
  record Stands (k : ℕ) : Type 0 where
    alike : Alike at k (span_at (start n k)) (round_at k)
    copied : (h x : ℕ) → h < k → covers (copy_at at h) x ≡ true → get_or (span_at (start n k)) x 0 ≡ get_or (g (start n h + n) (round_at (suc h))) x 0

  -- those before its capture
  before_capture : (k : ℕ) → k < blocks → Stands k → Alike at k (span_at (start n k + n)) (round_at (suc k))
  unfolding rounds
  before_capture k l st = subst (λ (vs : List ℕ). Alike at k (span_at (start n k + n)) vs) (sym (list_is (f k) n n (round_at k) (omega arith))) (in_a_block k n l (omega arith) st.alike)

  capture_is : (k : ℕ) → span_at (start n (suc k)) ≡ g (start n k + n) (span_at (start n k + n))
  capture_is k = let s : start n (suc k) ≡ suc (start n k + n) = omega (arith, start_next n k) in next_is g (start n (suc k)) (start n k + n) base s

  not_in : (k x : ℕ) → IsOutside at (suc k) x → covers (copy_at at k) x ≡ false
  not_in k x o = ⊎_elim
      (λ (p : x < at). before (copy_at at k) x (omega (arith, p)))
      (λ (p : at + 512 * suc k ≤ x). after (copy_at at k) x (omega (arith, p)))
      o

  in_copies : (h x : ℕ) → h < blocks → covers (copy_at at h) x ≡ true → covers copies x ≡ true
  in_copies h x l c =
      let low : at + 512 * h ≤ x = from (copy_at at h) x c in
      let high : x < at + 512 * h + 512 = to (copy_at at h) x c in
      covered copies x (omega (arith, low)) (omega (arith, high, l, room))

  earlier : (h k x : ℕ) → h < k → covers (copy_at at h) x ≡ true → covers (copy_at at k) x ≡ false
  earlier h k x l c = let high : x < at + 512 * h + 512 = to (copy_at at h) x c in before (copy_at at k) x (omega (arith, high, l))

  stands_next : (k : ℕ) → k < blocks → Stands k → Stands (suc k)
  stands_next k l st =
      let us : List ℕ = span_at (start n k + n) in
      let b : Alike at k us (round_at (suc k)) = before_capture k l st in
      let c : Alike at k (g (start n k + n) us) (g (start n k + n) (round_at (suc k))) = alike_after k (start n k + n) us (round_at (suc k)) (there k n l (omega arith)) (λ x t. capture_touches k x l t) b in
      record {
        alike = record {
          long = ap length (capture_is k) ∙ (rests.long (start n k + n) us (there k n l (omega arith)) ∙ b.long);
          same = λ x o. ap (λ (vs : List ℕ). get_or vs x 0) (capture_is k) ∙ (capture_keeps k x us l (not_in k x o) ∙ b.same x (less at k (suc k) x (omega arith) o));
        };
        copied = λ h x m i. ap (λ (vs : List ℕ). get_or vs x 0) (capture_is k) ∙ (⊎_elim
            (λ (e : h ≡ k).
            let low : at + 512 * h ≤ x = from (copy_at at h) x i in
            c.same x (inr (omega (arith, low, e))) ∙ ap (λ j. get_or (g (start n j + n) (round_at (suc j))) x 0) (sym e))
            (λ (d : h ≢ k).
            let u : h < k = omega (arith, m, d) in
            capture_keeps k x us l (earlier h k x u i) ∙ (block_keeps k n x l (omega arith) (in_copies h x (omega (arith, u, l)) i) ∙ st.copied h x u i))
            (cases_eq h k));
      }

  first : span_at (start n 0) ≡ round_at 0
  unfolding rounds after_jobs
  first = let z : start n 0 ≡ 0 = omega arith in ap (λ j. span_at j) z

  stands : (k : ℕ) → k ≤ blocks → Stands k
  stands zero l = record {
    alike = record { long = ap length first; same = λ x o. ap (λ (vs : List ℕ). get_or vs x 0) first };
    copied = λ h x m i. absurd (omega arith);
  }
  stands (suc k) l = stands_next k (omega (arith, l)) (stands k (omega (arith, l)))

  last_is : list_at (sequential g (start n blocks) base) (start n blocks) ≡ span_at (start n blocks)
  last_is = list_is g (start n blocks) (start n blocks) base (omega arith)

  pub as_long : length (list_at (sequential g (start n blocks) base) (start n blocks)) ≡ length (round_at blocks)
  as_long = ap length last_is ∙ (stands blocks (omega arith)).alike.long

  pub outside : (x : ℕ) → IsOutside at blocks x → get_or (list_at (sequential g (start n blocks) base) (start n blocks)) x 0 ≡ get_or (round_at blocks) x 0
  outside x o = ap (λ (vs : List ℕ). get_or vs x 0) last_is ∙ (stands blocks (omega arith)).alike.same x o

  pub copied : (k x : ℕ) → k < blocks → covers (copy_at at k) x ≡ true → get_or (list_at (sequential g (start n blocks) base) (start n blocks)) x 0 ≡ get_or (g (start n k + n) (round_at (suc k))) x 0
  copied k x l c = ap (λ (vs : List ℕ). get_or vs x 0) last_is ∙ (stands blocks (omega arith)).copied k x l c

-- ---- feet in a memory

pub inside : (jobs : List Job) (outputs : List Extent) (at blocks size : ℕ) → AreWithin size jobs → ((x : ℕ) → has outputs x ≡ true → x < size) → at + 512 * blocks ≤ size → AreWithin size (unrolled jobs outputs at blocks)
inside jobs outputs at blocks size feet read room j x l t =
    let n : ℕ = length jobs in
    let (k, i, p, q, e) = place_of n blocks j (omega (arith, l, length-unrolled jobs outputs at blocks)) in
    let here : touches (foot_at (unrolled jobs outputs at blocks) (start n k + i)) x ≡ true = ap (λ m. touches (foot_at (unrolled jobs outputs at blocks) m) x) (sym e) ∙ t in
    ⊎_elim
    (λ (m : i < n). feet i x m (ap (λ (y : Job). touches y.foot x) (sym (at_job jobs outputs at blocks k i p m)) ∙ here))
    (λ (m : n ≤ i).
    let s : i ≡ n = omega (arith, m, q) in
    let is : touches (capture_foot outputs at k) x ≡ true = ap (λ (y : Job). touches y.foot x) (sym (at_capture jobs outputs at blocks k p)) ∙ (ap (λ m. touches (foot_at (unrolled jobs outputs at blocks) (start n k + m)) x) (sym s) ∙ here) in
    ⊎_elim
    (λ (w : has (copy_at at k ∷ []) x ≡ true). let high : x < at + 512 * k + 512 = to (copy_at at k) x (only (copy_at at k) x w) in omega (arith, high, room, p))
    (λ (r : has outputs x ≡ true). read x r)
    (or_cases (has (copy_at at k ∷ []) x) (has outputs x) is))
    (cases_lt i n)
