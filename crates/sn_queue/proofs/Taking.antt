-- The first entry of the ordered map is the first that is due.
use Rattle.std.proofs.Common.{◌≡◌, ℕ, zero, suc, true, List, [], ◌∷◌, map, Some, ap, sym, subst, ◌∙◌}
use Rattle.std.specs.Prelude.{slice_get}
use Rattle.std.specs.List.{AllByRecursion, list_any}
use Rattle.std.specs.BTreeMap.{BTreeMap}
use Rattle.sn_queue.specs.declared.entry.Rank.{Rank}
use Rattle.sn_queue.specs.declared.entry.Batch.{Batch}
use Rattle.sn_queue.specs.declared.queue.Queue.TheInside.{Inside}
use Rattle.sn_queue.specs.Waiting.{Waiting, WaitingList, ActsBefore, AllPairwise, IsInOrder}
use Rattle.sn_queue.specs.Meaning.{waiting_at, meaning}
use Rattle.sn_queue.specs.Steps.{is_due, first, without_first, first_due, without_first_due}
use Rattle.sn_queue.proofs.Order.{any-first, first-here, without_first-here}

pub All-entry : (P : Waiting → Type 0) (es : List (Rank × Batch)) (i : ℕ) (p : Rank × Batch) → AllByRecursion P (map waiting_at es) → slice_get es i ≡ Some p → P (waiting_at p)
All-entry P [] i p h e = absurd (cc)
All-entry P (x ∷ xs) zero p h e = let is : x ≡ p = cc in subst (λ y. P (waiting_at y)) is h.0
All-entry P (x ∷ xs) (suc i) p h e = All-entry P xs i p h.1 e

pub any-entry : (q : WaitingList) (now : ℕ) (es : List (Rank × Batch)) (p : Rank × Batch) → AllPairwise ActsBefore (map waiting_at es) → slice_get es 0 ≡ Some p
    → list_any (is_due q now) (map waiting_at es) ≡ is_due q now (waiting_at p)
any-entry q now [] p order e = absurd (cc)
any-entry q now (x ∷ xs) p order e =
    let is : x ≡ p = cc in
    any-first q now (waiting_at x) (map waiting_at xs) order.0 ∙ ap (λ y. is_due q now (waiting_at y)) is

module _ (q : Inside) (m : BTreeMap Rank Batch) (now : ℕ) (p : Rank × Batch) (o : IsInOrder (meaning q)) (removal : q.waiting.entries ≡ p ∷ m.entries)
    (some : list_any (is_due (meaning q) now) (meaning q).waiting ≡ true) where
  parts : (meaning q).waiting ≡ waiting_at p ∷ map waiting_at m.entries
  parts = ap (map waiting_at) removal

  head_due : is_due (meaning q) now (waiting_at p) ≡ true
  head_due =
      let order = subst (AllPairwise ActsBefore) parts o.order in
      sym (any-first (meaning q) now (waiting_at p) (map waiting_at m.entries) order.0) ∙ ap (list_any (is_due (meaning q) now)) (sym parts) ∙ some

  pub first_due-popped : first_due (meaning q) now ≡ Some (waiting_at p)
  first_due-popped = ap (first (is_due (meaning q) now)) parts ∙ first-here (is_due (meaning q) now) (waiting_at p) (map waiting_at m.entries) head_due

  pub without_first_due-popped : meaning (record q { waiting = m }) ≡ without_first_due (meaning q) now
  without_first_due-popped =
      let rest = ap (without_first (is_due (meaning q) now)) parts ∙ without_first-here (is_due (meaning q) now) (waiting_at p) (map waiting_at m.entries) head_due in
      ap (λ ws. record (meaning q) { waiting = ws }) (sym rest)
