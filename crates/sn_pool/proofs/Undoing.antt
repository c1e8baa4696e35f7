-- Changes that are undone, the last first.
use Rattle.std.proofs.Common.{◌≡◌, ℕ, ◌+◌, ◌<◌, ◌≤◌, ◌++◌, if◌then◌else◌, List, [], ◌∷◌, sym, refl, ap, subst, arith}
use Rattle.sn_mem.specs.declared.extents.Extent.{Extent}
use Rattle.sn_mem.proofs.Meetings.{covered}
use Rattle.sn_pool.specs.declared.changes.Change.{Change}
use Rattle.sn_pool.specs.declared.sorted.Order.TheVariants.{Place}
use Rattle.sn_pool.specs.Pools.{times, same_extent, AreLaidOut, LiesIn, with_extent, without_extent}
use Rattle.sn_pool.specs.Regions.{IsFree}
use Rattle.sn_pool.specs.Changes.{AreUndoable, IsUndoable, before_change, undone}
use Rattle.sn_pool.proofs.LaidOut.{laid_out_without}
use Rattle.sn_pool.proofs.Counts.{same_itself, times_with, times_without, times_inside}
use Rattle.sn_pool.proofs.Orders.{sorted_same, laid_out_sorted}
use Rattle.sn_pool.proofs.Ground.{laid_out_filled, others_apart}

pub undone_none : (live : List Extent) → undone [] live ≡ live
unfolding undone
undone_none live = refl

pub undone_last : (c : Change) (cs : List Change) (live : List Extent) → undone (cs ++ c ∷ []) live ≡ undone cs (before_change c live)
unfolding undone
undone_last c [] live = refl
undone_last c (d ∷ cs) live = ap (before_change d) (undone_last c cs live)

pub undoable_none : (words : Extent) (live : List Extent) → AreUndoable words [] live
unfolding AreUndoable
undoable_none words live = tt

-- A change that can be undone may follow changes that can be undone from what was before it.
pub undoable_more : (words : Extent) (c : Change) (cs : List Change) (live : List Extent) → IsUndoable words live c → AreUndoable words cs (before_change c live) → AreUndoable words (cs ++ c ∷ []) live
unfolding AreUndoable undone
undoable_more words c [] live one each = (one, tt)
undoable_more words c (d ∷ cs) live one each =
    (subst (λ l. IsUndoable words l d) (sym (undone_last c cs live)) each.0, undoable_more words c cs live one each.1)

pub undoable_last : (words : Extent) (c : Change) (cs : List Change) (live : List Extent) → AreUndoable words (cs ++ c ∷ []) live → IsUndoable words live c × AreUndoable words cs (before_change c live)
unfolding AreUndoable undone
undoable_last words c [] live each = (each.0, tt)
undoable_last words c (d ∷ cs) live each =
    let rest = undoable_last words c cs live each.1 in
    (rest.0, (subst (λ l. IsUndoable words l d) (undone_last c cs live) each.0, rest.1))

module _ (words : Extent) (live : List Extent) (e : Extent) (laid : AreLaidOut words.at (words.at + words.len) live) where
  pub taken_back : 1 ≤ e.len → IsFree words live e.len e.at → without_extent e (with_extent e live) ≡ live
  taken_back one free =
      let from = words.at in
      let to = words.at + words.len in
      let filled = laid_out_filled words live e laid one free in
      let self : (if same_extent e e then 1 else 0) ≡ 1 = ap {B = ℕ} (λ b. if b then 1 else 0) (same_itself e) in
      sorted_same Place (without_extent e (with_extent e live)) live
      (laid_out_sorted from to (without_extent e (with_extent e live)) (laid_out_without from to (with_extent e live) e filled))
      (laid_out_sorted from to live laid)
      (λ x. omega (arith, times_with x e live, times_without x e (with_extent e live) (omega (arith, self, times_with e e live))))

  pub is_taken : 0 < times e (with_extent e live)
  is_taken =
      let self : (if same_extent e e then 1 else 0) ≡ 1 = ap {B = ℕ} (λ b. if b then 1 else 0) (same_itself e) in
      omega (arith, self, times_with e e live)

  pub given_free : 0 < times e live → IsFree words (without_extent e live) e.len e.at
  given_free some =
      let lies : LiesIn words e = (times_inside words live e laid some).0 in
      record {
        from = lies.0;
        to = lies.1;
        unused = λ x low high. others_apart words e live (without_extent e live) laid some (λ y. times_without y e live some) x (covered e x low high);
      }

  pub given_back : 0 < times e live → with_extent e (without_extent e live) ≡ live
  given_back some =
      let from = words.at in
      let to = words.at + words.len in
      let size = (times_inside words live e laid some).1 in
      let less = laid_out_without from to live e laid in
      sorted_same Place (with_extent e (without_extent e live)) live
      (laid_out_sorted from to (with_extent e (without_extent e live)) (laid_out_filled words (without_extent e live) e less size (given_free some)))
      (laid_out_sorted from to live laid)
      (λ x. omega (arith, times_with x e (without_extent e live), times_without x e live some))
