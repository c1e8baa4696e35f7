-- Each step is undone by what was kept of it.
use Rattle.std.proofs.Common.{◌≡◌, ◌≢◌, ℕ, ◌+◌, ◌≤◌, Bool, List, ◌∷◌, Some, sym, refl, ap, ◌∙◌, subst, arith}
use Rattle.std.specs.Prelude.{if◌then◌else◌}
use Rattle.sn_forest.specs.Trees.{Trees, none, tree, uses, first_key, subtree, without, below_of, value_of}
use Rattle.sn_forest.specs.Places.{put, shifted, place_by, place_of, IsPlaceIn}
use Rattle.sn_forest.specs.declared.place.Place.{Place}
use Rattle.sn_forest.proofs.Keys.{one_same, other_key}
use Rattle.sn_forest.proofs.Paths.{Path, top, under, beside, plug, parent_of, previous_of, path_uses, uses-plug, Found, found}
use Rattle.sn_forest.proofs.Passing.{without_at, below_found, value_found, subtree_found}
use Rattle.sn_forest.proofs.Loose.{IsInner as IsInnerPath, inner_first}
use Rattle.sn_forest.proofs.Holes.{Gap, gap, alone_on}
use Rattle.sn_forest.proofs.Returning.{Shift, shift, links_place, moves_back, insert_back}
use Rattle.sn_tree.specs.declared.item.Item.{Item}
use Rattle.sn_tree.specs.declared.undo.Undo.{Undo}
use Rattle.sn_tree.specs.declared.undo.Undo.TheVariants.{Inserted, Moved, Ran}
use Rattle.sn_tree.specs.Keyed.{flagged}
use Rattle.sn_tree.specs.Stored.{IsSound}
use Rattle.sn_tree.specs.Undoing.{CanUndo, undone, restored, IsUndoable}
use Rattle.sn_tree.proofs.Stopping.{first_used}
use Rattle.sn_tree.proofs.Sums.{uses_sum}
use Rattle.sn_tree.proofs.FlagLaws.{with_flag, flag_at, flag_sum}

-- a step can be undone, and then the nodes are as they were before
pub record Undoes (step : Undo) (before now : Trees Item) : Type 0 where
  pub can : CanUndo step now
  pub back : undone step now ≡ before

first_put : (place : Place) (key : ℕ) (item : Item) (below t : Trees Item) → ((j : ℕ) → uses j t ≤ 1) → IsPlaceIn t place → first_key (put place (tree key item below none) t) ≡ first_key t
first_put place key item below t once w =
    let g : Gap place t = gap place t once w in
    ap first_key (g.puts key item below) ∙ (inner_first g.path g.inner (tree key item below g.after) g.after ∙ sym (ap first_key g.is))

pub undo_insert : (t : Trees Item) (key : ℕ) (place : Place) (item : Item) → ((j : ℕ) → uses j t ≤ 1) → uses key t ≡ 0 → IsPlaceIn t place → Undoes (Inserted key) t (put place (tree key item none none) t)
undo_insert t key place item once z w =
    let g : Gap place t = gap place t once w in
    let now : put place (tree key item none none) t ≡ plug g.path (tree key item none g.after) = g.puts key item none in
    let free : path_uses key g.path + uses key g.after ≡ 0 = omega (arith, z, ap (λ x. uses key x) g.is, uses-plug key g.path g.after) in
    record {
      can = (
        record {
          used = omega (arith, ap (λ x. uses key x) now, uses-plug key g.path (tree key item none g.after), one_same key);
          inner = λ e. absurd (omega (arith, z, first_used t key (sym (first_put place key item none t once w) ∙ e)));
        },
        ap (below_of key) now ∙ below_found g.path key item none g.after (omega (arith, free)),
      );
      back = insert_back key place item t once z w;
    }

-- where a node stood is a place of the nodes without it
place_stays : (k : ℕ) (p : Path Item) (after : Trees Item) → IsInnerPath p → IsPlaceIn (plug p after) (place_by k (parent_of p) (previous_of p))
place_stays k top after i = absurd i
place_stays k (under key item a p) after i = omega (arith, uses-plug key p (tree key item after a), one_same key)
place_stays k (beside key item b p) after i = omega (arith, uses-plug key p (tree key item b after), one_same key)

first_without : (k : ℕ) (t : Trees Item) → first_key t ≢ Some k → first_key (without k t) ≡ first_key t
first_without k none n = refl
first_without k (tree key item below after) n =
    ap (λ b. first_key (if b then without k after else tree key item (without k below) (without k after))) (other_key key k (λ e. n (ap (λ x. Some x) e)))

pub undo_move : (t : Trees Item) (k : ℕ) (place : Place) → ((j : ℕ) → uses j t ≤ 1) → 1 ≤ uses k t → first_key t ≢ Some k → IsPlaceIn (without k t) place → IsSound t
    → Undoes (Moved k (place_of k t)) t (shifted k place t)
undo_move t k place once u n w sound =
    let s : Shift k place t = shift k place t once u n w in
    let back : shifted k (place_of k t) (shifted k place t) ≡ t = moves_back k place t once u n w in
    let left : without k (shifted k place t) ≡ plug s.path s.after = ap (without k) s.now ∙ (without_at s.to k s.value s.below s.rest (omega (arith, s.free_to)) (omega (arith, s.free_to)) ∙ sym s.same) in
    let stood : place_of k t ≡ place_by k (parent_of s.path) (previous_of s.path) = ap (place_of k) s.is ∙ links_place k s.path s.value s.below s.after (omega (arith, s.free)) in
    let left_once : (j : ℕ) → uses j (without k t) ≤ 1 = λ j. omega (arith, once j, ap (λ x. uses j x) s.left, ap (λ x. uses j x) s.is, uses-plug j s.path (tree k s.value s.below s.after), uses-plug j s.path s.after) in
    let first : first_key (shifted k place t) ≡ first_key t = first_shifted s left_once in
    record {
      can = (
        record {
          used = omega (arith, ap (λ x. uses k x) s.now, uses-plug k s.to (tree k s.value s.below s.rest), one_same k);
          inner = λ e. n (sym first ∙ e);
        },
        subst (λ x. IsPlaceIn x (place_of k t)) (sym left) (subst (λ p. IsPlaceIn (plug s.path s.after) p) (sym stood) (place_stays k s.path s.after s.inner)),
        subst IsSound (sym back) sound,
      );
      back = back;
    }
  where
    branch : (s : Shift k place t) → subtree k t ≡ tree k s.value s.below none
    branch s = ap (subtree k) s.is ∙ subtree_found s.path k s.value s.below s.after (omega (arith, s.free))

    first_shifted : (s : Shift k place t) → ((j : ℕ) → uses j (without k t) ≤ 1) → first_key (shifted k place t) ≡ first_key t
    first_shifted s left_once = ap (λ x. first_key (put place x (without k t))) (branch s) ∙ (first_put place k s.value s.below (without k t) left_once w ∙ first_without k t n)

pub undo_run : (t : Trees Item) (k : ℕ) (on : Bool) (item : Item) → ((j : ℕ) → uses j t ≤ 1) → 1 ≤ uses k t → Some item ≡ value_of k t → Undoes (Ran k item.running) t (flagged k on t)
undo_run t k on item once u held =
    let f : Found k t = found k top t u in
    let z : path_uses k f.path ≡ 0 = alone_on t k f once in
    let same : item ≡ f.value = same_value item f.value (held ∙ (ap (value_of k) f.is ∙ value_found f.path k f.value f.below f.after z)) in
    record {
      can = omega (arith, u, flag_sum (λ (x : Trees Item). uses k x) (uses_sum k) (λ key on item. refl) k on t);
      back = ap (λ x. flagged k item.running (flagged k on x)) f.is
          ∙ (ap (flagged k item.running) (flag_at f.path k on f.value f.below f.after z)
          ∙ (flag_at f.path k item.running (with_flag on f.value) f.below f.after z
          ∙ (ap (λ x. plug f.path (tree k (with_flag x f.value) f.below f.after)) (ap (λ (x : Item). x.running) same) ∙ sym f.is)));
    }
  where
    same_value : (a b : Item) → Some a ≡ Some b → a ≡ b
    same_value a b e = cc

-- one more step is undone first
pub one_more : (step : Undo) (steps : List Undo) (before now : Trees Item) → Undoes step before now → IsUndoable steps before → IsUndoable (step ∷ steps) now × (restored (step ∷ steps) now ≡ restored steps before)
one_more step steps before now u h = ((u.can, subst (IsUndoable steps) (sym u.back) h), ap (restored steps) u.back)
