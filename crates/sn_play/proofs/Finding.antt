-- A node that the walk reaches is found by its id.
use Rattle.std.proofs.Common.{◌≡◌, ◌≤◌, ◌⊎◌, inl, inr, ⊎_elim, ℕ, ℤ, Bool, true, false, ◌||◌, if◌then◌else◌, ◌∷◌, ◌++◌, Some, sym, refl, ap, subst, arith, true≢false}
use Rattle.std.specs.Ordering.{int_eq}
use Rattle.std.proofs.lemmas.Bool.{cond_both, or_cases, or_left, or_right, false_from_ne_true}
use Rattle.std.proofs.lemmas.Bool.Decides.{Decides-int_eq}
use Rattle.sn_tree.specs.Trees.{Label, Nodes, none, node, holds, ids, label_of, running_labels}
use Rattle.sn_tree.specs.Steps.{occurrences, AllDistinct}
use Rattle.sn_tree.proofs.Distinct.{occurs-node}
use Rattle.sn_play.proofs.Among.{Among, among_parts}

module _ {P : Type 0} where
  own_id : (label : Label P) → int_eq label.id label.id ≡ true
  own_id label = (Decides-int_eq label.id label.id).1 refl

  one_here : (label : Label P) (x : ℤ) → int_eq label.id x ≡ true → ◌≡◌ {A = ℕ} (if int_eq label.id x then 1 else 0) 1
  one_here label x e = let f : Bool → ℕ = λ (b : Bool). if b then 1 else 0 in ap f e

  held_occurs : (x : ℤ) (t : Nodes P) → holds x t ≡ true → 1 ≤ occurrences int_eq x (ids t)
  held_occurs x none h = absurd (true≢false (sym h))
  held_occurs x (node label below after) h = ⊎_elim
      (λ (e : int_eq label.id x ≡ true). omega (arith, one_here label x e, occurs-node x label below after))
      (λ (r : (holds x below || holds x after) ≡ true). ⊎_elim
      (λ (b : holds x below ≡ true). omega (arith, held_occurs x below b, occurs-node x label below after))
      (λ (a : holds x after ≡ true). omega (arith, held_occurs x after a, occurs-node x label below after))
      (or_cases (holds x below) (holds x after) r))
      (or_cases (int_eq label.id x) (holds x below || holds x after) h)

  -- a node that is reached is the first, or one of those below or after it
  reached : (label : Label P) (below after : Nodes P) (l : Label P) → Among (running_labels (node label below after)) l → (label ≡ l) ⊎ (Among (running_labels below) l ⊎ Among (running_labels after) l)
  reached label below after l m =
      cond_both label.running (label ∷ (running_labels below ++ running_labels after)) (running_labels after) (λ ls. Among ls l → (label ≡ l) ⊎ (Among (running_labels below) l ⊎ Among (running_labels after) l))
      (λ on n. ⊎_elim (λ (e : label ≡ l). inl e) (λ (r : Among (running_labels below ++ running_labels after) l). inr (among_parts (running_labels below) (running_labels after) l r)) n)
      (λ off n. inr (inr n))
      m

  running_is_held : (t : Nodes P) (l : Label P) → Among (running_labels t) l → holds l.id t ≡ true
  running_is_held none l m = absurd m
  running_is_held (node label below after) l m = ⊎_elim
      (λ (e : label ≡ l). or_left (int_eq label.id l.id) (holds l.id below || holds l.id after) (subst (λ (k : Label P). int_eq label.id k.id ≡ true) e (own_id label)))
      (λ (r : Among (running_labels below) l ⊎ Among (running_labels after) l). or_right (int_eq label.id l.id) (holds l.id below || holds l.id after) (⊎_elim
      (λ (b : Among (running_labels below) l). or_left (holds l.id below) (holds l.id after) (running_is_held below l b))
      (λ (a : Among (running_labels after) l). or_right (holds l.id below) (holds l.id after) (running_is_held after l a))
      r))
      (reached label below after l m)

  pub found : (t : Nodes P) → AllDistinct int_eq (ids t) → (l : Label P) → Among (running_labels t) l → label_of l.id t ≡ Some l
  found none distinct l m = absurd m
  found (node label below after) distinct l m = ⊎_elim
      (λ (e : label ≡ l). subst (λ (k : Label P). label_of k.id (node label below after) ≡ Some k) e (rw (own_id label) refl))
      (λ (r : Among (running_labels below) l ⊎ Among (running_labels after) l). ⊎_elim
      (λ (b : Among (running_labels below) l).
      let held : holds l.id below ≡ true = running_is_held below l b in
      let off : int_eq label.id l.id ≡ false = false_from_ne_true (int_eq label.id l.id) (λ e. omega (arith, one_here label l.id e, held_occurs l.id below held, distinct l.id, occurs-node l.id label below after)) in
      rw (off, held) (found below (λ x. omega (arith, distinct x, occurs-node x label below after)) l b))
      (λ (a : Among (running_labels after) l).
      let held : holds l.id after ≡ true = running_is_held after l a in
      let off : int_eq label.id l.id ≡ false = false_from_ne_true (int_eq label.id l.id) (λ e. omega (arith, one_here label l.id e, held_occurs l.id after held, distinct l.id, occurs-node l.id label below after)) in
      let apart : holds l.id below ≡ false = false_from_ne_true (holds l.id below) (λ h. omega (arith, held_occurs l.id below h, held_occurs l.id after held, distinct l.id, occurs-node l.id label below after)) in
      rw (off, apart) (found after (λ x. omega (arith, distinct x, occurs-node x label below after)) l a))
      r)
      (reached label below after l m)
