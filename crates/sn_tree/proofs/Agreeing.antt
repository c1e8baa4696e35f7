-- What is listed of a subtree is what each node's place is by itself.
use Rattle.std.proofs.Common.{◌≡◌, ℕ, ◌+◌, ◌≤◌, ℤ, negsuc, true, false, ◌||◌, ◌++◌, Some, sym, refl, ⊎_elim, arith, true≢false}
use Rattle.std.specs.Prelude.{if◌then◌else◌}
use Rattle.std.specs.List.{All}
use Rattle.std.specs.Ordering.{int_eq}
use Rattle.std.proofs.lemmas.Bool.{cases_Bool, false_from_ne_true, or_cases}
use Rattle.std.proofs.lemmas.Bool.Decides.{Decides-int_eq}
use Rattle.std.proofs.lemmas.List.Elements.{All-append, All-nil, All-cons}
use Rattle.sn_tree.specs.declared.node.NodeView.{NodeView}
use Rattle.sn_tree.specs.Trees.{Label, Nodes, none, node, holds, ids, view_from, view_of}
use Rattle.sn_tree.specs.Steps.{occurrences, AllDistinct}
use Rattle.sn_tree.specs.Views.{seen, views_from, views_at, views_below}
use Rattle.sn_tree.proofs.Distinct.{occurs-node}

itself : (x : ℤ) → int_eq x x ≡ true
itself x = (Decides-int_eq x x).1 refl

module _ {P : Type 0} where
  held_occurs : (x : ℤ) (t : Nodes P) → holds x t ≡ true → 1 ≤ occurrences int_eq x (ids t)
  held_occurs x none h = absurd (true≢false (sym h))
  held_occurs x (node label below after) h =
      ⊎_elim
      (λ (n : int_eq label.id x ≡ true). let one : ◌≡◌ {A = ℕ} (if int_eq label.id x then 1 else 0) 1 = rw n refl in omega (arith, one, occurs-node x label below after))
      (λ (r : (holds x below || holds x after) ≡ true). ⊎_elim
      (λ (b : holds x below ≡ true). omega (arith, held_occurs x below b, occurs-node x label below after))
      (λ (a : holds x after ≡ true). omega (arith, held_occurs x after a, occurs-node x label below after))
      (or_cases (holds x below) (holds x after) r))
      (or_cases (int_eq label.id x) (holds x below || holds x after) h)

  -- a level in which each node is found as in the whole tree
  record IsReached (t s : Nodes P) (parent previous : ℤ) : Type 0 where
    once : AllDistinct int_eq (ids s)
    found : (x : ℤ) → holds x s ≡ true → view_from parent previous x s ≡ view_of x t

  module _ (t : Nodes P) (label : Label P) (below after : Nodes P) (parent previous : ℤ) (r : IsReached t (node label below after) parent previous) where
    other : (x : ℤ) → 1 ≤ occurrences int_eq x (ids below) + occurrences int_eq x (ids after) → int_eq label.id x ≡ false
    other x h = false_from_ne_true (int_eq label.id x) (λ (n : int_eq label.id x ≡ true).
        let one : ◌≡◌ {A = ℕ} (if int_eq label.id x then 1 else 0) 1 = rw n refl in
        omega (arith, one, h, occurs-node x label below after, r.once x))

    first_found : view_of label.id t ≡ Some (seen parent previous label below after)
    first_found =
        let h : holds label.id (node label below after) ≡ true = rw (itself label.id) refl in
        let f = r.found label.id h in
        sym (rw (itself label.id) at f)

    below_reached : IsReached t below label.id (negsuc 0)
    below_reached = record {
      once = λ x. omega (arith, occurs-node x label below after, r.once x);
      found = λ x h.
          let n : int_eq label.id x ≡ false = other x (omega (arith, held_occurs x below h)) in
          let all : holds x (node label below after) ≡ true = rw (n, h) refl in
          let f = r.found x all in
          rw (n, h) at f;
    }

    after_reached : IsReached t after parent label.id
    after_reached = record {
      once = λ x. omega (arith, occurs-node x label below after, r.once x);
      found = λ x h.
          let o = held_occurs x after h in
          let n : int_eq label.id x ≡ false = other x (omega (arith, o)) in
          let i : holds x below ≡ false = false_from_ne_true (holds x below) (λ b. omega (arith, held_occurs x below b, o, occurs-node x label below after, r.once x)) in
          let all : holds x (node label below after) ≡ true = rw (n, i) h in
          let f = r.found x all in
          rw (n, i) at f;
    }

  module _ (t : Nodes P) where
    all_from : (s : Nodes P) (parent previous : ℤ) → IsReached t s parent previous → All (λ (v : ℤ × NodeView). view_of v.0 t ≡ Some v.1) (views_from parent previous s)
    all_from none parent previous r = All-nil (λ (v : ℤ × NodeView). view_of v.0 t ≡ Some v.1)
    all_from (node label below after) parent previous r =
        let q = λ (v : ℤ × NodeView). view_of v.0 t ≡ Some v.1 in
        All-cons q (label.id, seen parent previous label below after) (views_from label.id (negsuc 0) below ++ views_from parent label.id after)
        (first_found t label below after parent previous r)
        (All-append q (views_from label.id (negsuc 0) below) (views_from parent label.id after)
        (all_from below label.id (negsuc 0) (below_reached t label below after parent previous r))
        (all_from after parent label.id (after_reached t label below after parent previous r)))

    all_at : (s : Nodes P) (parent previous id : ℤ) → IsReached t s parent previous → All (λ (v : ℤ × NodeView). view_of v.0 t ≡ Some v.1) (views_at parent previous id s)
    all_at none parent previous id r = All-nil (λ (v : ℤ × NodeView). view_of v.0 t ≡ Some v.1)
    all_at (node label below after) parent previous id r =
        let q = λ (v : ℤ × NodeView). view_of v.0 t ≡ Some v.1 in
        ⊎_elim
        (λ (n : int_eq label.id id ≡ true). rw n (All-cons q (label.id, seen parent previous label below after) (views_from label.id (negsuc 0) below)
        (first_found t label below after parent previous r)
        (all_from below label.id (negsuc 0) (below_reached t label below after parent previous r))))
        (λ (n : int_eq label.id id ≡ false). ⊎_elim
        (λ (i : holds id below ≡ true). rw (n, i) (all_at below label.id (negsuc 0) id (below_reached t label below after parent previous r)))
        (λ (i : holds id below ≡ false). rw (n, i) (all_at after parent label.id id (after_reached t label below after parent previous r)))
        (cases_Bool (holds id below)))
        (cases_Bool (int_eq label.id id))

    pub all_agree : (id : ℤ) → AllDistinct int_eq (ids t) → All (λ (v : ℤ × NodeView). view_of v.0 t ≡ Some v.1) (views_below id t)
    all_agree id d = all_at t (negsuc 0) (negsuc 0) id (record { once = d; found = λ x h. refl })
