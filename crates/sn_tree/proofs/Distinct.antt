-- No id is attached twice.
use Rattle.std.proofs.Common.{◌≡◌, ℕ, ◌+◌, ◌≤◌, ℤ, Bool, true, false, ◌||◌, List, [], ◌∷◌, ◌++◌, sym, refl, ap, ◌∙◌, ⊎_elim, arith, true≢false}
use Rattle.std.specs.Prelude.{if◌then◌else◌}
use Rattle.std.specs.Ordering.{int_eq}
use Rattle.std.proofs.lemmas.Bool.{cases_Bool, false_from_ne_true, or_parts}
use Rattle.std.proofs.lemmas.Bool.Decides.{Decides-int_eq}
use Rattle.sn_tree.specs.declared.node.NodeKind.{NodeKind}
use Rattle.sn_tree.specs.declared.node.AddAction.{AddAction}
use Rattle.sn_tree.specs.declared.node.AddAction.TheVariants.{Head, Tail, Before, After}
use Rattle.sn_tree.specs.Trees.{Label, Nodes, none, node, holds, ids, joined, beside, put, leaf, subtree, without, changed, with_running, has_top, last_top, without_last, shares, without_first}
use Rattle.sn_tree.specs.Steps.{occurrences, AllDistinct}
use Rattle.sn_tree.specs.Kept.{EachDistinct}

pub occurrences-append : {A : Type 0} (same : A → A → Bool) (x : A) (xs ys : List A) → occurrences same x (xs ++ ys) ≡ occurrences same x xs + occurrences same x ys
occurrences-append same x [] ys = omega arith
occurrences-append same x (y ∷ xs) ys = omega (arith, occurrences-append same x xs ys)

module _ {P : Type 0} (x : ℤ) where
  abbrev occurs : Nodes P → ℕ
  occurs t = occurrences int_eq x (ids t)

  pub occurs-node : (label : Label P) (below after : Nodes P) → occurs (node label below after) ≡ (if int_eq label.id x then 1 else 0) + (occurs below + occurs after)
  occurs-node label below after = omega (arith, occurrences-append int_eq x (ids below) (ids after))

  occurs-joined : (s t : Nodes P) → occurs (joined s t) ≡ occurs s + occurs t
  occurs-joined none t = omega arith
  occurs-joined (node label below after) t = omega (arith, occurs-joined after t, occurs-node label below (joined after t), occurs-node label below after)

  occurs-beside : (action : AddAction) (new : Nodes P) (label : Label P) (below after : Nodes P) → occurs (beside action new label below after) ≡ occurs (node label below after) + occurs new
  occurs-beside Head new label below after = omega (arith, occurs-joined new below, occurs-node label (joined new below) after, occurs-node label below after)
  occurs-beside Tail new label below after = omega (arith, occurs-joined below new, occurs-node label (joined below new) after, occurs-node label below after)
  occurs-beside Before new label below after = omega (arith, occurs-joined new (node label below after))
  occurs-beside After new label below after = omega (arith, occurs-joined new after, occurs-node label below (joined new after), occurs-node label below after)

  pub occurs-put : (action : AddAction) (target : ℤ) (new t : Nodes P) → occurs (put action target new t) ≤ occurs t + occurs new
  occurs-put action target new none = omega arith
  occurs-put action target new (node label below after) =
      ⊎_elim
      (λ (n : int_eq label.id target ≡ true). rw n (omega (arith, occurs-beside action new label below after)))
      (λ (n : int_eq label.id target ≡ false). ⊎_elim
      (λ (i : holds target below ≡ true). rw (n, i) (omega (arith, occurs-put action target new below, occurs-node label (put action target new below) after, occurs-node label below after)))
      (λ (i : holds target below ≡ false). rw (n, i) (omega (arith, occurs-put action target new after, occurs-node label below (put action target new after), occurs-node label below after)))
      (cases_Bool (holds target below)))
      (cases_Bool (int_eq label.id target))

  pub occurs-parts : (id : ℤ) (t : Nodes P) → occurs (without id t) + occurs (subtree id t) ≡ occurs t
  occurs-parts id none = refl
  occurs-parts id (node label below after) =
      ⊎_elim
      (λ (n : int_eq label.id id ≡ true). rw n (omega (arith, occurs-node label below none, occurs-node label below after)))
      (λ (n : int_eq label.id id ≡ false). ⊎_elim
      (λ (i : holds id below ≡ true). rw (n, i) (omega (arith, occurs-parts id below, occurs-node label (without id below) after, occurs-node label below after)))
      (λ (i : holds id below ≡ false). rw (n, i) (omega (arith, occurs-parts id after, occurs-node label below (without id after), occurs-node label below after)))
      (cases_Bool (holds id below)))
      (cases_Bool (int_eq label.id id))

  pub occurs-set : (id : ℤ) (on : Bool) (t : Nodes P) → occurs (changed id (with_running on) t) ≡ occurs t
  occurs-set id on none = refl
  occurs-set id on (node label below after) =
      ⊎_elim
      (λ (n : int_eq label.id id ≡ true). rw n refl)
      (λ (n : int_eq label.id id ≡ false). ⊎_elim
      (λ (i : holds id below ≡ true). rw (n, i) (omega (arith, occurs-set id on below, occurs-node label (changed id (with_running on) below) after, occurs-node label below after)))
      (λ (i : holds id below ≡ false). rw (n, i) (omega (arith, occurs-set id on after, occurs-node label below (changed id (with_running on) after), occurs-node label below after)))
      (cases_Bool (holds id below)))
      (cases_Bool (int_eq label.id id))

  pub not_held : (t : Nodes P) → holds x t ≡ false → occurs t ≡ 0
  not_held none h = refl
  not_held (node label below after) h =
      let d = or_parts (int_eq label.id x) (holds x below || holds x after) h in
      let e = or_parts (holds x below) (holds x after) d.1 in
      let z : ◌≡◌ {A = ℕ} (if int_eq label.id x then 1 else 0) 0 = rw d.0 refl in
      omega (arith, occurs-node label below after, not_held below e.0, not_held after e.1)

-- a new id
pub distinct_leaf : {P : Type 0} (id : ℤ) (kind : NodeKind) (action : AddAction) (target : ℤ) (payload : P) (t : Nodes P) → holds id t ≡ false → AllDistinct int_eq (ids t) → AllDistinct int_eq (ids (put action target (leaf id kind payload) t))
distinct_leaf id kind action target payload t free h = λ x.
    ⊎_elim
    (λ (n : int_eq id x ≡ true).
    let same : id ≡ x = (Decides-int_eq id x).0 n in
    let zero_here : occurrences int_eq x (ids t) ≡ 0 = not_held x t (ap (λ y. holds y t) (sym same) ∙ free) in
    let one : ◌≡◌ {A = ℕ} (if int_eq id x then 1 else 0) 1 = rw n refl in
    omega (arith, occurs-put x action target (leaf id kind payload) t))
    (λ (n : int_eq id x ≡ false).
    let none_here : ◌≡◌ {A = ℕ} (if int_eq id x then 1 else 0) 0 = rw n refl in
    omega (arith, occurs-put x action target (leaf id kind payload) t, h x))
    (cases_Bool (int_eq id x))

-- detached subtrees

module _ {P : Type 0} where
  pub each_within : (t : Nodes P) → AllDistinct int_eq (ids t) → EachDistinct t
  each_within none h = tt
  each_within (node label below after) h = (
    λ x. omega (arith, occurs-node x label below none, occurs-node x label below after, h x),
    each_within after (λ x. omega (arith, occurs-node x label below after, h x)),
  )

  pub each_joined : (s t : Nodes P) → EachDistinct s → EachDistinct t → EachDistinct (joined s t)
  each_joined none t g h = h
  each_joined (node label below after) t g h = (g.0, each_joined after t g.1 h)

  pub each_detached : (id : ℤ) (t d : Nodes P) → AllDistinct int_eq (ids t) → EachDistinct d → EachDistinct (joined d (subtree id t))
  each_detached id t d h g = each_joined d (subtree id t) g (each_within (subtree id t) (λ x. omega (arith, occurs-parts x id t, h x)))

  pub each_freed : (d : Nodes P) → EachDistinct d → EachDistinct (without_first d)
  each_freed none g = tt
  each_freed (node label below after) g = each_joined below after (each_within below (λ x. omega (arith, occurs-node x label below none, g.0 x))) g.1

  pub each_left : (id : ℤ) (d : Nodes P) → EachDistinct d → EachDistinct (without_last id d)
  each_left id none g = tt
  each_left id (node label below after) g =
      ⊎_elim
      (λ (n : has_top id after ≡ true). rw n (g.0, each_left id after g.1))
      (λ (n : has_top id after ≡ false). ⊎_elim
      (λ (i : int_eq label.id id ≡ true). rw (n, i) g.1)
      (λ (i : int_eq label.id id ≡ false). rw (n, i) g)
      (cases_Bool (int_eq label.id id)))
      (cases_Bool (has_top id after))

  pub last_distinct : (id : ℤ) (d : Nodes P) → EachDistinct d → AllDistinct int_eq (ids (last_top id d))
  last_distinct id none g = λ x. omega arith
  last_distinct id (node label below after) g =
      ⊎_elim
      (λ (n : has_top id after ≡ true). rw n (last_distinct id after g.1))
      (λ (n : has_top id after ≡ false). ⊎_elim
      (λ (i : int_eq label.id id ≡ true). rw (n, i) g.0)
      (λ (i : int_eq label.id id ≡ false). rw (n, i) (λ x. omega arith))
      (cases_Bool (int_eq label.id id)))
      (cases_Bool (has_top id after))

  -- nodes of which no id is one of others
  not_shared : (x : ℤ) (s t : Nodes P) → shares s t ≡ false → holds x t ≡ true → occurrences int_eq x (ids s) ≡ 0
  not_shared x none t h k = refl
  not_shared x (node label below after) t h k =
      let d = or_parts (holds label.id t) (shares below t || shares after t) h in
      let e = or_parts (shares below t) (shares after t) d.1 in
      let other : int_eq label.id x ≡ false = false_from_ne_true (int_eq label.id x) (λ (n : int_eq label.id x ≡ true).
      let same : label.id ≡ x = (Decides-int_eq label.id x).0 n in
      true≢false (sym k ∙ (ap (λ y. holds y t) (sym same) ∙ d.0))) in
      let z : ◌≡◌ {A = ℕ} (if int_eq label.id x then 1 else 0) 0 = rw other refl in
      omega (arith, occurs-node x label below after, not_shared x below t e.0 k, not_shared x after t e.1 k)

  pub distinct_attached : (action : AddAction) (target : ℤ) (new t : Nodes P) → shares new t ≡ false → AllDistinct int_eq (ids new) → AllDistinct int_eq (ids t) → AllDistinct int_eq (ids (put action target new t))
  distinct_attached action target new t apart g h = λ x.
      ⊎_elim
      (λ (k : holds x t ≡ true). omega (arith, occurs-put x action target new t, not_shared x new t apart k, h x))
      (λ (k : holds x t ≡ false). omega (arith, occurs-put x action target new t, not_held x t k, g x))
      (cases_Bool (holds x t))
