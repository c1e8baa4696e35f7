-- Whether ids of a subtree are in the index, and how many nodes it has.
use Rattle.std.proofs.Common.{◌≡◌, ℕ, ◌+◌, ◌<◌, ◌≤◌, ℤ, Bool, true, false, ◌||◌, Option, Some, None, is_some, sym, refl, ap, ◌∙◌, subst, arith}
use Rattle.sn_forest.specs.Trees.{Trees, none, tree, uses, count, first_key, joined, subtree, value_of}
use Rattle.sn_forest.specs.Walking.{from, behind_node}
use Rattle.sn_forest.proofs.Keys.{count-joined}
use Rattle.sn_forest.proofs.Walking.{none_first, some_first}
use Rattle.sn_ids.specs.Pairs.{Pairs, Table, key_for}
use Rattle.sn_tree.specs.Trees.{holds, shares}
use Rattle.sn_tree.specs.declared.item.Item.{Item}
use Rattle.sn_tree.specs.Keyed.{labels, front, left_at, meets}
use Rattle.sn_tree.specs.Stored.{IsStored}
use Rattle.sn_tree.proofs.StoredLaws.{found_stored, missing_stored}
use Rattle.sn_tree.proofs.Stopping.{Stop, stop, next_used, top_from, top_first, top_used}
use Rattle.sn_tree.proofs.LabelLaws.{named_held}

or_joined : (a b c d : Bool) → (a || (b || (c || d))) ≡ ((a || (b || c)) || d)
or_joined true b c d = refl
or_joined false true c d = refl
or_joined false false c d = refl

pub meets-joined : (pairs : Pairs) (s t : Trees Item) → meets pairs (joined s t) ≡ (meets pairs s || meets pairs t)
meets-joined pairs none t = refl
meets-joined pairs (tree key item below after) t =
    ap (λ b. is_some (key_for item.id pairs) || (meets pairs below || b)) (meets-joined pairs after t)
    ∙ or_joined (is_some (key_for item.id pairs)) (meets pairs below) (meets pairs after) (meets pairs t)

-- an id is in the index if it is that of an attached node
pub held_stored : (t : Trees Item) (ids : Table) (id : ℤ) → IsStored t ids → is_some (key_for id ids.pairs) ≡ holds id (labels (front t))
held_stored t ids id h = by_option (key_for id ids.pairs) refl
  where
    by_option : (o : Option ℕ) → o ≡ key_for id ids.pairs → is_some o ≡ holds id (labels (front t))
    by_option None e = sym (missing_stored t ids id h e)
    by_option (Some key) e = sym (named_held t id key (found_stored t ids id key h e))

pub meets_shares : (t : Trees Item) (ids : Table) → IsStored t ids → (s : Trees Item) → meets ids.pairs s ≡ shares (labels s) (labels (front t))
meets_shares t ids h none = refl
meets_shares t ids h (tree key item below after) =
    (λ i. held_stored t ids item.id h i || (meets_shares t ids h below i || meets_shares t ids h after i))

-- none of the ids that a walk has passed is in the index, and so many were passed
pub record IsCounting (trees : Trees Item) (top : ℕ) (pairs : Pairs) (next : Option ℕ) (n : ℕ) : Type 0 where
  pub number : n + count (left_at next (subtree top trees)) ≡ count (subtree top trees)
  pub free : meets pairs (subtree top trees) ≡ meets pairs (left_at next (subtree top trees))
  pub begins : first_key (left_at next (subtree top trees)) ≡ next
  pub node : (key : ℕ) → next ≡ Some key → 1 ≤ uses key (subtree top trees)

module _ (trees : Trees Item) (top : ℕ) (pairs : Pairs) (once : (j : ℕ) → uses j trees ≤ 1) (u : 1 ≤ uses top trees) where
  pub count_start : IsCounting trees top pairs (Some top) 0
  count_start =
      let all : from top (subtree top trees) ≡ subtree top trees = top_from trees top once u in
      record {
        number = omega (arith, ap (λ (t : Trees Item). count t) all);
        free = ap (meets pairs) (sym all);
        begins = ap first_key all ∙ top_first trees top once u;
        node = λ key e. subst (λ x. 1 ≤ uses x (subtree top trees)) (some_first top key e) (top_used trees top once u);
      }

  module _ (n key : ℕ) (h : IsCounting trees top pairs (Some key) n) where
    abbrev s : Stop trees top key
    s = stop trees top key once u (h.node key refl)

    -- an id is in the index
    pub count_found : (b : Bool) → ((item : Item) → value_of key trees ≡ Some item → b ≡ is_some (key_for item.id pairs)) → b ≡ true → meets pairs (subtree top trees) ≡ true
    count_found b told e =
        let here : is_some (key_for s.value.id pairs) ≡ true = sym (told s.value s.held) ∙ e in
        h.free ∙ (ap (meets pairs) s.from_there ∙ ap (λ x. x || (meets pairs s.below || meets pairs s.rest)) here)

    pub count_few : n < count (subtree top trees)
    count_few = omega (arith, h.number, ap (λ (t : Trees Item). count t) s.from_there)

    pub count_next : (b : Bool) (next : Option ℕ) → ((item : Item) → value_of key trees ≡ Some item → b ≡ is_some (key_for item.id pairs)) → b ≡ false → next ≡ first_key (behind_node (from key (subtree top trees)))
        → IsCounting trees top pairs next (n + 1) × (count (left_at next (subtree top trees)) < count (from key (subtree top trees)))
    count_next b next told e f =
        let here : is_some (key_for s.value.id pairs) ≡ false = sym (told s.value s.held) ∙ e in
        let is : next ≡ first_key (joined s.below s.rest) = f ∙ ap (λ t. first_key (behind_node t)) s.from_there in
        let left : left_at next (subtree top trees) ≡ joined s.below s.rest = left_is next is in (
          record {
            number = omega (arith, h.number, ap (λ (t : Trees Item). count t) s.from_there, ap (λ (t : Trees Item). count t) left, count-joined s.below s.rest);
            free = h.free ∙ (ap (meets pairs) s.from_there ∙ (ap (λ x. x || (meets pairs s.below || meets pairs s.rest)) here ∙ (sym (meets-joined pairs s.below s.rest) ∙ ap (meets pairs) (sym left))));
            begins = ap first_key left ∙ sym is;
            node = λ m g. next_used trees top key s m (sym is ∙ g);
          },
          omega (arith, ap (λ (t : Trees Item). count t) left, ap (λ (t : Trees Item). count t) s.from_there, count-joined s.below s.rest),
        )
      where
        no_trees : (t : Trees Item) → None ≡ first_key t → none ≡ t
        no_trees none e = refl
        no_trees (tree k v b a) e = absurd (none_first k e)

        left_is : (next : Option ℕ) → next ≡ first_key (joined s.below s.rest) → left_at next (subtree top trees) ≡ joined s.below s.rest
        left_is None e = no_trees (joined s.below s.rest) e
        left_is (Some m) e = s.on m (sym e)
