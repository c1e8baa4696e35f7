-- Trees with a hole, and the way from the hole up to the top.
use Rattle.std.proofs.Common.{◌≡◌, ◌≢◌, ℕ, ◌+◌, ◌≤◌, true, false, List, Option, Some, None, ap, ⊎_elim, arith}
use Rattle.std.specs.Prelude.{◌==◌}
use Rattle.std.proofs.lemmas.Bool.Decides.{eqb_tells}
use Rattle.sn_forest.specs.declared.slot.Slot.{Slot}
use Rattle.sn_forest.specs.Trees.{Trees, none, tree, one_at, count, uses, first_key, last_key}
use Rattle.sn_forest.specs.Links.{slot_at}
use Rattle.sn_forest.specs.Linked.{slot_for, Linked}
use Rattle.sn_forest.proofs.Keys.{one_other, some_or_none}

-- where a hole is: on the top level before all trees; below a node, which these trees follow; or after a node, with
-- these trees below it
pub data Path (T : Type 0) : Type 0 where
  top : Path T
  under : ℕ → T → Trees T → Path T → Path T
  beside : ℕ → T → Trees T → Path T → Path T

module _ {T : Type 0} where
  -- the trees with the hole filled
  abbrev pub plug : Path T → Trees T → Trees T
  plug top t = t
  plug (under key value after p) t = plug p (tree key value t after)
  plug (beside key value below p) t = plug p (tree key value below t)

  -- the node that the hole is below
  abbrev pub parent_of : Path T → Option ℕ
  parent_of top = None
  parent_of (under key value after p) = Some key
  parent_of (beside key value below p) = parent_of p

  -- the node just before the hole
  abbrev pub previous_of : Path T → Option ℕ
  previous_of top = None
  previous_of (under key value after p) = None
  previous_of (beside key value below p) = Some key

  abbrev pub path_uses : ℕ → Path T → ℕ
  path_uses k top = 0
  path_uses k (under key value after p) = one_at key k + (uses k after + path_uses k p)
  path_uses k (beside key value below p) = one_at key k + (uses k below + path_uses k p)

  abbrev pub path_count : Path T → ℕ
  path_count top = 0
  path_count (under key value after p) = 1 + (count after + path_count p)
  path_count (beside key value below p) = 1 + (count below + path_count p)

  -- each node of the path has its slot, if the trees from the hole on begin with the key `first`, and the level of the
  -- hole ends with the key `last`; the top level ends with the key `end`
  abbrev pub LinkedPath : List (Option (Slot T)) → Option ℕ → Path T → Option ℕ → Option ℕ → Type 0
  LinkedPath slots end top first last = end ≡ last
  LinkedPath slots end (under key value after p) first last =
      (slot_at slots key ≡ Some (slot_for value (parent_of p) (previous_of p) (first_key after) first last))
      × Linked slots (parent_of p) (Some key) after
      × LinkedPath slots end p (Some key) (last_key (Some key) after)
  LinkedPath slots end (beside key value below p) first last =
      (slot_at slots key ≡ Some (slot_for value (parent_of p) (previous_of p) first (first_key below) (last_key None below)))
      × Linked slots (Some key) None below
      × LinkedPath slots end p (Some key) last

  pub uses-plug : (k : ℕ) (p : Path T) (t : Trees T) → uses k (plug p t) ≡ path_uses k p + uses k t
  uses-plug k top t = omega arith
  uses-plug k (under key value after p) t = omega (arith, uses-plug k p (tree key value t after))
  uses-plug k (beside key value below p) t = omega (arith, uses-plug k p (tree key value below t))

  pub count-plug : (p : Path T) (t : Trees T) → count (plug p t) ≡ path_count p + count t
  count-plug top t = omega arith
  count-plug (under key value after p) t = omega (arith, count-plug p (tree key value t after))
  count-plug (beside key value below p) t = omega (arith, count-plug p (tree key value below t))

  -- slots stand for the path and for what fills the hole
  pub path_linked : (slots : List (Option (Slot T))) (end : Option ℕ) (p : Path T) (t : Trees T)
      → Linked slots None None (plug p t) → end ≡ last_key None (plug p t)
      → LinkedPath slots end p (first_key t) (last_key (previous_of p) t) × Linked slots (parent_of p) (previous_of p) t
  path_linked slots end top t h e = (e, h)
  path_linked slots end (under key value after p) t h e =
      let r = path_linked slots end p (tree key value t after) h e in
      ((r.1.0, r.1.2, r.0), r.1.1)
  path_linked slots end (beside key value below p) t h e =
      let r = path_linked slots end p (tree key value below t) h e in
      ((r.1.0, r.1.1, r.0), r.1.2)

  pub linked_path : (slots : List (Option (Slot T))) (end : Option ℕ) (p : Path T) (t : Trees T)
      → LinkedPath slots end p (first_key t) (last_key (previous_of p) t) → Linked slots (parent_of p) (previous_of p) t
      → Linked slots None None (plug p t) × (end ≡ last_key None (plug p t))
  linked_path slots end top t e h = (h, e)
  linked_path slots end (under key value after p) t e h = linked_path slots end p (tree key value t after) e.2 (e.0, h, e.1)
  linked_path slots end (beside key value below p) t e h = linked_path slots end p (tree key value below t) e.2 (e.0, e.1, h)

  -- the node of a key, and the way to it
  pub record Found (k : ℕ) (trees : Trees T) : Type 0 where
    pub path : Path T
    pub value : T
    pub below : Trees T
    pub after : Trees T
    pub is : trees ≡ plug path (tree k value below after)

  pub found : (k : ℕ) (p : Path T) (t : Trees T) → 1 ≤ uses k t → Found k (plug p t)
  found k p none h = absurd (omega arith)
  found k p (tree key value below after) h =
      ⊎_elim
      (λ (q : ((key == k) ≡ true) × (key ≡ k)).
      record { path = p; value = value; below = below; after = after; is = ap (λ x. plug p (tree x value below after)) q.1 })
      (λ (q : ((key == k) ≡ false) × (key ≢ k)).
      ⊎_elim
      (λ (b : 1 ≤ uses k below). found k (under key value after p) below b)
      (λ (b : uses k below ≤ 0). found k (beside key value below p) after (omega (arith, b, h, one_other key k q.1)))
      (some_or_none (uses k below)))
      (eqb_tells key k)
