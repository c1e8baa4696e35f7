-- Detached subtrees, which stand beside each other.
use Rattle.std.proofs.Common.{◌≡◌, ℕ, ℤ, Bool, true, false, ◌||◌, sym, refl, ap, ◌∙◌}
use Rattle.std.specs.Prelude.{if◌then◌else◌}
use Rattle.std.specs.Ordering.{int_eq}
use Rattle.sn_forest.specs.Trees.{Trees, none, tree}
use Rattle.sn_forest.proofs.Paths.{Path, top, under, beside, plug}
use Rattle.sn_tree.specs.Trees.{none as no_nodes, node, has_top, last_top, without_last}
use Rattle.sn_tree.specs.declared.item.Item.{Item}
use Rattle.sn_tree.specs.Keyed.{label_by, labels}
use Rattle.sn_tree.proofs.KeyedPaths.{plug_labels, labels-plug}

-- the hole is on the top level
abbrev pub IsLevel : Path Item → Type 0
IsLevel top = Unit {0}
IsLevel (under key item after p) = ⊥
IsLevel (beside key item below p) = IsLevel p

or_last : (a b : Bool) → b ≡ true → (a || b) ≡ true
or_last true b h = refl
or_last false b h = h

-- what is found among the trees from the hole on is found among all
pub record OnLevel (id : ℤ) (p : Path Item) (t : Trees Item) : Type 0 where
  pub has : has_top id (labels (plug p t)) ≡ true
  pub last : last_top id (labels (plug p t)) ≡ last_top id (labels t)
  pub rest : without_last id (labels (plug p t)) ≡ plug_labels p (without_last id (labels t))

pub on_level : (id : ℤ) (p : Path Item) (t : Trees Item) → IsLevel p → has_top id (labels t) ≡ true → OnLevel id p t
on_level id top t l h = record { has = h; last = refl; rest = refl }
on_level id (under key item after p) t l h = absurd l
on_level id (beside key item below p) t l h =
    let o : OnLevel id p (tree key item below t) = on_level id p (tree key item below t) l (or_last (int_eq item.id id) (has_top id (labels t)) h) in
    record {
      has = o.has;
      last = o.last ∙ ap (λ b. if b then last_top id (labels t) else if int_eq item.id id then node (label_by item) (labels below) no_nodes else no_nodes) h;
      rest = o.rest
          ∙ ap (λ b. plug_labels p (if b then node (label_by item) (labels below) (without_last id (labels t)) else if int_eq item.id id then labels t else node (label_by item) (labels below) (labels t))) h;
    }

-- the last tree with an id, by its path
pub last_at : (id : ℤ) (p : Path Item) (key : ℕ) (item : Item) (below after : Trees Item) → IsLevel p → int_eq item.id id ≡ true → has_top id (labels after) ≡ false
    → (last_top id (labels (plug p (tree key item below after))) ≡ labels (tree key item below none)) × (without_last id (labels (plug p (tree key item below after))) ≡ labels (plug p after))
last_at id p key item below after l is free =
    let has : has_top id (labels (tree key item below after)) ≡ true = ap (λ b. b || has_top id (labels after)) is in
    let o : OnLevel id p (tree key item below after) = on_level id p (tree key item below after) l has in
    let here : last_top id (labels (tree key item below after)) ≡ labels (tree key item below none) =
    (λ i. if free i then last_top id (labels after) else if is i then node (label_by item) (labels below) no_nodes else no_nodes) in
    let left : without_last id (labels (tree key item below after)) ≡ labels after =
    (λ i. if free i then node (label_by item) (labels below) (without_last id (labels after)) else if is i then labels after else node (label_by item) (labels below) (labels after)) in
    (o.last ∙ here, o.rest ∙ (ap (plug_labels p) left ∙ sym (labels-plug p after)))
