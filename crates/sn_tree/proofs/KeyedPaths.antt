-- What a change by id makes of nodes with a hole: it goes through the path, whose nodes have other ids.
use Rattle.std.proofs.Common.{◌≡◌, ℕ, ◌+◌, ◌≤◌, ℤ, Bool, true, false, ◌||◌, Some, sym, refl, ap, ◌∙◌, ⊎_elim, arith}
use Rattle.std.specs.Prelude.{if◌then◌else◌}
use Rattle.std.specs.Ordering.{int_eq}
use Rattle.std.proofs.lemmas.Bool.{cases_Bool}
use Rattle.sn_forest.specs.Trees.{Trees, none, tree}
use Rattle.sn_forest.proofs.Keys.{some_or_none}
use Rattle.sn_forest.proofs.Paths.{Path, top, under, beside, plug}
use Rattle.sn_tree.specs.declared.item.Item.{Item}
use Rattle.sn_tree.specs.declared.node.AddAction.{AddAction}
use Rattle.sn_tree.specs.Trees.{Label, Nodes, none as no_nodes, node, holds, label_of, subtree, without, put, changed, beside as beside_it}
use Rattle.sn_tree.specs.Order.{Key}
use Rattle.sn_tree.specs.Keyed.{label_by, labels, counted, names}

pub counted_none : (b : Bool) → counted b ≡ 0 → b ≡ false
counted_none true z = absurd (omega (arith, z))
counted_none false z = refl

pub counted_one : (b : Bool) → b ≡ true → counted b ≡ 1
counted_one b e = ap counted e

pub counted_zero : (b : Bool) → b ≡ false → counted b ≡ 0
counted_zero b e = ap counted e

or_right : (a b : Bool) → b ≡ true → (a || b) ≡ true
or_right true b h = refl
or_right false b h = h

-- whether an id is held, by how many nodes have it
pub not_held : (id : ℤ) (t : Trees Item) → names id t ≡ 0 → holds id (labels t) ≡ false
not_held id none z = refl
not_held id (tree key item below after) z =
    (λ i. counted_none (int_eq item.id id) (omega (arith, z)) i || (not_held id below (omega (arith, z)) i || not_held id after (omega (arith, z)) i))

pub is_held : (id : ℤ) (t : Trees Item) → 1 ≤ names id t → holds id (labels t) ≡ true
is_held id none h = absurd (omega (arith, h))
is_held id (tree key item below after) h =
    ⊎_elim
    (λ (e : int_eq item.id id ≡ true). ap (λ b. b || (holds id (labels below) || holds id (labels after))) e)
    (λ (e : int_eq item.id id ≡ false).
    ap (λ b. b || (holds id (labels below) || holds id (labels after))) e
    ∙ ⊎_elim
    (λ (u : 1 ≤ names id below). ap (λ b. b || holds id (labels after)) (is_held id below u))
    (λ (u : names id below ≤ 0). or_right (holds id (labels below)) (holds id (labels after)) (is_held id after (omega (arith, h, u, counted_zero (int_eq item.id id) e))))
    (some_or_none (names id below)))
    (cases_Bool (int_eq item.id id))

abbrev pub plug_labels : Path Item → Nodes Key → Nodes Key
plug_labels top n = n
plug_labels (under key item after p) n = plug_labels p (node (label_by item) n (labels after))
plug_labels (beside key item below p) n = plug_labels p (node (label_by item) (labels below) n)

pub labels-plug : (p : Path Item) (t : Trees Item) → labels (plug p t) ≡ plug_labels p (labels t)
labels-plug top t = refl
labels-plug (under key item after p) t = labels-plug p (tree key item t after)
labels-plug (beside key item below p) t = labels-plug p (tree key item below t)

abbrev pub path_names : ℤ → Path Item → ℕ
path_names id top = 0
path_names id (under key item after p) = counted (int_eq item.id id) + (names id after + path_names id p)
path_names id (beside key item below p) = counted (int_eq item.id id) + (names id below + path_names id p)

pub names-plug : (id : ℤ) (p : Path Item) (t : Trees Item) → names id (plug p t) ≡ path_names id p + names id t
names-plug id top t = omega arith
names-plug id (under key item after p) t = omega (arith, names-plug id p (tree key item t after))
names-plug id (beside key item below p) t = omega (arith, names-plug id p (tree key item below t))

-- a change of the node with an id
module _ (F : Nodes Key → Nodes Key) (id : ℤ)
    (step : (label : Label Key) (below after : Nodes Key) → int_eq label.id id ≡ false → F (node label below after) ≡ (if holds id below then node label (F below) after else node label below (F after))) where
  pub id_passes : (p : Path Item) (t : Trees Item) → 1 ≤ names id t → path_names id p ≡ 0 → F (plug_labels p (labels t)) ≡ plug_labels p (F (labels t))
  id_passes top t h z = refl
  id_passes (under key item after p) t h z =
      id_passes p (tree key item t after) (omega (arith, h)) (omega (arith, z))
      ∙ ap (plug_labels p) (step (label_by item) (labels t) (labels after) (counted_none (int_eq item.id id) (omega (arith, z)))
      ∙ ap (λ b. if b then node (label_by item) (F (labels t)) (labels after) else node (label_by item) (labels t) (F (labels after))) (is_held id t h))
  id_passes (beside key item below p) t h z =
      id_passes p (tree key item below t) (omega (arith, h)) (omega (arith, z))
      ∙ ap (plug_labels p) (step (label_by item) (labels below) (labels t) (counted_none (int_eq item.id id) (omega (arith, z)))
      ∙ ap (λ b. if b then node (label_by item) (F (labels below)) (labels t) else node (label_by item) (labels below) (F (labels t))) (not_held id below (omega (arith, z))))

-- what is found at the node with an id
module _ {A : Type 0} (G : Nodes Key → A) (id : ℤ)
    (step : (label : Label Key) (below after : Nodes Key) → int_eq label.id id ≡ false → G (node label below after) ≡ (if holds id below then G below else G after)) where
  pub id_finds : (p : Path Item) (t : Trees Item) → 1 ≤ names id t → path_names id p ≡ 0 → G (plug_labels p (labels t)) ≡ G (labels t)
  id_finds top t h z = refl
  id_finds (under key item after p) t h z =
      id_finds p (tree key item t after) (omega (arith, h)) (omega (arith, z))
      ∙ (step (label_by item) (labels t) (labels after) (counted_none (int_eq item.id id) (omega (arith, z))) ∙ ap (λ b. if b then G (labels t) else G (labels after)) (is_held id t h))
  id_finds (beside key item below p) t h z =
      id_finds p (tree key item below t) (omega (arith, h)) (omega (arith, z))
      ∙ (step (label_by item) (labels below) (labels t) (counted_none (int_eq item.id id) (omega (arith, z))) ∙ ap (λ b. if b then G (labels below) else G (labels t)) (not_held id below (omega (arith, z))))

-- the node with an id, at the end of its path
module _ (id : ℤ) (p : Path Item) (key : ℕ) (item : Item) (below after : Trees Item) (is : int_eq item.id id ≡ true) (z : path_names id p ≡ 0) where
  there : 1 ≤ names id (tree key item below after)
  there = omega (arith, counted_one (int_eq item.id id) is)

  abbrev whole : Trees Item
  whole = plug p (tree key item below after)

  pub id_without : without id (labels whole) ≡ labels (plug p after)
  id_without =
      ap (without id) (labels-plug p (tree key item below after))
      ∙ (id_passes (without id) id (λ l b a n. ap (λ t. if t then a else if holds id b then node l (without id b) a else node l b (without id a)) n) p (tree key item below after) there z
      ∙ (ap (λ t. plug_labels p (if t then labels after else if holds id (labels below) then node (label_by item) (without id (labels below)) (labels after) else node (label_by item) (labels below) (without id (labels after)))) is
      ∙ sym (labels-plug p after)))

  pub id_subtree : subtree id (labels whole) ≡ labels (tree key item below none)
  id_subtree =
      ap (subtree id) (labels-plug p (tree key item below after))
      ∙ (id_finds (subtree id) id (λ l b a n. ap (λ t. if t then node l b no_nodes else if holds id b then subtree id b else subtree id a) n) p (tree key item below after) there z
      ∙ ap (λ t. if t then labels (tree key item below none) else if holds id (labels below) then subtree id (labels below) else subtree id (labels after)) is)

  pub id_label : label_of id (labels whole) ≡ Some (label_by item)
  id_label =
      ap (label_of id) (labels-plug p (tree key item below after))
      ∙ (id_finds (label_of id) id (λ l b a n. ap (λ t. if t then Some l else if holds id b then label_of id b else label_of id a) n) p (tree key item below after) there z
      ∙ ap (λ t. if t then Some (label_by item) else if holds id (labels below) then label_of id (labels below) else label_of id (labels after)) is)

  pub id_put : (action : AddAction) (new : Nodes Key) → put action id new (labels whole) ≡ plug_labels p (beside_it action new (label_by item) (labels below) (labels after))
  id_put action new =
      ap (put action id new) (labels-plug p (tree key item below after))
      ∙ (id_passes (put action id new) id (λ l b a n. ap (λ t. if t then beside_it action new l b a else if holds id b then node l (put action id new b) a else node l b (put action id new a)) n) p (tree key item below after) there z
      ∙ ap (λ t. plug_labels p (if t then beside_it action new (label_by item) (labels below) (labels after) else if holds id (labels below) then node (label_by item) (put action id new (labels below)) (labels after) else node (label_by item) (labels below) (put action id new (labels after)))) is)

  pub id_changed : (change : Label Key → Label Key) → changed id change (labels whole) ≡ plug_labels p (node (change (label_by item)) (labels below) (labels after))
  id_changed change =
      ap (changed id change) (labels-plug p (tree key item below after))
      ∙ (id_passes (changed id change) id (λ l b a n. ap (λ t. if t then node (change l) b a else if holds id b then node l (changed id change b) a else node l b (changed id change a)) n) p (tree key item below after) there z
      ∙ ap (λ t. plug_labels p (if t then node (change (label_by item)) (labels below) (labels after) else if holds id (labels below) then node (label_by item) (changed id change (labels below)) (labels after) else node (label_by item) (labels below) (changed id change (labels after)))) is)
