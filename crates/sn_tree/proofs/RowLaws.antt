-- The first of the nodes that are left of a walk.
use Rattle.std.proofs.Common.{◌≡◌, ℕ, [], ◌∷◌, ◌++◌, Option, Some, None, sym, refl, ap, ◌∙◌, append_assoc}
use Rattle.sn_forest.specs.Trees.{Trees, none, tree, joined}
use Rattle.sn_forest.specs.Walking.{behind_node}
use Rattle.sn_tree.specs.declared.item.Item.{Item}
use Rattle.sn_tree.specs.Keyed.{rows_of, first_row}

-- the first node, what is below it, and what comes after that
pub record Begins (t : Trees Item) (key : ℕ) (item : Item) : Type 0 where
  pub below : Trees Item
  pub after : Trees Item
  pub is : t ≡ tree key item below after

pub begins : (t : Trees Item) (key : ℕ) (item : Item) → Some (key, item) ≡ first_row t → Begins t key item
begins none key item e = absurd cc
begins (tree k i below after) key item e =
    record { below = below; after = after; is = (λ j. tree (ap (λ (p : ℕ × Item). p.0) (pair_is e) j) (ap (λ (p : ℕ × Item). p.1) (pair_is e) j) below after) }
  where
    pair_is : ◌≡◌ {A = Option (ℕ × Item)} (Some (key, item)) (Some (k, i)) → ◌≡◌ {A = ℕ × Item} (k, i) (key, item)
    pair_is e = cc

pub no_first : (t : Trees Item) → None ≡ first_row t → t ≡ none
no_first none e = refl
no_first (tree key item below after) e = absurd cc

pub rows-joined : (s t : Trees Item) → rows_of (joined s t) ≡ rows_of s ++ rows_of t
rows-joined none t = refl
rows-joined (tree key item below after) t =
    ap (λ l. (key, item) ∷ (rows_of below ++ l)) (rows-joined after t) ∙ ap (λ l. (key, item) ∷ l) (sym (append_assoc (rows_of below) (rows_of after) (rows_of t)))

pub rows_end : (t : Trees Item) → None ≡ first_row t → rows_of t ≡ []
rows_end t e = ap rows_of (no_first t e)

pub rows_next : (t now : Trees Item) (key : ℕ) (item : Item) → Some (key, item) ≡ first_row t → now ≡ behind_node t → rows_of t ≡ (key, item) ∷ rows_of now
rows_next t now key item e f =
    let b : Begins t key item = begins t key item e in
    ap rows_of b.is ∙ ap (λ l. (key, item) ∷ l) (sym (ap rows_of (f ∙ ap behind_node b.is) ∙ rows-joined b.below b.after))
