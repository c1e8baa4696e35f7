-- Payloads changed in a node and in all nodes below it.
use Rattle.std.proofs.Common.{◌≡◌, ◌≢◌, ◌||◌, ◌+◌, ◌<◌, ◌≤◌, ℤ, Bool, true, false, List, [], ◌∷◌, ◌++◌, Option, Some, None, sym, refl, ap, ◌∙◌, subst, ⊎_elim, arith}
use Rattle.std.specs.Prelude.{◌==◌, is_some, slice_index_or, if◌then◌else◌}
use Rattle.std.specs.Ordering.{int_eq}
use Rattle.std.proofs.lemmas.Bool.{cases_Bool, or_parts}
use Rattle.std.proofs.lemmas.Bool.Decides.{eqb_tells}
use Rattle.sn_tree.specs.Trees.{Nodes, none, node, holds, subtree, without, with_payloads}
use Rattle.sn_tree.specs.Order.{Key}
use Rattle.sn_forest.specs.Trees.{Trees, none as none_trees, tree as tree_node}
use Rattle.sn_tree.specs.declared.item.Item.{Item}
use Rattle.sn_tree.specs.Keyed.{labels, rows_of}
use Rattle.sn_tree.specs.Reading.{KeyedItems, hits_by, AreChangedBy}
use Rattle.sn_tree.specs.Arranged.{Arranged}
use Rattle.sn_tree.specs.Saving.{SavedNodes}
use Rattle.sn_tree.specs.Model.{NodeTree}
use Rattle.sn_tree.specs.Kept.{same_key, uses, payload_of, filled, IsFilled, journal_shown, shown}
use Rattle.sn_tree.specs.Reworking.{reworked, changed_below, repeated}
use Rattle.sn_tree.proofs.PayloadLaws.{holds-payloads}
use Rattle.sn_tree.proofs.Keeping.{agree, uses_here, uses-parts}

-- a node that is not there
pub no_subtree : {P : Type 0} (id : ℤ) (t : Nodes P) → holds id t ≡ false → subtree id t ≡ none
no_subtree id none h = refl
no_subtree id (node label below after) h =
    let d = or_parts (int_eq label.id id) (holds id below || holds id after) h in
    let b = or_parts (holds id below) (holds id after) d.1 in
    rw (d.0, b.0) (no_subtree id after b.1)

pub same_key_is : (a b : Key) → same_key a b ≡ true → a ≡ b
same_key_is None None h = refl
same_key_is None (Some b) h = cc
same_key_is (Some a) None h = cc
same_key_is (Some a) (Some b) h = ⊎_elim (λ (t : ((a == b) ≡ true) × (a ≡ b)). ap Some t.1) (λ (t : ((a == b) ≡ false) × (a ≢ b)). let bad : true ≡ false = sym h ∙ t.0 in cc) (eqb_tells a b)

-- how many rows have a key
hits-append : (key : Key) (xs ys : KeyedItems) → hits_by key (xs ++ ys) ≡ hits_by key xs + hits_by key ys
hits-append key [] ys = omega arith
hits-append key ((k, item) ∷ xs) ys = omega (arith, hits-append key xs ys)

hits-rows : (key : Key) (t : Trees Item) → hits_by key (rows_of t) ≡ uses key (labels t)
hits-rows key none_trees = refl
hits-rows key (tree_node k item below after) = omega (arith, hits-append key (rows_of below) (rows_of after), hits-rows key below, hits-rows key after)

-- what the change makes of the nodes

agree_twice : {P : Type 0} (change : P → P) (g g' : Key → P) (t : Nodes Key) → ((key : Key) → 0 < uses key t → g' key ≡ change (g key)) → with_payloads g' t ≡ with_payloads change (with_payloads g t)
agree_twice change g g' none h = refl
agree_twice change g g' (node label below after) h =
    λ i. node (record { id = label.id; kind = label.kind; running = label.running; payload = h label.payload (uses_here label below after) i })
    (agree_twice change g g' below (λ key u. h key (omega arith)) i) (agree_twice change g g' after (λ key u. h key (omega arith)) i)

pub reworked_is : {P : Type 0} (change : P → P) (g g' : Key → P) (id : ℤ) (t : Nodes Key)
    → ((key : Key) → 0 < uses key (subtree id t) → g' key ≡ change (g key))
    → ((key : Key) → 0 < uses key (without id t) → g' key ≡ g key)
    → with_payloads g' t ≡ reworked change id (with_payloads g t)
reworked_is change g g' id none h k = refl
reworked_is change g g' id (node label below after) h k =
    ⊎_elim
    (λ (n : int_eq label.id id ≡ true).
    let s : subtree id (node label below after) ≡ node label below none = rw n refl in
    let w : without id (node label below after) ≡ after = rw n refl in
    let hb : (key : Key) → 0 < uses key (node label below none) → g' key ≡ change (g key) = λ key u. h key (subst (λ x. 0 < uses key x) (sym s) u) in
    rw n (λ i. node (record { id = label.id; kind = label.kind; running = label.running; payload = hb label.payload (uses_here label below none) i })
    (agree_twice change g g' below (λ key u. hb key (omega arith)) i)
    (agree g' g after (λ key u. k key (subst (λ x. 0 < uses key x) (sym w) u)) i)))
    (λ (n : int_eq label.id id ≡ false). ⊎_elim
    (λ (i : holds id below ≡ true).
    let s : subtree id (node label below after) ≡ subtree id below = rw (n, i) refl in
    let w : without id (node label below after) ≡ node label (without id below) after = rw (n, i) refl in
    let kb : (key : Key) → 0 < uses key (node label (without id below) after) → g' key ≡ g key = λ key u. k key (subst (λ x. 0 < uses key x) (sym w) u) in
    let i' : holds id (with_payloads g below) ≡ true = holds-payloads g id below ∙ i in
    rw (n, i') (λ j. node (record { id = label.id; kind = label.kind; running = label.running; payload = kb label.payload (uses_here label (without id below) after) j })
    (reworked_is change g g' id below (λ key u. h key (subst (λ x. 0 < uses key x) (sym s) u)) (λ key u. kb key (omega arith)) j)
    (agree g' g after (λ key u. kb key (omega arith)) j)))
    (λ (i : holds id below ≡ false).
    let s : subtree id (node label below after) ≡ subtree id after = rw (n, i) refl in
    let w : without id (node label below after) ≡ node label below (without id after) = rw (n, i) refl in
    let kb : (key : Key) → 0 < uses key (node label below (without id after)) → g' key ≡ g key = λ key u. k key (subst (λ x. 0 < uses key x) (sym w) u) in
    let i' : holds id (with_payloads g below) ≡ false = holds-payloads g id below ∙ i in
    rw (n, i') (λ j. node (record { id = label.id; kind = label.kind; running = label.running; payload = kb label.payload (uses_here label below (without id after)) j })
    (agree g' g below (λ key u. kb key (omega arith)) j)
    (reworked_is change g g' id after (λ key u. h key (subst (λ x. 0 < uses key x) (sym s) u)) (λ key u. kb key (omega arith)) j)))
    (cases_Bool (holds id below)))
    (cases_Bool (int_eq label.id id))

filled_once : {P : Type 0} (slots : List (Option P)) (key : Key) → filled slots key ≤ 1
filled_once slots None = omega arith
filled_once slots (Some key) = there (is_some (slice_index_or slots key None))
  where
    there : (b : Bool) → (if b then 1 else 0) ≤ 1
    there true = omega arith
    there false = omega arith

module _ {P : Type 0} (change : P → P) (root : P) (slots : List (Option P)) (root' : P) (slots' : List (Option P)) (nodes : Arranged) (saved : Option SavedNodes) (tree : NodeTree P) (id : ℤ) (left : Trees Item)
    (view : shown root slots nodes saved ≡ tree) (closed : tree.journal ≡ None) (kept : IsFilled slots nodes) (value : labels left ≡ subtree id nodes.attached)
    (c : AreChangedBy change root slots root' slots' (rows_of left)) where
  hit : (key : Key) → hits_by key (rows_of left) ≡ uses key (subtree id nodes.attached)
  hit key = hits-rows key left ∙ ap (uses key) value

  whole : (key : Key) → (uses key (without id nodes.attached) + uses key (subtree id nodes.attached)) + uses key nodes.detached ≤ filled slots key
  whole key = omega (arith, uses-parts key id nodes.attached, kept.keys key)

  inside_changed : (key : Key) → 0 < uses key (subtree id nodes.attached) → payload_of root' slots' key ≡ change (payload_of root slots key)
  inside_changed key u =
      let one : hits_by key (rows_of left) ≡ 1 = omega (arith, hit key, u, whole key, filled_once slots key) in
      c.each key (omega (arith, whole key, u)) ∙ ap (λ n. repeated change n (payload_of root slots key)) one

  outside_kept : (key : Key) → 0 < uses key (without id nodes.attached) + uses key nodes.detached → payload_of root' slots' key ≡ payload_of root slots key
  outside_kept key u =
      let no : hits_by key (rows_of left) ≡ 0 = omega (arith, hit key, u, whole key, filled_once slots key) in
      c.each key (omega (arith, whole key, u)) ∙ ap (λ n. repeated change n (payload_of root slots key)) no

  no_journal : (s : Option SavedNodes) → journal_shown root slots nodes s ≡ None → journal_shown root' slots' nodes s ≡ None
  no_journal None h = refl
  no_journal (Some s) h = cc

  pub rework_shows : shown root' slots' nodes saved ≡ changed_below change id tree
  rework_shows =
      let a : with_payloads (payload_of root' slots') nodes.attached ≡ reworked change id (with_payloads (payload_of root slots) nodes.attached) =
      reworked_is change (payload_of root slots) (payload_of root' slots') id nodes.attached inside_changed (λ key u. outside_kept key (omega (arith, u))) in
      let d : with_payloads (payload_of root' slots') nodes.detached ≡ with_payloads (payload_of root slots) nodes.detached =
      agree (payload_of root' slots') (payload_of root slots) nodes.detached (λ key u. outside_kept key (omega (arith, u))) in
      let was : journal_shown root slots nodes saved ≡ None = ap (λ (t : NodeTree P). t.journal) view ∙ closed in
      let j : journal_shown root' slots' nodes saved ≡ journal_shown root slots nodes saved = no_journal saved was ∙ sym was in
      (λ i. record { attached = a i; detached = d i; journal = j i }) ∙ ap (changed_below change id) view
