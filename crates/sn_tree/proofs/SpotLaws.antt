-- A target inside a node, by keys and by ids, and the places of spots.
use Rattle.std.proofs.Common.{◌≡◌, ℕ, ◌+◌, ◌≤◌, ℤ, pos, Bool, true, false, not, ◌&&◌, nat_lt, [], ◌∷◌, Option, Some, None, is_some, sym, ap, ◌∙◌, ⊎_elim, arith}
use Rattle.std.specs.Prelude.{◌==◌, Result, Ok, Err, MatchOption, MatchResult}
use Rattle.std.specs.Ordering.{int_eq}
use Rattle.sn_forest.specs.Trees.{Trees, none, tree, uses, has_key, subtree as subtree_of}
use Rattle.sn_forest.specs.declared.place.Place.{Place}
use Rattle.sn_forest.proofs.Keys.{some_or_none, missing, present}
use Rattle.sn_forest.proofs.Paths.{Path, top, under, beside, path_uses, uses-plug}
use Rattle.sn_tree.specs.declared.item.Item.{Item}
use Rattle.sn_tree.specs.declared.node.AddAction.{AddAction}
use Rattle.sn_tree.specs.declared.node.TreeFault.{TreeFault}
use Rattle.sn_tree.specs.declared.node.TreeFault.TheVariants.{NoNode, InUse, NotGroup, IsRoot, TooMany}
use Rattle.sn_tree.specs.Trees.{Nodes, holds, subtree, count as count_nodes}
use Rattle.sn_tree.specs.Faults.{first_fault, spot_fault, insert_fault, detach_fault, replace_fault, is_missing, is_beside_root, is_in_synth}
use Rattle.sn_tree.specs.Order.{Key}
use Rattle.sn_tree.specs.Keyed.{labels, front, counted, named, names, placed}
use Rattle.sn_tree.specs.Stored.{IsSpot}
use Rattle.sn_tree.proofs.KeyedPaths.{path_names, names-plug, is_held, not_held}
use Rattle.sn_tree.proofs.KeyedLaws.{named-uses, named-names, path_named, named-in, path-named}
use Rattle.sn_tree.proofs.LabelLaws.{At, at_subtree, subtree_at, named_held}

path-named-names : (id : ℤ) (key : ℕ) (p : Path Item) → path_named id key p ≤ path_names id p
path-named-names id key top = omega arith
path-named-names id key (under k item after p) = omega (arith, path-named-names id key p, named-names id key after, one_less (int_eq item.id id) (k == key))
  where
    one_less : (a b : Bool) → counted (a && b) ≤ counted a
    one_less true true = omega arith
    one_less true false = omega arith
    one_less false b = omega arith
path-named-names id key (beside k item below p) = omega (arith, path-named-names id key p, named-names id key below, one_less (int_eq item.id id) (k == key))
  where
    one_less : (a b : Bool) → counted (a && b) ≤ counted a
    one_less true true = omega arith
    one_less true false = omega arith
    one_less false b = omega arith

-- a target is inside a node if its key is in the tree of the node
pub inside_is : (t : Trees Item) (id : ℤ) (key : ℕ) (target : ℤ) (at_key : ℕ) → ((j : ℕ) → uses j (front t) ≤ 1) → names target (front t) ≤ 1 → At t id key → 1 ≤ named target at_key (front t)
    → holds target (subtree id (labels (front t))) ≡ has_key at_key (subtree_of key t)
inside_is t id key target at_key once distinct a u =
    let branch : Trees Item = tree key a.item a.below none in
    let whole_uses : uses at_key (front t) ≡ path_uses at_key a.path + (uses at_key branch + uses at_key a.after) =
    omega (arith, ap (λ x. uses at_key x) a.is, uses-plug at_key a.path (tree key a.item a.below a.after)) in
    let whole_named : named target at_key (front t) ≡ path_named target at_key a.path + (named target at_key branch + named target at_key a.after) =
    omega (arith, ap (λ x. named target at_key x) a.is, named-in target at_key a.path (tree key a.item a.below a.after)) in
    let whole_names : names target (front t) ≡ path_names target a.path + (names target branch + names target a.after) =
    omega (arith, ap (λ x. names target x) a.is, names-plug target a.path (tree key a.item a.below a.after)) in
    ap (holds target) (at_subtree t id key a)
    ∙ (⊎_elim
    (λ (v : 1 ≤ uses at_key branch).
    is_held target branch (omega (arith, once at_key, v, u, whole_uses, whole_named, path-named target at_key a.path, named-uses target at_key a.after, named-names target at_key branch))
    ∙ sym (present at_key branch v))
    (λ (v : uses at_key branch ≤ 0).
    not_held target branch (omega (arith, distinct, v, u, whole_named, whole_names, named-uses target at_key branch, path-named-names target at_key a.path, named-names target at_key a.after))
    ∙ sym (missing at_key branch (omega (arith, v))))
    (some_or_none (uses at_key branch))
    ∙ ap (has_key at_key) (sym (subtree_at t id key a)))

-- a search by id finds a node if one has the id
pub found_held : (t : Trees Item) (id : ℤ) (o : Option ℕ) → MatchOption o (holds id (labels (front t)) ≡ false) (λ key. 1 ≤ named id key (front t)) → is_some o ≡ holds id (labels (front t))
found_held t id None h = sym h
found_held t id (Some key) h = sym (named_held t id key h)

-- the place of a spot, by its target's key
pub spot_of : (t : Trees Item) (action : AddAction) (target : ℤ) (key : ℕ) → 1 ≤ named target key (front t) → (found : Result Place TreeFault)
    → MatchResult found (λ place. (spot_fault action target (labels (front t)) ≡ None) × (place ≡ placed action key)) (λ fault. spot_fault action target (labels (front t)) ≡ Some fault)
    → MatchResult found (λ place. (spot_fault action target (labels (front t)) ≡ None) × IsSpot t action target place) (λ fault. spot_fault action target (labels (front t)) ≡ Some fault)
spot_of t action target key u (Ok place) h = (h.0, record { key = key; is = h.1; there = u })
spot_of t action target key u (Err fault) h = h

pub spot_missing : (action : AddAction) (target : ℤ) (t : Nodes Key) → holds target t ≡ false → spot_fault action target t ≡ Some NoNode
spot_missing action target t h = ap (λ b. first_fault ((not b, NoNode) ∷ (is_beside_root action target, IsRoot) ∷ (is_in_synth action target t, NotGroup) ∷ [])) h

pub in_use : (id : ℤ) (action : AddAction) (target : ℤ) (t : Nodes Key) → holds id t ≡ true → insert_fault id action target t ≡ Some InUse
in_use id action target t h =
    ap (λ b. first_fault ((b, InUse) ∷ (is_missing target t, NoNode) ∷ (is_beside_root action target, IsRoot) ∷ (is_in_synth action target t, NotGroup) ∷ (nat_lt 4096 (count_nodes t + 1), TooMany) ∷ [])) h

-- what hinders at a spot hinders a new node there
pub refused_too : (id : ℤ) (action : AddAction) (target : ℤ) (t : Nodes Key) (fault : TreeFault) → holds id t ≡ false → spot_fault action target t ≡ Some fault → insert_fault id action target t ≡ Some fault
refused_too id action target t fault h e =
    ap (λ b. first_fault ((b, InUse) ∷ (is_missing target t, NoNode) ∷ (is_beside_root action target, IsRoot) ∷ (is_in_synth action target t, NotGroup) ∷ (nat_lt 4096 (count_nodes t + 1), TooMany) ∷ [])) h
    ∙ by_tests (is_missing target t) (is_beside_root action target) (is_in_synth action target t) e
  where
    by_tests : (a b c : Bool) → first_fault ((a, NoNode) ∷ (b, IsRoot) ∷ (c, NotGroup) ∷ []) ≡ Some fault
        → first_fault ((a, NoNode) ∷ (b, IsRoot) ∷ (c, NotGroup) ∷ (nat_lt 4096 (count_nodes t + 1), TooMany) ∷ []) ≡ Some fault
    by_tests true b c f = f
    by_tests false true c f = f
    by_tests false false true f = f
    by_tests false false false f = absurd (let x : None ≡ Some fault = f in cc)

pub front_once : (t : Trees Item) → ((j : ℕ) → uses j t ≤ 1) → (j : ℕ) → uses j (front t) ≤ 1
front_once none once j = omega arith
front_once (tree key item below after) once j = omega (arith, once j)

-- why a new node can't take the place of another
pub replace_in_use : (id target : ℤ) (t : Nodes Key) → holds id t ≡ true → replace_fault id target t ≡ Some InUse
replace_in_use id target t h = ap (λ b. first_fault ((b, InUse) ∷ (is_missing target t, NoNode) ∷ (int_eq target (pos 0), IsRoot) ∷ [])) h

replace_rest : (id target : ℤ) (t : Nodes Key) → holds id t ≡ false → replace_fault id target t ≡ detach_fault target t
replace_rest id target t h = ap (λ b. first_fault ((b, InUse) ∷ (is_missing target t, NoNode) ∷ (int_eq target (pos 0), IsRoot) ∷ [])) h

pub replace_of : (t : Trees Item) (id target : ℤ) (found : Result ℕ TreeFault) → holds id (labels (front t)) ≡ false
    → MatchResult found (λ key. (detach_fault target (labels (front t)) ≡ None) × (1 ≤ named target key (front t))) (λ fault. detach_fault target (labels (front t)) ≡ Some fault)
    → MatchResult found (λ key. (replace_fault id target (labels (front t)) ≡ None) × (1 ≤ named target key (front t))) (λ fault. replace_fault id target (labels (front t)) ≡ Some fault)
replace_of t id target (Ok key) h e = (replace_rest id target (labels (front t)) h ∙ e.0, e.1)
replace_of t id target (Err fault) h e = replace_rest id target (labels (front t)) h ∙ e
