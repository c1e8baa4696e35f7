-- The node after another in the order of the walk, and the nodes below one.
use Rattle.std.proofs.Common.{◌≡◌, ℕ, ℤ, Bool, true, false, ◌||◌, List, [], ◌∷◌, ◌++◌, Option, Some, None, sym, refl, ap, ◌∙◌, append_assoc, arith}
use Rattle.std.specs.Prelude.{if◌then◌else◌}
use Rattle.std.specs.Ordering.{int_eq}
use Rattle.std.proofs.lemmas.List.{append-nil}
use Rattle.sn_forest.specs.Trees.{Trees, none, tree, joined}
use Rattle.sn_forest.specs.Walking.{from, behind_node}
use Rattle.sn_forest.proofs.Keys.{joined-none}
use Rattle.sn_forest.proofs.Paths.{Path, top, under, beside, plug}
use Rattle.sn_forest.proofs.Walking.{onward, onward-joined, from_found}
use Rattle.sn_tree.specs.declared.item.Item.{Item}
use Rattle.sn_tree.specs.Trees.{Nodes, none as no_nodes, node, holds, ids, next_after, first_of, children, subtree}
use Rattle.sn_tree.specs.Keyed.{labels, front, names, below_first}
use Rattle.sn_tree.proofs.KeyedPaths.{path_names, counted_none}
use Rattle.sn_tree.proofs.LabelLaws.{At}

-- the first of a list
abbrev first_in : List ℤ → Option ℤ
first_in [] = None
first_in (x ∷ xs) = Some x

skip : (id x : ℤ) (xs : List ℤ) → int_eq x id ≡ false → next_after id (x ∷ xs) ≡ next_after id xs
skip id x [] h = refl
skip id x (y ∷ ys) h = ap (λ b. if b then Some y else next_after id (y ∷ ys)) h

found_here : (id x : ℤ) (xs : List ℤ) → int_eq x id ≡ true → next_after id (x ∷ xs) ≡ first_in xs
found_here id x [] h = refl
found_here id x (y ∷ ys) h = ap (λ b. if b then Some y else next_after id (y ∷ ys)) h

abbrev ids_of : Trees Item → List ℤ
ids_of t = ids (labels t)

ids-joined : (s t : Trees Item) → ids_of (joined s t) ≡ ids_of s ++ ids_of t
ids-joined none t = refl
ids-joined (tree key item below after) t =
    ap (λ l. item.id ∷ (ids_of below ++ l)) (ids-joined after t) ∙ ap (λ l. item.id ∷ l) (sym (append_assoc (ids_of below) (ids_of after) (ids_of t)))

-- nodes that don't have the id
skip_all : (id : ℤ) (t : Trees Item) (zs : List ℤ) → names id t ≡ 0 → next_after id (ids_of t ++ zs) ≡ next_after id zs
skip_all id none zs z = refl
skip_all id (tree key item below after) zs z =
    skip id item.id ((ids_of below ++ ids_of after) ++ zs) (counted_none (int_eq item.id id) (omega (arith, z)))
    ∙ (ap (next_after id) (append_assoc (ids_of below) (ids_of after) zs)
    ∙ (skip_all id below (ids_of after ++ zs) (omega (arith, z)) ∙ skip_all id after zs (omega (arith, z))))

-- nodes around a hole don't have it
past_path : (id : ℤ) (p : Path Item) (t : Trees Item) → path_names id p ≡ 0 → next_after id (ids_of (plug p t)) ≡ next_after id (ids_of t ++ ids_of (onward p none))
past_path id top t z = ap (next_after id) (sym (append-nil (ids_of t)))
past_path id (under key item after p) t z =
    let rest : ids_of (onward (under key item after p) none) ≡ ids_of after ++ ids_of (onward p none) =
    sym (ap (λ x. ids_of (onward p x)) (joined-none after)) ∙ (ap ids_of (onward-joined p after none) ∙ ids-joined after (onward p none)) in
    past_path id p (tree key item t after) (omega (arith, z))
    ∙ (skip id item.id ((ids_of t ++ ids_of after) ++ ids_of (onward p none)) (counted_none (int_eq item.id id) (omega (arith, z)))
    ∙ ap (next_after id) (append_assoc (ids_of t) (ids_of after) (ids_of (onward p none)) ∙ ap (λ l. ids_of t ++ l) (sym rest)))
past_path id (beside key item below p) t z =
    past_path id p (tree key item below t) (omega (arith, z))
    ∙ (skip id item.id ((ids_of below ++ ids_of t) ++ ids_of (onward p none)) (counted_none (int_eq item.id id) (omega (arith, z)))
    ∙ (ap (next_after id) (append_assoc (ids_of below) (ids_of t) (ids_of (onward p none))) ∙ skip_all id below (ids_of t ++ ids_of (onward p none)) (omega (arith, z))))

first_id : (t : Trees Item) → first_in (ids_of t) ≡ first_of (labels t)
first_id none = refl
first_id (tree key item below after) = refl

pub next_is : (t : Trees Item) (id : ℤ) (key : ℕ) → At t id key → first_of (labels (behind_node (from key (front t)))) ≡ next_after id (ids (labels (front t)))
next_is t id key a =
    let rest : Trees Item = onward a.path a.after in
    let more : ids_of rest ≡ ids_of a.after ++ ids_of (onward a.path none) =
    sym (ap (λ x. ids_of (onward a.path x)) (joined-none a.after)) ∙ (ap ids_of (onward-joined a.path a.after none) ∙ ids-joined a.after (onward a.path none)) in
    let walk : from key (front t) ≡ tree key a.item a.below rest = ap (from key) a.is ∙ from_found key a.path a.item a.below a.after a.free_key in
    let list : ids_of (joined a.below rest) ≡ (ids_of a.below ++ ids_of a.after) ++ ids_of (onward a.path none) =
    ids-joined a.below rest ∙ (ap (λ l. ids_of a.below ++ l) more ∙ sym (append_assoc (ids_of a.below) (ids_of a.after) (ids_of (onward a.path none)))) in
    ap (λ x. first_of (labels (behind_node x))) walk
    ∙ (sym (first_id (joined a.below rest))
    ∙ (ap first_in list
    ∙ (sym (found_here id a.item.id ((ids_of a.below ++ ids_of a.after) ++ ids_of (onward a.path none)) a.same)
    ∙ (sym (past_path id a.path (tree key a.item a.below a.after) a.free) ∙ sym (ap (λ x. next_after id (ids_of x)) a.is)))))

-- if no node has the id
pub no_next : (id : ℤ) (t : Nodes (Option ℕ)) → holds id t ≡ false → None ≡ next_after id (ids t)
no_next id t h = sym (ap (next_after id) (sym (append-nil (ids t))) ∙ none_after t [] h)
  where
    or_false : (a b : Bool) → (a || b) ≡ false → (a ≡ false) × (b ≡ false)
    or_false true b f = absurd (let c : true ≡ false = f in cc)
    or_false false b f = (refl, f)

    none_after : (t : Nodes (Option ℕ)) (zs : List ℤ) → holds id t ≡ false → next_after id (ids t ++ zs) ≡ next_after id zs
    none_after no_nodes zs h = refl
    none_after (node label below after) zs h =
        let d = or_false (int_eq label.id id) (holds id below || holds id after) h in
        let b = or_false (holds id below) (holds id after) d.1 in
        skip id label.id ((ids below ++ ids after) ++ zs) d.0
        ∙ (ap (next_after id) (append_assoc (ids below) (ids after) zs) ∙ (none_after below (ids after ++ zs) b.0 ∙ none_after after zs b.1))

-- what is below the first of some nodes
abbrev below_top : {P : Type 0} → Nodes P → Nodes P
below_top no_nodes = no_nodes
below_top (node label below after) = below

below-labels : (t : Trees Item) → labels (below_first t) ≡ below_top (labels t)
below-labels none = refl
below-labels (tree key item below after) = refl

below-subtree : {P : Type 0} (id : ℤ) (t : Nodes P) → below_top (subtree id t) ≡ children id t
below-subtree id no_nodes = refl
below-subtree id (node label below after) = at (int_eq label.id id) (holds id below) (below-subtree id below) (below-subtree id after)
  where
    at : (here inner : Bool) → below_top (subtree id below) ≡ children id below → below_top (subtree id after) ≡ children id after
        → below_top (if here then node label below no_nodes else if inner then subtree id below else subtree id after) ≡ (if here then below else if inner then children id below else children id after)
    at true inner b a = refl
    at false true b a = b
    at false false b a = a

pub children_is : (t : Trees Item) (id : ℤ) (nodes : Nodes (Option ℕ)) → labels t ≡ subtree id nodes → labels (below_first t) ≡ children id nodes
children_is t id nodes e = below-labels t ∙ (ap below_top e ∙ below-subtree id nodes)
