-- What the walk finds below a node.
use Rattle.std.proofs.Common.{◌≡◌, ℤ, true, false, List, [], ◌∷◌, ◌++◌, sym, refl, ap, ◌∙◌, subst, append_assoc, if◌then◌else◌}
use Rattle.std.specs.Prelude.{map}
use Rattle.std.specs.List.{All}
use Rattle.std.specs.Ordering.{int_eq}
use Rattle.std.proofs.lemmas.Bool.{cond-false, cond-true, cond_both}
use Rattle.std.proofs.lemmas.List.{map-append}
use Rattle.std.proofs.lemmas.List.Elements.{All-nil, All-cons, All-head, All-tail, All-append}
use Rattle.sn_mem.specs.declared.extents.Extent.{Extent}
use Rattle.sn_tree.specs.Trees.{Label, Nodes, none, node, holds, running_labels, subtree}
use Rattle.sn_world.specs.declared.stage.Held.{Held}
use Rattle.sn_world.specs.Pictures.{held_extents, live_held}
use Rattle.sn_foot.specs.Canonical.{Ends}
use Rattle.sn_foot.specs.Footprints.{is_reached, found_at, states_of}

-- ---- a loop's steps

pub found_one : {A : Type 0} (f : A → Held) (old new : List A) (a : A) (rest : List (Label Held)) → new ≡ old ++ a ∷ [] →
    map f new ++ map (λ (l : Label Held). l.payload) rest ≡ map f old ++ (f a ∷ map (λ (l : Label Held). l.payload) rest)
found_one f old new a rest is =
    let left : List Held = map (λ (l : Label Held). l.payload) rest in
    ap (λ xs. map f xs ++ left) is ∙ ap (λ xs. xs ++ left) (map-append f old (a ∷ [])) ∙ append_assoc (map f old) (f a ∷ []) left

pub found_reached : (id : ℤ) (t : Nodes Held) → is_reached id t ≡ true → found_at id t ≡ map (λ (l : Label Held). l.payload) (running_labels (subtree id t))
found_reached id t reached = cond-true (is_reached id t) (map (λ (l : Label Held). l.payload) (running_labels (subtree id t))) [] reached

pub found_nothing : (id : ℤ) (t : Nodes Held) → is_reached id t ≡ false → [] ≡ found_at id t
found_nothing id t missed = sym (cond-false (is_reached id t) (map (λ (l : Label Held). l.payload) (running_labels (subtree id t))) [] missed)

-- ---- their states have numbers

pub all_parts : {A : Type 0} (P : A → Type 0) (xs ys : List A) → All P (xs ++ ys) → All P xs × All P ys
all_parts P [] ys all = (All-nil P, all)
all_parts P (x ∷ xs) ys all =
    let rest = all_parts P xs ys (All-tail P x (xs ++ ys) all) in
    (All-cons P x xs (All-head P x (xs ++ ys) all) rest.0, rest.1)

states_append : (hs gs : List Held) → states_of (hs ++ gs) ≡ states_of hs ++ states_of gs
states_append [] gs = refl
states_append (h ∷ hs) gs = ap (λ es. held_extents h ++ es) (states_append hs gs) ∙ sym (append_assoc (held_extents h) (states_of hs) (states_of gs))

abbrev states : List (Label Held) → List Extent
states ls = states_of (map (λ (l : Label Held). l.payload) ls)

all_running : (P : Extent → Type 0) (t : Nodes Held) → All P (live_held t) → All P (states (running_labels t))
all_running P none all = All-nil P
all_running P (node label below after) all =
    let parts = all_parts P (held_extents label.payload) (live_held below ++ live_held after) all in
    let rest = all_parts P (live_held below) (live_held after) parts.1 in
    let a = all_running P below rest.0 in
    let b = all_running P after rest.1 in
    cond_both label.running (label ∷ (running_labels below ++ running_labels after)) (running_labels after) (λ ls. All P (states ls))
    (λ r. All-append P (held_extents label.payload) (states (running_labels below ++ running_labels after)) parts.0
    (subst (All P) (sym (ap states_of (map-append (λ (l : Label Held). l.payload) (running_labels below) (running_labels after)) ∙ states_append (map (λ (l : Label Held). l.payload) (running_labels below)) (map (λ (l : Label Held). l.payload) (running_labels after))))
    (All-append P (states (running_labels below)) (states (running_labels after)) a b)))
    (λ r. b)

pub all_below : (P : Extent → Type 0) (id : ℤ) (t : Nodes Held) → All P (live_held t) → All P (live_held (subtree id t))
all_below P id none all = All-nil P
all_below P id (node label below after) all =
    let parts = all_parts P (held_extents label.payload) (live_held below ++ live_held after) all in
    let rest = all_parts P (live_held below) (live_held after) parts.1 in
    cond_both (int_eq label.id id) (node label below none) (if holds id below then subtree id below else subtree id after) (λ u. All P (live_held u))
    (λ b. All-append P (held_extents label.payload) (live_held below ++ []) parts.0 (All-append P (live_held below) [] rest.0 (All-nil P)))
    (λ b. cond_both (holds id below) (subtree id below) (subtree id after) (λ u. All P (live_held u)) (λ h. all_below P id below rest.0) (λ h. all_below P id after rest.1))

pub found_ends : (id : ℤ) (t : Nodes Held) → All Ends (live_held t) → All Ends (states_of (found_at id t))
found_ends id t all =
    cond_both (is_reached id t) (map (λ (l : Label Held). l.payload) (running_labels (subtree id t))) [] (λ hs. All Ends (states_of hs))
    (λ b. all_running Ends (subtree id t) (all_below Ends id t all))
    (λ b. All-nil Ends)
