-- The reason against a new node is the tree's.
use Rattle.std.proofs.Common.{◌≡◌, ◌≤◌, ◌+◌, ℤ, pos, Bool, true, false, not, ◌&&◌, nat_lt, [], ◌∷◌, Some, None, refl, sym, ap, ◌∙◌, subst, ⊎_elim, arith, is_some, true≢false}
use Rattle.std.proofs.lemmas.Bool.{cases_Bool, le-ltb}
use Rattle.std.specs.Ordering.{int_eq}
use Rattle.sn_reply.specs.declared.reason.Reason.TheVariants as Reasons
use Rattle.sn_tree.specs.declared.node.TreeFault.TheVariants as faults
use Rattle.sn_tree.specs.Trees.{Nodes, holds, without, label_of, count}
use Rattle.sn_tree.specs.Faults.{first_fault, replace_fault, is_inside, labels_synth, is_missing, is_in_synth, is_beside_root}
use Rattle.std.proofs.lemmas.Bool.Decides.{Decides-int_eq}
use Rattle.sn_world.specs.declared.repetition.NewNode.{NewNode}
use Rattle.sn_world.specs.declared.stage.Stage.{Stage}
use Rattle.sn_world.specs.Rows.{first_of}
use Rattle.sn_world.specs.NewNodes.{add_action, action_for, replaces, left_by, node_refusal}
use Rattle.sn_world.proofs.Replacing.{is_four, fewer}
use Rattle.sn_nodecmd.specs.Judging.{reason_against_new, fault_by}

-- a node is not both inside a synth and beside the root
by_tests : (known used missing inside synth root many : Bool)
    → reason_against_new known (first_fault ((used, faults.InUse) ∷ (missing, faults.NoNode) ∷ (not inside && root, faults.IsRoot) ∷ (inside && synth, faults.NotGroup) ∷ (many, faults.TooMany) ∷ []))
    ≡ first_of ((used, Reasons.IdInUse) ∷ (not known, Reasons.AddAction) ∷ (missing, Reasons.NoSuchNode) ∷ (inside && synth, Reasons.NotGroup) ∷ (not inside && root, Reasons.Root) ∷ (many, Reasons.TooManyNodes) ∷ [])
by_tests known true missing inside synth root many = refl
by_tests true false true inside synth root many = refl
by_tests true false false true true root many = refl
by_tests true false false true false root true = refl
by_tests true false false true false root false = refl
by_tests true false false false synth true many = refl
by_tests true false false false synth false true = refl
by_tests true false false false synth false false = refl
by_tests false false true inside synth root many = refl
by_tests false false false true true root many = refl
by_tests false false false true false root true = refl
by_tests false false false true false root false = refl
by_tests false false false false synth true many = refl
by_tests false false false false synth false true = refl
by_tests false false false false synth false false = refl

-- if a node goes inside its target, that is no synth
pub outside_synth : (inside synth : Bool) → (inside && synth) ≡ false → inside ≡ true → synth ≡ false
outside_synth true synth h is = h
outside_synth false synth h is = absurd (true≢false (sym is))

-- nothing is against a new node: its target is there, has another id, and is no synth if the node goes inside it
pub record IsPlaceable (id : ℤ) (r : NewNode) (stage : Stage) : Type 0 where
  pub there : holds r.target stage.tree.attached ≡ true
  pub other : int_eq id r.target ≡ false
  pub group : is_inside (action_for r.action) ≡ true → labels_synth (label_of r.target stage.tree.attached) ≡ false

pub placeable : (id : ℤ) (r : NewNode) (stage : Stage) → None ≡ node_refusal (Some id) r.action r.target stage.tree.attached → IsPlaceable id r stage
placeable id r stage h = at (holds id stage.tree.attached) (is_some (add_action r.action)) (holds r.target stage.tree.attached) (is_in_synth (action_for r.action) r.target stage.tree.attached) (is_beside_root (action_for r.action) r.target) (nat_lt 4096 (count (left_by (replaces r.action) r.target stage.tree.attached) + 1)) refl refl refl (sym h)
  where
    apart : (b : Bool) → int_eq id r.target ≡ b → holds id stage.tree.attached ≡ false → holds r.target stage.tree.attached ≡ true → b ≡ false
    apart false e free there = refl
    apart true e free there =
        let same : id ≡ r.target = (Decides-int_eq id r.target).0 e in
        let bad : true ≡ false = sym there ∙ ap (λ n. holds n stage.tree.attached) (sym same) ∙ free in
        absurd cc

    at : (used known there inside root many : Bool) → holds id stage.tree.attached ≡ used → holds r.target stage.tree.attached ≡ there → is_in_synth (action_for r.action) r.target stage.tree.attached ≡ inside
        → first_of ((used, Reasons.IdInUse) ∷ (not known, Reasons.AddAction) ∷ (not there, Reasons.NoSuchNode) ∷ (inside, Reasons.NotGroup) ∷ (root, Reasons.Root) ∷ (many, Reasons.TooManyNodes) ∷ []) ≡ None → IsPlaceable id r stage
    at true known there inside root many a b c h = absurd cc
    at false false there inside root many a b c h = absurd cc
    at false true false inside root many a b c h = absurd cc
    at false true true true root many a b c h = absurd cc
    at false true true false root many a b c h = record {
      there = b;
      other = apart (int_eq id r.target) refl a b;
      group = λ is. outside_synth (is_inside (action_for r.action)) (labels_synth (label_of r.target stage.tree.attached)) c is;
    }

replace_tests : (used there root many : Bool) → (there ≡ true → many ≡ false)
    → reason_against_new true (first_fault ((used, faults.InUse) ∷ (not there, faults.NoNode) ∷ (root, faults.IsRoot) ∷ []))
    ≡ first_of ((used, Reasons.IdInUse) ∷ (false, Reasons.AddAction) ∷ (not there, Reasons.NoSuchNode) ∷ (false, Reasons.NotGroup) ∷ (root, Reasons.Root) ∷ (many, Reasons.TooManyNodes) ∷ [])
replace_tests true there root many few = refl
replace_tests false false root many few = refl
replace_tests false true true many few = refl
replace_tests false true false many few = let no : many ≡ false = few refl in rw no refl

judged_replace : {P : Type 0} (id target : ℤ) (t : Nodes P) → count t ≤ 4096 → reason_against_new true (replace_fault id target t) ≡ node_refusal (Some id) (pos 4) target t
judged_replace id target t few = replace_tests (holds id t) (holds target t) (int_eq target (pos 0)) (nat_lt 4096 (count (without target t) + 1)) (λ there. le-ltb 4096 (count (without target t) + 1) (omega (arith, few, fewer target t there)))

judged_insert : {P : Type 0} (id action target : ℤ) (t : Nodes P) → replaces action ≡ false → reason_against_new (is_some (add_action action)) (fault_by (replaces action) id (action_for action) target t) ≡ node_refusal (Some id) action target t
judged_insert id action target t stays =
    subst
    (λ (b : Bool). reason_against_new (is_some (add_action action)) (fault_by b id (action_for action) target t)
    ≡ first_of ((holds id t, Reasons.IdInUse) ∷ (not (is_some (add_action action)), Reasons.AddAction) ∷ (is_missing target t, Reasons.NoSuchNode) ∷ (is_in_synth (action_for action) target t, Reasons.NotGroup) ∷ (is_beside_root (action_for action) target, Reasons.Root) ∷ (nat_lt 4096 (count (left_by b target t) + 1), Reasons.TooManyNodes) ∷ []))
    (sym stays)
    (by_tests (is_some (add_action action)) (holds id t) (is_missing target t) (is_inside (action_for action)) (labels_synth (label_of target t)) (int_eq target (pos 0)) (nat_lt 4096 (count t + 1)))

pub judged_node : {P : Type 0} (id action target : ℤ) (t : Nodes P) → count t ≤ 4096 → reason_against_new (is_some (add_action action)) (fault_by (replaces action) id (action_for action) target t) ≡ node_refusal (Some id) action target t
judged_node id action target t few =
    ⊎_elim
    (λ (n : replaces action ≡ true). subst (λ a. reason_against_new (is_some (add_action a)) (fault_by (replaces a) id (action_for a) target t) ≡ node_refusal (Some id) a target t) (sym (is_four action n)) (judged_replace id target t few))
    (λ (n : replaces action ≡ false). judged_insert id action target t n)
    (cases_Bool (replaces action))
