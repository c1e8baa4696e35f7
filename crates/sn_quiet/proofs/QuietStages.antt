-- Whether the nodes of a stage are quiet.
use Rattle.std.proofs.Common.{◌≡◌, ⊎_elim, ℕ, Bool, true, false, ◌&&◌, List, [], ◌∷◌, ◌++◌, refl, sym, ap, ◌∙◌}
use Rattle.std.specs.Prelude.{if◌then◌else◌}
use Rattle.std.specs.List.{list_all}
use Rattle.std.proofs.lemmas.Bool.{cases_Bool}
use Rattle.sn_tree.specs.Trees.{Label, Nodes, none, node, running_labels, with_payloads}
use Rattle.sn_world.specs.declared.stage.Held.{Held}
use Rattle.sn_world.specs.declared.stage.Held.TheVariants as held
use Rattle.sn_world.specs.Nodes.{content_of}
use Rattle.sn_quiet.specs.Quiet.{are_quiet, is_quiet_content, is_quiet_held}

and_assoc : (a b c : Bool) → ((a && b) && c) ≡ (a && (b && c))
and_assoc true b c = refl
and_assoc false b c = refl

all_append : {X : Type 0} (test : X → Bool) (xs ys : List X) → list_all test (xs ++ ys) ≡ (list_all test xs && list_all test ys)
all_append test [] ys = refl
all_append test (x ∷ xs) ys = ap (λ b. test x && b) (all_append test xs ys) ∙ sym (and_assoc (test x) (list_all test xs) (list_all test ys))

held_is : (ws : List ℕ) (h : Held) → is_quiet_content (content_of ws h) ≡ is_quiet_held h
held_is ws held.Group = refl
held_is ws (held.Synth def controls state) = refl

abbrev pub quiet_label : Label Held → Bool
quiet_label l = is_quiet_held l.payload

pub nodes_are : (ws : List ℕ) (t : Nodes Held) → are_quiet (with_payloads (content_of ws) t) ≡ list_all quiet_label (running_labels t)
nodes_are ws none = refl
nodes_are ws (node label below after) = ⊎_elim
    (λ (on : label.running ≡ true).
    ap (λ b. (if b then is_quiet_content (content_of ws label.payload) && are_quiet (with_payloads (content_of ws) below) else true) && are_quiet (with_payloads (content_of ws) after)) on
    ∙ (ap (λ b. (b && are_quiet (with_payloads (content_of ws) below)) && are_quiet (with_payloads (content_of ws) after)) (held_is ws label.payload)
    ∙ (ap (λ b. (quiet_label label && b) && are_quiet (with_payloads (content_of ws) after)) (nodes_are ws below)
    ∙ (ap (λ b. (quiet_label label && list_all quiet_label (running_labels below)) && b) (nodes_are ws after)
    ∙ (and_assoc (quiet_label label) (list_all quiet_label (running_labels below)) (list_all quiet_label (running_labels after))
    ∙ (ap (λ b. quiet_label label && b) (sym (all_append quiet_label (running_labels below) (running_labels after)))
    ∙ sym (ap (λ (b : Bool). list_all quiet_label (if b then label ∷ (running_labels below ++ running_labels after) else running_labels after)) on)))))))
    (λ (off : label.running ≡ false).
    ap (λ b. (if b then is_quiet_content (content_of ws label.payload) && are_quiet (with_payloads (content_of ws) below) else true) && are_quiet (with_payloads (content_of ws) after)) off
    ∙ (nodes_are ws after
    ∙ sym (ap (λ (b : Bool). list_all quiet_label (if b then label ∷ (running_labels below ++ running_labels after) else running_labels after)) off)))
    (cases_Bool label.running)

and_true : (b : Bool) → (b && true) ≡ b
and_true true = refl
and_true false = refl

-- if no node is left, it was found out
pub still_quiet : (quiet all : Bool) (left : List (Label Held)) → left ≡ [] → (quiet && list_all quiet_label left) ≡ all → quiet ≡ all
still_quiet quiet all left empty so_far = sym (and_true quiet) ∙ (ap (λ (ls : List (Label Held)). quiet && list_all quiet_label ls) (sym empty) ∙ so_far)
