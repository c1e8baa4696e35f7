-- Nodes with a new id, chosen or asked for, and with none.
use Rattle.std.proofs.Common.{◌≡◌, ◌⊎◌, ◌<ℤ◌, ℕ, zero, suc, ◌+◌, ℤ, pos, negsuc, Bool, true, false, not, [], ◌∷◌, Option, Some, None, Result, Err, IfSome, refl, sym, ap, subst, ◌∙◌, ⊎_elim, arith, true≢false}
use Rattle.std.specs.Prelude.{if◌then◌else◌, nat_lt, is_some}
use Rattle.std.specs.FinMap as finite
use Rattle.std.proofs.lemmas.Bool.{false_from_ne_true}
use Rattle.std.proofs.lemmas.Bool.Decides.{Decides-int_eq}
use Rattle.std.proofs.lemmas.Int.{ints}
use Rattle.sn_def.specs.Definition.{Definition}
use Rattle.sn_def.specs.StateWords.{state_words}
use Rattle.sn_reply.specs.declared.reason.Reason.{Reason}
use Rattle.sn_reply.specs.declared.reason.Reason.TheVariants as Reasons
use Rattle.sn_tree.specs.Trees.{Nodes, holds, count}
use Rattle.sn_tree.specs.Faults.{is_missing, is_in_synth, is_beside_root}
use Rattle.sn_world.specs.declared.repetition.NewGroup.{NewGroup}
use Rattle.sn_world.specs.Choosing.{IsBelow, AreChosen}
use Rattle.sn_world.specs.NewNodes.{id_for, one_below, next_after, add_action, action_for, replaces, left_by, node_refusal, is_asked, judge_group}
use Rattle.sn_world.specs.NewSynth.{NewSynth, place_for, made_free, new_at, new_with, new_of, new_outcome}
use Rattle.sn_world.specs.Nodes.{Content}
use Rattle.sn_world.specs.Rows.{first_of, unless}
use Rattle.sn_world.specs.World.{World, Turn}

-- the same of the id that is chosen next and the nodes
abbrev pub Chosen : Option ℤ → Nodes Content → Type 0
Chosen next nodes = IfSome next (λ id. IsBelow nodes id) × (holds (negsuc 0) nodes ≡ false)

-- ---- no id is new

module _ (old new : Nodes Content) (within : (x : ℤ) → holds x new ≡ true → holds x old ≡ true) where
  below_within : (next : Option ℤ) → IfSome next (λ id. IsBelow old id) → IfSome next (λ id. IsBelow new id)
  below_within None h = tt
  below_within (Some id) h = (h.0, λ other held. h.1 other (within other held))

  pub chosen_within : (next : Option ℤ) → Chosen next old → Chosen next new
  chosen_within next h = (below_within next h.0, false_from_ne_true (holds (negsuc 0) new) (λ k. true≢false (sym (within (negsuc 0) k) ∙ h.1)))

-- ---- one id is new

module _ (id : ℤ) (old new : Nodes Content) (grows : (x : ℤ) → holds x new ≡ true → (holds x old ≡ true) ⊎ (x ≡ id)) where
  unasked : holds (negsuc 0) old ≡ false → (negsuc 0 ≡ id → ⊥) → holds (negsuc 0) new ≡ false
  unasked absent other = false_from_ne_true (holds (negsuc 0) new) (λ k. ⊎_elim (λ (o : holds (negsuc 0) old ≡ true). true≢false (sym o ∙ absent)) (λ (e : negsuc 0 ≡ id). other e) (grows (negsuc 0) k))

  below_new : (next : ℤ) → IsBelow old next → next <ℤ id → IsBelow new next
  below_new next h less = (h.0, λ x held. ⊎_elim (λ (o : holds x old ≡ true). h.1 x o) (λ (e : x ≡ id). subst (λ y. next <ℤ y) (sym e) less) (grows x held))

  -- an id that is asked for, 0 or more
  asked_new : (n : ℕ) → id ≡ pos n → (next : Option ℤ) → Chosen next old → Chosen next new
  asked_new n is None h = (tt, unasked h.1 (λ e. let bad : negsuc 0 ≡ pos n = e ∙ is in cc))
  asked_new n is (Some next) h =
      let less : next <ℤ pos n = omega (arith, ints, h.0.0) in
      (below_new next h.0 (subst (λ y. next <ℤ y) (sym is) less), unasked h.1 (λ e. let bad : negsuc 0 ≡ pos n = e ∙ is in cc))

  -- the id that is chosen
  below_next : (k : ℕ) → id ≡ negsuc k → IsBelow old (negsuc k) → IsBelow new (negsuc (k + 1))
  below_next k is h =
      let down : negsuc (k + 1) <ℤ negsuc k = omega (arith, ints) in
      let first : negsuc (k + 1) <ℤ negsuc 0 = omega (arith, ints) in
      below_new (negsuc (k + 1)) (first, λ other held. let above : negsuc k <ℤ other = h.1 other held in omega (arith, ints, above)) (subst (λ y. negsuc (k + 1) <ℤ y) (sym is) down)

  chosen_new : (next : Option ℤ) → next ≡ Some id → Chosen next old → Chosen (one_below next) new
  chosen_new None is h = cc
  chosen_new (Some (pos n)) is h = absurd (omega (arith, ints, h.0.0))
  chosen_new (Some (negsuc k)) is h = (at (nat_lt k 2147483647), unasked h.1 (λ e. let here : negsuc 0 ≡ negsuc k = e ∙ sym same in let less : negsuc 0 <ℤ negsuc 0 = subst (λ y. y <ℤ negsuc 0) (sym here) h.0.0 in absurd (omega (arith, ints, less))))
    where
      same : negsuc k ≡ id
      same = cc

      at : (b : Bool) → IfSome (if b then Some (negsuc (k + 1)) else None) (λ i. IsBelow new i)
      at true = below_next k (sym same) h.0
      at false = tt

  -- an id that a command gives to a new node
  pub given_new : (asked : ℤ) → is_asked asked ≡ true → (next : Option ℤ) → id_for next asked ≡ Some id → Chosen next old → Chosen (next_after next asked) new
  given_new (pos n) right next is h = asked_new n (let same : pos n ≡ id = cc in sym same) next h
  given_new (negsuc zero) right next is h = chosen_new next is h
  given_new (negsuc (suc n)) right next is h = let minus_one : negsuc (suc n) ≡ negsuc 0 = (Decides-int_eq (negsuc (suc n)) (negsuc 0)).0 right in cc

-- ---- ids that are free

below_free : (next : Option ℤ) (nodes : Nodes Content) (id : ℤ) → IfSome next (λ i. IsBelow nodes i) → next ≡ Some id → holds id nodes ≡ false
below_free None nodes id h is = cc
below_free (Some next) nodes id h is =
    let same : next ≡ id = cc in
    false_from_ne_true (holds id nodes) (λ k. let less : next <ℤ id = h.1 id k in let bad : id <ℤ id = subst (λ y. y <ℤ id) same less in omega (arith, ints, bad))

pub chosen_free : (w : World) (id : ℤ) → AreChosen w → w.next_id ≡ Some id → holds id w.nodes ≡ false
chosen_free w id h is = below_free w.next_id w.nodes id h.0 is

-- if an id is not in use, the reason is another one
other_reason : (used a b c d e : Bool) → used ≡ false
    → first_of ((used, Reasons.IdInUse) ∷ (a, Reasons.AddAction) ∷ (b, Reasons.NoSuchNode) ∷ (c, Reasons.NotGroup) ∷ (d, Reasons.Root) ∷ (e, Reasons.TooManyNodes) ∷ []) ≡ Some Reasons.IdInUse → ⊥
other_reason true a b c d e free h = true≢false free
other_reason false true b c d e free h = cc
other_reason false false true c d e free h = cc
other_reason false false false true d e free h = cc
other_reason false false false false true e free h = cc
other_reason false false false false false true free h = cc
other_reason false false false false false false free h = cc

free_reason : (id action target : ℤ) (nodes : Nodes Content) → holds id nodes ≡ false → node_refusal (Some id) action target nodes ≡ Some Reasons.IdInUse → ⊥
free_reason id action target nodes free h =
    other_reason (holds id nodes) (not (is_some (add_action action))) (is_missing target nodes) (is_in_synth (action_for action) target nodes) (is_beside_root (action_for action) target) (nat_lt 4096 (count (left_by (replaces action) target nodes) + 1)) free h

refused_next : (next : Option ℤ) (action target : ℤ) (nodes : Nodes Content) → IfSome next (λ i. IsBelow nodes i) → node_refusal next action target nodes ≡ Some Reasons.IdInUse → next ≡ None
refused_next None action target nodes h refused = refl
refused_next (Some id) action target nodes h refused = absurd (free_reason id action target nodes (below_free (Some id) nodes id h refl) refused)

pub group_in_use : (w : World) (r : NewGroup) → AreChosen w → r.node.id ≡ negsuc 0 → judge_group w r ≡ Some Reasons.IdInUse → w.next_id ≡ None
group_in_use w r h asks refused =
    refused_next w.next_id r.node.action r.node.target w.nodes h.0 (ap (λ (id : ℤ). node_refusal (id_for w.next_id id) r.node.action r.node.target w.nodes) (sym asks) ∙ refused)

-- what `/s_new` answers

unless_in_use : (o : Option Reason) (r : Result Turn Reason) → (o ≡ Some Reasons.IdInUse → ⊥) → (r ≡ Err Reasons.IdInUse → ⊥) → unless o r ≡ Err Reasons.IdInUse → ⊥
unless_in_use None r other judged h = judged h
unless_in_use (Some reason) r other judged h = other (let same : reason ≡ Reasons.IdInUse = cc in ap Some same)

full_or_made : (r : NewSynth) (d : Definition) (id : ℤ) (place : Option ℕ) (t : Turn) → new_at r d id place t ≡ Err Reasons.IdInUse → ⊥
full_or_made r d id None t h = cc
full_or_made r d id (Some at) t h = cc

next_used : (r : NewSynth) (d : Definition) (t : Turn) (next : Option ℤ) → IfSome next (λ i. IsBelow t.world.nodes i) → new_with r d next t ≡ Err Reasons.IdInUse → next ≡ None
next_used r d t None h refused = refl
next_used r d t (Some id) h refused =
    absurd (unless_in_use (node_refusal (Some id) r.node.action r.node.target t.world.nodes) (new_at r d id (place_for (made_free r.node t.world) (state_words t.world.rate d)) t)
    (λ e. free_reason id r.node.action r.node.target t.world.nodes (below_free (Some id) t.world.nodes id h refl) e)
    (λ e. full_or_made r d id (place_for (made_free r.node t.world) (state_words t.world.rate d)) t e)
    refused)

defined_in_use : (r : NewSynth) (d : Option Definition) (t : Turn) → AreChosen t.world → r.node.id ≡ negsuc 0 → new_of r d t ≡ Err Reasons.IdInUse → t.world.next_id ≡ None
defined_in_use r None t h asks refused = cc
defined_in_use r (Some d) t h asks refused = next_used r d t t.world.next_id h.0 (ap (λ (id : ℤ). new_with r d (id_for t.world.next_id id) t) (sym asks) ∙ refused)

pub synth_in_use : (r : NewSynth) (t : Turn) → AreChosen t.world → r.node.id ≡ negsuc 0 → new_outcome (Some r) t ≡ Err Reasons.IdInUse → t.world.next_id ≡ None
synth_in_use r t h asks refused = defined_in_use r (finite.get t.world.definitions r.name) t h asks refused
