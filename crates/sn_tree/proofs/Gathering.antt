-- What lies below a node.
use Rattle.std.proofs.Common.{◌≡◌, ℕ, ◌≤◌, ℤ, pos, Bool, true, false, ◌||◌, List, ◌∷◌, ◌++◌, sym, refl, ap, ◌∙◌, ⊎_elim, arith, Option, Some, None}
use Rattle.std.specs.Prelude.{if◌then◌else◌}
use Rattle.std.specs.List.{All}
use Rattle.std.specs.Option.{option_map}
use Rattle.std.specs.Ordering.{int_eq}
use Rattle.std.proofs.lemmas.Bool.{cases_Bool, or_from, or_parts}
use Rattle.std.proofs.lemmas.List.Elements.{All-nil, All-cons, All-append}
use Rattle.sn_tree.specs.declared.node.NodeKind.TheVariants.{Group}
use Rattle.sn_tree.specs.Trees.{Label, Nodes, none, node, count, holds, ids, label_of, children, subtree, with_payloads}
use Rattle.sn_tree.specs.Faults.{is_synth}
use Rattle.sn_tree.specs.Order.{Key}
use Rattle.sn_tree.specs.Arranged.{Arranged}
use Rattle.sn_tree.specs.Saving.{SavedNodes}
use Rattle.sn_tree.specs.Model.{NodeTree}
use Rattle.sn_tree.specs.Kept.{payload_of, IsRooted, shown}
use Rattle.sn_tree.specs.Steps.{occurrences, AllDistinct}
use Rattle.sn_tree.specs.Below.{top_ids, synth_ids}
use Rattle.sn_tree.proofs.PayloadLaws.{relabelled, holds-payloads, label-payloads, children-payloads, subtree-payloads}
use Rattle.sn_tree.proofs.Distinct.{occurs-node}

-- payloads changed

pub top_ids-payloads : {P Q : Type 0} (f : P → Q) (t : Nodes P) → top_ids (with_payloads f t) ≡ top_ids t
top_ids-payloads f none = refl
top_ids-payloads f (node label below after) = ap (λ l. label.id ∷ l) (top_ids-payloads f after)

pub synth_ids-payloads : {P Q : Type 0} (f : P → Q) (t : Nodes P) → synth_ids (with_payloads f t) ≡ synth_ids t
synth_ids-payloads f none = refl
synth_ids-payloads f (node label below after) =
    λ i. if is_synth label.kind then label.id ∷ (synth_ids-payloads f below i ++ synth_ids-payloads f after i) else synth_ids-payloads f below i ++ synth_ids-payloads f after i

-- the root

module _ {P : Type 0} where
  not_there : (x : ℤ) (t : Nodes P) → occurrences int_eq x (ids t) ≡ 0 → holds x t ≡ false
  not_there x none h = refl
  not_there x (node label below after) h =
      ⊎_elim
      (λ (n : int_eq label.id x ≡ true).
      let one : ◌≡◌ {A = ℕ} (if int_eq label.id x then 1 else 0) 1 = rw n refl in
      absurd (omega (arith, h, occurs-node x label below after, one)))
      (λ (n : int_eq label.id x ≡ false).
      or_from (int_eq label.id x) (holds x below || holds x after) n
      (or_from (holds x below) (holds x after)
      (not_there x below (omega (arith, h, occurs-node x label below after)))
      (not_there x after (omega (arith, h, occurs-node x label below after)))))
      (cases_Bool (int_eq label.id x))

  pub children_apart : (x id : ℤ) (t : Nodes P) → holds x t ≡ false → holds x (children id t) ≡ false
  children_apart x id none h = refl
  children_apart x id (node label below after) h =
      let d = or_parts (int_eq label.id x) (holds x below || holds x after) h in
      let e = or_parts (holds x below) (holds x after) d.1 in
      at (int_eq label.id id) (holds id below) e.0 (children_apart x id below e.0) (children_apart x id after e.1)
    where
      at : (here inner : Bool) → holds x below ≡ false → holds x (children id below) ≡ false → holds x (children id after) ≡ false
          → holds x (if here then below else if inner then children id below else children id after) ≡ false
      at true inner b p q = b
      at false true b p q = p
      at false false b p q = q

  -- an id that is not among nodes
  pub tops_apart : (x : ℤ) (t : Nodes P) → holds x t ≡ false → All (λ (y : ℤ). int_eq y x ≡ false) (top_ids t)
  tops_apart x none h = All-nil (λ (y : ℤ). int_eq y x ≡ false)
  tops_apart x (node label below after) h =
      let d = or_parts (int_eq label.id x) (holds x below || holds x after) h in
      let e = or_parts (holds x below) (holds x after) d.1 in
      All-cons (λ (y : ℤ). int_eq y x ≡ false) label.id (top_ids after) d.0 (tops_apart x after e.1)

  pub synths_apart : (x : ℤ) (t : Nodes P) → holds x t ≡ false → All (λ (y : ℤ). int_eq y x ≡ false) (synth_ids t)
  synths_apart x none h = All-nil (λ (y : ℤ). int_eq y x ≡ false)
  synths_apart x (node label below after) h =
      let d = or_parts (int_eq label.id x) (holds x below || holds x after) h in
      let e = or_parts (holds x below) (holds x after) d.1 in
      at (is_synth label.kind) d.0 (All-append (λ (y : ℤ). int_eq y x ≡ false) (synth_ids below) (synth_ids after) (synths_apart x below e.0) (synths_apart x after e.1))
    where
      at : (b : Bool) → int_eq label.id x ≡ false → All (λ (y : ℤ). int_eq y x ≡ false) (synth_ids below ++ synth_ids after)
          → All (λ (y : ℤ). int_eq y x ≡ false) (if b then label.id ∷ (synth_ids below ++ synth_ids after) else synth_ids below ++ synth_ids after)
      at true n h = All-cons (λ (y : ℤ). int_eq y x ≡ false) label.id (synth_ids below ++ synth_ids after) n h
      at false n h = h

root_below : (id : ℤ) (nodes : Nodes Key) → IsRooted nodes → AllDistinct int_eq (ids nodes) → holds (pos 0) (children id nodes) ≡ false
root_below id nodes r d =
    let one : ◌≡◌ {A = ℕ} (if int_eq r.label.id (pos 0) then 1 else 0) 1 = ap (λ (y : ℤ). let n : ℕ = if int_eq y (pos 0) then 1 else 0 in n) r.id in
    let apart : holds (pos 0) r.below ≡ false = not_there (pos 0) r.below (omega (arith, d (pos 0), ap (λ t. occurrences int_eq (pos 0) (ids t)) r.is, occurs-node (pos 0) r.label r.below none, one)) in
    ap (λ t. holds (pos 0) (children id t)) r.is ∙ at (int_eq r.label.id id) (holds id r.below) apart (children_apart (pos 0) id r.below apart)
  where
    at : (here inner : Bool) → holds (pos 0) r.below ≡ false → holds (pos 0) (children id r.below) ≡ false
        → holds (pos 0) (if here then r.below else if inner then children id r.below else children id none) ≡ false
    at true inner b p = b
    at false true b p = p
    at false false b p = refl

pub root_whole : (nodes : Nodes Key) → IsRooted nodes → subtree (pos 0) nodes ≡ nodes
root_whole nodes r =
    ap (subtree (pos 0)) r.is
    ∙ ap (λ (y : ℤ). if int_eq y (pos 0) then node r.label r.below none else if holds (pos 0) r.below then subtree (pos 0) r.below else none) r.id
    ∙ sym r.is

root_label : (nodes : Nodes Key) → IsRooted nodes → (label : Label Key) × (label_of (pos 0) nodes ≡ Some label) × (label.kind ≡ Group)
root_label nodes r = (
  r.label,
  ap (label_of (pos 0)) r.is
      ∙ ap (λ (y : ℤ). if int_eq y (pos 0) then Some r.label else if holds (pos 0) r.below then label_of (pos 0) r.below else None) r.id,
  r.kind,
)

kind_of : {P : Type 0} (f : Key → P) (o : Option (Label Key)) → option_map (λ (l : Label P). l.kind) (option_map (relabelled f) o) ≡ option_map (λ (l : Label Key). l.kind) o
kind_of f None = refl
kind_of f (Some label) = refl

pub root_counts : (nodes : Nodes Key) → IsRooted nodes → 1 ≤ count nodes
root_counts nodes r = omega (arith, ap count r.is)

-- the same of the tree that they stand for

module _ {P : Type 0} (root : P) (slots : List (Option P)) (nodes : Arranged) (saved : Option SavedNodes) (tree : NodeTree P) (e : shown root slots nodes saved ≡ tree) where
  pub root_shown : (id : ℤ) → IsRooted nodes.attached → AllDistinct int_eq (ids nodes.attached) → holds (pos 0) (children id tree.attached) ≡ false
  root_shown id r d =
      sym (ap (λ (t : NodeTree P). holds (pos 0) (children id t.attached)) e)
      ∙ (ap (holds (pos 0)) (children-payloads (payload_of root slots) id nodes.attached)
      ∙ (holds-payloads (payload_of root slots) (pos 0) (children id nodes.attached)
      ∙ root_below id nodes.attached r d))

  pub whole_shown : IsRooted nodes.attached → subtree (pos 0) tree.attached ≡ tree.attached
  whole_shown r =
      let is = ap (λ (t : NodeTree P). t.attached) e in
      sym (ap (subtree (pos 0)) is)
      ∙ (subtree-payloads (payload_of root slots) (pos 0) nodes.attached
      ∙ (ap (with_payloads (payload_of root slots)) (root_whole nodes.attached r)
      ∙ is))

  pub group_shown : IsRooted nodes.attached → option_map (λ (l : Label P). l.kind) (label_of (pos 0) tree.attached) ≡ Some Group
  group_shown r =
      let (label, found, is_group) = root_label nodes.attached r in
      sym (ap (λ (t : NodeTree P). option_map (λ (l : Label P). l.kind) (label_of (pos 0) t.attached)) e)
      ∙ (ap (option_map (λ (l : Label P). l.kind)) (label-payloads (payload_of root slots) (pos 0) nodes.attached)
      ∙ (kind_of (payload_of root slots) (label_of (pos 0) nodes.attached)
      ∙ (ap (option_map (λ (l : Label Key). l.kind)) found ∙ ap Some is_group)))

  pub tops_shown : (id : ℤ) → top_ids (children id nodes.attached) ≡ top_ids (children id tree.attached)
  tops_shown id =
      sym (ap top_ids (children-payloads (payload_of root slots) id nodes.attached) ∙ top_ids-payloads (payload_of root slots) (children id nodes.attached))
      ∙ ap (λ (t : NodeTree P). top_ids (children id t.attached)) e

  pub synths_shown : (id : ℤ) → synth_ids (children id nodes.attached) ≡ synth_ids (children id tree.attached)
  synths_shown id =
      sym (ap synth_ids (children-payloads (payload_of root slots) id nodes.attached) ∙ synth_ids-payloads (payload_of root slots) (children id nodes.attached))
      ∙ ap (λ (t : NodeTree P). synth_ids (children id t.attached)) e
