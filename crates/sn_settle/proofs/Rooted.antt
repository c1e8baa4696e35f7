-- No ending names the root: endings come of synths, and the root is a group.
use Rattle.std.proofs.Common.{◌≡◌, ◌||◌, ◌+◌, ◌==◌, ℕ, ℤ, pos, Bool, true, false, List, [], ◌∷◌, ◌++◌, Option, Some, None, All, refl, ap, sym, subst, ⊎_elim, true≢false, arith}
use Rattle.std.specs.Prelude.{if◌then◌else◌, slice_index}
use Rattle.std.specs.Option.{option_map}
use Rattle.std.specs.Ordering.{int_eq}
use Rattle.std.proofs.lemmas.Bool.{cases_Bool, cond_both, or_parts}
use Rattle.std.proofs.lemmas.List.Elements.{All-nil, All-cons, All-head, All-tail, All-append}
use Rattle.sn_mem.specs.declared.extents.Extent.{Extent}
use Rattle.sn_def.specs.declared.unit.Unit.{Unit as UnitLine}
use Rattle.sn_def.specs.Defs.{definition_of}
use Rattle.sn_def.specs.Facts.{done_action}
use Rattle.sn_def.specs.StateWords.{unit_words}
use Rattle.sn_tree.specs.declared.node.NodeKind.{NodeKind}
use Rattle.sn_tree.specs.declared.node.NodeKind.TheVariants as kinds
use Rattle.sn_tree.specs.Trees.{Label, Nodes, none, node, holds, count, children, subtree, label_of, running_labels}
use Rattle.sn_tree.proofs.Rooting.{IsGroupOver, count_below, group_over}
use Rattle.sn_world.specs.declared.stage.Held.{Held}
use Rattle.sn_world.specs.declared.stage.Held.TheVariants as held
use Rattle.sn_world.specs.Pictures.{has_synth, KindAgrees, AreHeld}
use Rattle.sn_world.specs.Settling.{ending_of, endings_at, unit_endings}
use Rattle.sn_world.specs.SettleWords.{held_endings, walk_endings}
use Rattle.sn_settle.specs.Acting.{IsBelowRoot}

-- ---- of a node that isn't the root

ending_below : (id : ℤ) (done : ℕ) (o : Option ℤ) → int_eq id (pos 0) ≡ false → All IsBelowRoot (ending_of id done o)
ending_below id done None other = All-nil IsBelowRoot
ending_below id done (Some action) other = choose (done == 1)
  where
    choose : (b : Bool) → All IsBelowRoot (if b then record { node = id; action = action } ∷ [] else [])
    choose true = All-cons IsBelowRoot (record { node = id; action = action }) [] other (All-nil IsBelowRoot)
    choose false = All-nil IsBelowRoot

units_below : (rate : ℕ) (id : ℤ) (us : List UnitLine) (place : ℕ) (ws : List ℕ) → int_eq id (pos 0) ≡ false → All IsBelowRoot (unit_endings rate id us place ws)
units_below rate id [] place ws other = All-nil IsBelowRoot
units_below rate id (u ∷ us) place ws other =
    All-append IsBelowRoot (endings_at id u place ws) (unit_endings rate id us (place + unit_words rate u) ws)
    (ending_below id (slice_index ws place) (done_action u.kind u.inputs) other)
    (units_below rate id us (place + unit_words rate u) ws other)

held_below : (rate : ℕ) (id : ℤ) (h : Held) (ws : List ℕ) → int_eq id (pos 0) ≡ false → All IsBelowRoot (held_endings rate id h ws)
held_below rate id held.Group ws other = All-nil IsBelowRoot
held_below rate id (held.Synth def controls state) ws other = units_below rate id (definition_of def.value).units state.at ws other

-- ---- of nodes that run

abbrev IsOther : Label Held → Type 0
IsOther l = int_eq l.id (pos 0) ≡ false

walk_below : (rate : ℕ) (ls : List (Label Held)) (ws : List ℕ) → All IsOther ls → All IsBelowRoot (walk_endings rate ls ws)
walk_below rate [] ws others = All-nil IsBelowRoot
walk_below rate (l ∷ ls) ws others =
    All-append IsBelowRoot (held_endings rate l.id l.payload ws) (walk_endings rate ls ws)
    (held_below rate l.id l.payload ws (All-head IsOther l ls others))
    (walk_below rate ls ws (All-tail IsOther l ls others))

labels_other : (t : Nodes Held) → holds (pos 0) t ≡ false → All IsOther (running_labels t)
labels_other none h = All-nil IsOther
labels_other (node l below after) h =
    let d = or_parts (int_eq l.id (pos 0)) (holds (pos 0) below || holds (pos 0) after) h in
    let e = or_parts (holds (pos 0) below) (holds (pos 0) after) d.1 in
    let later : All IsOther (running_labels after) = labels_other after e.1 in
    cond_both l.running (l ∷ (running_labels below ++ running_labels after)) (running_labels after) (All IsOther)
    (λ _. All-cons IsOther l (running_labels below ++ running_labels after) d.0 (All-append IsOther (running_labels below) (running_labels after) (labels_other below e.0) later))
    (λ _. later)

-- ---- of the root and those below it

none_of_group : (rate : ℕ) (id : ℤ) (h : Held) (ws : List ℕ) → has_synth h ≡ false → [] ≡ held_endings rate id h ws
none_of_group rate id held.Group ws e = refl
none_of_group rate id (held.Synth def controls state) ws e = absurd (true≢false e)

below_root : (l : Label Held) (below : Nodes Held) → subtree (pos 0) (node l below none) ≡ node l below none → holds (pos 0) (children (pos 0) (node l below none)) ≡ false → holds (pos 0) below ≡ false
below_root l below whole top =
    ⊎_elim
    (λ (n : int_eq l.id (pos 0) ≡ true). let free : holds (pos 0) below ≡ false = rw n at top in free)
    (λ (n : int_eq l.id (pos 0) ≡ false). ⊎_elim
    (λ (i : holds (pos 0) below ≡ true). let all : subtree (pos 0) below ≡ node l below none = rw (n, i) at whole in absurd (omega (arith, ap count all, count_below (pos 0) below)))
    (λ (i : holds (pos 0) below ≡ false). i)
    (cases_Bool (holds (pos 0) below)))
    (cases_Bool (int_eq l.id (pos 0)))

of_root : (rate : ℕ) (region : Extent) (l : Label Held) (below : Nodes Held) (ws : List ℕ) → AreHeld rate region (node l below none) → l.kind ≡ kinds.Group → holds (pos 0) below ≡ false → All IsBelowRoot (walk_endings rate (running_labels (node l below none)) ws)
of_root rate region l below ws are kind free =
    let group : has_synth l.payload ≡ false = subst (λ (k : NodeKind). KindAgrees k l.payload below) kind are.2 in
    cond_both l.running (l ∷ (running_labels below ++ [])) [] (λ (ls : List (Label Held)). All IsBelowRoot (walk_endings rate ls ws))
    (λ _. All-append IsBelowRoot (held_endings rate l.id l.payload ws) (walk_endings rate (running_labels below ++ []) ws)
    (subst (All IsBelowRoot) (none_of_group rate l.id l.payload ws group) (All-nil IsBelowRoot))
    (walk_below rate (running_labels below ++ []) ws (All-append IsOther (running_labels below) [] (labels_other below free) (All-nil IsOther))))
    (λ _. All-nil IsBelowRoot)

pub endings_below : (rate : ℕ) (region : Extent) (t : Nodes Held) (ws : List ℕ) → AreHeld rate region t → subtree (pos 0) t ≡ t → option_map (λ (l : Label Held). l.kind) (label_of (pos 0) t) ≡ Some kinds.Group → holds (pos 0) (children (pos 0) t) ≡ false
    → All IsBelowRoot (walk_endings rate (running_labels t) ws)
endings_below rate region t ws are whole kind top =
    let over : IsGroupOver t = group_over t whole kind in
    let free : holds (pos 0) over.below ≡ false = below_root over.label over.below (subst (λ (s : Nodes Held). subtree (pos 0) s ≡ s) over.is whole) (subst (λ (s : Nodes Held). holds (pos 0) (children (pos 0) s) ≡ false) over.is top) in
    subst (λ (s : Nodes Held). All IsBelowRoot (walk_endings rate (running_labels s) ws)) (sym over.is)
    (of_root rate region over.label over.below ws (subst (AreHeld rate region) over.is are) over.kind free)
