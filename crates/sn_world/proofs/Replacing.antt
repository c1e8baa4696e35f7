-- A node that is put in the place of another: what is left of the nodes, and of their words.
use Rattle.std.proofs.Common.{◌≡◌, ◌≤◌, ◌+◌, ◌||◌, ℕ, ℤ, pos, Bool, true, false, List, refl, ap, sym, subst, ◌∙◌, ⊎_elim, arith}
use Rattle.std.specs.Prelude.{if◌then◌else◌}
use Rattle.std.specs.Ordering.{int_eq}
use Rattle.std.proofs.lemmas.Bool.{cases_Bool, cond_both}
use Rattle.std.proofs.lemmas.Bool.Decides.{Decides-int_eq}
use Rattle.sn_mem.specs.declared.extents.Extent.{Extent}
use Rattle.sn_pool.specs.Pools.{same_extent, times}
use Rattle.sn_mem.specs.Words.{covers}
use Rattle.sn_tree.specs.declared.node.NodeKind.{NodeKind}
use Rattle.sn_tree.specs.declared.node.AddAction.{AddAction}
use Rattle.sn_tree.specs.declared.node.AddAction.TheVariants.{Before}
use Rattle.sn_tree.specs.Trees.{Nodes, none, node, holds, count, joined, put, leaf, subtree, without, with_payloads}
use Rattle.sn_tree.proofs.PayloadLaws.{holds-payloads, put-payloads, without-payloads, count-payloads}
use Rattle.sn_tree.proofs.Replacing.{still_held, subtree-before}
use Rattle.sn_world.specs.declared.stage.Held.{Held}
use Rattle.sn_world.specs.Nodes.{content_of}
use Rattle.sn_mem.specs.Buffers.{overlaps}
use Rattle.sn_world.specs.Pictures.{AreHeld, held_extents, live_held, amount}
use Rattle.sn_world.specs.NewNodes.{action_for, replaces, left_by, gone_by}
use Rattle.sn_world.proofs.Counting.{amount-none, amount-put, amount-leaf, amount-without, overlaps-amount, times-amount}
use Rattle.sn_mem.proofs.BufferWords.{AgreesOn}
use Rattle.sn_world.proofs.Walking.{parts_of, same_content, same_label, same_node, same_nodes}
use Rattle.sn_world.proofs.HeldKinds.{kind-below}

-- ---- the action

pub is_four : (action : ℤ) → replaces action ≡ true → action ≡ pos 4
is_four action h = (Decides-int_eq action (pos 4)).0 h

pub goes_before : (action : ℤ) → replaces action ≡ true → action_for action ≡ Before
goes_before action h = ap action_for (is_four action h)

-- ---- how many nodes

pub fewer : {P : Type 0} (id : ℤ) (t : Nodes P) → holds id t ≡ true → 1 + count (without id t) ≤ count t
fewer id none h = absurd cc
fewer id (node l below after) h = at (int_eq l.id id) (holds id below) (holds id after) h (fewer id below) (fewer id after)
  where
    at : (here inner outer : Bool) → (here || (inner || outer)) ≡ true → (inner ≡ true → 1 + count (without id below) ≤ count below) → (outer ≡ true → 1 + count (without id after) ≤ count after)
        → 1 + count (if here then after else if inner then node l (without id below) after else node l below (without id after)) ≤ count (node l below after)
    at true inner outer h b a = omega arith
    at false true outer h b a = omega (arith, b refl)
    at false false true h b a = omega (arith, a refl)
    at false false false h b a = absurd cc

module _ {P Q : Type 0} (f : P → Q) where
  pub left-payloads : (b : Bool) (target : ℤ) (t : Nodes P) → left_by b target (with_payloads f t) ≡ with_payloads f (left_by b target t)
  left-payloads true target t = without-payloads f target t
  left-payloads false target t = refl

  pub count-left : (b : Bool) (target : ℤ) (t : Nodes P) → count (left_by b target (with_payloads f t)) ≡ count (left_by b target t)
  count-left b target t = ap count (left-payloads b target t) ∙ count-payloads f (left_by b target t)

-- ---- what they hold

pub held-without : (rate : ℕ) (region : Extent) (id : ℤ) (t : Nodes Held) → AreHeld rate region t → AreHeld rate region (without id t)
held-without rate region id none h = h
held-without rate region id (node l below after) h =
    cond_both (int_eq l.id id) after (if holds id below then node l (without id below) after else node l below (without id after)) (AreHeld rate region)
    (λ _. h.1.1)
    (λ _. cond_both (holds id below) (node l (without id below) after) (node l below (without id after)) (AreHeld rate region)
    (λ e. (h.0, (held-without rate region id below h.1.0, h.1.1), kind-below l.kind l.payload below (without id below) id h.2 e))
    (λ _. (h.0, (h.1.0, held-without rate region id after h.1.1), h.2)))

pub held-left : (rate : ℕ) (region : Extent) (b : Bool) (target : ℤ) (t : Nodes Held) → AreHeld rate region t → AreHeld rate region (left_by b target t)
held-left rate region true target t h = held-without rate region target t h
held-left rate region false target t h = h

-- ---- their extents

pub amount-left : (weight : Extent → ℕ) (b : Bool) (target : ℤ) (t : Nodes Held) → amount weight (live_held (left_by b target t)) + amount weight (live_held (gone_by b target t)) ≡ amount weight (live_held t)
amount-left weight true target t = amount-without weight target t
amount-left weight false target t = omega (arith, amount-none weight)

-- with a new node, whose id is not that of the target
pub amount-placed : (weight : Extent → ℕ) (b : Bool) (action : AddAction) (target id : ℤ) (kind : NodeKind) (h : Held) (t : Nodes Held) → (b ≡ true → action ≡ Before) → holds target t ≡ true → int_eq id target ≡ false
    → amount weight (live_held (left_by b target (put action target (leaf id kind h) t))) ≡ amount weight (held_extents h) + amount weight (live_held (left_by b target t))
amount-placed weight false action target id kind h t before there other = omega (arith, amount-put weight action target (leaf id kind h) t there, amount-leaf weight id kind h)
amount-placed weight true action target id kind h t before there other =
    omega (arith, amount-put weight action target (leaf id kind h) t there, amount-leaf weight id kind h, amount-without weight target (put action target (leaf id kind h) t), amount-without weight target t, ap (λ (s : Nodes Held). amount weight (live_held s)) same)
  where
    same : subtree target (put action target (leaf id kind h) t) ≡ subtree target t
    same = subst (λ (a : AddAction). subtree target (put a target (leaf id kind h) t) ≡ subtree target t) (sym (before refl)) (subtree-before id target kind h other t there)

pub overlaps-left : (x : ℕ) (b : Bool) (target : ℤ) (t : Nodes Held) → overlaps x (live_held (left_by b target t)) + overlaps x (live_held (gone_by b target t)) ≡ overlaps x (live_held t)
overlaps-left x b target t = omega (arith, amount-left (λ e. if covers e x then 1 else 0) b target t, overlaps-amount x (live_held (left_by b target t)), overlaps-amount x (live_held (gone_by b target t)), overlaps-amount x (live_held t))

pub times-left : (e : Extent) (b : Bool) (target : ℤ) (t : Nodes Held) → times e (live_held (left_by b target t)) + times e (live_held (gone_by b target t)) ≡ times e (live_held t)
times-left e b target t = omega (arith, amount-left (λ y. if same_extent e y then 1 else 0) b target t, times-amount e (live_held (left_by b target t)), times-amount e (live_held (gone_by b target t)), times-amount e (live_held t))

module _ (b : Bool) (action : AddAction) (target id : ℤ) (kind : NodeKind) (h : Held) (t : Nodes Held) (before : b ≡ true → action ≡ Before) (there : holds target t ≡ true) (other : int_eq id target ≡ false) where
  pub overlaps-placed : (x : ℕ) → overlaps x (live_held (left_by b target (put action target (leaf id kind h) t))) ≡ overlaps x (held_extents h) + overlaps x (live_held (left_by b target t))
  overlaps-placed x =
      omega (arith, amount-placed (λ e. if covers e x then 1 else 0) b action target id kind h t before there other, overlaps-amount x (live_held (left_by b target (put action target (leaf id kind h) t))), overlaps-amount x (held_extents h), overlaps-amount x (live_held (left_by b target t)))

  pub times-placed : (e : Extent) → times e (live_held (left_by b target (put action target (leaf id kind h) t))) ≡ times e (held_extents h) + times e (live_held (left_by b target t))
  times-placed e =
      omega (arith, amount-placed (λ y. if same_extent e y then 1 else 0) b action target id kind h t before there other, times-amount e (live_held (left_by b target (put action target (leaf id kind h) t))), times-amount e (held_extents h), times-amount e (live_held (left_by b target t)))

-- ---- what they stand for

-- new nodes in the place of a subtree
instead : {P : Type 0} → ℤ → Nodes P → Nodes P → Nodes P
instead target new none = none
instead target new (node l below after) =
    if int_eq l.id target then joined new after
    else if holds target below then node l (instead target new below) after
    else node l below (instead target new after)

module _ {P : Type 0} (id target : ℤ) (kind : NodeKind) (payload : P) (other : int_eq id target ≡ false) where
  instead_is : (t : Nodes P) → holds target t ≡ true → without target (put Before target (leaf id kind payload) t) ≡ instead target (leaf id kind payload) t
  unfolding instead
  instead_is none there = refl
  instead_is (node l below after) there =
      ⊎_elim
      (λ (n : int_eq l.id target ≡ true). rw (n, other) (rw n refl))
      (λ (n : int_eq l.id target ≡ false). ⊎_elim
      (λ (i : holds target below ≡ true). let r = still_held id target kind payload below i in rw (n, i) (rw (n, r) (ap (λ (s : Nodes P). node l s after) (instead_is below i))))
      (λ (i : holds target below ≡ false). let g : holds target after ≡ true = rw (n, i) at there in rw (n, i) (rw (n, i) (ap (λ (s : Nodes P). node l below s) (instead_is after g))))
      (cases_Bool (holds target below)))
      (cases_Bool (int_eq l.id target))

module _ (us ws : List ℕ) (id target : ℤ) (kind : NodeKind) (h : Held) where
  -- by the words of the nodes that are left
  same_instead : (t : Nodes Held) → AgreesOn (live_held (without target t)) us ws → with_payloads (content_of us) (instead target (leaf id kind h) t) ≡ instead target (leaf id kind (content_of us h)) (with_payloads (content_of ws) t)
  unfolding instead AgreesOn
  same_instead none agree = refl
  same_instead (node l below after) agree =
      let inner : holds target (with_payloads (content_of ws) below) ≡ holds target below = holds-payloads (content_of ws) target below in
      ⊎_elim
      (λ (n : int_eq l.id target ≡ true).
      let e : without target (node l below after) ≡ after = rw n refl in
      let g : AgreesOn (live_held after) us ws = subst (λ (s : Nodes Held). AgreesOn (live_held s) us ws) e agree in
      rw n (ap (λ (a : Nodes _). joined (leaf id kind (content_of us h)) a) (same_nodes after us ws g)))
      (λ (n : int_eq l.id target ≡ false). ⊎_elim
      (λ (i : holds target below ≡ true).
      let e : without target (node l below after) ≡ node l (without target below) after = rw (n, i) refl in
      let g : AgreesOn (live_held (node l (without target below) after)) us ws = subst (λ (s : Nodes Held). AgreesOn (live_held s) us ws) e agree in
      let parts = parts_of l (without target below) after in
      rw (n, inner, i) (same_node _ _ _ _ _ _
      (same_label l _ _ (same_content l.payload us ws (λ x more. g x (omega (arith, parts x)))))
      (same_instead below (λ x more. g x (omega (arith, parts x))))
      (same_nodes after us ws (λ x more. g x (omega (arith, parts x))))))
      (λ (i : holds target below ≡ false).
      let e : without target (node l below after) ≡ node l below (without target after) = rw (n, i) refl in
      let g : AgreesOn (live_held (node l below (without target after))) us ws = subst (λ (s : Nodes Held). AgreesOn (live_held s) us ws) e agree in
      let parts = parts_of l below (without target after) in
      rw (n, inner, i) (same_node _ _ _ _ _ _
      (same_label l _ _ (same_content l.payload us ws (λ x more. g x (omega (arith, parts x)))))
      (same_nodes below us ws (λ x more. g x (omega (arith, parts x))))
      (same_instead after (λ x more. g x (omega (arith, parts x))))))
      (cases_Bool (holds target below)))
      (cases_Bool (int_eq l.id target))

  pub same_placed : (b : Bool) (action : AddAction) (t : Nodes Held) → (b ≡ true → action ≡ Before) → holds target t ≡ true → int_eq id target ≡ false → AgreesOn (live_held (left_by b target t)) us ws
      → with_payloads (content_of us) (left_by b target (put action target (leaf id kind h) t)) ≡ left_by b target (put action target (leaf id kind (content_of us h)) (with_payloads (content_of ws) t))
  same_placed false action t before there other agree =
      sym (put-payloads (content_of us) action target (leaf id kind h) t)
      ∙ ap (put action target (leaf id kind (content_of us h))) (same_nodes t us ws agree)
  same_placed true action t before there other agree =
      subst
      (λ (a : AddAction). with_payloads (content_of us) (without target (put a target (leaf id kind h) t)) ≡ without target (put a target (leaf id kind (content_of us h)) (with_payloads (content_of ws) t)))
      (sym (before refl))
      (ap (with_payloads (content_of us)) (instead_is id target kind h other t there)
      ∙ same_instead t agree
      ∙ sym (instead_is id target kind (content_of us h) other (with_payloads (content_of ws) t) (holds-payloads (content_of ws) target t ∙ there)))
