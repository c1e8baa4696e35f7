-- The tree that nodes and payloads stand for, after each step.
use Rattle.std.proofs.Common.{◌≡◌, ◌≢◌, ◌⊎◌, ℕ, ◌+◌, ◌-◌, ◌<◌, ◌≤◌, ℤ, pos, Bool, true, false, not, ◌&&◌, nat_lt, List, [], ◌∷◌, Option, Some, None, sym, refl, ap, ◌∙◌, subst, ⊎_elim, inl, inr, arith}
use Rattle.std.specs.Prelude.{◌==◌, unwrap_or, slice_index_or, if◌then◌else◌}
use Rattle.std.specs.Ordering.{int_eq}
use Rattle.std.proofs.lemmas.Bool.{cases_Bool, cases_lt, lt-ltb, le-ltb}
use Rattle.std.proofs.lemmas.Bool.Decides.{eqb_tells, Decides-int_eq}
use Rattle.slab.specs.Slab.{Slab, get, Updates}
use Rattle.sn_tree.specs.declared.node.NodeKind.{NodeKind}
use Rattle.sn_tree.specs.declared.node.Spot.{Spot}
use Rattle.sn_tree.specs.declared.node.AddAction.{AddAction}
use Rattle.sn_tree.specs.declared.node.AddAction.TheVariants.{Head, Tail, Before, After}
use Rattle.sn_tree.specs.declared.node.TreeFault.{TreeFault}
use Rattle.sn_tree.specs.Trees.{Nodes, Sides, none, node, holds, subtree, without, joined, count, has_top, shares, put, leaf, with_payloads, with_payloads_of, changed, with_running, last_top}
use Rattle.std.specs.List.{AllByRecursion}
use Rattle.sn_tree.specs.declared.node.TreeFault.TheVariants.{NoNode, InUse, NotGroup, IsRoot, Inside, TooMany}
use Rattle.sn_tree.specs.Faults.{first_fault, is_beside_root, is_missing, is_in_synth, detach_fault, insert_fault, move_fault, attach_fault}
use Rattle.sn_tree.specs.Order.{Key}
use Rattle.sn_tree.specs.Arranged.{Arranged}
use Rattle.sn_tree.specs.Saving.{SavedNodes, HasSpare, spent, noted}
use Rattle.sn_tree.specs.Model.{NodeTree}
use Rattle.sn_tree.specs.Steps.{HasRoom, followed, stepped, inserted, inserting, detaching, attaching, moving, setting, detached, attached, moved, running}
use Rattle.sn_tree.specs.Kept.{same_key, uses, payload_of, filled, IsRooted, IsSaved, IsKept, mark_of, origin, journal_shown, shown}
use Rattle.sn_tree.proofs.Distinct.{occurs-put, occurs-parts, occurs-set, distinct_leaf, each_detached, each_left, last_distinct, distinct_attached}
use Rattle.sn_tree.proofs.Keeping.{agree, held_apart, uses-put, used_detaching, used_attaching, used_moving, used_setting, inserting_map, detaching_map, attaching_map, moving_map, setting_map}

-- the root stays where it is

same_root : (t : Nodes Key) (r : IsRooted t) (below : Nodes Key) (t' : Nodes Key) → t' ≡ node r.label below none → IsRooted t'
same_root t r below t' e = record { label = r.label; below = below; is = e; id = r.id; kind = r.kind; key = r.key }

is_zero : (id other : ℤ) → id ≡ pos 0 → int_eq id other ≡ true → int_eq other (pos 0) ≡ true
is_zero id other z h = (Decides-int_eq other (pos 0)).1 (sym ((Decides-int_eq id other).0 h) ∙ z)

beside_not : (action : AddAction) (target : ℤ) → is_beside_root action target ≡ false → int_eq target (pos 0) ≡ true → (action ≡ Head) ⊎ (action ≡ Tail)
beside_not Head target h z = inl refl
beside_not Tail target h z = inr refl
beside_not Before target h z = let bad : true ≡ false = sym (ap (λ b. true && b) z) ∙ h in cc
beside_not After target h z = let bad : true ≡ false = sym (ap (λ b. true && b) z) ∙ h in cc

pub rooted_put : (action : AddAction) (target : ℤ) (new t : Nodes Key) → is_beside_root action target ≡ false → IsRooted t → IsRooted (put action target new t)
rooted_put action target new t h r =
    ⊎_elim
    (λ (n : int_eq r.label.id target ≡ true). ⊎_elim
    (λ (a : action ≡ Head). same_root t r (joined new r.below) (put action target new t) ((λ i. put (a i) target new (r.is i)) ∙ rw n refl))
    (λ (a : action ≡ Tail). same_root t r (joined r.below new) (put action target new t) ((λ i. put (a i) target new (r.is i)) ∙ rw n refl))
    (beside_not action target h (is_zero r.label.id target r.id n)))
    (λ (n : int_eq r.label.id target ≡ false). ⊎_elim
    (λ (i : holds target r.below ≡ true). same_root t r (put action target new r.below) (put action target new t) (ap (put action target new) r.is ∙ rw (n, i) refl))
    (λ (i : holds target r.below ≡ false). same_root t r r.below (put action target new t) (ap (put action target new) r.is ∙ rw (n, i) refl))
    (cases_Bool (holds target r.below)))
    (cases_Bool (int_eq r.label.id target))

pub rooted_without : (id : ℤ) (t : Nodes Key) → int_eq id (pos 0) ≡ false → IsRooted t → IsRooted (without id t)
rooted_without id t h r =
    ⊎_elim
    (λ (n : int_eq r.label.id id ≡ true). let bad : true ≡ false = sym (is_zero r.label.id id r.id n) ∙ h in cc)
    (λ (n : int_eq r.label.id id ≡ false). ⊎_elim
    (λ (i : holds id r.below ≡ true). same_root t r (without id r.below) (without id t) (ap (without id) r.is ∙ rw (n, i) refl))
    (λ (i : holds id r.below ≡ false). same_root t r r.below (without id t) (ap (without id) r.is ∙ rw (n, i) refl))
    (cases_Bool (holds id r.below)))
    (cases_Bool (int_eq r.label.id id))

pub rooted_set : (id : ℤ) (on : Bool) (t : Nodes Key) → IsRooted t → IsRooted (changed id (with_running on) t)
rooted_set id on t r =
    ⊎_elim
    (λ (n : int_eq r.label.id id ≡ true). let out : IsRooted (changed id (with_running on) t) = record { label = with_running on r.label; below = r.below; is = ap (changed id (with_running on)) r.is ∙ rw n refl; id = r.id; kind = r.kind; key = r.key } in out)
    (λ (n : int_eq r.label.id id ≡ false). ⊎_elim
    (λ (i : holds id r.below ≡ true). same_root t r (changed id (with_running on) r.below) (changed id (with_running on) t) (ap (changed id (with_running on)) r.is ∙ rw (n, i) refl))
    (λ (i : holds id r.below ≡ false). same_root t r r.below (changed id (with_running on) t) (ap (changed id (with_running on)) r.is ∙ rw (n, i) refl))
    (cases_Bool (holds id r.below)))
    (cases_Bool (int_eq r.label.id id))

-- tests of faults that don't hold

pub none_holds : (ts : List (Bool × TreeFault)) → first_fault ts ≡ None → AllByRecursion (λ (t : Bool × TreeFault). t.0 ≡ false) ts
none_holds [] h = tt
none_holds ((true, f) ∷ ts) h = cc
none_holds ((false, f) ∷ ts) h = (refl, none_holds ts h)

pub detach_root : {P : Type 0} (id : ℤ) (t : Nodes P) → detach_fault id t ≡ None → int_eq id (pos 0) ≡ false
detach_root id t h = (none_holds ((is_missing id t, NoNode) ∷ (int_eq id (pos 0), IsRoot) ∷ []) h).1.0

pub insert_beside : {P : Type 0} (id : ℤ) (action : AddAction) (target : ℤ) (t : Nodes P) → insert_fault id action target t ≡ None → is_beside_root action target ≡ false
insert_beside id action target t h =
    (none_holds ((holds id t, InUse) ∷ (is_missing target t, NoNode) ∷ (is_beside_root action target, IsRoot) ∷ (is_in_synth action target t, NotGroup) ∷ (nat_lt 4096 (count t + 1), TooMany) ∷ []) h).1.1.0

pub insert_free : {P : Type 0} (id : ℤ) (action : AddAction) (target : ℤ) (t : Nodes P) → insert_fault id action target t ≡ None → holds id t ≡ false
insert_free id action target t h =
    (none_holds ((holds id t, InUse) ∷ (is_missing target t, NoNode) ∷ (is_beside_root action target, IsRoot) ∷ (is_in_synth action target t, NotGroup) ∷ (nat_lt 4096 (count t + 1), TooMany) ∷ []) h).0

not_missing : (b : Bool) → not b ≡ false → b ≡ true
not_missing true h = refl
not_missing false h = sym h

pub insert_there : {P : Type 0} (id : ℤ) (action : AddAction) (target : ℤ) (t : Nodes P) → insert_fault id action target t ≡ None → holds target t ≡ true
insert_there id action target t h =
    not_missing (holds target t) (none_holds ((holds id t, InUse) ∷ (is_missing target t, NoNode) ∷ (is_beside_root action target, IsRoot) ∷ (is_in_synth action target t, NotGroup) ∷ (nat_lt 4096 (count t + 1), TooMany) ∷ []) h).1.0

pub move_there : {P : Type 0} (id : ℤ) (action : AddAction) (target : ℤ) (t : Nodes P) → move_fault id action target t ≡ None → holds target (without id t) ≡ true
move_there id action target t h =
    let all = none_holds ((is_missing id t, NoNode) ∷ (is_missing target t, NoNode) ∷ (int_eq id (pos 0), IsRoot) ∷ (is_beside_root action target, IsRoot) ∷ (is_in_synth action target t, NotGroup) ∷ (holds target (subtree id t), Inside) ∷ []) h in
    held_apart id target t (not_missing (holds target t) all.1.0) all.1.1.1.1.1.0

pub move_root : {P : Type 0} (id : ℤ) (action : AddAction) (target : ℤ) (t : Nodes P) → move_fault id action target t ≡ None → (int_eq id (pos 0) ≡ false) × (is_beside_root action target ≡ false)
move_root id action target t h =
    let all = none_holds ((is_missing id t, NoNode) ∷ (is_missing target t, NoNode) ∷ (int_eq id (pos 0), IsRoot) ∷ (is_beside_root action target, IsRoot) ∷ (is_in_synth action target t, NotGroup) ∷ (holds target (subtree id t), Inside) ∷ []) h in
    (all.1.1.0, all.1.1.1.0)

pub attach_beside : {P : Type 0} (id : ℤ) (action : AddAction) (target : ℤ) (t d : Nodes P) → attach_fault id action target t d ≡ None → is_beside_root action target ≡ false
attach_beside id action target t d h =
    (none_holds ((shares (last_top id d) t, InUse) ∷ (not (has_top id d), NoNode) ∷ (is_missing target t, NoNode) ∷ (is_beside_root action target, IsRoot) ∷ (is_in_synth action target t, NotGroup) ∷ (nat_lt 4096 (count t + count (last_top id d)), TooMany) ∷ []) h).1.1.1.0

pub attach_there : {P : Type 0} (id : ℤ) (action : AddAction) (target : ℤ) (t d : Nodes P) → attach_fault id action target t d ≡ None → holds target t ≡ true
attach_there id action target t d h =
    not_missing (holds target t) (none_holds ((shares (last_top id d) t, InUse) ∷ (not (has_top id d), NoNode) ∷ (is_missing target t, NoNode) ∷ (is_beside_root action target, IsRoot) ∷ (is_in_synth action target t, NotGroup) ∷ (nat_lt 4096 (count t + count (last_top id d)), TooMany) ∷ []) h).1.1.0

pub attach_apart : {P : Type 0} (id : ℤ) (action : AddAction) (target : ℤ) (t d : Nodes P) → attach_fault id action target t d ≡ None → shares (last_top id d) t ≡ false
attach_apart id action target t d h =
    (none_holds ((shares (last_top id d) t, InUse) ∷ (not (has_top id d), NoNode) ∷ (is_missing target t, NoNode) ∷ (is_beside_root action target, IsRoot) ∷ (is_in_synth action target t, NotGroup) ∷ (nat_lt 4096 (count t + count (last_top id d)), TooMany) ∷ []) h).0

-- an open journal follows

pub spare : {P : Type 0} (root : P) (slots : List (Option P)) (nodes : Arranged) (saved : Option SavedNodes) (tree : NodeTree P) → shown root slots nodes saved ≡ tree → HasRoom tree.journal → HasSpare saved
spare root slots nodes saved tree e h = there saved (subst (λ (t : NodeTree _). HasRoom t.journal) (sym e) h)
  where
    there : (s : Option SavedNodes) → HasRoom (journal_shown root slots nodes s) → HasSpare s
    there None h = tt
    there (Some s) h = h

pub spent_before : {P : Type 0} (slots : List (Option P)) (cost : ℕ) (saved : Option SavedNodes) → IsSaved slots saved → IsSaved slots (spent cost saved)
spent_before slots cost None h = tt
spent_before slots cost (Some s) h = h

module _ {P : Type 0} (root : P) (slots : List (Option P)) (nodes nodes' : Arranged) where
  journal_followed : (saved : Option SavedNodes) (mark_step : Sides (Option ℕ) → Sides (Option ℕ)) → ((h : Key → Option ℕ) → with_payloads_of h nodes' ≡ mark_step (with_payloads_of h nodes))
      → journal_shown root slots nodes' (spent 1 saved) ≡ followed 1 mark_step (journal_shown root slots nodes saved)
  journal_followed None mark_step m = refl
  journal_followed (Some s) mark_step m = λ i. Some (record {
    attached = with_payloads (payload_of root slots) s.nodes.attached;
    detached = with_payloads (payload_of root slots) s.nodes.detached;
    room = s.room - 1;
    marks = record { saved = with_payloads_of mark_of s.nodes; present = m (origin s.nodes) i };
  })

  step_shown : (saved : Option SavedNodes) (step : Sides P → Sides P) (mark_step : Sides (Option ℕ) → Sides (Option ℕ))
      → with_payloads_of (payload_of root slots) nodes' ≡ step (with_payloads_of (payload_of root slots) nodes)
      → ((h : Key → Option ℕ) → with_payloads_of h nodes' ≡ mark_step (with_payloads_of h nodes))
      → shown root slots nodes' (spent 1 saved) ≡ stepped 1 step mark_step (shown root slots nodes saved)
  step_shown saved step mark_step p m = λ i. record { attached = (p i).attached; detached = (p i).detached; journal = journal_followed saved mark_step m i }

-- the step of a call, and what the call makes of the tree
module _ {P : Type 0} (root : P) (slots : List (Option P)) (nodes nodes' : Arranged) (saved saved' : Option SavedNodes) (tree : NodeTree P)
    (view : shown root slots nodes saved ≡ tree) (kept : IsKept slots nodes saved) (less : saved' ≡ spent 1 saved) where
  module _ (id : ℤ) (is : nodes' ≡ detaching id nodes) where
    pub detach_gives : shown root slots nodes' saved' ≡ detached id tree
    detach_gives =
        (λ i. shown root slots (is i) (less i))
        ∙ (step_shown root slots nodes (detaching id nodes) saved (detaching id) (detaching id) (detaching_map (payload_of root slots) nodes id) (λ h. detaching_map h nodes id) ∙ ap (detached id) view)

    pub detach_keeps : int_eq id (pos 0) ≡ false → IsKept slots nodes' saved'
    detach_keeps z = whole
      where
        there : IsKept slots (detaching id nodes) (spent 1 saved)
        there = record { now = record { keys = λ key. omega (arith, used_detaching key id nodes, kept.now.keys key) }; rooted = rooted_without id nodes.attached z kept.rooted; distinct = λ x. omega (arith, occurs-parts x id nodes.attached, kept.distinct x); aside = each_detached id nodes.attached nodes.detached kept.distinct kept.aside; before = spent_before slots 1 saved kept.before }

        whole : IsKept slots nodes' saved'
        whole = subst (λ s. IsKept slots nodes' s) (sym less) (subst (λ n. IsKept slots n (spent 1 saved)) (sym is) there)

  module _ (id : ℤ) (on : Bool) (is : nodes' ≡ setting id on nodes) where
    pub run_gives : shown root slots nodes' saved' ≡ running id on tree
    run_gives =
        (λ i. shown root slots (is i) (less i))
        ∙ (step_shown root slots nodes (setting id on nodes) saved (setting id on) (setting id on) (setting_map (payload_of root slots) nodes id on) (λ h. setting_map h nodes id on) ∙ ap (running id on) view)

    pub run_keeps : IsKept slots nodes' saved'
    run_keeps = subst (λ s. IsKept slots nodes' s) (sym less) (subst (λ n. IsKept slots n (spent 1 saved)) (sym is) there)
      where
        there : IsKept slots (setting id on nodes) (spent 1 saved)
        there = record { now = record { keys = λ key. omega (arith, used_setting key id on nodes, kept.now.keys key) }; rooted = rooted_set id on nodes.attached kept.rooted; distinct = λ x. omega (arith, occurs-set x id on nodes.attached, kept.distinct x); aside = kept.aside; before = spent_before slots 1 saved kept.before }

  module _ (id : ℤ) (action : AddAction) (target : ℤ) where
    module _ (is : nodes' ≡ moving id action target nodes) where
      pub move_gives : shown root slots nodes' saved' ≡ moved id action target tree
      move_gives =
          (λ i. shown root slots (is i) (less i))
          ∙ (step_shown root slots nodes (moving id action target nodes) saved (moving id action target) (moving id action target) (moving_map (payload_of root slots) nodes id action target) (λ h. moving_map h nodes id action target) ∙ ap (moved id action target) view)

      pub move_keeps : int_eq id (pos 0) ≡ false → is_beside_root action target ≡ false → holds target (without id nodes.attached) ≡ true → IsKept slots nodes' saved'
      move_keeps z b held = subst (λ s. IsKept slots nodes' s) (sym less) (subst (λ n. IsKept slots n (spent 1 saved)) (sym is) there)
        where
          there : IsKept slots (moving id action target nodes) (spent 1 saved)
          there = record {
            now = record { keys = λ key. omega (arith, used_moving key id action target nodes held, kept.now.keys key) };
            rooted = rooted_put action target (subtree id nodes.attached) (without id nodes.attached) b (rooted_without id nodes.attached z kept.rooted);
            distinct = λ x. omega (arith, occurs-parts x id nodes.attached, occurs-put x action target (subtree id nodes.attached) (without id nodes.attached), kept.distinct x);
            aside = kept.aside;
            before = spent_before slots 1 saved kept.before;
          }

    module _ (is : nodes' ≡ attaching id action target nodes) where
      pub attach_gives : shown root slots nodes' saved' ≡ attached id action target tree
      attach_gives =
          (λ i. shown root slots (is i) (less i))
          ∙ (step_shown root slots nodes (attaching id action target nodes) saved (attaching id action target) (attaching id action target) (attaching_map (payload_of root slots) nodes id action target) (λ h. attaching_map h nodes id action target) ∙ ap (attached id action target) view)

      pub attach_keeps : attach_fault id action target nodes.attached nodes.detached ≡ None → IsKept slots nodes' saved'
      attach_keeps z = subst (λ s. IsKept slots nodes' s) (sym less) (subst (λ n. IsKept slots n (spent 1 saved)) (sym is) there)
        where
          there : IsKept slots (attaching id action target nodes) (spent 1 saved)
          there = record {
            now = record { keys = λ key. omega (arith, used_attaching key id action target nodes (attach_there id action target nodes.attached nodes.detached z), kept.now.keys key) };
            rooted = rooted_put action target (last_top id nodes.detached) nodes.attached (attach_beside id action target nodes.attached nodes.detached z) kept.rooted;
            distinct = distinct_attached action target (last_top id nodes.detached) nodes.attached (attach_apart id action target nodes.attached nodes.detached z) (last_distinct id nodes.detached kept.aside) kept.distinct;
            aside = each_left id nodes.detached kept.aside;
            before = spent_before slots 1 saved kept.before;
          }

-- a new node and its payload

module _ {P : Type 0} (root : P) (slots slots' : List (Option P)) (new : ℕ) (payload : P)
    (vacant : slice_index_or slots new None ≡ None) (there : slice_index_or slots' new None ≡ Some payload)
    (others : (other : ℕ) → other ≢ new → slice_index_or slots' other None ≡ slice_index_or slots other None) where
  same_payload : (key : Key) → 1 ≤ filled slots key → payload_of root slots' key ≡ payload_of root slots key
  same_payload None h = refl
  same_payload (Some key) h =
      ⊎_elim
      (λ (e : ((key == new) ≡ true) × (key ≡ new)). let z : slice_index_or slots key None ≡ None = ap (λ n. slice_index_or slots n None) e.1 ∙ vacant in let bad : 1 ≤ 0 = rw z at h in absurd (omega arith))
      (λ (e : ((key == new) ≡ false) × (key ≢ new)). ap (λ o. unwrap_or o root) (others key e.1))
      (eqb_tells key new)

  more_filled : (key : Key) → filled slots key + (if same_key (Some new) key then 1 else 0) ≡ filled slots' key
  more_filled None = omega arith
  more_filled (Some key) =
      ⊎_elim
      (λ (e : ((new == key) ≡ true) × (new ≡ key)).
      let z : slice_index_or slots key None ≡ None = ap (λ n. slice_index_or slots n None) (sym e.1) ∙ vacant in
      let y : slice_index_or slots' key None ≡ Some payload = ap (λ n. slice_index_or slots' n None) (sym e.1) ∙ there in
      rw (e.0, z, y) (omega arith))
      (λ (e : ((new == key) ≡ false) × (new ≢ key)). let o = others key (λ q. e.1 (sym q)) in rw (e.0, o) (omega arith))
      (eqb_tells new key)

  none_new : filled slots (Some new) ≡ 0
  none_new = rw vacant refl

  kept_nodes : (t : Nodes Key) → ((key : Key) → uses key t ≤ filled slots key) → with_payloads (payload_of root slots') t ≡ with_payloads (payload_of root slots) t
  kept_nodes t h = agree (payload_of root slots') (payload_of root slots) t (λ key u. same_payload key (omega (arith, h key)))

  module _ (nodes : Arranged) (saved : Option SavedNodes) (kept : IsKept slots nodes saved) (id : ℤ) (kind : NodeKind) (action : AddAction) (target : ℤ) where
    pub inserted_keeps : is_beside_root action target ≡ false → holds id nodes.attached ≡ false → holds target nodes.attached ≡ true → IsKept slots' (inserting id kind action target (Some new) nodes) (noted new saved)
    inserted_keeps b free held = record {
      now = record { keys = λ key. omega (arith, uses-put key action target (leaf id kind (Some new)) nodes.attached held, kept.now.keys key, more_filled key) };
      rooted = rooted_put action target (leaf id kind (Some new)) nodes.attached b kept.rooted;
      distinct = distinct_leaf id kind action target (Some new) nodes.attached free kept.distinct;
      aside = kept.aside;
      before = before saved kept.before;
    }
      where
        before : (s : Option SavedNodes) → IsSaved slots s → IsSaved slots' (noted new s)
        before None h = tt
        before (Some s) h = (λ key. omega (arith, h.0 key, more_filled key), h.1, h.2, h.3)

    inserted_journal : (s : Option SavedNodes) → IsSaved slots s
        → journal_shown root slots' (inserting id kind action target (Some new) nodes) (noted new s) ≡ followed 0 (inserting id kind action target None) (journal_shown root slots nodes s)
    inserted_journal None h = refl
    inserted_journal (Some s) h =
        let room : s.room ≡ s.room - 0 = omega arith in
        let unused : nat_lt 0 (uses (Some new) s.nodes.attached + uses (Some new) s.nodes.detached) ≡ false = le-ltb 0 (uses (Some new) s.nodes.attached + uses (Some new) s.nodes.detached) (omega (arith, h.0 (Some new), none_new)) in
        let fresh : origin s.nodes (Some new) ≡ None = ap (λ b. if b then Some (mark_of (Some new)) else None) unused in
        λ i. Some (record {
          attached = kept_nodes s.nodes.attached (λ key. omega (arith, h.0 key)) i;
          detached = kept_nodes s.nodes.detached (λ key. omega (arith, h.0 key)) i;
          room = room i;
          marks = record { saved = with_payloads_of mark_of s.nodes; present = inserting_map (origin s.nodes) nodes id kind action target (Some new) None fresh i };
        })

    pub inserted_shows : shown root slots' (inserting id kind action target (Some new) nodes) (noted new saved) ≡ inserted id kind action target payload (shown root slots nodes saved)
    inserted_shows =
        let put_in = inserting_map (payload_of root slots') nodes id kind action target (Some new) payload (ap (λ o. unwrap_or o root) there) in
        let same : with_payloads (payload_of root slots') nodes.attached ≡ with_payloads (payload_of root slots) nodes.attached = kept_nodes nodes.attached (λ key. omega (arith, kept.now.keys key)) in
        λ i. record {
          attached = (ap (λ (s : Sides P). s.attached) put_in ∙ ap (put action target (leaf id kind payload)) same) i;
          detached = kept_nodes nodes.detached (λ key. omega (arith, kept.now.keys key)) i;
          journal = inserted_journal saved kept.before i;
        }

pub insert_gives : {P : Type 0} (root : P) (s0 s1 s2 : Slab P) (nodes nodes' : Arranged) (saved saved' : Option SavedNodes) (tree : NodeTree P) (id : ℤ) (kind : NodeKind) (spot' spot : Spot) (payload : P) (key made : ℕ)
    → IsKept s0.slots nodes saved → shown root s0.slots nodes saved ≡ tree → s1 ≡ record s0 { capacity = s1.capacity }
    → key ≡ s1.vacant_key → made ≡ s1.vacant_key → get s1 made ≡ None → Updates s1 s2 made (Some payload) → spot' ≡ spot
    → nodes' ≡ inserting id kind spot'.action spot'.target (Some key) nodes → saved' ≡ noted key saved → is_beside_root spot.action spot.target ≡ false → holds id nodes.attached ≡ false → holds spot.target nodes.attached ≡ true
    → IsKept s2.slots nodes' saved' × (shown root s2.slots nodes' saved' ≡ inserted id kind spot.action spot.target payload tree)
insert_gives root s0 s1 s2 nodes nodes' saved saved' tree id kind spot' spot payload key made f e kept v m vacant updates same nd sd b free held =
    let same_slots : s1.slots ≡ s0.slots = ap (λ (s : Slab _). s.slots) kept in
    let k : made ≡ key = m ∙ sym v in
    let filled1 : IsKept s1.slots nodes saved = subst (λ l. IsKept l nodes saved) (sym same_slots) f in
    let view1 : shown root s1.slots nodes saved ≡ tree = ap (λ l. shown root l nodes saved) same_slots ∙ e in
    let vac : slice_index_or s1.slots key None ≡ None = subst (λ n. slice_index_or s1.slots n None ≡ None) k vacant in
    let up : Updates s1 s2 key (Some payload) = subst (λ n. Updates s1 s2 n (Some payload)) k updates in
    let n2 : nodes' ≡ inserting id kind spot.action spot.target (Some key) nodes =
    nd ∙ ap (λ (q : Spot). inserting id kind q.action q.target (Some key) nodes) same in (
      subst (λ q. IsKept s2.slots nodes' q) (sym sd) (subst (λ n. IsKept s2.slots n (noted key saved)) (sym n2) (inserted_keeps root s1.slots s2.slots key payload vac up.changed up.others nodes saved filled1 id kind spot.action spot.target b free held)),
      (λ i. shown root s2.slots (n2 i) (sd i)) ∙ (inserted_shows root s1.slots s2.slots key payload vac up.changed up.others nodes saved filled1 id kind spot.action spot.target ∙ ap (inserted id kind spot.action spot.target payload) view1),
    )

-- nothing was put in

pub same_slots : {P : Type 0} (s0 s1 : Slab P) → s1 ≡ record s0 { capacity = s1.capacity } → s1.slots ≡ s0.slots
same_slots s0 s1 e = ap (λ (s : Slab _). s.slots) e

pub same_shown : {P : Type 0} (root : P) (slots slots' : List (Option P)) (nodes nodes' : Arranged) (saved saved' : Option SavedNodes) (tree : NodeTree P) → shown root slots nodes saved ≡ tree
    → slots' ≡ slots → nodes' ≡ nodes → saved' ≡ saved → shown root slots' nodes' saved' ≡ tree
same_shown root slots slots' nodes nodes' saved saved' tree e a b c = (λ i. shown root (a i) (b i) (c i)) ∙ e

pub same_kept : {P : Type 0} (slots slots' : List (Option P)) (nodes nodes' : Arranged) (saved saved' : Option SavedNodes) → IsKept slots nodes saved → slots' ≡ slots → nodes' ≡ nodes → saved' ≡ saved → IsKept slots' nodes' saved'
same_kept slots slots' nodes nodes' saved saved' k a b c = subst (λ l. IsKept l nodes' saved') (sym a) (subst (λ n. IsKept slots n saved') (sym b) (subst (λ s. IsKept slots nodes s) (sym c) k))

pub room_left : {P : Type 0} (id : ℤ) (action : AddAction) (target : ℤ) (t : Nodes P) → insert_fault id action target t ≡ None → count t < 4096
room_left id action target t h =
    let no : nat_lt 4096 (count t + 1) ≡ false = (none_holds ((holds id t, InUse) ∷ (is_missing target t, NoNode) ∷ (is_beside_root action target, IsRoot) ∷ (is_in_synth action target t, NotGroup) ∷ (nat_lt 4096 (count t + 1), TooMany) ∷ []) h).1.1.1.1.0 in
    ⊎_elim (λ (l : 4096 < count t + 1). let bad : true ≡ false = sym (lt-ltb 4096 (count t + 1) l) ∙ no in cc) (λ (l : count t + 1 ≤ 4096). omega arith) (cases_lt 4096 (count t + 1))
