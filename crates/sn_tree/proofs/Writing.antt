-- A payload written under its key is the payload of one node.
use Rattle.std.proofs.Common.{◌≡◌, ◌≢◌, ◌⊎◌, ℕ, suc, ◌+◌, ◌<◌, ◌≤◌, ℤ, Bool, true, false, List, length, Option, Some, None, sym, refl, ap, ◌∙◌, subst, ⊎_elim, inl, arith}
use Rattle.std.specs.Prelude.{◌==◌, is_some, unwrap_or, slice_index_or, slice_set, if◌then◌else◌}
use Rattle.std.specs.Ordering.{int_eq}
use Rattle.std.specs.Option.{option_map}
use Rattle.std.proofs.lemmas.Bool.{cases_Bool, cases_lt, lt-ltb, le-ltb}
use Rattle.std.proofs.lemmas.Bool.Decides.{eqb_tells}
use Rattle.std.proofs.Math.ListN.{get_or-eq_default}
use Rattle.std.proofs.lemmas.List.{get_or-set_same, get_or-set_other}
use Rattle.sn_tree.specs.Trees.{Label, Nodes, none, node, holds, label_of, with_payloads, with_payloads_of, changed, with_payload}
use Rattle.sn_tree.specs.Order.{Key}
use Rattle.sn_tree.specs.Arranged.{Arranged}
use Rattle.sn_tree.specs.Saving.{SavedNodes}
use Rattle.sn_tree.specs.Model.{Journal, NodeTree}
use Rattle.sn_tree.specs.Kept.{same_key, uses, payload_of, filled, IsFilled, IsSaved, IsKept, mark_of, origin, journal_shown, shown}
use Rattle.sn_tree.specs.Steps.{mark_in, remarked, rewritten, saved_written, written}
use Rattle.sn_tree.proofs.PayloadLaws.{relabelled, holds-payloads, label-payloads}
use Rattle.sn_tree.proofs.Showing.{payload_shown}
use Rattle.sn_tree.proofs.Keeping.{same_key-refl, agree, uses_label, uses_here, labelled, filled_keeps}

pub same_is : (a b : Key) → same_key a b ≡ true → a ≡ b
same_is None None h = refl
same_is None (Some b) h = cc
same_is (Some a) None h = cc
same_is (Some a) (Some b) h =
    ⊎_elim (λ (e : ((a == b) ≡ true) × (a ≡ b)). ap Some e.1) (λ (e : ((a == b) ≡ false) × (a ≢ b)). let bad : true ≡ false = sym h ∙ e.0 in cc) (eqb_tells a b)

module _ {P : Type 0} (f f' : Key → P) (k : Key) (w : P) (at : f' k ≡ w) where
  -- nodes of which none has this key
  pub untouched : (t : Nodes Key) → ((key : Key) → same_key key k ≡ false → 0 < uses key t → f' key ≡ f key) → uses k t ≡ 0 → with_payloads f' t ≡ with_payloads f t
  untouched t h z = agree f' f t (λ key u. ⊎_elim
      (λ (s : same_key key k ≡ true). let e : uses key t ≡ uses k t = ap (λ q. uses q t) (same_is key k s) in absurd (omega arith))
      (λ (s : same_key key k ≡ false). h key s u)
      (cases_Bool (same_key key k)))

  here_or_not : (label : Label Key) (t : Nodes Key) → (same_key label.payload k ≡ true → 2 ≤ uses k t) → uses k t ≤ 1 → same_key label.payload k ≡ false
  here_or_not label t h u = ⊎_elim (λ (s : same_key label.payload k ≡ true). absurd (omega (arith, h s))) (λ (s : same_key label.payload k ≡ false). s) (cases_Bool (same_key label.payload k))

  pub one_written : (id : ℤ) (t : Nodes Key) → ((key : Key) → same_key key k ≡ false → 0 < uses key t → f' key ≡ f key) → uses k t ≤ 1
      → (label : Label Key) → label_of id t ≡ Some label → label.payload ≡ k → with_payloads f' t ≡ changed id (with_payload w) (with_payloads f t)
  one_written id none h u label e p = cc
  one_written id (node first below after) h u label e p =
      ⊎_elim
      (λ (n : int_eq first.id id ≡ true).
      let same : Some first ≡ Some label = rw n at e in
      let eq : first ≡ label = cc in
      let here : same_key first.payload k ≡ true = ap (λ q. same_key q k) (ap (λ (l : Label Key). l.payload) eq ∙ p) ∙ same_key-refl k in
      let count : ◌≡◌ {A = ℕ} (if same_key first.payload k then 1 else 0) 1 = rw here refl in
      let b : with_payloads f' below ≡ with_payloads f below = untouched below (λ key s v. h key s (omega arith)) (omega arith) in
      let a : with_payloads f' after ≡ with_payloads f after = untouched after (λ key s v. h key s (omega arith)) (omega arith) in
      let x : f' first.payload ≡ w = ap f' (ap (λ (l : Label Key). l.payload) eq ∙ p) ∙ at in
      rw n (λ i. node (record { id = first.id; kind = first.kind; running = first.running; payload = x i }) (b i) (a i)))
      (λ (n : int_eq first.id id ≡ false).
      ⊎_elim
      (λ (i : holds id below ≡ true).
      let e2 : label_of id below ≡ Some label = rw (n, i) at e in
      let used : 0 < uses k below = subst (λ q. 0 < uses q below) p (uses_label id below label e2) in
      let away : same_key first.payload k ≡ false = here_or_not first (node first below after) (λ s. let c : ◌≡◌ {A = ℕ} (if same_key first.payload k then 1 else 0) 1 = rw s refl in omega arith) u in
      let x : f' first.payload ≡ f first.payload = h first.payload away (uses_here first below after) in
      let b : with_payloads f' below ≡ changed id (with_payload w) (with_payloads f below) = one_written id below (λ key s v. h key s (omega arith)) (omega arith) label e2 p in
      let a : with_payloads f' after ≡ with_payloads f after = untouched after (λ key s v. h key s (omega arith)) (omega arith) in
      let j : holds id (with_payloads f below) ≡ true = holds-payloads f id below ∙ i in
      rw (n, j) (λ i. node (record { id = first.id; kind = first.kind; running = first.running; payload = x i }) (b i) (a i)))
      (λ (i : holds id below ≡ false).
      let e2 : label_of id after ≡ Some label = rw (n, i) at e in
      let used : 0 < uses k after = subst (λ q. 0 < uses q after) p (uses_label id after label e2) in
      let away : same_key first.payload k ≡ false = here_or_not first (node first below after) (λ s. let c : ◌≡◌ {A = ℕ} (if same_key first.payload k then 1 else 0) 1 = rw s refl in omega arith) u in
      let x : f' first.payload ≡ f first.payload = h first.payload away (uses_here first below after) in
      let b : with_payloads f' below ≡ with_payloads f below = untouched below (λ key s v. h key s (omega arith)) (omega arith) in
      let a : with_payloads f' after ≡ changed id (with_payload w) (with_payloads f after) = one_written id after (λ key s v. h key s (omega arith)) (omega arith) label e2 p in
      let j : holds id (with_payloads f below) ≡ false = holds-payloads f id below ∙ i in
      rw (n, j) (λ i. node (record { id = first.id; kind = first.kind; running = first.running; payload = x i }) (b i) (a i)))
      (cases_Bool (holds id below)))
      (cases_Bool (int_eq first.id id))

-- marks tell keys apart
differ : (a b : ℕ) → (a ≡ b → 1 ≤ 0) → (a == b) ≡ false
differ a b h = ⊎_elim (λ (e : ((a == b) ≡ true) × (a ≡ b)). let bad : 1 ≤ 0 = h e.1 in absurd (omega arith)) (λ (e : ((a == b) ≡ false) × (a ≢ b)). e.0) (eqb_tells a b)

pub mark_test : (a b : Key) → (mark_of a == mark_of b) ≡ same_key a b
mark_test None None = refl
mark_test None (Some b) = differ 0 (suc b) (λ e. omega arith)
mark_test (Some a) None = differ (suc a) 0 (λ e. omega arith)
mark_test (Some a) (Some b) = ⊎_elim
    (λ (e : ((a == b) ≡ true) × (a ≡ b)). ⊎_elim (λ (f : ((suc a == suc b) ≡ true) × (suc a ≡ suc b)). f.0 ∙ sym e.0) (λ (f : ((suc a == suc b) ≡ false) × (suc a ≢ suc b)). absurd (f.1 (ap suc e.1))) (eqb_tells (suc a) (suc b)))
    (λ (e : ((a == b) ≡ false) × (a ≢ b)). differ (suc a) (suc b) (λ q. absurd (e.1 (omega arith))) ∙ sym e.0)
    (eqb_tells a b)

pub remarked_is : {P : Type 0} (f f' : Key → P) (k : Key) (w : P) → f' k ≡ w → (t : Nodes Key) → ((key : Key) → same_key key k ≡ false → 0 < uses key t → f' key ≡ f key)
    → remarked (mark_of k) w (with_payloads mark_of t) (with_payloads f t) ≡ with_payloads f' t
remarked_is f f' k w at none h = refl
remarked_is f f' k w at (node label below after) h =
    λ i. node (here i) (remarked_is f f' k w at below (λ key s u. h key s (omega arith)) i) (remarked_is f f' k w at after (λ key s u. h key s (omega arith)) i)
  where
    test : (b : Bool) → same_key label.payload k ≡ b → (if b then with_payload w (relabelled f label) else relabelled f label) ≡ relabelled f' label
    test true s = λ i. record { id = label.id; kind = label.kind; running = label.running; payload = (sym at ∙ ap f' (sym (same_is label.payload k s))) i }
    test false s = λ i. record { id = label.id; kind = label.kind; running = label.running; payload = sym (h label.payload s (uses_here label below after)) i }

    here : (if mark_of label.payload == mark_of k then with_payload w (relabelled f label) else relabelled f label) ≡ relabelled f' label
    here = ap (λ b. if b then with_payload w (relabelled f label) else relabelled f label) (mark_test label.payload k) ∙ test (same_key label.payload k) refl

-- the root's payload, or one in its slot

pub at_most_one : {P : Type 0} (slots : List (Option P)) (key : Key) → filled slots key ≤ 1
at_most_one slots None = omega arith
at_most_one slots (Some key) = ⊎_elim (λ (h : is_some (slice_index_or slots key None) ≡ true). rw h (omega arith)) (λ (h : is_some (slice_index_or slots key None) ≡ false). rw h (omega arith)) (cases_Bool (is_some (slice_index_or slots key None)))

some_or : {P : Type 0} (a b : P) (o : Option P) → 1 ≤ (if is_some o then 1 else 0) → unwrap_or o a ≡ unwrap_or o b
some_or a b None h = absurd (omega arith)
some_or a b (Some p) h = refl

slot_in : {P : Type 0} (slots : List (Option P)) (key : ℕ) → 1 ≤ filled slots (Some key) → key < length slots
slot_in slots key h = ⊎_elim
    (λ (s : key < length slots). s)
    (λ (s : length slots ≤ key). let z : slice_index_or slots key None ≡ None = get_or-eq_default slots None s in let bad : 1 ≤ 0 = rw z at h in absurd (omega arith))
    (cases_lt key (length slots))

module _ {P : Type 0} (root : P) (slots : List (Option P)) (nodes : Arranged) (saved : Option SavedNodes) (is_kept : IsKept slots nodes saved) (id : ℤ) (w : P) where
  is_filled : IsFilled slots nodes
  is_filled = is_kept.now

  -- what is written at a key, for a value of the payloads after it
  written_by : (f' : Key → P) (k : Key) → f' k ≡ w → ((key : Key) → same_key key k ≡ false → 1 ≤ filled slots key → f' key ≡ payload_of root slots key)
      → option_map (λ (l : Label Key). l.payload) (label_of id nodes.attached) ≡ Some k
      → (with_payloads f' nodes.attached ≡ changed id (with_payload w) (with_payloads (payload_of root slots) nodes.attached)) × (with_payloads f' nodes.detached ≡ with_payloads (payload_of root slots) nodes.detached)
  written_by f' k at h e =
      let (label, found, same) = labelled (label_of id nodes.attached) k e in
      let used : 0 < uses k nodes.attached = subst (λ q. 0 < uses q nodes.attached) same (uses_label id nodes.attached label found) in (
        one_written (payload_of root slots) f' k w at id nodes.attached (λ key s u. h key s (omega (arith, is_filled.keys key))) (omega (arith, is_filled.keys k, at_most_one slots k)) label found same,
        untouched (payload_of root slots) f' k w at nodes.detached (λ key s u. h key s (omega (arith, is_filled.keys key))) (omega (arith, is_filled.keys k, at_most_one slots k)),
      )

  -- what a journal keeps is written too, if the node was saved
  saved_by : (f' : Key → P) (k : Key) → f' k ≡ w → ((key : Key) → same_key key k ≡ false → 1 ≤ filled slots key → f' key ≡ payload_of root slots key)
      → option_map (λ (l : Label Key). l.payload) (label_of id nodes.attached) ≡ Some k → (root' : P) (slots' : List (Option P)) → ((key : Key) → payload_of root' slots' key ≡ f' key)
      → (s : Option SavedNodes) → IsSaved slots s → journal_shown root' slots' nodes s ≡ saved_written id w (journal_shown root slots nodes s)
  saved_by f' k at h e root' slots' all None q = refl
  saved_by f' k at h e root' slots' all (Some s) q =
      let (label, found, same) = labelled (label_of id nodes.attached) k e in
      let mark : mark_in (label_of id (with_payloads (origin s.nodes) nodes.attached)) ≡ origin s.nodes k =
      ap mark_in (label-payloads (origin s.nodes) id nodes.attached ∙ ap (option_map (relabelled (origin s.nodes))) found) ∙ ap (origin s.nodes) same in
      let journal : Journal P = record {
        attached = with_payloads (payload_of root slots) s.nodes.attached;
        detached = with_payloads (payload_of root slots) s.nodes.detached;
        room = s.room;
        marks = record { saved = with_payloads_of mark_of s.nodes; present = with_payloads_of (origin s.nodes) nodes };
      } in
      let away : (key : Key) → same_key key k ≡ false → 0 < uses key s.nodes.attached + uses key s.nodes.detached → f' key ≡ payload_of root slots key = λ key r u. h key r (omega (arith, q.0 key)) in
      let same_f : (t : Nodes Key) → with_payloads (payload_of root' slots') t ≡ with_payloads f' t = λ t. agree (payload_of root' slots') f' t (λ key u. all key) in
      ⊎_elim
      (λ (u : 0 < uses k s.nodes.attached + uses k s.nodes.detached).
      let there : origin s.nodes k ≡ Some (mark_of k) = ap (λ b. if b then Some (mark_of k) else None) (lt-ltb 0 (uses k s.nodes.attached + uses k s.nodes.detached) u) in
      (λ i. Some (record {
        attached = (same_f s.nodes.attached ∙ sym (remarked_is (payload_of root slots) f' k w at s.nodes.attached (λ key r v. away key r (omega arith)))) i;
        detached = (same_f s.nodes.detached ∙ sym (remarked_is (payload_of root slots) f' k w at s.nodes.detached (λ key r v. away key r (omega arith)))) i;
        room = s.room;
        marks = record { saved = with_payloads_of mark_of s.nodes; present = with_payloads_of (origin s.nodes) nodes };
      })) ∙ sym (ap (λ o. Some (rewritten o w journal)) (mark ∙ there)))
      (λ (z : uses k s.nodes.attached + uses k s.nodes.detached ≤ 0).
      let there : origin s.nodes k ≡ None = ap (λ b. if b then Some (mark_of k) else None) (le-ltb 0 (uses k s.nodes.attached + uses k s.nodes.detached) z) in
      (λ i. Some (record {
        attached = (same_f s.nodes.attached ∙ untouched (payload_of root slots) f' k w at s.nodes.attached (λ key r v. away key r (omega arith)) (omega arith)) i;
        detached = (same_f s.nodes.detached ∙ untouched (payload_of root slots) f' k w at s.nodes.detached (λ key r v. away key r (omega arith)) (omega arith)) i;
        room = s.room;
        marks = record { saved = with_payloads_of mark_of s.nodes; present = with_payloads_of (origin s.nodes) nodes };
      })) ∙ sym (ap (λ o. Some (rewritten o w journal)) (mark ∙ there)))
      (cases_lt 0 (uses k s.nodes.attached + uses k s.nodes.detached))

  root_others : (key : Key) → same_key key None ≡ false → 1 ≤ filled slots key → payload_of w slots key ≡ payload_of root slots key
  root_others None s h = cc
  root_others (Some key) s h = some_or w root (slice_index_or slots key None) h

  pub root_written : option_map (λ (l : Label Key). l.payload) (label_of id nodes.attached) ≡ Some None → shown w slots nodes saved ≡ written id (shown root slots nodes saved) w
  root_written e =
      let both = written_by (payload_of w slots) None refl root_others e in
      λ i. record { attached = both.0 i; detached = both.1 i; journal = saved_by (payload_of w slots) None refl root_others e w slots (λ key. refl) saved is_kept.before i }

  module _ (key : ℕ) (e : option_map (λ (l : Label Key). l.payload) (label_of id nodes.attached) ≡ Some (Some key)) where
    slot_filled : 1 ≤ filled slots (Some key)
    slot_filled =
        let (label, found, same) = labelled (label_of id nodes.attached) (Some key) e in
        let used : 0 < uses (Some key) nodes.attached = subst (λ q. 0 < uses q nodes.attached) same (uses_label id nodes.attached label found) in
        omega (arith, is_filled.keys (Some key))

    slot_now : slice_index_or (slice_set slots key (Some w)) key None ≡ Some w
    slot_now = get_or-set_same slots key (Some w) None (slot_in slots key slot_filled)

    slot_others : (other : Key) → same_key other (Some key) ≡ false → 1 ≤ filled slots other → payload_of root (slice_set slots key (Some w)) other ≡ payload_of root slots other
    slot_others None s h = refl
    slot_others (Some other) s h = ap (λ o. unwrap_or o root) (get_or-set_other slots key other (Some w) None (λ (q : other ≡ key). let t : same_key (Some other) (Some key) ≡ true = ap (λ n. same_key (Some other) (Some n)) (sym q) ∙ same_key-refl (Some other) in let bad : true ≡ false = sym t ∙ s in cc))

    pub slot_written : shown root (slice_set slots key (Some w)) nodes saved ≡ written id (shown root slots nodes saved) w
    slot_written =
        let both = written_by (payload_of root (slice_set slots key (Some w))) (Some key) (ap (λ o. unwrap_or o root) slot_now) slot_others e in
        λ i. record { attached = both.0 i; detached = both.1 i; journal = saved_by (payload_of root (slice_set slots key (Some w))) (Some key) (ap (λ o. unwrap_or o root) slot_now) slot_others e root (slice_set slots key (Some w)) (λ k. refl) saved is_kept.before i }

    same_filled : (other : Key) → filled (slice_set slots key (Some w)) other ≡ filled slots other
    same_filled None = refl
    same_filled (Some other) = ⊎_elim
        (λ (q : ((other == key) ≡ true) × (other ≡ key)).
        let now : slice_index_or (slice_set slots key (Some w)) other None ≡ Some w = ap (λ n. slice_index_or (slice_set slots key (Some w)) n None) q.1 ∙ slot_now in
        let full : filled (slice_set slots key (Some w)) (Some other) ≡ 1 = ap (λ o. if is_some o then 1 else 0) now in
        let was : 1 ≤ filled slots (Some other) = subst (λ n. 1 ≤ filled slots (Some n)) (sym q.1) slot_filled in
        omega (arith, full, was, at_most_one slots (Some other)))
        (λ (q : ((other == key) ≡ false) × (other ≢ key)). ap (λ o. if is_some o then 1 else 0) (get_or-set_other slots key other (Some w) None q.1))
        (eqb_tells other key)

    pub slot_keeps : IsKept (slice_set slots key (Some w)) nodes saved
    slot_keeps = filled_keeps slots (slice_set slots key (Some w)) nodes saved same_filled is_kept

-- there is no such node

pub no_payload : {P : Type 0} (root : P) (slots : List (Option P)) (nodes : Arranged) (saved : Option SavedNodes) (tree : NodeTree P) (id : ℤ) → shown root slots nodes saved ≡ tree
    → None ≡ option_map (λ (l : Label Key). l.payload) (label_of id nodes.attached) → None ≡ option_map (λ (l : Label P). l.payload) (label_of id tree.attached)
no_payload root slots nodes saved tree id e h = ap (option_map (payload_of root slots)) h ∙ payload_shown root slots nodes saved tree e id

-- a reference that is lent, and what the lender ends as

pub lent : {N A B C : Type 0} {n : N} {f g : A → B} → ((w : A) → f w ≡ g w) → ◌≡◌ {A = (N × (A → B)) ⊎ C} (inl (n, f)) (inl (n, g))
lent {n = n} p = λ i. inl (n, λ w. p w i)
