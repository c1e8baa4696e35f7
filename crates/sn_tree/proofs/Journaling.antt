-- Opening a journal, undoing, and ending detached nodes.
use Rattle.std.proofs.Common.{◌≡◌, ◌≢◌, ℕ, zero, suc, ◌+◌, ◌<◌, ◌≤◌, true, false, List, [], ◌∷◌, Option, Some, None, sym, refl, ap, ◌∙◌, subst, ⊎_elim, arith}
use Rattle.std.specs.Prelude.{◌==◌, is_some, unwrap_or, slice_index_or, if◌then◌else◌}
use Rattle.std.specs.Option.{option_map}
use Rattle.std.proofs.lemmas.Bool.{cases_lt, lt-ltb}
use Rattle.std.proofs.lemmas.Bool.Decides.{eqb_tells}
use Rattle.slab.specs.Slab.{Slab, Updates}
use Rattle.sn_tree.specs.Trees.{Label, Nodes, none, node, payloads, with_payloads, with_payloads_of, first_label, without_first}
use Rattle.sn_tree.specs.Order.{Key}
use Rattle.sn_tree.specs.Arranged.{Arranged}
use Rattle.sn_tree.specs.Saving.{SavedNodes}
use Rattle.sn_tree.specs.Model.{NodeTree}
use Rattle.sn_tree.specs.Steps.{IsOpened, occurrences, undone, freed}
use Rattle.sn_tree.specs.Kept.{same_key, uses, times, payload_of, filled, IsRooted, IsKept, mark_of, origin, shown}
use Rattle.sn_tree.proofs.PayloadLaws.{without_first-payloads, first_label-payloads}
use Rattle.sn_tree.proofs.Keeping.{same_key-refl, agree, uses-joined, labelled, option_label}
use Rattle.sn_tree.proofs.Distinct.{occurrences-append, each_freed}
use Rattle.sn_tree.proofs.Following.{same_kept}
use Rattle.sn_tree.proofs.Writing.{at_most_one, mark_test}

-- payloads changed twice
pub twice : {A B C : Type 0} (g : B → C) (f : A → B) (t : Nodes A) → with_payloads g (with_payloads f t) ≡ with_payloads (λ x. g (f x)) t
twice g f none = refl
twice g f (node label below after) = λ i. node (record { id = label.id; kind = label.kind; running = label.running; payload = g (f label.payload) }) (twice g f below i) (twice g f after i)

-- a journal is opened

abbrev unmark : ℕ → Key
unmark zero = None
unmark (suc n) = Some n

mark_unmark : (m : ℕ) → m ≡ mark_of (unmark m)
mark_unmark zero = refl
mark_unmark (suc m) = refl

same_mark : (key : Key) (m : ℕ) → ◌≡◌ {A = ℕ} (if mark_of key == m then 1 else 0) (if same_key key (unmark m) then 1 else 0)
same_mark key m = ap (λ b. if b then 1 else 0) (ap (λ n. mark_of key == n) (mark_unmark m) ∙ mark_test key (unmark m))

marks_in : (m : ℕ) (t : Nodes Key) → occurrences ◌==◌ m (payloads (with_payloads mark_of t)) ≡ uses (unmark m) t
marks_in m none = refl
marks_in m (node label below after) =
    omega (arith, same_mark label.payload m, marks_in m below, marks_in m after, occurrences-append ◌==◌ m (payloads (with_payloads mark_of below)) (payloads (with_payloads mark_of after)))

abbrev saved_of : Arranged → ℕ → SavedNodes
saved_of nodes steps = record { nodes = nodes; room = steps; made = [] }

origin_here : (nodes : Arranged) (key : Key) → 0 < uses key nodes.attached + uses key nodes.detached → origin nodes key ≡ Some (mark_of key)
origin_here nodes key h = ap (λ b. if b then Some (mark_of key) else None) (lt-ltb 0 (uses key nodes.attached + uses key nodes.detached) h)

module _ {P : Type 0} (root : P) (slots : List (Option P)) (nodes : Arranged) (kept : IsKept slots nodes None) (steps : ℕ) where
  opened_shows : IsOpened steps (shown root slots nodes None) (shown root slots nodes (Some (saved_of nodes steps)))
  opened_shows = record {
    journal = record {
      attached = with_payloads (payload_of root slots) nodes.attached;
      detached = with_payloads (payload_of root slots) nodes.detached;
      room = steps;
      marks = record { saved = with_payloads_of mark_of nodes; present = with_payloads_of (origin nodes) nodes };
    };
    open_now = refl;
    attached_now = refl;
    detached_now = refl;
    room = refl;
    attached_marks = twice (λ m. 0) mark_of nodes.attached ∙ sym (twice (λ p. 0) (payload_of root slots) nodes.attached);
    detached_marks = twice (λ m. 0) mark_of nodes.detached ∙ sym (twice (λ p. 0) (payload_of root slots) nodes.detached);
    distinct = λ m. omega (arith, occurrences-append ◌==◌ m (payloads (with_payloads mark_of nodes.attached)) (payloads (with_payloads mark_of nodes.detached)), marks_in m nodes.attached, marks_in m nodes.detached, kept.now.keys (unmark m), at_most_one slots (unmark m));
    present = λ i. record {
      attached = (agree (origin nodes) (λ k. Some (mark_of k)) nodes.attached (λ key u. origin_here nodes key (omega arith)) ∙ sym (twice Some mark_of nodes.attached)) i;
      detached = (agree (origin nodes) (λ k. Some (mark_of k)) nodes.detached (λ key u. origin_here nodes key (omega arith)) ∙ sym (twice Some mark_of nodes.detached)) i;
    };
  }

-- no journal is open
pub closed : {P : Type 0} (root : P) (slots : List (Option P)) (nodes : Arranged) (saved : Option SavedNodes) (tree : NodeTree P) → shown root slots nodes saved ≡ tree → tree.journal ≡ None → saved ≡ None
closed root slots nodes None tree e h = refl
closed root slots nodes (Some s) tree e h = let bad = ap (λ (t : NodeTree _). t.journal) e ∙ h in cc

pub begin_shows : {P : Type 0} (root : P) (slots : List (Option P)) (nodes copy : Arranged) (saved saved' : Option SavedNodes) (tree : NodeTree P) (steps : ℕ) → IsKept slots nodes saved → shown root slots nodes saved ≡ tree → tree.journal ≡ None
    → copy ≡ nodes → saved' ≡ Some (record { nodes = copy; room = steps; made = [] }) → IsOpened steps tree (shown root slots nodes saved')
begin_shows root slots nodes copy saved saved' tree steps k e h c s =
    let z : saved ≡ None = closed root slots nodes saved tree e h in
    subst (λ q. IsOpened steps tree (shown root slots nodes q)) (sym (s ∙ ap (λ n. Some (saved_of n steps)) c))
    (subst (λ t. IsOpened steps t (shown root slots nodes (Some (saved_of nodes steps)))) (sym (ap (shown root slots nodes) z) ∙ e)
    (opened_shows root slots nodes (subst (λ q. IsKept slots nodes q) z k) steps))

-- undoing

root_not_made : (keys : List ℕ) → times None keys ≡ 0
root_not_made [] = refl
root_not_made (key ∷ keys) = omega (arith, root_not_made keys)

module _ {P : Type 0} (root : P) (slots slots' : List (Option P)) (nodes : Arranged) (s : SavedNodes) (kept : IsKept slots nodes (Some s))
    (same : (key : ℕ) → times (Some key) s.made ≡ 0 → slice_index_or slots' key None ≡ slice_index_or slots key None)
    (dropped : (key : ℕ) → 1 ≤ times (Some key) s.made → slice_index_or slots' key None ≡ None) where
  not_made : (key : Key) → 0 < uses key s.nodes.attached + uses key s.nodes.detached → times key s.made ≡ 0
  not_made key u = omega (arith, kept.before.0 key, at_most_one slots key)

  same_payload : (key : Key) → 0 < uses key s.nodes.attached + uses key s.nodes.detached → payload_of root slots' key ≡ payload_of root slots key
  same_payload None u = refl
  same_payload (Some key) u = ap (λ o. unwrap_or o root) (same key (not_made (Some key) u))

  filled_now : (key : Key) → uses key s.nodes.attached + uses key s.nodes.detached ≡ filled slots' key
  filled_now None = omega (arith, kept.before.0 None, root_not_made s.made)
  filled_now (Some key) =
      ⊎_elim
      (λ (m : 0 < times (Some key) s.made).
      let empty : filled slots' (Some key) ≡ 0 = ap (λ o. if is_some o then 1 else 0) (dropped key (omega (arith, m))) in
      omega (arith, kept.before.0 (Some key), at_most_one slots (Some key), empty, m))
      (λ (m : times (Some key) s.made ≤ 0).
      let stays : filled slots' (Some key) ≡ filled slots (Some key) = ap (λ o. if is_some o then 1 else 0) (same key (omega (arith, m))) in
      omega (arith, kept.before.0 (Some key), stays, m))
      (cases_lt 0 (times (Some key) s.made))

  pub undone_keeps : IsKept slots' s.nodes None
  undone_keeps = record { now = record { keys = filled_now }; rooted = kept.before.1; distinct = kept.before.2; aside = kept.before.3; before = tt }

  pub undone_shows : shown root slots' s.nodes None ≡ undone (shown root slots nodes (Some s))
  undone_shows = λ i. record {
    attached = agree (payload_of root slots') (payload_of root slots) s.nodes.attached (λ key u. same_payload key (omega arith)) i;
    detached = agree (payload_of root slots') (payload_of root slots) s.nodes.detached (λ key u. same_payload key (omega arith)) i;
    journal = None;
  }

pub undo_gives : {P : Type 0} (root : P) (slots slots' : List (Option P)) (nodes nodes' : Arranged) (saved saved' : Option SavedNodes) (s : SavedNodes) (made : List ℕ) (tree : NodeTree P)
    → IsKept slots nodes saved → shown root slots nodes saved ≡ tree → saved ≡ Some s → nodes' ≡ s.nodes → made ≡ s.made → saved' ≡ None
    → ((key : ℕ) → times (Some key) made ≡ 0 → slice_index_or slots' key None ≡ slice_index_or slots key None)
    → ((key : ℕ) → 1 ≤ times (Some key) made → slice_index_or slots' key None ≡ None)
    → IsKept slots' nodes' saved' × (shown root slots' nodes' saved' ≡ undone tree)
undo_gives root slots slots' nodes nodes' saved saved' s made tree k e is n m z same dropped =
    let kept : IsKept slots nodes (Some s) = subst (λ q. IsKept slots nodes q) is k in
    let same_made : (key : ℕ) → times (Some key) s.made ≡ 0 → slice_index_or slots' key None ≡ slice_index_or slots key None = λ key h. same key (ap (times (Some key)) m ∙ h) in
    let dropped_made : (key : ℕ) → 1 ≤ times (Some key) s.made → slice_index_or slots' key None ≡ None = λ key h. dropped key (omega (arith, ap (times (Some key)) m, h)) in (
      same_kept slots' slots' s.nodes nodes' None saved' (undone_keeps root slots slots' nodes s kept same_made dropped_made) refl n z,
      (λ i. shown root slots' (n i) (z i)) ∙ (undone_shows root slots slots' nodes s kept same_made dropped_made ∙ ap undone (sym (ap (shown root slots nodes) is) ∙ e)),
    )

-- a detached node is ended

root_used : (t : Nodes Key) → IsRooted t → 1 ≤ uses None t
root_used t r = let here : 1 ≤ uses None (node r.label r.below none) = (let e : ◌≡◌ {A = ℕ} (if same_key r.label.payload None then 1 else 0) 1 = rw r.key refl in omega arith) in subst (λ q. 1 ≤ uses None q) (sym r.is) here

first_uses : (d : Nodes Key) (label : Label Key) (key : Key) → first_label d ≡ Some label → uses key d ≡ (if same_key label.payload key then 1 else 0) + uses key (without_first d)
first_uses none label key e = cc
first_uses (node first below after) label key e =
    let same : first ≡ label = cc in
    omega (arith, uses-joined key below after, ap {B = ℕ} (λ (l : Label Key). if same_key l.payload key then 1 else 0) same)

-- the root is not detached
pub not_detached_root : {P : Type 0} (slots : List (Option P)) (nodes : Arranged) (saved : Option SavedNodes) → IsKept slots nodes saved → Some None ≡ option_map (λ (l : Label Key). l.payload) (first_label nodes.detached) → ⊥
not_detached_root slots nodes saved k e =
    let (label, found, same) = labelled (first_label nodes.detached) None (sym e) in
    let one : ◌≡◌ {A = ℕ} (if same_key label.payload None then 1 else 0) 1 = rw same refl in
    absurd (omega (arith, first_uses nodes.detached label None found, root_used nodes.attached k.rooted, k.now.keys None))

module _ {P : Type 0} (root : P) (slots slots' : List (Option P)) (nodes nodes' : Arranged) (k : ℕ) (kept : IsKept slots nodes None)
    (first : Some (Some k) ≡ option_map (λ (l : Label Key). l.payload) (first_label nodes.detached)) (is : nodes' ≡ record nodes { detached = without_first nodes.detached })
    (empty : slice_index_or slots' k None ≡ None) (others : (other : ℕ) → other ≢ k → slice_index_or slots' other None ≡ slice_index_or slots other None) where
  gone : (key : Key) → (if same_key (Some k) key then 1 else 0) + (uses key nodes.attached + uses key (without_first nodes.detached)) ≡ filled slots key
  gone key =
      let (label, found, same) = labelled (first_label nodes.detached) (Some k) (sym first) in
      omega (arith, first_uses nodes.detached label key found, ap {B = ℕ} (λ q. if same_key q key then 1 else 0) same, kept.now.keys key)

  slot_same : (key : Key) → 0 < uses key nodes.attached + uses key (without_first nodes.detached) → payload_of root slots' key ≡ payload_of root slots key
  slot_same None u = refl
  slot_same (Some key) u =
      let away : key ≢ k = λ e. (let one : ◌≡◌ {A = ℕ} (if same_key (Some k) (Some key) then 1 else 0) 1 = ap (λ q. if same_key (Some k) (Some q) then 1 else 0) e ∙ ap (λ b. if b then 1 else 0) (same_key-refl (Some k)) in absurd (omega (arith, gone (Some key), at_most_one slots (Some key)))) in
      ap (λ o. unwrap_or o root) (others key away)

  filled_left : (key : Key) → uses key nodes.attached + uses key (without_first nodes.detached) ≡ filled slots' key
  filled_left None = omega (arith, gone None)
  filled_left (Some key) =
      ⊎_elim
      (λ (e : ((k == key) ≡ true) × (k ≡ key)).
      let one : ◌≡◌ {A = ℕ} (if same_key (Some k) (Some key) then 1 else 0) 1 = ap (λ b. if b then 1 else 0) e.0 in
      let no : filled slots' (Some key) ≡ 0 = ap (λ o. if is_some o then 1 else 0) (subst (λ n. slice_index_or slots' n None ≡ None) e.1 empty) in
      omega (arith, gone (Some key), at_most_one slots (Some key), one, no))
      (λ (e : ((k == key) ≡ false) × (k ≢ key)).
      let other : ◌≡◌ {A = ℕ} (if same_key (Some k) (Some key) then 1 else 0) 0 = ap (λ b. if b then 1 else 0) e.0 in
      let stays : filled slots' (Some key) ≡ filled slots (Some key) = ap (λ o. if is_some o then 1 else 0) (others key (λ q. e.1 (sym q))) in
      omega (arith, gone (Some key), other, stays))
      (eqb_tells k key)

  pub freed_keeps : IsKept slots' nodes' None
  freed_keeps = subst (λ n. IsKept slots' n None) (sym is) there
    where
      there : IsKept slots' (record nodes { detached = without_first nodes.detached }) None
      there = record {
        now = record { keys = filled_left };
        rooted = kept.rooted;
        distinct = kept.distinct;
        aside = each_freed nodes.detached kept.aside;
        before = tt;
      }

  pub freed_shows : shown root slots' nodes' None ≡ freed (shown root slots nodes None)
  freed_shows =
      ap (λ n. shown root slots' n None) is
      ∙ (λ i. record {
        attached = agree (payload_of root slots') (payload_of root slots) nodes.attached (λ key u. slot_same key (omega arith)) i;
        detached = (agree (payload_of root slots') (payload_of root slots) (without_first nodes.detached) (λ key u. slot_same key (omega arith)) ∙ sym (without_first-payloads (payload_of root slots) nodes.detached)) i;
        journal = None;
      })

  pub freed_payload : slice_index_or slots k None ≡ option_map (λ (l : Label P). l.payload) (first_label (with_payloads (payload_of root slots) nodes.detached))
  freed_payload =
      let one : ◌≡◌ {A = ℕ} (if same_key (Some k) (Some k) then 1 else 0) 1 = ap (λ b. if b then 1 else 0) (same_key-refl (Some k)) in
      some_or (slice_index_or slots k None) (omega (arith, gone (Some k)))
      ∙ (ap (option_map (payload_of root slots)) first
      ∙ (sym (option_label (payload_of root slots) (first_label nodes.detached)) ∙ ap (option_map (λ (l : Label P). l.payload)) (sym (first_label-payloads (payload_of root slots) nodes.detached))))
    where
      some_or : (o : Option P) → 1 ≤ (if is_some o then 1 else 0) → o ≡ Some (unwrap_or o root)
      some_or None h = absurd (omega arith)
      some_or (Some p) h = refl

module _ {P : Type 0} (root : P) (s0 s1 : Slab P) (nodes nodes' : Arranged) (saved : Option SavedNodes) (tree : NodeTree P) (key : ℕ) (kept : IsKept s0.slots nodes saved) (view : shown root s0.slots nodes saved ≡ tree) (shut : tree.journal ≡ None)
    (first : Some (Some key) ≡ option_map (λ (l : Label Key). l.payload) (first_label nodes.detached)) (is : nodes' ≡ record nodes { detached = without_first nodes.detached }) (updates : Updates s0 s1 key None) where
  no_journal : saved ≡ None
  no_journal = closed root s0.slots nodes saved tree view shut

  kept_closed : IsKept s0.slots nodes None
  kept_closed = subst (λ q. IsKept s0.slots nodes q) no_journal kept

  pub free_keeps : IsKept s1.slots nodes' saved
  free_keeps = subst (λ q. IsKept s1.slots nodes' q) (sym no_journal) (freed_keeps root s0.slots s1.slots nodes nodes' key kept_closed first is updates.changed updates.others)

  pub free_gives : shown root s1.slots nodes' saved ≡ freed tree
  free_gives =
      ap (shown root s1.slots nodes') no_journal
      ∙ (freed_shows root s0.slots s1.slots nodes nodes' key kept_closed first is updates.changed updates.others ∙ ap freed (sym (ap (shown root s0.slots nodes) no_journal) ∙ view))

  pub free_payload : slice_index_or s0.slots key None ≡ option_map (λ (l : Label P). l.payload) (first_label tree.detached)
  free_payload = freed_payload root s0.slots s1.slots nodes nodes' key kept_closed first is updates.changed updates.others ∙ ap (λ (t : NodeTree P). option_map (λ (l : Label P). l.payload) (first_label t.detached)) view
