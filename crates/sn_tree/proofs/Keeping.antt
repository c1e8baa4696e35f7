-- Keys and payloads after a change.
use Rattle.std.proofs.Common.{◌≡◌, ◌≢◌, ℕ, ◌+◌, ◌<◌, ◌≤◌, ℤ, Bool, true, false, ◌||◌, List, Option, Some, None, sym, refl, ap, ◌∙◌, subst, ⊎_elim, arith}
use Rattle.std.specs.Prelude.{◌==◌, is_some, unwrap_or, slice_index_or, if◌then◌else◌}
use Rattle.std.specs.Ordering.{int_eq}
use Rattle.std.specs.Option.{option_map}
use Rattle.std.proofs.lemmas.Bool.{cases_Bool}
use Rattle.std.proofs.lemmas.Bool.Decides.{eqb_tells}
use Rattle.sn_tree.specs.declared.node.NodeKind.{NodeKind}
use Rattle.sn_tree.specs.declared.node.AddAction.{AddAction}
use Rattle.sn_tree.specs.declared.node.AddAction.TheVariants.{Head, Tail, Before, After}
use Rattle.sn_tree.specs.Trees.{Label, Nodes, none, node, holds, label_of, subtree, without, joined, beside, put, leaf, with_payloads, with_payloads_of, changed, with_running, has_top, last_top, without_last}
use Rattle.sn_tree.specs.Order.{Key}
use Rattle.sn_tree.specs.Arranged.{Arranged}
use Rattle.sn_tree.specs.Steps.{inserting, detaching, attaching, moving, setting}
use Rattle.sn_tree.specs.Saving.{SavedNodes}
use Rattle.sn_tree.specs.Kept.{same_key, uses, payload_of, filled, IsFilled, IsSaved, IsKept}
use Rattle.sn_tree.proofs.PayloadLaws.{relabelled, put-payloads, without-payloads, subtree-payloads, joined-payloads, label-payloads, changed-payloads, last_top-payloads, without_last-payloads}

pub same_key-refl : (key : Key) → same_key key key ≡ true
same_key-refl None = refl
same_key-refl (Some a) = ⊎_elim (λ (h : ((a == a) ≡ true) × (a ≡ a)). h.0) (λ (h : ((a == a) ≡ false) × (a ≢ a)). absurd (h.1 refl)) (eqb_tells a a)

pub uses-joined : (key : Key) (s t : Nodes Key) → uses key (joined s t) ≡ uses key s + uses key t
uses-joined key none t = omega arith
uses-joined key (node label below after) t = omega (arith, uses-joined key after t)

uses-beside : (key : Key) (action : AddAction) (new : Nodes Key) (label : Label Key) (below after : Nodes Key) → uses key (beside action new label below after) ≡ uses key (node label below after) + uses key new
uses-beside key Head new label below after = omega (arith, uses-joined key new below)
uses-beside key Tail new label below after = omega (arith, uses-joined key below new)
uses-beside key Before new label below after = omega (arith, uses-joined key new (node label below after))
uses-beside key After new label below after = omega (arith, uses-joined key new after)

pub uses-put : (key : Key) (action : AddAction) (target : ℤ) (new t : Nodes Key) → holds target t ≡ true → uses key (put action target new t) ≡ uses key t + uses key new
uses-put key action target new none h = cc
uses-put key action target new (node label below after) h =
    ⊎_elim
    (λ (n : int_eq label.id target ≡ true). rw n (omega (arith, uses-beside key action new label below after)))
    (λ (n : int_eq label.id target ≡ false). ⊎_elim
    (λ (i : holds target below ≡ true). rw (n, i) (omega (arith, uses-put key action target new below i)))
    (λ (i : holds target below ≡ false). let there : holds target after ≡ true = rw (n, i) at h in rw (n, i) (omega (arith, uses-put key action target new after there)))
    (cases_Bool (holds target below)))
    (cases_Bool (int_eq label.id target))

pub uses-parts : (key : Key) (id : ℤ) (t : Nodes Key) → uses key (without id t) + uses key (subtree id t) ≡ uses key t
uses-parts key id none = refl
uses-parts key id (node label below after) =
    ⊎_elim
    (λ (n : int_eq label.id id ≡ true). rw n (omega arith))
    (λ (n : int_eq label.id id ≡ false). ⊎_elim
    (λ (i : holds id below ≡ true). rw (n, i) (omega (arith, uses-parts key id below)))
    (λ (i : holds id below ≡ false). rw (n, i) (omega (arith, uses-parts key id after)))
    (cases_Bool (holds id below)))
    (cases_Bool (int_eq label.id id))

pub uses_here : (label : Label Key) (below after : Nodes Key) → 0 < uses label.payload (node label below after)
uses_here label below after = rw (same_key-refl label.payload) (omega arith)

-- payloads that agree where they are used
pub agree : {P : Type 0} (f g : Key → P) (t : Nodes Key) → ((key : Key) → 0 < uses key t → f key ≡ g key) → with_payloads f t ≡ with_payloads g t
agree f g none h = refl
agree f g (node label below after) h =
    λ i. node (record { id = label.id; kind = label.kind; running = label.running; payload = h label.payload (uses_here label below after) i })
    (agree f g below (λ key u. h key (omega arith)) i) (agree f g after (λ key u. h key (omega arith)) i)

-- the payload of a node

pub uses_label : (id : ℤ) (t : Nodes Key) (label : Label Key) → label_of id t ≡ Some label → 0 < uses label.payload t
uses_label id none label e = cc
uses_label id (node first below after) label e =
    ⊎_elim
    (λ (n : int_eq first.id id ≡ true). let same : Some first ≡ Some label = rw n at e in let eq : first ≡ label = cc in subst (λ (l : Label Key). 0 < uses l.payload (node first below after)) eq (uses_here first below after))
    (λ (n : int_eq first.id id ≡ false). ⊎_elim
    (λ (i : holds id below ≡ true). let e2 : label_of id below ≡ Some label = rw (n, i) at e in omega (arith, uses_label id below label e2))
    (λ (i : holds id below ≡ false). let e2 : label_of id after ≡ Some label = rw (n, i) at e in omega (arith, uses_label id after label e2))
    (cases_Bool (holds id below)))
    (cases_Bool (int_eq first.id id))

pub option_label : {P : Type 0} (f : Key → P) (o : Option (Label Key)) → option_map (λ (l : Label P). l.payload) (option_map (relabelled f) o) ≡ option_map f (option_map (λ (l : Label Key). l.payload) o)
option_label f None = refl
option_label f (Some label) = refl

-- the payload, by its key
pub payload_is : {P : Type 0} (f : Key → P) (id : ℤ) (t : Nodes Key) → option_map (λ (l : Label P). l.payload) (label_of id (with_payloads f t)) ≡ option_map f (option_map (λ (l : Label Key). l.payload) (label_of id t))
payload_is f id t = ap (option_map (λ (l : Label _). l.payload)) (label-payloads f id t) ∙ option_label f (label_of id t)

some_or : {P : Type 0} (root : P) (o : Option P) → 1 ≤ (if is_some o then 1 else 0) → o ≡ Some (unwrap_or o root)
some_or root None h = absurd (omega arith)
some_or root (Some p) h = refl

pub labelled : (o : Option (Label Key)) (key : Key) → option_map (λ (l : Label Key). l.payload) o ≡ Some key → (label : Label Key) × (o ≡ Some label) × (label.payload ≡ key)
labelled None key e = cc
labelled (Some label) key e = (label, refl, cc)

pub slot_is : {P : Type 0} (root : P) (slots : List (Option P)) (nodes : Arranged) (id : ℤ) (key : ℕ) → IsFilled slots nodes → option_map (λ (l : Label Key). l.payload) (label_of id nodes.attached) ≡ Some (Some key)
    → slice_index_or slots key None ≡ option_map (λ (l : Label P). l.payload) (label_of id (with_payloads (payload_of root slots) nodes.attached))
slot_is root slots nodes id key h e =
    let (label, found, same) = labelled (label_of id nodes.attached) (Some key) e in
    let used : 0 < uses (Some key) nodes.attached = subst (λ k. 0 < uses k nodes.attached) same (uses_label id nodes.attached label found) in
    some_or root (slice_index_or slots key None) (omega (arith, h.keys (Some key)))
    ∙ sym (payload_is (payload_of root slots) id nodes.attached ∙ ap (option_map (payload_of root slots)) e)

pub uses-changed : (key : Key) (id : ℤ) (on : Bool) (t : Nodes Key) → uses key (changed id (with_running on) t) ≡ uses key t
uses-changed key id on none = refl
uses-changed key id on (node label below after) =
    ⊎_elim
    (λ (n : int_eq label.id id ≡ true). rw n refl)
    (λ (n : int_eq label.id id ≡ false). ⊎_elim
    (λ (i : holds id below ≡ true). rw (n, i) (omega (arith, uses-changed key id on below)))
    (λ (i : holds id below ≡ false). rw (n, i) (omega (arith, uses-changed key id on after)))
    (cases_Bool (holds id below)))
    (cases_Bool (int_eq label.id id))

-- the steps, with their payloads changed

module _ {Q : Type 0} (h : Key → Q) (nodes : Arranged) where
  pub inserting_map : (id : ℤ) (kind : NodeKind) (action : AddAction) (target : ℤ) (key : Key) (payload : Q) → h key ≡ payload
      → with_payloads_of h (inserting id kind action target key nodes) ≡ inserting id kind action target payload (with_payloads_of h nodes)
  inserting_map id kind action target key payload e = λ i. record {
    attached = (sym (put-payloads h action target (leaf id kind key) nodes.attached) ∙ ap (λ q. put action target (leaf id kind q) (with_payloads h nodes.attached)) e) i;
    detached = with_payloads h nodes.detached;
  }

  pub detaching_map : (id : ℤ) → with_payloads_of h (detaching id nodes) ≡ detaching id (with_payloads_of h nodes)
  detaching_map id = λ i. record {
    attached = sym (without-payloads h id nodes.attached) i;
    detached = (sym (joined-payloads h nodes.detached (subtree id nodes.attached)) ∙ ap (joined (with_payloads h nodes.detached)) (sym (subtree-payloads h id nodes.attached))) i;
  }

  pub moving_map : (id : ℤ) (action : AddAction) (target : ℤ) → with_payloads_of h (moving id action target nodes) ≡ moving id action target (with_payloads_of h nodes)
  moving_map id action target = λ i. record {
    attached = (sym (put-payloads h action target (subtree id nodes.attached) (without id nodes.attached)) ∙ (λ j. put action target (sym (subtree-payloads h id nodes.attached) j) (sym (without-payloads h id nodes.attached) j))) i;
    detached = with_payloads h nodes.detached;
  }

  pub attaching_map : (id : ℤ) (action : AddAction) (target : ℤ) → with_payloads_of h (attaching id action target nodes) ≡ attaching id action target (with_payloads_of h nodes)
  attaching_map id action target = λ i. record {
    attached = (sym (put-payloads h action target (last_top id nodes.detached) nodes.attached) ∙ ap (λ l. put action target l (with_payloads h nodes.attached)) (sym (last_top-payloads h id nodes.detached))) i;
    detached = sym (without_last-payloads h id nodes.detached) i;
  }

  pub setting_map : (id : ℤ) (on : Bool) → with_payloads_of h (setting id on nodes) ≡ setting id on (with_payloads_of h nodes)
  setting_map id on = λ i. record {
    attached = sym (changed-payloads h id (with_running on) (with_running on) (λ label. refl) nodes.attached) i;
    detached = with_payloads h nodes.detached;
  }

-- how often keys are used after a step

abbrev pub used : Key → Arranged → ℕ
used key nodes = uses key nodes.attached + uses key nodes.detached

pub uses-last : (key : Key) (id : ℤ) (t : Nodes Key) → uses key (without_last id t) + uses key (last_top id t) ≡ uses key t
uses-last key id none = refl
uses-last key id (node label below after) =
    ⊎_elim
    (λ (n : has_top id after ≡ true). rw n (omega (arith, uses-last key id after)))
    (λ (n : has_top id after ≡ false). ⊎_elim
    (λ (i : int_eq label.id id ≡ true). rw (n, i) (omega arith))
    (λ (i : int_eq label.id id ≡ false). rw (n, i) (omega arith))
    (cases_Bool (int_eq label.id id)))
    (cases_Bool (has_top id after))

pub used_detaching : (key : Key) (id : ℤ) (nodes : Arranged) → used key (detaching id nodes) ≡ used key nodes
used_detaching key id nodes = omega (arith, uses-parts key id nodes.attached, uses-joined key nodes.detached (subtree id nodes.attached))

pub used_moving : (key : Key) (id : ℤ) (action : AddAction) (target : ℤ) (nodes : Arranged) → holds target (without id nodes.attached) ≡ true → used key (moving id action target nodes) ≡ used key nodes
used_moving key id action target nodes held = omega (arith, uses-parts key id nodes.attached, uses-put key action target (subtree id nodes.attached) (without id nodes.attached) held)

pub used_attaching : (key : Key) (id : ℤ) (action : AddAction) (target : ℤ) (nodes : Arranged) → holds target nodes.attached ≡ true → used key (attaching id action target nodes) ≡ used key nodes
used_attaching key id action target nodes held = omega (arith, uses-last key id nodes.detached, uses-put key action target (last_top id nodes.detached) nodes.attached held)

pub used_setting : (key : Key) (id : ℤ) (on : Bool) (nodes : Arranged) → used key (setting id on nodes) ≡ used key nodes
used_setting key id on nodes = omega (arith, uses-changed key id on nodes.attached)

-- the same keys have payloads

pub filled_keeps : {P : Type 0} (slots slots' : List (Option P)) (nodes : Arranged) (saved : Option SavedNodes) → ((key : Key) → filled slots' key ≡ filled slots key) → IsKept slots nodes saved → IsKept slots' nodes saved
filled_keeps slots slots' nodes saved same kept = record {
  now = record { keys = λ key. kept.now.keys key ∙ sym (same key) };
  rooted = kept.rooted;
  distinct = kept.distinct;
  aside = kept.aside;
  before = before saved kept.before;
}
  where
    before : (s : Option SavedNodes) → IsSaved slots s → IsSaved slots' s
    before None h = tt
    before (Some s) h = (λ key. h.0 key ∙ sym (same key), h.1, h.2, h.3)

-- a node that is not in the subtree taken out is still there

held_first : (a b c left : Bool) → (a || (b || c)) ≡ true → (b ≡ true → left ≡ true) → (a || (left || c)) ≡ true
held_first true b c left h k = refl
held_first false b c true h k = refl
held_first false true c false h k = let bad : false ≡ true = k refl in cc
held_first false false c false h k = h

held_last : (a b c left : Bool) → (a || (b || c)) ≡ true → (c ≡ true → left ≡ true) → (a || (b || left)) ≡ true
held_last true b c left h k = refl
held_last false true c left h k = refl
held_last false false c left h k = k h

held_after : (a b c : Bool) → (a || (b || c)) ≡ true → (a || (b || false)) ≡ false → c ≡ true
held_after true b c h o = absurd cc
held_after false true c h o = absurd cc
held_after false false c h o = h

pub held_apart : {P : Type 0} (id target : ℤ) (t : Nodes P) → holds target t ≡ true → holds target (subtree id t) ≡ false → holds target (without id t) ≡ true
held_apart id target none h out = h
held_apart id target (node label below after) h out =
    ⊎_elim
    (λ (n : int_eq label.id id ≡ true). let o : holds target (node label below none) ≡ false = rw n at out in rw n (held_after (int_eq label.id target) (holds target below) (holds target after) h o))
    (λ (n : int_eq label.id id ≡ false). ⊎_elim
    (λ (i : holds id below ≡ true). let o : holds target (subtree id below) ≡ false = rw (n, i) at out in rw (n, i) (held_first (int_eq label.id target) (holds target below) (holds target after) (holds target (without id below)) h (λ b. held_apart id target below b o)))
    (λ (i : holds id below ≡ false). let o : holds target (subtree id after) ≡ false = rw (n, i) at out in rw (n, i) (held_last (int_eq label.id target) (holds target below) (holds target after) (holds target (without id after)) h (λ b. held_apart id target after b o)))
    (cases_Bool (holds id below)))
    (cases_Bool (int_eq label.id id))
