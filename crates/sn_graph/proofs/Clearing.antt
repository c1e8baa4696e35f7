-- If no two members of a group clash, their synths do not meet.
use Rattle.std.proofs.Common.{◌≡◌, ◌≤◌, ◌⊎◌, inl, inr, ⊎_elim, ℕ, ◌+◌, ◌*◌, ℤ, Bool, true, false, ◌&&◌, if◌then◌else◌, List, [], ◌∷◌, ◌++◌, map, Option, sym, refl, ap, ◌∙◌, subst, arith, true≢false}
use Rattle.std.specs.Prelude.{is_some, nat_le, nat_lt}
use Rattle.std.specs.List.{list_any}
use Rattle.std.specs.Ordering.{int_eq}
use Rattle.std.proofs.lemmas.Bool.{cond_both, or_cases, or_left, or_right, and_parts, and_from, le-leb, lt-ltb, not-true}
use Rattle.std.proofs.lemmas.List.{append-nil}
use Rattle.sn_mem.specs.declared.extents.Extent.{Extent}
use Rattle.sn_mem.specs.declared.buffers.BufferPlace.{BufferPlace}
use Rattle.sn_foot.specs.declared.reach.Reach.{Reach}
use Rattle.sn_mem.specs.Words.{has, touches}
use Rattle.sn_foot.specs.Reaches.{unmoved, ReachesClash}
use Rattle.sn_mem.specs.Buffers.{overlaps}
use Rattle.sn_mem.proofs.BufferWords.{overlaps-append}
use Rattle.sn_tree.specs.declared.node.NodeKind.{NodeKind}
use Rattle.sn_tree.specs.declared.node.NodeKind.TheVariants as kinds
use Rattle.sn_tree.specs.Trees as trees
use Rattle.sn_tree.specs.Trees.{Label, Nodes, holds, running_labels, subtree}
use Rattle.sn_world.specs.declared.stage.Held.{Held}
use Rattle.sn_world.specs.Pictures.{held_extents, live_held}
use Rattle.sn_foot.specs.declared.resource.Resource.{Resource}
use Rattle.sn_foot.specs.Footprints.{footprint_of, foot_of, held_mixes, held_reads, held_writes, is_there, meets_on, states_of}
use Rattle.sn_foot.specs.Footprints.{Clash as FootprintsClash}
use Rattle.sn_graph.specs.declared.nodes.Voice.{Voice}
use Rattle.sn_graph.specs.Voices.{HeardNodes, none, synth, group, voices, lanes_if}
use Rattle.sn_graph.specs.Plans.{is_listed}
use Rattle.sn_graph.specs.Stages.{may_split, with_group, with_node, running_of}
use Rattle.sn_graph.specs.Disjoint.{AreDisjoint, LieBelow}
use Rattle.sn_graph.specs.Clear.{held_of, ClashesWithNone, NoneClash, AreListed}
use Rattle.sn_graph.proofs.Hearing.{voices_group}
use Rattle.sn_graph.proofs.Clearance.{AreWhole, IsWhole}
use Rattle.sn_graph.proofs.Laning.{ArePlain}
use Rattle.sn_graph.proofs.Meeting.{MeetsNone, NoMembersMeet, NoneMeet, SplitsMeetNone}
use Rattle.sn_graph.proofs.Resources.{clash_agrees, foot_below, has_of_overlaps, mixed_bus, overlaps_has, used_alone, used_at_all, whole_bus}

-- ---- nodes among others

abbrev AmongHeld : Held → List Held → Type 0
AmongHeld h [] = ⊥
AmongHeld h (k ∷ ks) = (h ≡ k) ⊎ AmongHeld h ks

abbrev payloads : List (Label Held) → List Held
payloads ls = map (λ l. l.payload) ls

among_left : (h : Held) (xs ys : List (Label Held)) → AmongHeld h (payloads xs) → AmongHeld h (payloads (xs ++ ys))
among_left h [] ys m = absurd m
among_left h (x ∷ xs) ys m = ⊎_elim (λ (e : h ≡ x.payload). inl e) (λ (n : AmongHeld h (payloads xs)). inr (among_left h xs ys n)) m

among_right : (h : Held) (xs ys : List (Label Held)) → AmongHeld h (payloads ys) → AmongHeld h (payloads (xs ++ ys))
among_right h [] ys m = m
among_right h (x ∷ xs) ys m = inr (among_right h xs ys m)

states_among : (x : ℕ) (h : Held) (hs : List Held) → AmongHeld h hs → overlaps x (held_extents h) ≤ overlaps x (states_of hs)
states_among x h [] m = absurd m
states_among x h (k ∷ ks) m =
    let all = overlaps-append x (held_extents k) (states_of ks) in
    ⊎_elim
    (λ (e : h ≡ k). omega (arith, all, ap (λ g. overlaps x (held_extents g)) e))
    (λ (n : AmongHeld h ks). omega (arith, all, states_among x h ks n))
    m

any_among : (p : Held → Bool) (h : Held) (hs : List Held) → AmongHeld h hs → p h ≡ true → list_any p hs ≡ true
any_among p h [] m t = absurd m
any_among p h (k ∷ ks) m t = ⊎_elim
    (λ (e : h ≡ k). or_left (p k) (list_any p ks) (sym (ap p e) ∙ t))
    (λ (n : AmongHeld h ks). or_right (p k) (list_any p ks) (any_among p h ks n t))
    m

any_one : (p : Held → Bool) (h : Held) → list_any p (h ∷ []) ≡ true → p h ≡ true
any_one p h t = ⊎_elim (λ (e : p h ≡ true). e) (λ (e : false ≡ true). absurd (true≢false (sym e))) (or_cases (p h) false t)

more_used : (there : Bool) (p : Held → Bool) (h : Held) (hs : List Held) → AmongHeld h hs → (there && list_any p (h ∷ [])) ≡ true → (there && list_any p hs) ≡ true
more_used there p h hs m t =
    let parts = and_parts there (list_any p (h ∷ [])) t in
    and_from there (list_any p hs) parts.0 (any_among p h hs m (any_one p h parts.1))

-- ---- places that are apart

module _ (buffers : List (Option BufferPlace)) where
  pub fewer : (es fs : List Extent) → AreDisjoint buffers es → ((x : ℕ) → overlaps x fs ≤ overlaps x es) → AreDisjoint buffers fs
  fewer es fs is l = record {
    places = is.places;
    behind = λ x h. is.behind x (has_of_overlaps x es (omega (arith, overlaps_has x fs h, l x)));
    apart = λ x. omega (arith, is.apart x, l x);
  }

  -- ---- synths whose words are those of nodes among these

  abbrev AreOf : List Voice → List Held → Type 0
  AreOf [] hs = Unit {0}
  AreOf (v ∷ vs) hs = ((h : Held) × (v.reach ≡ foot_of buffers (h ∷ [])) × AmongHeld h hs) × AreOf vs hs

  of_more : (vs : List Voice) (hs ks : List Held) → ((h : Held) → AmongHeld h hs → AmongHeld h ks) → AreOf vs hs → AreOf vs ks
  of_more [] hs ks f o = tt
  of_more (v ∷ vs) hs ks f o = ((o.0.0, o.0.1, f o.0.0 o.0.2), of_more vs hs ks f o.1)

  of_append : (vs ws : List Voice) (hs : List Held) → AreOf vs hs → AreOf ws hs → AreOf (vs ++ ws) hs
  of_append [] ws hs o p = p
  of_append (v ∷ vs) ws hs o p = (o.0, of_append vs ws hs o.1 p)

  -- what a node uses is used by those among whom it is
  more_alone : (k : Held) (ks : List Held) → AmongHeld k ks → (r : Resource) → used_alone (footprint_of buffers (k ∷ [])) r ≡ true → used_alone (footprint_of buffers ks) r ≡ true
  more_alone k ks n r t =
      let f = footprint_of buffers (k ∷ []) in
      let g = footprint_of buffers ks in
      ⊎_elim
      (λ (u : f.reads r ≡ true). or_left (g.reads r) (g.writes r) (more_used (is_there buffers r) (λ h. held_reads h r) k ks n u))
      (λ (u : f.writes r ≡ true). or_right (g.reads r) (g.writes r) (more_used (is_there buffers r) (λ h. held_writes h r) k ks n u))
      (or_cases (f.reads r) (f.writes r) t)

  more_at_all : (k : Held) (ks : List Held) → AmongHeld k ks → (r : Resource) → used_at_all (footprint_of buffers (k ∷ [])) r ≡ true → used_at_all (footprint_of buffers ks) r ≡ true
  more_at_all k ks n r t =
      let f = footprint_of buffers (k ∷ []) in
      let g = footprint_of buffers ks in
      ⊎_elim
      (λ (u : used_alone f r ≡ true). or_left (used_alone g r) (g.mixes r) (more_alone k ks n r u))
      (λ (u : f.mixes r ≡ true). or_right (used_alone g r) (g.mixes r) (more_used (is_there buffers r) (λ h. held_mixes h r) k ks n u))
      (or_cases (used_alone f r) (f.mixes r) t)

  lifted : (h k : Held) (hs ks : List Held) → AmongHeld h hs → AmongHeld k ks → (r : Resource) → meets_on (footprint_of buffers (h ∷ [])) (footprint_of buffers (k ∷ [])) r ≡ true → meets_on (footprint_of buffers hs) (footprint_of buffers ks) r ≡ true
  lifted h k hs ks m n r t =
      let a = footprint_of buffers (h ∷ []) in
      let b = footprint_of buffers (k ∷ []) in
      let f = footprint_of buffers hs in
      let g = footprint_of buffers ks in
      ⊎_elim
      (λ (u : (a.writes r && used_at_all b r) ≡ true).
      let p = and_parts (a.writes r) (used_at_all b r) u in
      or_left (f.writes r && used_at_all g r) (f.mixes r && used_alone g r) (and_from (f.writes r) (used_at_all g r) (more_used (is_there buffers r) (λ e. held_writes e r) h hs m p.0) (more_at_all k ks n r p.1)))
      (λ (u : (a.mixes r && used_alone b r) ≡ true).
      let p = and_parts (a.mixes r) (used_alone b r) u in
      or_right (f.writes r && used_at_all g r) (f.mixes r && used_alone g r) (and_from (f.mixes r) (used_alone g r) (more_used (is_there buffers r) (λ e. held_mixes e r) h hs m p.0) (more_alone k ks n r p.1)))
      (or_cases (a.writes r && used_at_all b r) (a.mixes r && used_alone b r) t)

  more_clash : (h k : Held) (hs ks : List Held) → AmongHeld h hs → AmongHeld k ks → FootprintsClash (footprint_of buffers (h ∷ [])) (footprint_of buffers (k ∷ [])) → FootprintsClash (footprint_of buffers hs) (footprint_of buffers ks)
  more_clash h k hs ks m n (r, t) =
      let a = footprint_of buffers (h ∷ []) in
      let b = footprint_of buffers (k ∷ []) in
      let f = footprint_of buffers hs in
      let g = footprint_of buffers ks in (
        r,
        ⊎_elim
            (λ (u : meets_on a b r ≡ true). or_left (meets_on f g r) (meets_on g f r) (lifted h k hs ks m n r u))
            (λ (u : meets_on b a r ≡ true). or_right (meets_on f g r) (meets_on g f r) (lifted k h ks hs n m r u))
            (or_cases (meets_on a b r) (meets_on b a r) t),
      )

  whole_voice : (first : ℕ) (v : Voice) (h : Held) (hs : List Held) (states : List Extent) → LieBelow first buffers states → ((x : ℕ) → has (states_of hs) x ≡ true → has states x ≡ true) → AmongHeld h hs → v.reach ≡ foot_of buffers (h ∷ []) → IsWhole first v
  whole_voice first v h hs states is own m e = record {
    mixed = λ x k.
        let b = mixed_bus buffers h x (ap (λ (r : Reach). has r.mixes x) (sym e) ∙ k) in
        (b.0, (b.1.0, (and_from (nat_le (65 * b.0) x) (nat_lt x (65 * b.0 + 65)) (le-leb (65 * b.0) x b.1.1.0.0) (lt-ltb x (65 * b.0 + 65) b.1.1.0.1), ap (λ (r : Reach). has r.mixes (65 * b.0)) e ∙ b.1.1.1)));
    whole = λ n x lt k c. ap (λ (r : Reach). has r.mixes x) e ∙ whole_bus buffers h n x lt (ap (λ (r : Reach). has r.mixes (65 * n)) (sym e) ∙ k) c;
    below = λ x t. foot_below buffers h first x states is
        (λ y s. own y (has_of_overlaps y (states_of hs) (omega (arith, overlaps_has y (states_of (h ∷ [])) s, overlaps-append y (held_extents h) [], states_among y h hs m))))
        (ap (λ (r : Reach). touches (unmoved r) x) (sym e) ∙ t);
  }

  -- they mix whole buses, and their words lie below
  pub whole_all : (first : ℕ) (vs : List Voice) (hs : List Held) (states : List Extent) → LieBelow first buffers states → ((x : ℕ) → has (states_of hs) x ≡ true → has states x ≡ true) → AreOf vs hs → AreWhole first vs
  whole_all first [] hs states is own o = tt
  whole_all first (v ∷ vs) hs states is own o = (whole_voice first v o.0.0 hs states is own o.0.2 o.0.1, whole_all first vs hs states is own o.1)

  module _ (hs ks : List Held) (is : AreDisjoint buffers (states_of hs ++ states_of ks)) (apart : FootprintsClash (footprint_of buffers hs) (footprint_of buffers ks) → ⊥) where
    clear_pair : (h k : Held) → AmongHeld h hs → AmongHeld k ks → ReachesClash (foot_of buffers (h ∷ [])) (foot_of buffers (k ∷ [])) → ⊥
    clear_pair h k m n c =
        let less : (x : ℕ) → overlaps x (states_of (h ∷ []) ++ states_of (k ∷ [])) ≤ overlaps x (states_of hs ++ states_of ks) =
        λ x. omega (arith, overlaps-append x (states_of (h ∷ [])) (states_of (k ∷ [])), overlaps-append x (held_extents h) [], overlaps-append x (held_extents k) [], overlaps-append x (states_of hs) (states_of ks), states_among x h hs m, states_among x k ks n) in
        apart (more_clash h k hs ks m n ((clash_agrees buffers (h ∷ []) (k ∷ []) (fewer (states_of hs ++ states_of ks) (states_of (h ∷ []) ++ states_of (k ∷ [])) is less)).0 c))

    clear_one : (v : Voice) (h : Held) (ws : List Voice) → v.reach ≡ foot_of buffers (h ∷ []) → AmongHeld h hs → AreOf ws ks → MeetsNone v ws
    clear_one v h [] e m o = tt
    clear_one v h (w ∷ ws) e m o =
        (λ c. clear_pair h o.0.0 m o.0.2 (subst (λ (f : Reach). ReachesClash f (foot_of buffers (o.0.0 ∷ []))) e (subst (λ (f : Reach). ReachesClash v.reach f) o.0.1 c)), clear_one v h ws e m o.1)

    clear_all : (vs ws : List Voice) → AreOf vs hs → AreOf ws ks → NoneMeet vs ws
    clear_all [] ws o p = tt
    clear_all (v ∷ vs) ws o p = (clear_one v o.0.0 ws o.0.1 o.0.2 p, clear_all vs ws o.1 p)

clear_of_more : (v : Voice) (ws us : List Voice) → MeetsNone v ws → MeetsNone v us → MeetsNone v (ws ++ us)
clear_of_more v [] us a b = b
clear_of_more v (w ∷ ws) us a b = (a.0, clear_of_more v ws us a.1 b)

clear_append : (vs ws us : List Voice) → NoneMeet vs ws → NoneMeet vs us → NoneMeet vs (ws ++ us)
clear_append [] ws us a b = tt
clear_append (v ∷ vs) ws us a b = (clear_of_more v ws us a.0 b.0, clear_append vs ws us a.1 b.1)

clear_nothing : (vs : List Voice) → NoneMeet vs []
clear_nothing [] = tt
clear_nothing (v ∷ vs) = (tt, clear_nothing vs)

-- ---- states

states_both : (x : ℕ) (ls ms : List (Label Held)) → overlaps x (states_of (payloads (ls ++ ms))) ≡ overlaps x (states_of (payloads ls)) + overlaps x (states_of (payloads ms))
states_both x [] ms = omega arith
states_both x (l ∷ ls) ms = omega (arith, overlaps-append x (held_extents l.payload) (states_of (payloads (ls ++ ms))), overlaps-append x (held_extents l.payload) (states_of (payloads ls)), states_both x ls ms)

pub live_parts : (x : ℕ) (label : Label Held) (below after : Nodes Held) → overlaps x (live_held (trees.node label below after)) ≡ overlaps x (held_extents label.payload) + (overlaps x (live_held below) + overlaps x (live_held after))
live_parts x label below after = omega (arith, overlaps-append x (held_extents label.payload) (live_held below ++ live_held after), overlaps-append x (live_held below) (live_held after))

pub few_states : (x : ℕ) (t : Nodes Held) → overlaps x (states_of (held_of t)) ≤ overlaps x (live_held t)
few_states x trees.none = omega arith
few_states x (trees.node label below after) =
    cond_both label.running (label ∷ (running_labels below ++ running_labels after)) (running_labels after) (λ ls. overlaps x (states_of (payloads ls)) ≤ overlaps x (live_held (trees.node label below after)))
    (λ b. omega (arith, live_parts x label below after, overlaps-append x (held_extents label.payload) (states_of (payloads (running_labels below ++ running_labels after))), states_both x (running_labels below) (running_labels after), few_states x below, few_states x after))
    (λ b. omega (arith, live_parts x label below after, few_states x after))

pub live_below : (x : ℕ) (id : ℤ) (t : Nodes Held) → overlaps x (live_held (subtree id t)) ≤ overlaps x (live_held t)
live_below x id trees.none = omega arith
live_below x id (trees.node label below after) =
    cond_both (int_eq label.id id) (trees.node label below trees.none) (if holds id below then subtree id below else subtree id after) (λ u. overlaps x (live_held u) ≤ overlaps x (live_held (trees.node label below after)))
    (λ b. omega (arith, live_parts x label below after, live_parts x label below trees.none))
    (λ b. cond_both (holds id below) (subtree id below) (subtree id after) (λ u. overlaps x (live_held u) ≤ overlaps x (live_held (trees.node label below after)))
    (λ h. omega (arith, live_parts x label below after, live_below x id below))
    (λ h. omega (arith, live_parts x label below after, live_below x id after)))

-- ---- a group before others

voices_alone : (flag : Bool) (b : HeardNodes) → voices (with_group flag b none) ≡ voices b
voices_alone flag b = voices_group flag b none ∙ append-nil (voices b)

members_group : (flag : Bool) (b a : HeardNodes) → NoneMeet (voices b) (voices a) → NoMembersMeet a → NoMembersMeet (with_group flag b a)
members_group flag none a c m = m
members_group flag (synth v rest) a c m = (c, m)
members_group flag (group f inner rest) a c m = (c, m)

split_if : (flag : Bool) → is_some (lanes_if flag) ≡ true → flag ≡ true
split_if true h = refl
split_if false h = h

splits_group : (flag : Bool) (b a : HeardNodes) → (flag ≡ true → NoMembersMeet b) → SplitsMeetNone b → SplitsMeetNone a → SplitsMeetNone (with_group flag b a)
splits_group flag none a c s t = t
splits_group flag (synth v rest) a c s t = ((λ h. c (split_if flag h)), (s, t))
splits_group flag (group f inner rest) a c s t = ((λ h. c (split_if flag h)), (s, t))

plain_group : (flag : Bool) (b a : HeardNodes) → ArePlain b → ArePlain a → ArePlain (with_group flag b a)
plain_group flag none a p q = q
plain_group flag (synth v rest) a p q = (p, q)
plain_group flag (group f inner rest) a p q = (p, q)

-- ---- the nodes of a stage

module _ (buffers : List (Option BufferPlace)) (clashing : List ℤ) where
  of_group : (flag : Bool) (label : Label Held) (b a : HeardNodes) (below after : List (Label Held)) → AreOf buffers (voices b) (payloads below) → AreOf buffers (voices a) (payloads after) → AreOf buffers (voices (with_group flag b a)) (payloads (label ∷ (below ++ after)))
  of_group flag label b a below after o p =
      let all : List Held = payloads (label ∷ (below ++ after)) in
      subst (λ vs. AreOf buffers vs all) (sym (voices_group flag b a))
      (of_append buffers (voices b) (voices a) all
      (of_more buffers (voices b) (payloads below) all (λ h m. inr (among_left h below after m)) o)
      (of_more buffers (voices a) (payloads after) all (λ h m. inr (among_right h below after m)) p))

  of_node : (kind : NodeKind) (label : Label Held) (b a : HeardNodes) (below after : List (Label Held)) → AreOf buffers (voices b) (payloads below) → AreOf buffers (voices a) (payloads after) → AreOf buffers (voices (with_node buffers clashing kind label b a)) (payloads (label ∷ (below ++ after)))
  of_node kinds.Synth label b a below after o p = ((label.payload, refl, inl refl), of_more buffers (voices a) (payloads after) (payloads (label ∷ (below ++ after))) (λ h m. inr (among_right h below after m)) p)
  of_node kinds.Group label b a below after o p = of_group false label b a below after o p
  of_node kinds.Parallel label b a below after o p = of_group (may_split clashing label.id) label b a below after o p

  of_if : (run : Bool) (x y : HeardNodes) (ls ms : List (Label Held)) → AreOf buffers (voices x) (payloads ls) → AreOf buffers (voices y) (payloads ms) → AreOf buffers (voices (if run then x else y)) (payloads (if run then ls else ms))
  of_if true x y ls ms o p = o
  of_if false x y ls ms o p = p

  are_of : (t : Nodes Held) → AreOf buffers (voices (running_of buffers clashing t)) (held_of t)
  are_of trees.none = tt
  are_of (trees.node label below after) =
      of_if label.running (with_node buffers clashing label.kind label (running_of buffers clashing below) (running_of buffers clashing after)) (running_of buffers clashing after) (label ∷ (running_labels below ++ running_labels after)) (running_labels after)
      (of_node label.kind label (running_of buffers clashing below) (running_of buffers clashing after) (running_labels below) (running_labels after) (are_of below) (are_of after))
      (are_of after)

  voices_node : (run : Bool) (kind : NodeKind) (label : Label Held) (b a : HeardNodes) → voices (if run then with_node buffers clashing kind label b none else none) ++ voices a ≡ voices (if run then with_node buffers clashing kind label b a else a)
  voices_node true kinds.Synth label b a = refl
  voices_node true kinds.Group label b a = ap (λ vs. vs ++ voices a) (voices_alone false b) ∙ sym (voices_group false b a)
  voices_node true kinds.Parallel label b a = ap (λ vs. vs ++ voices a) (voices_alone (may_split clashing label.id) b) ∙ sym (voices_group (may_split clashing label.id) b a)
  voices_node false kind label b a = refl

  clear_after : (vs : List Voice) (hs : List Held) (t : Nodes Held) → AreOf buffers vs hs → AreDisjoint buffers (states_of hs ++ live_held t) → ClashesWithNone buffers hs t → NoneMeet vs (voices (running_of buffers clashing t))
  clear_after vs hs trees.none o is n = clear_nothing vs
  clear_after vs hs (trees.node label below after) o is n =
      let here : Nodes Held = trees.node label below trees.none in
      let whole : Nodes Held = trees.node label below after in
      let first : AreDisjoint buffers (states_of hs ++ states_of (held_of here)) = fewer buffers (states_of hs ++ live_held whole) (states_of hs ++ states_of (held_of here)) is
      (λ x. omega (arith, overlaps-append x (states_of hs) (states_of (held_of here)), overlaps-append x (states_of hs) (live_held whole), few_states x here, live_parts x label below trees.none, live_parts x label below after)) in
      let rest : AreDisjoint buffers (states_of hs ++ live_held after) = fewer buffers (states_of hs ++ live_held whole) (states_of hs ++ live_held after) is
      (λ x. omega (arith, overlaps-append x (states_of hs) (live_held after), overlaps-append x (states_of hs) (live_held whole), live_parts x label below after)) in
      subst (NoneMeet vs) (voices_node label.running label.kind label (running_of buffers clashing below) (running_of buffers clashing after))
      (clear_append vs (voices (running_of buffers clashing here)) (voices (running_of buffers clashing after))
      (clear_all buffers hs (held_of here) first n.0 vs (voices (running_of buffers clashing here)) o (are_of here))
      (clear_after vs hs after o rest n.1))

  members_node : (run : Bool) (kind : NodeKind) (label : Label Held) (b a : HeardNodes) → NoneMeet (voices (if run then with_node buffers clashing kind label b none else none)) (voices a) → NoMembersMeet a → NoMembersMeet (if run then with_node buffers clashing kind label b a else a)
  members_node true kinds.Synth label b a c m = (c.0, m)
  members_node true kinds.Group label b a c m = members_group false b a (subst (λ vs. NoneMeet vs (voices a)) (voices_alone false b) c) m
  members_node true kinds.Parallel label b a c m = members_group (may_split clashing label.id) b a (subst (λ vs. NoneMeet vs (voices a)) (voices_alone (may_split clashing label.id) b) c) m
  members_node false kind label b a c m = m

  members_clear : (t : Nodes Held) → AreDisjoint buffers (live_held t) → NoneClash buffers t → NoMembersMeet (running_of buffers clashing t)
  members_clear trees.none is n = tt
  members_clear (trees.node label below after) is n =
      let here : Nodes Held = trees.node label below trees.none in
      let whole : Nodes Held = trees.node label below after in
      let first : AreDisjoint buffers (states_of (held_of here) ++ live_held after) = fewer buffers (live_held whole) (states_of (held_of here) ++ live_held after) is
      (λ x. omega (arith, overlaps-append x (states_of (held_of here)) (live_held after), few_states x here, live_parts x label below trees.none, live_parts x label below after)) in
      let rest : AreDisjoint buffers (live_held after) = fewer buffers (live_held whole) (live_held after) is (λ x. omega (arith, live_parts x label below after)) in
      members_node label.running label.kind label (running_of buffers clashing below) (running_of buffers clashing after)
      (clear_after (voices (running_of buffers clashing here)) (held_of here) after (are_of here) first n.0)
      (members_clear after rest n.1)

  splits_node : (run : Bool) (kind : NodeKind) (label : Label Held) (b a : HeardNodes) → (run ≡ true → (kind ≡ kinds.Parallel → is_listed clashing label.id ≡ false → NoMembersMeet b) × SplitsMeetNone b) → SplitsMeetNone a → SplitsMeetNone (if run then with_node buffers clashing kind label b a else a)
  splits_node true kinds.Synth label b a c s = s
  splits_node true kinds.Group label b a c s = splits_group false b a (λ h. absurd (true≢false (sym h))) (c refl).1 s
  splits_node true kinds.Parallel label b a c s = splits_group (may_split clashing label.id) b a (λ h. (c refl).0 refl (not-true (is_listed clashing label.id) h)) (c refl).1 s
  splits_node false kind label b a c s = s

  splits_meet_none : (t : Nodes Held) → AreDisjoint buffers (live_held t) → AreListed buffers clashing t → SplitsMeetNone (running_of buffers clashing t)
  splits_meet_none trees.none is n = tt
  splits_meet_none (trees.node label below after) is n =
      let whole : Nodes Held = trees.node label below after in
      let inner : AreDisjoint buffers (live_held below) = fewer buffers (live_held whole) (live_held below) is (λ x. omega (arith, live_parts x label below after)) in
      let rest : AreDisjoint buffers (live_held after) = fewer buffers (live_held whole) (live_held after) is (λ x. omega (arith, live_parts x label below after)) in
      splits_node label.running label.kind label (running_of buffers clashing below) (running_of buffers clashing after)
      (λ r. (λ k u. members_clear below inner ((n.0 r).0 k u), splits_meet_none below inner (n.0 r).1))
      (splits_meet_none after rest n.1)

  pub none_meet_below : (id : ℤ) (t : Nodes Held) → AreDisjoint buffers (live_held t) → AreListed buffers clashing (subtree id t) → SplitsMeetNone (running_of buffers clashing (subtree id t))
  none_meet_below id t is n = splits_meet_none (subtree id t) (fewer buffers (live_held t) (live_held (subtree id t)) is (λ x. live_below x id t)) n

  plain_node : (run : Bool) (kind : NodeKind) (label : Label Held) (b a : HeardNodes) → ArePlain b → ArePlain a → ArePlain (if run then with_node buffers clashing kind label b a else a)
  plain_node true kinds.Synth label b a p q = (refl, q)
  plain_node true kinds.Group label b a p q = plain_group false b a p q
  plain_node true kinds.Parallel label b a p q = plain_group (may_split clashing label.id) b a p q
  plain_node false kind label b a p q = q

  -- no lanes are given yet
  pub are_plain : (t : Nodes Held) → ArePlain (running_of buffers clashing t)
  are_plain trees.none = tt
  are_plain (trees.node label below after) = plain_node label.running label.kind label (running_of buffers clashing below) (running_of buffers clashing after) (are_plain below) (are_plain after)

  -- the synths of a subtree mix whole buses, and their words lie below
  pub whole_below : (first : ℕ) (id : ℤ) (t : Nodes Held) → LieBelow first buffers (live_held t) → AreWhole first (voices (running_of buffers clashing (subtree id t)))
  whole_below first id t is =
      let u : Nodes Held = subtree id t in
      whole_all buffers first (voices (running_of buffers clashing u)) (held_of u) (live_held t) is
      (λ x s. has_of_overlaps x (live_held t) (omega (arith, overlaps_has x (states_of (held_of u)) s, few_states x u, live_below x id t))) (are_of u)
