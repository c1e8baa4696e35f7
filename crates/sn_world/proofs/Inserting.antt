-- A node that is put into the tree: what the stage, its words and the world are after it.
use Rattle.std.proofs.Common.{◌≡◌, ◌≤◌, ◌<◌, ◌+◌, ◌||◌, ◌&&◌, ℕ, zero, suc, ℤ, Bool, true, false, Option, not, nat_lt, Some, None, List, [], ◌∷◌, ◌++◌, length, get_or, refl, ap, sym, subst, ◌∙◌, arith}
use Rattle.std.specs.Prelude.{if◌then◌else◌}
use Rattle.std.specs.Ordering.{int_eq}
use Rattle.std.proofs.lemmas.Bool.{cond_both, lt-ltb}
use Rattle.sn_mem.specs.declared.extents.Extent.{Extent}
use Rattle.sn_mem.specs.Words.{covers, has}
use Rattle.sn_mem.specs.Buses.{AudioBus, ControlBus}
use Rattle.sn_mem.proofs.BusLaws.{audio_same, control_same}
use Rattle.sn_mem.specs.declared.buffers.BufferPlace.{BufferPlace}
use Rattle.sn_pool.specs.Pools.{times}
use Rattle.sn_pool.specs.Regions.{are_free, first_free, least_place}
use Rattle.sn_tree.specs.declared.node.NodeKind.{NodeKind}
use Rattle.sn_tree.specs.declared.node.AddAction.{AddAction}
use Rattle.sn_tree.specs.declared.node.AddAction.TheVariants.{Head, Tail, Before, After}
use Rattle.sn_tree.specs.Faults.{is_inside, is_synth, labels_synth}
use Rattle.sn_tree.specs.Trees.{Label, Nodes, none, node, holds, joined, beside, put, leaf, label_of, with_payloads}
use Rattle.sn_tree.specs.Model.{NodeTree}
use Rattle.sn_world.specs.declared.stage.Held.{Held}
use Rattle.sn_world.specs.declared.stage.Held.TheVariants as held
use Rattle.sn_world.specs.declared.stage.Stage.{Stage}
use Rattle.sn_mem.specs.Buffers.{Buffer, buffers_of, live_places, overlaps}
use Rattle.sn_world.specs.Buffers.{AreBuffers}
use Rattle.sn_world.specs.Definitions.{Definitions, definitions_of}
use Rattle.sn_world.specs.Nodes.{Content, content_of, extents_of, live_in}
use Rattle.sn_world.specs.Pictures.{held_extents, live_held, IsHeld, KindAgrees, AreHeld, Pictures}
use Rattle.sn_world.specs.World.{World, world_of}
use Rattle.sn_world.specs.NewNodes.{left_by, gone_by}
use Rattle.sn_mem.proofs.BufferWords.{overlaps-append, AgreesOn, same_buffers}
use Rattle.sn_world.proofs.HeldKinds.{kind-below, kind-inside}
use Rattle.sn_world.proofs.Walking.{parts_of, held_from}
use Rattle.sn_world.proofs.Replacing.{overlaps-left, times-left, overlaps-placed, times-placed, held-left, same_placed}

-- ---- words in extents

pub has-overlaps : (es : List Extent) (x : ℕ) → has es x ≡ nat_lt 0 (overlaps x es)
has-overlaps [] x = refl
has-overlaps (e ∷ es) x = at (covers e x) (has-overlaps es x)
  where
    at : (b : Bool) → has es x ≡ nat_lt 0 (overlaps x es) → (b || has es x) ≡ nat_lt 0 ((if b then 1 else 0) + overlaps x es)
    at true rest = sym (lt-ltb 0 (1 + overlaps x es) (omega arith))
    at false rest = rest ∙ ap (nat_lt 0) (omega arith)

-- the least place rests on which words are live
are_free-same : (es fs : List Extent) → ((x : ℕ) → has es x ≡ has fs x) → (p n : ℕ) → are_free es p n ≡ are_free fs p n
unfolding are_free
are_free-same es fs same p zero = refl
are_free-same es fs same p (suc n) = λ i. not (same p i) && are_free-same es fs same (p + 1) n i

first_free-same : (es fs : List Extent) → ((x : ℕ) → has es x ≡ has fs x) → (n p places : ℕ) → first_free es n p places ≡ first_free fs n p places
unfolding first_free
first_free-same es fs same n p zero = refl
first_free-same es fs same n p (suc places) = λ i. if are_free-same es fs same p n i then Some p else first_free-same es fs same n (p + 1) places i

pub least_place-same : (region : Extent) (es fs : List Extent) (n : ℕ) → ((x : ℕ) → has es x ≡ has fs x) → least_place region es n ≡ least_place region fs n
least_place-same region es fs n same = first_free-same es fs same n _ _

-- ---- the extents of nodes

own_extents : (h : Held) (ws : List ℕ) → extents_of (content_of ws h) ≡ held_extents h
own_extents held.Group ws = refl
own_extents (held.Synth def controls state) ws = refl

pub live_in-payloads : (t : Nodes Held) (ws : List ℕ) → live_in (with_payloads (content_of ws) t) ≡ live_held t
live_in-payloads none ws = refl
live_in-payloads (node l below after) ws = λ i. own_extents l.payload ws i ++ (live_in-payloads below ws i ++ live_in-payloads after ws i)

module _ (rate : ℕ) (region : Extent) where
  held-joined : (s t : Nodes Held) → AreHeld rate region s → AreHeld rate region t → AreHeld rate region (joined s t)
  held-joined none t hs ht = ht
  held-joined (node l below after) t hs ht = (hs.0, (hs.1.0, held-joined after t hs.1.1 ht), hs.2)

  held-beside : (action : AddAction) (new : Nodes Held) (l : Label Held) (below after : Nodes Held) → (is_inside action ≡ true → is_synth l.kind ≡ false) → AreHeld rate region new → AreHeld rate region (node l below after) → AreHeld rate region (beside action new l below after)
  held-beside Head new l below after group hn h = (h.0, (held-joined new below hn h.1.0, h.1.1), kind-inside l.kind l.payload below (joined new below) (group refl) h.2)
  held-beside Tail new l below after group hn h = (h.0, (held-joined below new h.1.0 hn, h.1.1), kind-inside l.kind l.payload below (joined below new) (group refl) h.2)
  held-beside Before new l below after group hn h = held-joined new (node l below after) hn h
  held-beside After new l below after group hn h = (h.0, (h.1.0, held-joined new after hn h.1.1), h.2)

  -- inside no synth
  pub held-put : (action : AddAction) (target : ℤ) (new t : Nodes Held) → (is_inside action ≡ true → labels_synth (label_of target t) ≡ false) → AreHeld rate region new → AreHeld rate region t → AreHeld rate region (put action target new t)
  held-put action target new none group hn h = h
  held-put action target new (node l below after) group hn h =
      let found : Bool → Bool → Bool = λ here inner. labels_synth (if here then Some l else if inner then label_of target below else label_of target after) in
      cond_both (int_eq l.id target) (beside action new l below after) (if holds target below then node l (put action target new below) after else node l below (put action target new after)) (AreHeld rate region)
      (λ e. held-beside action new l below after (λ i. subst (λ b. found b (holds target below) ≡ false) e (group i)) hn h)
      (λ e.
      let other : is_inside action ≡ true → found false (holds target below) ≡ false = λ i. subst (λ b. found b (holds target below) ≡ false) e (group i) in
      cond_both (holds target below) (node l (put action target new below) after) (node l below (put action target new after)) (AreHeld rate region)
      (λ f. (h.0, (held-put action target new below (λ i. subst (λ b. found false b ≡ false) f (other i)) hn h.1.0, h.1.1), kind-below l.kind l.payload below (put action target new below) target h.2 f))
      (λ f. (h.0, (h.1.0, held-put action target new after (λ i. subst (λ b. found false b ≡ false) f (other i)) hn h.1.1), h.2)))

-- ---- a stage and its words after a node was put

-- what stays live of a stage when the target is replaced
abbrev pub left_live : Bool → ℤ → Stage → List Extent
left_live b target s = live_held (left_by b target s.tree.attached) ++ live_places s.buffers

-- If the node takes the place of its target, that one is gone with all below it. The node's words were free then, no
-- other word has changed, and its words are live.
pub record IsPut (b : Bool) (id : ℤ) (kind : NodeKind) (action : AddAction) (target : ℤ) (h : Held) (old : Stage) (ws : List ℕ) (new : Stage) (us : List ℕ) : Type 0 where
  pub before : b ≡ true → action ≡ Before
  pub there : holds target old.tree.attached ≡ true
  pub other : int_eq id target ≡ false
  pub group : is_inside action ≡ true → labels_synth (label_of target old.tree.attached) ≡ false
  pub held : IsHeld old.rate old.pool.region h
  pub agrees : KindAgrees kind h none
  pub free : (x : ℕ) → 0 < overlaps x (held_extents h) → overlaps x (left_live b target old) ≡ 0
  pub buffers : new.buffers ≡ old.buffers
  pub tree : new.tree ≡ record { attached = left_by b target (put action target (leaf id kind h) old.tree.attached); detached = none; journal = None }
  pub live : (e : Extent) → 1 ≤ e.len → times e new.pool.live + times e (live_held (gone_by b target old.tree.attached)) ≡ times e (held_extents h) + times e old.pool.live
  pub region : new.pool.region ≡ old.pool.region
  pub journal : new.pool.journal ≡ None
  pub rate : new.rate ≡ old.rate
  pub defs : new.defs ≡ old.defs
  pub notify : new.notify ≡ old.notify
  pub next : new.next_id ≡ old.next_id
  pub length : length us ≡ length ws
  pub others : (x : ℕ) → overlaps x (held_extents h) ≡ 0 → get_or us x 0 ≡ get_or ws x 0

-- no word is twice in a node's own
own_once : (h : Held) (x : ℕ) → overlaps x (held_extents h) ≤ 1
own_once held.Group x = omega arith
own_once (held.Synth def controls state) x = at (covers state x)
  where
    at : (b : Bool) → (if b then 1 else 0) + 0 ≤ 1
    at true = omega arith
    at false = omega arith

own_of_leaf : (id : ℤ) (kind : NodeKind) (h : Held) (x : ℕ) → overlaps x (live_held (leaf id kind h)) ≡ overlaps x (held_extents h)
own_of_leaf id kind h x = omega (arith, parts_of (record { id = id; kind = kind; running = true; payload = h }) none none x)

moved : (r r' : ℕ) (g g' : Extent) (t t' : Nodes Held) → r' ≡ r → g' ≡ g → t' ≡ t → AreHeld r g t → AreHeld r' g' t'
moved r r' g g' t t' p q s h = subst (λ n. AreHeld n g' t') (sym p) (subst (λ e. AreHeld r e t') (sym q) (subst (AreHeld r g) (sym s) h))

module _ (b : Bool) (id : ℤ) (kind : NodeKind) (action : AddAction) (target : ℤ) (h : Held) (old : Stage) (ws : List ℕ) (new : Stage) (us : List ℕ) (is : IsPut b id kind action target h old ws new us) (before : Pictures old ws) where
  attached : new.tree.attached ≡ left_by b target (put action target (leaf id kind h) old.tree.attached)
  attached = ap (λ (t : NodeTree Held). t.attached) is.tree

  now_live : (x : ℕ) → overlaps x (live_held new.tree.attached) ≡ overlaps x (held_extents h) + overlaps x (live_held (left_by b target old.tree.attached))
  now_live x =
      ap (λ (t : Nodes Held). overlaps x (live_held t)) attached
      ∙ overlaps-placed b action target id kind h old.tree.attached is.before is.there is.other x

  both_left : (x : ℕ) → overlaps x (left_live b target old) ≡ overlaps x (live_held (left_by b target old.tree.attached)) + overlaps x (live_places old.buffers)
  both_left x = overlaps-append x (live_held (left_by b target old.tree.attached)) (live_places old.buffers)

  same_places : (x : ℕ) → overlaps x (live_places new.buffers) ≡ overlaps x (live_places old.buffers)
  same_places x = ap (λ (ps : List (Option BufferPlace)). overlaps x (live_places ps)) is.buffers

  put_once : (x : ℕ) → overlaps x (live_held new.tree.attached) + overlaps x (live_places new.buffers) ≤ 1
  put_once x = at (overlaps x (held_extents h)) refl
    where
      at : (n : ℕ) → overlaps x (held_extents h) ≡ n → overlaps x (live_held new.tree.attached) + overlaps x (live_places new.buffers) ≤ 1
      at zero e = omega (arith, now_live x, before.apart x, same_places x, overlaps-left x b target old.tree.attached, e)
      at (suc n) e = omega (arith, now_live x, is.free x (omega (arith, e)), both_left x, same_places x, own_once h x)

  put_live : (e : Extent) → 1 ≤ e.len → times e new.pool.live ≡ times e (live_held new.tree.attached) + times e (live_places new.buffers)
  put_live e some = omega (arith, is.live e some, before.live e some, ap (λ (ps : List (Option BufferPlace)). times e (live_places ps)) is.buffers, ap (λ (t : Nodes Held). times e (live_held t)) attached, times-placed b action target id kind h old.tree.attached is.before is.there is.other e, times-left e b target old.tree.attached)

  -- the pictures stay
  pub put_pictures : Pictures new us
  put_pictures = record {
    rate = omega (arith, is.rate, before.rate);
    rate_fits = omega (arith, is.rate, before.rate_fits);
    base = ap (λ (e : Extent). e.at) is.region ∙ before.base;
    bounded = omega (arith, ap (λ (e : Extent). e.len) is.region, before.bounded);
    fits = omega (arith, ap (λ (e : Extent). e.len) is.region, before.fits, is.length);
    synths = moved old.rate new.rate old.pool.region new.pool.region _ _ is.rate is.region attached (held-left old.rate old.pool.region b target (put action target (leaf id kind h) old.tree.attached) (held-put old.rate old.pool.region action target (leaf id kind h) old.tree.attached is.group (is.held, (tt, tt), is.agrees) before.synths));
    buffers = subst (λ (g : Extent). AreBuffers g new.buffers) (sym is.region) (subst (AreBuffers old.pool.region) (sym is.buffers) before.buffers);
    live = put_live;
    apart = put_once;
    attached = ap (λ (t : NodeTree Held). t.detached) is.tree;
    settled = ap (λ (t : NodeTree Held). t.journal) is.tree;
    closed = is.journal;
  }

  behind : (x : ℕ) → x < 10368 → overlaps x (held_extents h) ≡ 0
  behind x low = at (overlaps x (held_extents h)) refl
    where
      at : (n : ℕ) → overlaps x (held_extents h) ≡ n → n ≡ 0
      at zero e = refl
      at (suc n) e = absurd (omega (arith, low, before.base, held_from old.rate old.pool.region (leaf id kind h) x (is.held, (tt, tt), is.agrees) (omega (arith, own_of_leaf id kind h x, e))))

  put_agrees : AgreesOn (left_live b target old) us ws
  unfolding AgreesOn
  put_agrees = λ x more. is.others x (at x more (overlaps x (held_extents h)) refl)
    where
      at : (x : ℕ) → 0 < overlaps x (left_live b target old) → (n : ℕ) → overlaps x (held_extents h) ≡ n → overlaps x (held_extents h) ≡ 0
      at x more zero e = e
      at x more (suc n) e = absurd (omega (arith, more, is.free x (omega (arith, e))))

  nodes_agree : AgreesOn (live_held (left_by b target old.tree.attached)) us ws
  unfolding AgreesOn
  nodes_agree = λ x more. put_agrees x (omega (arith, both_left x, more))

  put_buffers : buffers_of us new.buffers ≡ buffers_of ws old.buffers
  unfolding AgreesOn
  put_buffers = ap (buffers_of us) is.buffers ∙ same_buffers old.buffers us ws (λ x more. put_agrees x (omega (arith, both_left x, more)))

  put_nodes : with_payloads (content_of us) new.tree.attached ≡ left_by b target (put action target (leaf id kind (content_of us h)) (with_payloads (content_of ws) old.tree.attached))
  put_nodes = ap (with_payloads (content_of us)) attached ∙ same_placed us ws id target kind h b action old.tree.attached is.before is.there is.other nodes_agree

  abbrev world_with : Nodes Content → Definitions → List AudioBus → List ControlBus → List (Option Buffer) → List Bool → Option ℤ → ℕ → Extent → World
  world_with nodes definitions audio control buffers notify next rate region = record { nodes = nodes; definitions = definitions; audio_buses = audio; control_buses = control; buffers = buffers; notify = notify; next_id = next; rate = rate; region = region }

  -- the world with the node
  pub put_world : world_of new us ≡ record (world_of old ws) { nodes = left_by b target (put action target (leaf id kind (content_of us h)) (world_of old ws).nodes) }
  put_world = λ i. world_with (put_nodes i) (definitions_of (is.defs i))
      (audio_same us ws (λ j low. is.others j (behind j (omega arith))) i)
      (control_same us ws (λ j from low. is.others j (behind j low)) i)
      (put_buffers i) (is.notify i) (is.next i) (is.rate i) (is.region i)
