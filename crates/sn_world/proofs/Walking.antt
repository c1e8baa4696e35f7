-- The words that a walk leaves stand for the nodes and the buses after the walk.
use Rattle.std.proofs.Common.{◌≡◌, ◌≤◌, ◌<◌, ◌+◌, inl, inr, ℕ, ℤ, Bool, true, false, Option, List, [], ◌∷◌, ◌++◌, length, get_or, refl, ap, sym, subst, ◌∙◌, arith}
use Rattle.std.specs.Prelude.{if◌then◌else◌}
use Rattle.sn_mem.specs.declared.extents.Extent.{Extent}
use Rattle.sn_mem.specs.declared.buffers.BufferPlace.{BufferPlace}
use Rattle.std.proofs.lemmas.Bool.Decides.{leb_tells}
use Rattle.sn_def.specs.declared.control.Control.{Control}
use Rattle.sn_def.specs.Defs.{definition_of}
use Rattle.sn_def.specs.Definition.{Definition}
use Rattle.sn_world.proofs.Meanings.{played}
use Rattle.sn_world.specs.Buffers.{AreEach}
use Rattle.sn_world.proofs.BufferLaws.{are_places}
use Rattle.sn_tree.specs.Trees.{Label, Nodes, none, node, running_labels, with_payloads}
use Rattle.sn_world.specs.declared.stage.Held.{Held}
use Rattle.sn_world.specs.declared.stage.Held.TheVariants as held
use Rattle.sn_world.specs.Nodes.{Content, synth, content_of}
use Rattle.sn_world.specs.Walk.{Walked, walk_nodes, content_after}
use Rattle.sn_world.specs.WalkWords.{held_words, walk_words}
use Rattle.sn_mem.specs.Buffers.{Resources, resources_of, overlaps, live_places}
use Rattle.sn_mem.proofs.BufferWords.{AgreesOn, overlaps-append, covered_from, outside, same_window}
use Rattle.sn_world.specs.Pictures.{held_extents, live_held, IsHeld, AreHeld, IsApart}

-- ---- what a change of other words leaves

same_synth : (d : Definition) (controls : List Control) (e : Extent) (s s' : List ℕ) → s ≡ s' → ◌≡◌ {A = Content} (synth (record { definition = d; controls = controls; state = s; extent = e })) (synth (record { definition = d; controls = controls; state = s'; extent = e }))
same_synth d controls e s s' p = ap (λ (t : List ℕ). synth (record { definition = d; controls = controls; state = t; extent = e })) p

pub same_content : (h : Held) (us ws : List ℕ) → AgreesOn (held_extents h) us ws → content_of us h ≡ content_of ws h
same_content held.Group us ws agree = refl
same_content (held.Synth def controls state) us ws agree = same_synth (definition_of def.value) controls state _ _ (same_window state us ws agree)

pub same_label : (l : Label Held) (c c' : Content) → c ≡ c' → ◌≡◌ {A = Label Content} (record { id = l.id; kind = l.kind; running = l.running; payload = c }) (record { id = l.id; kind = l.kind; running = l.running; payload = c' })
same_label l c c' p = ap (λ (t : Content). record { id = l.id; kind = l.kind; running = l.running; payload = t }) p

pub same_node : (l l' : Label Content) (b b' a a' : Nodes Content) → l ≡ l' → b ≡ b' → a ≡ a' → node l b a ≡ node l' b' a'
same_node l l' b b' a a' p q r = ap (λ (t : Label Content). node t b a) p ∙ ap (λ (t : Nodes Content). node l' t a) q ∙ ap (λ (t : Nodes Content). node l' b' t) r

pub parts_of : (l : Label Held) (below after : Nodes Held) (x : ℕ) → overlaps x (live_held (node l below after)) ≡ overlaps x (held_extents l.payload) + (overlaps x (live_held below) + overlaps x (live_held after))
parts_of l below after x =
    overlaps-append x (held_extents l.payload) (live_held below ++ live_held after)
    ∙ ap (λ n. overlaps x (held_extents l.payload) + n) (overlaps-append x (live_held below) (live_held after))

pub same_nodes : (t : Nodes Held) (us ws : List ℕ) → AgreesOn (live_held t) us ws → with_payloads (content_of us) t ≡ with_payloads (content_of ws) t
unfolding AgreesOn
same_nodes none us ws agree = refl
same_nodes (node l below after) us ws agree =
    let parts = parts_of l below after in
    same_node _ _ _ _ _ _
    (same_label l _ _ (same_content l.payload us ws (λ x more. agree x (omega (arith, parts x)))))
    (same_nodes below us ws (λ x more. agree x (omega (arith, parts x))))
    (same_nodes after us ws (λ x more. agree x (omega (arith, parts x))))

-- ---- nodes that run

pub walk_words-append : (rate b : ℕ) (places : List (Option BufferPlace)) (ls ms : List (Label Held)) (ws : List ℕ) → walk_words rate b places (ls ++ ms) ws ≡ walk_words rate b places ms (walk_words rate b places ls ws)
walk_words-append rate b places [] ms ws = refl
walk_words-append rate b places (l ∷ ls) ms ws = walk_words-append rate b places ls ms (held_words rate b l.id places l.payload ws)

-- What running nodes do to words, seen from the extents of the nodes and of the buffers: the length stays, and so do
-- all words after the buses except theirs.
pub record IsKept (es : List Extent) (ws us : List ℕ) : Type 0 where
  pub length : length us ≡ length ws
  pub others : (x : ℕ) → 10368 ≤ x → overlaps x es ≡ 0 → get_or us x 0 ≡ get_or ws x 0

-- the words after the buses, from which the nodes' own come, and no word is that of two nodes
pub record CanWalk (rate : ℕ) (region : Extent) (t : Nodes Held) (ws : List ℕ) : Type 0 where
  pub held : AreHeld rate region t
  pub apart : (x : ℕ) → overlaps x (live_held t) ≤ 1
  pub base : region.at ≡ 10368
  pub fits : 10368 + region.len ≤ length ws
  pub bounded : 10368 + region.len < 4294967296

own_from : (rate : ℕ) (region : Extent) (h : Held) (x : ℕ) → IsHeld rate region h → 0 < overlaps x (held_extents h) → region.at ≤ x
own_from rate region held.Group x is more = absurd (omega (arith, more))
own_from rate region (held.Synth def controls state) x is more = omega (arith, is.within.0, covered_from state x more)

-- the nodes' words lie in the region
pub held_from : (rate : ℕ) (region : Extent) (t : Nodes Held) (x : ℕ) → AreHeld rate region t → 0 < overlaps x (live_held t) → region.at ≤ x
held_from rate region none x are more = absurd (omega (arith, more))
held_from rate region (node l below after) x are more =
    let own = held_extents l.payload in
    let parts = parts_of l below after x in
    elim (leb_tells 1 (overlaps x own)) [
      | inl p ↦ own_from rate region l.payload x are.0 p.1
      | inr p ↦ (elim (leb_tells 1 (overlaps x (live_held below))) [
        | inl q ↦ held_from rate region below x are.1.0 q.1
        | inr q ↦ held_from rate region after x are.1.1 (omega (arith, more, parts, p.1, q.1))
      ])
    ]

-- the same with buffers, which have words of the region too
pub record CanPlay (rate : ℕ) (region : Extent) (places : List (Option BufferPlace)) (t : Nodes Held) (ws : List ℕ) : Type 0 where
  pub can : CanWalk rate region t ws
  pub each : AreEach region places
  pub apart : (x : ℕ) → overlaps x (live_held t) + overlaps x (live_places places) ≤ 1

-- ---- one node

pub record IsRun (rate b : ℕ) (id : ℤ) (places : List (Option BufferPlace)) (h : Held) (ws us : List ℕ) : Type 0 where
  pub kept : IsKept (held_extents h ++ live_places places) ws us
  pub ran : content_after rate b id (content_of ws h) (resources_of places ws) ≡ (content_of us h, resources_of places us)

pair : {A B : Type 0} (a a' : A) (b b' : B) → a ≡ a' → b ≡ b' → ◌≡◌ {A = A × B} (a, b) (a', b')
pair a a' b b' p q = λ i. (p i, q i)

node_run : (rate b : ℕ) (id : ℤ) (region : Extent) (places : List (Option BufferPlace)) (h : Held) (ws : List ℕ) → IsHeld rate region h → AreEach region places → ((x : ℕ) → overlaps x (held_extents h) + overlaps x (live_places places) ≤ 1) → region.at ≡ 10368 → 10368 + region.len < 4294967296 → 10368 + region.len ≤ length ws
    → IsRun rate b id places h ws (held_words rate b id places h ws)
node_run rate b id region places held.Group ws is each apart base bounded fits = record { kept = record { length = refl; others = λ x from free. refl }; ran = refl }
node_run rate b id region places (held.Synth def controls state) ws is each apart base bounded fits =
    let d = definition_of def.value in
    let p = played rate b id def.value controls region places state.at state.len ws is.each is.size (omega (arith, base, is.within.0)) (omega (arith, base, bounded, is.within.1)) (omega (arith, base, fits, is.within.1)) each base bounded fits
    (record { each = are_places region places base each; apart = λ x. omega (arith, apart x) }) in
    record {
      kept = record { length = p.long; others = λ x from free. let parts = overlaps-append x (state ∷ []) (live_places places) in p.others x from (outside state x (omega (arith, free, parts))) (omega (arith, free, parts)) };
      ran = pair _ _ _ _ (same_synth d controls state _ _ (sym p.state)) (sym p.resources);
    }

-- ---- all nodes

pub record IsWalked (rate b : ℕ) (places : List (Option BufferPlace)) (t : Nodes Held) (ws us : List ℕ) : Type 0 where
  pub kept : IsKept (live_held t ++ live_places places) ws us
  pub walked : walk_nodes rate b (with_payloads (content_of ws) t) (resources_of places ws) ≡ record { nodes = with_payloads (content_of us) t; resources = resources_of places us }

abbrev relabelled : Label Held → Content → Label Content
relabelled l c = record { id = l.id; kind = l.kind; running = l.running; payload = c }

-- a node that ran, what is below it, and what is after it
abbrev third : ℕ → ℕ → Label Held → Content → Walked → Nodes Content → Walked
third rate b l c inner after = let rest = walk_nodes rate b after inner.resources in record { nodes = node (relabelled l c) inner.nodes rest.nodes; resources = rest.resources }

abbrev second : ℕ → ℕ → Label Held → Content × Resources → Nodes Content → Nodes Content → Walked
second rate b l here below after = third rate b l here.0 (walk_nodes rate b below here.1) after

same_walked : (n n' : Nodes Content) (r : Resources) → n ≡ n' → ◌≡◌ {A = Walked} (record { nodes = n; resources = r }) (record { nodes = n'; resources = r })
same_walked n n' r p = ap (λ (t : Nodes Content). record { nodes = t; resources = r }) p

-- if the parts were walked one after the other
three : (rate b : ℕ) (places : List (Option BufferPlace)) (l : Label Held) (below after : Nodes Held) (ws w1 w2 w3 : List ℕ)
    → content_after rate b l.id (content_of ws l.payload) (resources_of places ws) ≡ (content_of w1 l.payload, resources_of places w1)
    → with_payloads (content_of ws) below ≡ with_payloads (content_of w1) below
    → walk_nodes rate b (with_payloads (content_of w1) below) (resources_of places w1) ≡ record { nodes = with_payloads (content_of w2) below; resources = resources_of places w2 }
    → with_payloads (content_of ws) after ≡ with_payloads (content_of w2) after
    → walk_nodes rate b (with_payloads (content_of w2) after) (resources_of places w2) ≡ record { nodes = with_payloads (content_of w3) after; resources = resources_of places w3 }
    → content_of w1 l.payload ≡ content_of w3 l.payload
    → with_payloads (content_of w2) below ≡ with_payloads (content_of w3) below
    → second rate b l (content_after rate b l.id (content_of ws l.payload) (resources_of places ws)) (with_payloads (content_of ws) below) (with_payloads (content_of ws) after)
    ≡ record { nodes = with_payloads (content_of w3) (node l below after); resources = resources_of places w3 }
three rate b places l below after ws w1 w2 w3 own same_below ran_below same_after ran_after own_kept below_kept =
    ap (λ (h : Content × Resources). second rate b l h (with_payloads (content_of ws) below) (with_payloads (content_of ws) after)) own
    ∙ ap (λ (t : Nodes Content). second rate b l (content_of w1 l.payload, resources_of places w1) t (with_payloads (content_of ws) after)) same_below
    ∙ ap (λ (r : Walked). third rate b l (content_of w1 l.payload) r (with_payloads (content_of ws) after)) ran_below
    ∙ ap (λ (t : Nodes Content). third rate b l (content_of w1 l.payload) (record { nodes = with_payloads (content_of w2) below; resources = resources_of places w2 }) t) same_after
    ∙ ap (λ (r : Walked). record { nodes = node (relabelled l (content_of w1 l.payload)) (with_payloads (content_of w2) below) r.nodes; resources = r.resources }) ran_after
    ∙ same_walked _ _ _ (same_node _ _ _ _ _ _ (same_label l _ _ own_kept) below_kept refl)

-- a paused node
two : (rate b : ℕ) (places : List (Option BufferPlace)) (l : Label Held) (below after : Nodes Held) (ws us : List ℕ)
    → walk_nodes rate b (with_payloads (content_of ws) after) (resources_of places ws) ≡ record { nodes = with_payloads (content_of us) after; resources = resources_of places us }
    → content_of ws l.payload ≡ content_of us l.payload
    → with_payloads (content_of ws) below ≡ with_payloads (content_of us) below
    → (let rest = walk_nodes rate b (with_payloads (content_of ws) after) (resources_of places ws) in let r : Walked = record { nodes = node (relabelled l (content_of ws l.payload)) (with_payloads (content_of ws) below) rest.nodes; resources = rest.resources } in r)
    ≡ record { nodes = with_payloads (content_of us) (node l below after); resources = resources_of places us }
two rate b places l below after ws us ran own_kept below_kept =
    ap (λ (r : Walked). record { nodes = node (relabelled l (content_of ws l.payload)) (with_payloads (content_of ws) below) r.nodes; resources = r.resources }) ran
    ∙ same_walked _ _ _ (same_node _ _ _ _ _ _ (same_label l _ _ own_kept) below_kept refl)

-- words that stay where some extents are
pub kept_on : (es fs : List Extent) (ws us : List ℕ) → IsKept fs ws us → ((x : ℕ) → 0 < overlaps x es → 10368 ≤ x) → ((x : ℕ) → overlaps x es + overlaps x fs ≤ 1) → AgreesOn es ws us
unfolding AgreesOn
kept_on es fs ws us kept from apart = λ x more. sym (kept.others x (from x more) (omega (arith, more, apart x)))

-- what is left of the conditions for a part of the nodes, after other parts ran
pub can_go_on : (rate : ℕ) (region : Extent) (t part : Nodes Held) (ws us : List ℕ) → CanWalk rate region t ws → length us ≡ length ws → AreHeld rate region part → ((x : ℕ) → overlaps x (live_held part) ≤ overlaps x (live_held t)) → CanWalk rate region part us
can_go_on rate region t part ws us can len held within = record {
  held = held;
  apart = λ x. omega (arith, can.apart x, within x);
  base = can.base;
  fits = omega (arith, can.fits, len);
  bounded = can.bounded;
}

play_on : (rate : ℕ) (region : Extent) (places : List (Option BufferPlace)) (t part : Nodes Held) (ws us : List ℕ) → CanPlay rate region places t ws → length us ≡ length ws → AreHeld rate region part → ((x : ℕ) → overlaps x (live_held part) ≤ overlaps x (live_held t)) → CanPlay rate region places part us
play_on rate region places t part ws us can len held within = record {
  can = can_go_on rate region t part ws us can.can len held within;
  each = can.each;
  apart = λ x. omega (arith, can.apart x, within x);
}

when_true : (c : Bool) (x y : Walked) → c ≡ true → (if c then x else y) ≡ x
when_true true x y e = refl
when_true false x y e = absurd cc

when_false : (c : Bool) (x y : Walked) → c ≡ false → (if c then x else y) ≡ y
when_false false x y e = refl
when_false true x y e = absurd cc

walked_running : (rate b : ℕ) (region : Extent) (places : List (Option BufferPlace)) (l : Label Held) (below after : Nodes Held) (ws w1 w2 w3 : List ℕ) → CanPlay rate region places (node l below after) ws
    → IsRun rate b l.id places l.payload ws w1 → IsWalked rate b places below w1 w2 → IsWalked rate b places after w2 w3 → l.running ≡ true → IsWalked rate b places (node l below after) ws w3
walked_running rate b region places l below after ws w1 w2 w3 can first inner last on =
    let shared = live_places places in
    let own = held_extents l.payload in
    let parts = parts_of l below after in
    let with_own : (x : ℕ) → overlaps x (own ++ shared) ≡ overlaps x own + overlaps x shared = λ x. overlaps-append x own shared in
    let with_below : (x : ℕ) → overlaps x (live_held below ++ shared) ≡ overlaps x (live_held below) + overlaps x shared = λ x. overlaps-append x (live_held below) shared in
    let with_after : (x : ℕ) → overlaps x (live_held after ++ shared) ≡ overlaps x (live_held after) + overlaps x shared = λ x. overlaps-append x (live_held after) shared in
    let with_all : (x : ℕ) → overlaps x (live_held (node l below after) ++ shared) ≡ overlaps x (live_held (node l below after)) + overlaps x shared = λ x. overlaps-append x (live_held (node l below after)) shared in
    let from_region : (x : ℕ) → 0 < overlaps x (live_held (node l below after)) → 10368 ≤ x = λ x more. omega (arith, can.can.base, held_from rate region (node l below after) x can.can.held more) in
    let own_from_buses : (x : ℕ) → 0 < overlaps x own → 10368 ≤ x = λ x more. from_region x (omega (arith, parts x, more)) in
    let below_from_buses : (x : ℕ) → 0 < overlaps x (live_held below) → 10368 ≤ x = λ x more. from_region x (omega (arith, parts x, more)) in
    let after_from_buses : (x : ℕ) → 0 < overlaps x (live_held after) → 10368 ≤ x = λ x more. from_region x (omega (arith, parts x, more)) in
    let below_1 = kept_on (live_held below) (own ++ shared) ws w1 first.kept below_from_buses (λ x. omega (arith, parts x, with_own x, can.apart x)) in
    let after_1 = kept_on (live_held after) (own ++ shared) ws w1 first.kept after_from_buses (λ x. omega (arith, parts x, with_own x, can.apart x)) in
    let after_2 = kept_on (live_held after) (live_held below ++ shared) w1 w2 inner.kept after_from_buses (λ x. omega (arith, parts x, with_below x, can.apart x)) in
    let own_2 = kept_on own (live_held below ++ shared) w1 w2 inner.kept own_from_buses (λ x. omega (arith, parts x, with_below x, can.apart x)) in
    let own_3 = kept_on own (live_held after ++ shared) w2 w3 last.kept own_from_buses (λ x. omega (arith, parts x, with_after x, can.apart x)) in
    let below_3 = kept_on (live_held below) (live_held after ++ shared) w2 w3 last.kept below_from_buses (λ x. omega (arith, parts x, with_after x, can.apart x)) in
    record {
      kept = record {
        length = last.kept.length ∙ inner.kept.length ∙ first.kept.length;
        others = λ x from free.
            last.kept.others x from (omega (arith, parts x, with_all x, with_after x, free))
            ∙ inner.kept.others x from (omega (arith, parts x, with_all x, with_below x, free))
            ∙ first.kept.others x from (omega (arith, parts x, with_all x, with_own x, free));
      };
      walked = when_true _ _ _ on ∙ three rate b places l below after ws w1 w2 w3 first.ran (same_nodes below ws w1 below_1) inner.walked (same_nodes after ws w1 after_1 ∙ same_nodes after w1 w2 after_2) last.walked
          (same_content l.payload w1 w2 own_2 ∙ same_content l.payload w2 w3 own_3) (same_nodes below w2 w3 below_3);
    }

walked_paused : (rate b : ℕ) (region : Extent) (places : List (Option BufferPlace)) (l : Label Held) (below after : Nodes Held) (ws us : List ℕ) → CanPlay rate region places (node l below after) ws
    → IsWalked rate b places after ws us → l.running ≡ false → IsWalked rate b places (node l below after) ws us
walked_paused rate b region places l below after ws us can last off =
    let shared = live_places places in
    let parts = parts_of l below after in
    let with_after : (x : ℕ) → overlaps x (live_held after ++ shared) ≡ overlaps x (live_held after) + overlaps x shared = λ x. overlaps-append x (live_held after) shared in
    let with_all : (x : ℕ) → overlaps x (live_held (node l below after) ++ shared) ≡ overlaps x (live_held (node l below after)) + overlaps x shared = λ x. overlaps-append x (live_held (node l below after)) shared in
    let from_region : (x : ℕ) → 0 < overlaps x (live_held (node l below after)) → 10368 ≤ x = λ x more. omega (arith, can.can.base, held_from rate region (node l below after) x can.can.held more) in
    let own = kept_on (held_extents l.payload) (live_held after ++ shared) ws us last.kept (λ x more. from_region x (omega (arith, parts x, more))) (λ x. omega (arith, parts x, with_after x, can.apart x)) in
    let inner = kept_on (live_held below) (live_held after ++ shared) ws us last.kept (λ x more. from_region x (omega (arith, parts x, more))) (λ x. omega (arith, parts x, with_after x, can.apart x)) in
    record {
      kept = record { length = last.kept.length; others = λ x from free. last.kept.others x from (omega (arith, parts x, with_all x, with_after x, free)) };
      walked = when_false _ _ _ off ∙ two rate b places l below after ws us last.walked (same_content l.payload ws us own) (same_nodes below ws us inner);
    }

-- the labels of the nodes that run, by the flag of the first
running_on : (l : Label Held) (below after : Nodes Held) → l.running ≡ true → running_labels (node l below after) ≡ l ∷ (running_labels below ++ running_labels after)
running_on l below after on = ap (λ (c : Bool). if c then l ∷ (running_labels below ++ running_labels after) else running_labels after) on

running_off : (l : Label Held) (below after : Nodes Held) → l.running ≡ false → running_labels (node l below after) ≡ running_labels after
running_off l below after off = ap (λ (c : Bool). if c then l ∷ (running_labels below ++ running_labels after) else running_labels after) off

pub walked : (rate b : ℕ) (region : Extent) (places : List (Option BufferPlace)) (t : Nodes Held) (ws : List ℕ) → CanPlay rate region places t ws → IsWalked rate b places t ws (walk_words rate b places (running_labels t) ws)
walked rate b region places none ws can = record { kept = record { length = refl; others = λ x from free. refl }; walked = refl }
walked rate b region places (node l below after) ws can = at (λ w c. walked rate b region places below w c) (λ w c. walked rate b region places after w c) l.running refl
  where
    part_below : (x : ℕ) → overlaps x (live_held below) ≤ overlaps x (live_held (node l below after))
    part_below x = omega (arith, parts_of l below after x)

    part_after : (x : ℕ) → overlaps x (live_held after) ≤ overlaps x (live_held (node l below after))
    part_after x = omega (arith, parts_of l below after x)

    at : ((w : List ℕ) → CanPlay rate region places below w → IsWalked rate b places below w (walk_words rate b places (running_labels below) w)) → ((w : List ℕ) → CanPlay rate region places after w → IsWalked rate b places after w (walk_words rate b places (running_labels after) w))
        → (r : Bool) → l.running ≡ r → IsWalked rate b places (node l below after) ws (walk_words rate b places (running_labels (node l below after)) ws)
    at walk_below walk_after true on =
        let w1 = held_words rate b l.id places l.payload ws in
        let w2 = walk_words rate b places (running_labels below) w1 in
        let w3 = walk_words rate b places (running_labels after) w2 in
        let first = node_run rate b l.id region places l.payload ws can.can.held.0 can.each (λ x. omega (arith, parts_of l below after x, can.apart x)) can.can.base can.can.bounded can.can.fits in
        let inner = walk_below w1 (play_on rate region places (node l below after) below ws w1 can first.kept.length can.can.held.1.0 part_below) in
        let last = walk_after w2 (play_on rate region places (node l below after) after ws w2 can (inner.kept.length ∙ first.kept.length) can.can.held.1.1 part_after) in
        let ends : walk_words rate b places (running_labels (node l below after)) ws ≡ w3 = ap (λ ls. walk_words rate b places ls ws) (running_on l below after on) ∙ walk_words-append rate b places (running_labels below) (running_labels after) w1 in
        subst (IsWalked rate b places (node l below after) ws) (sym ends) (walked_running rate b region places l below after ws w1 w2 w3 can first inner last on)
    at walk_below walk_after false off =
        let us = walk_words rate b places (running_labels after) ws in
        let last = walk_after ws (play_on rate region places (node l below after) after ws ws can refl can.can.held.1.1 part_after) in
        let ends : walk_words rate b places (running_labels (node l below after)) ws ≡ us = ap (λ ls. walk_words rate b places ls ws) (running_off l below after off) in
        subst (IsWalked rate b places (node l below after) ws) (sym ends) (walked_paused rate b region places l below after ws us can last off)

-- each of the labels has what a node holds, apart from the buffers
abbrev pub HoldEach : ℕ → Extent → List (Option BufferPlace) → List (Label Held) → Type 0
HoldEach rate region places [] = Unit {0}
HoldEach rate region places (l ∷ ls) = (IsHeld rate region l.payload × IsApart places l.payload) × HoldEach rate region places ls

both_hold : (rate : ℕ) (region : Extent) (places : List (Option BufferPlace)) (ls ms : List (Label Held)) → HoldEach rate region places ls → HoldEach rate region places ms → HoldEach rate region places (ls ++ ms)
both_hold rate region places [] ms p q = q
both_hold rate region places (l ∷ ls) ms p q = (p.0, both_hold rate region places ls ms p.1 q)

own_apart : (region : Extent) (places : List (Option BufferPlace)) (h : Held) → region.at ≡ 10368 → AreEach region places → ((x : ℕ) → overlaps x (held_extents h) + overlaps x (live_places places) ≤ 1) → IsApart places h
own_apart region places held.Group base each apart = tt
own_apart region places (held.Synth def controls state) base each apart = record { each = are_places region places base each; apart = λ x. omega (arith, apart x) }

pub running_held : (rate : ℕ) (region : Extent) (places : List (Option BufferPlace)) (t : Nodes Held) → AreHeld rate region t → region.at ≡ 10368 → AreEach region places → ((x : ℕ) → overlaps x (live_held t) + overlaps x (live_places places) ≤ 1) → HoldEach rate region places (running_labels t)
running_held rate region places none are base each apart = tt
running_held rate region places (node l below after) are base each apart = at l.running
    (running_held rate region places below are.1.0 base each (λ x. omega (arith, parts_of l below after x, apart x)))
    (running_held rate region places after are.1.1 base each (λ x. omega (arith, parts_of l below after x, apart x)))
  where
    own : IsApart places l.payload
    own = own_apart region places l.payload base each (λ x. omega (arith, parts_of l below after x, apart x))

    at : (r : Bool) → HoldEach rate region places (running_labels below) → HoldEach rate region places (running_labels after) → HoldEach rate region places (if r then l ∷ (running_labels below ++ running_labels after) else running_labels after)
    at true p q = ((are.0, own), both_hold rate region places _ _ p q)
    at false p q = q
