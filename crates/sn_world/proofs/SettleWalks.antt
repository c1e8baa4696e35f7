-- What is settled of all nodes, over their words.
use Rattle.std.proofs.Common.{◌≡◌, ◌≤◌, ◌<◌, ◌+◌, ◌==◌, ◌&&◌, ℕ, ℤ, Bool, true, false, List, [], ◌∷◌, ◌++◌, Option, Some, None, length, get_or, set, refl, ap, sym, subst, ◌∙◌, arith, length-append, append_assoc}
use Rattle.std.specs.Prelude.{if◌then◌else◌}
use Rattle.sn_mem.specs.declared.extents.Extent.{Extent}
use Rattle.sn_mem.specs.Blocks.{sample_in}
use Rattle.sn_def.specs.declared.unit.Unit.{Unit as UnitLine}
use Rattle.sn_def.specs.Defs.{definition_of}
use Rattle.sn_def.specs.Facts.{sends, done_action}
use Rattle.sn_def.specs.StateWords.{unit_words}
use Rattle.sn_reply.specs.declared.events.Notice.{Notice}
use Rattle.sn_reply.specs.declared.events.Notice.TheVariants as notice
use Rattle.sn_tree.specs.Trees.{Label, Nodes, none, node, running_labels, with_payloads}
use Rattle.sn_world.specs.declared.stage.Held.{Held}
use Rattle.sn_world.specs.declared.stage.Held.TheVariants as held
use Rattle.sn_world.specs.Nodes.{Content, content_of}
use Rattle.sn_mem.specs.Buffers.{overlaps}
use Rattle.sn_world.specs.Pictures.{held_extents, live_held, AreHeld}
use Rattle.sn_world.specs.declared.endings.Ending.{Ending}
use Rattle.sn_world.specs.Settling.{triggers_at, ending_of, after_ending, endings_at, unit_triggers, unit_endings, settled_units, content_triggers, content_endings, settled_content, triggers_in, endings_in, settled_nodes}
use Rattle.sn_world.specs.SettleWords.{held_triggers, held_endings, settled_held, walk_triggers, walk_endings, settled_walk, one_if_some, unit_room, units_room, held_room, walk_room}
use Rattle.sn_world.proofs.Walking.{IsKept, CanWalk, same_content, same_label, same_node, same_nodes, kept_on, can_go_on, parts_of, held_from}
use Rattle.sn_world.proofs.SettleLaws.{held_triggers_are, held_endings_are, IsSettledHeld, held_settled}

-- ---- lists of labels

walk_triggers-append : (rate b : ℕ) (ls ms : List (Label Held)) (ws : List ℕ) → walk_triggers rate b (ls ++ ms) ws ≡ walk_triggers rate b ls ws ++ walk_triggers rate b ms ws
walk_triggers-append rate b [] ms ws = refl
walk_triggers-append rate b (l ∷ ls) ms ws =
    ap (λ es. held_triggers rate b l.id l.payload ws ++ es) (walk_triggers-append rate b ls ms ws)
    ∙ sym (append_assoc (held_triggers rate b l.id l.payload ws) (walk_triggers rate b ls ws) (walk_triggers rate b ms ws))

walk_endings-append : (rate : ℕ) (ls ms : List (Label Held)) (ws : List ℕ) → walk_endings rate (ls ++ ms) ws ≡ walk_endings rate ls ws ++ walk_endings rate ms ws
walk_endings-append rate [] ms ws = refl
walk_endings-append rate (l ∷ ls) ms ws =
    ap (λ es. held_endings rate l.id l.payload ws ++ es) (walk_endings-append rate ls ms ws)
    ∙ sym (append_assoc (held_endings rate l.id l.payload ws) (walk_endings rate ls ws) (walk_endings rate ms ws))

settled_walk-append : (rate : ℕ) (ls ms : List (Label Held)) (ws : List ℕ) → settled_walk rate (ls ++ ms) ws ≡ settled_walk rate ms (settled_walk rate ls ws)
settled_walk-append rate [] ms ws = refl
settled_walk-append rate (l ∷ ls) ms ws = settled_walk-append rate ls ms (settled_held rate l.payload ws)

-- ---- triggers and endings of all nodes

pub triggers_are : (rate b : ℕ) (region : Extent) (t : Nodes Held) (ws : List ℕ) → AreHeld rate region t → triggers_in rate b (with_payloads (content_of ws) t) ≡ walk_triggers rate b (running_labels t) ws
triggers_are rate b region none ws are = refl
triggers_are rate b region (node l below after) ws are = at l.running (triggers_are rate b region below ws are.1.0) (triggers_are rate b region after ws are.1.1)
  where
    own : List Notice
    own = content_triggers rate b l.id (content_of ws l.payload)

    at : (r : Bool) → triggers_in rate b (with_payloads (content_of ws) below) ≡ walk_triggers rate b (running_labels below) ws → triggers_in rate b (with_payloads (content_of ws) after) ≡ walk_triggers rate b (running_labels after) ws
        → (if r then own ++ (triggers_in rate b (with_payloads (content_of ws) below) ++ triggers_in rate b (with_payloads (content_of ws) after)) else triggers_in rate b (with_payloads (content_of ws) after))
        ≡ walk_triggers rate b (if r then l ∷ (running_labels below ++ running_labels after) else running_labels after) ws
    at false p q = q
    at true p q =
        ap (λ es. es ++ (triggers_in rate b (with_payloads (content_of ws) below) ++ triggers_in rate b (with_payloads (content_of ws) after))) (held_triggers_are rate b region l.id l.payload ws are.0)
        ∙ ap (λ es. held_triggers rate b l.id l.payload ws ++ (es ++ triggers_in rate b (with_payloads (content_of ws) after))) p
        ∙ ap (λ es. held_triggers rate b l.id l.payload ws ++ (walk_triggers rate b (running_labels below) ws ++ es)) q
        ∙ ap (λ es. held_triggers rate b l.id l.payload ws ++ es) (sym (walk_triggers-append rate b (running_labels below) (running_labels after) ws))

pub endings_are : (rate : ℕ) (region : Extent) (t : Nodes Held) (ws : List ℕ) → AreHeld rate region t → endings_in rate (with_payloads (content_of ws) t) ≡ walk_endings rate (running_labels t) ws
endings_are rate region none ws are = refl
endings_are rate region (node l below after) ws are = at l.running (endings_are rate region below ws are.1.0) (endings_are rate region after ws are.1.1)
  where
    own : List Ending
    own = content_endings rate l.id (content_of ws l.payload)

    at : (r : Bool) → endings_in rate (with_payloads (content_of ws) below) ≡ walk_endings rate (running_labels below) ws → endings_in rate (with_payloads (content_of ws) after) ≡ walk_endings rate (running_labels after) ws
        → (if r then own ++ (endings_in rate (with_payloads (content_of ws) below) ++ endings_in rate (with_payloads (content_of ws) after)) else endings_in rate (with_payloads (content_of ws) after))
        ≡ walk_endings rate (if r then l ∷ (running_labels below ++ running_labels after) else running_labels after) ws
    at false p q = q
    at true p q =
        ap (λ es. es ++ (endings_in rate (with_payloads (content_of ws) below) ++ endings_in rate (with_payloads (content_of ws) after))) (held_endings_are rate region l.id l.payload ws are.0)
        ∙ ap (λ es. held_endings rate l.id l.payload ws ++ (es ++ endings_in rate (with_payloads (content_of ws) after))) p
        ∙ ap (λ es. held_endings rate l.id l.payload ws ++ (walk_endings rate (running_labels below) ws ++ es)) q
        ∙ ap (λ es. held_endings rate l.id l.payload ws ++ es) (sym (walk_endings-append rate (running_labels below) (running_labels after) ws))

-- ---- done words of all nodes

pub record IsSettled (rate : ℕ) (t : Nodes Held) (ws us : List ℕ) : Type 0 where
  pub kept : IsKept (live_held t) ws us
  pub is : settled_nodes rate (with_payloads (content_of ws) t) ≡ with_payloads (content_of us) t

abbrev relabelled : Label Held → Content → Label Content
relabelled l c = record { id = l.id; kind = l.kind; running = l.running; payload = c }

settled_running : (rate : ℕ) (region : Extent) (l : Label Held) (below after : Nodes Held) (ws w1 w2 w3 : List ℕ) → CanWalk rate region (node l below after) ws
    → IsSettledHeld rate l.payload ws w1 → IsSettled rate below w1 w2 → IsSettled rate after w2 w3
    → IsKept (live_held (node l below after)) ws w3 × (node (relabelled l (settled_content rate (content_of ws l.payload))) (settled_nodes rate (with_payloads (content_of ws) below)) (settled_nodes rate (with_payloads (content_of ws) after)) ≡ with_payloads (content_of w3) (node l below after))
settled_running rate region l below after ws w1 w2 w3 can first inner last =
    let parts = parts_of l below after in
    let from_region : (x : ℕ) → 0 < overlaps x (live_held (node l below after)) → 10368 ≤ x = λ x more. omega (arith, can.base, held_from rate region (node l below after) x can.held more) in
    let own_from : (x : ℕ) → 0 < overlaps x (held_extents l.payload) → 10368 ≤ x = λ x more. from_region x (omega (arith, parts x, more)) in
    let below_from : (x : ℕ) → 0 < overlaps x (live_held below) → 10368 ≤ x = λ x more. from_region x (omega (arith, parts x, more)) in
    let after_from : (x : ℕ) → 0 < overlaps x (live_held after) → 10368 ≤ x = λ x more. from_region x (omega (arith, parts x, more)) in
    let below_1 = kept_on (live_held below) (held_extents l.payload) ws w1 first.kept below_from (λ x. omega (arith, parts x, can.apart x)) in
    let after_1 = kept_on (live_held after) (held_extents l.payload) ws w1 first.kept after_from (λ x. omega (arith, parts x, can.apart x)) in
    let after_2 = kept_on (live_held after) (live_held below) w1 w2 inner.kept after_from (λ x. omega (arith, parts x, can.apart x)) in
    let own_2 = kept_on (held_extents l.payload) (live_held below) w1 w2 inner.kept own_from (λ x. omega (arith, parts x, can.apart x)) in
    let own_3 = kept_on (held_extents l.payload) (live_held after) w2 w3 last.kept own_from (λ x. omega (arith, parts x, can.apart x)) in
    let below_3 = kept_on (live_held below) (live_held after) w2 w3 last.kept below_from (λ x. omega (arith, parts x, can.apart x)) in (
      record {
        length = last.kept.length ∙ inner.kept.length ∙ first.kept.length;
        others = λ x from free.
            last.kept.others x from (omega (arith, parts x, free))
            ∙ inner.kept.others x from (omega (arith, parts x, free))
            ∙ first.kept.others x from (omega (arith, parts x, free));
      },
      same_node _ _ _ _ _ _
          (same_label l _ _ (first.is ∙ same_content l.payload w1 w2 own_2 ∙ same_content l.payload w2 w3 own_3))
          (ap (settled_nodes rate) (same_nodes below ws w1 below_1) ∙ inner.is ∙ same_nodes below w2 w3 below_3)
          (ap (settled_nodes rate) (same_nodes after ws w1 after_1 ∙ same_nodes after w1 w2 after_2) ∙ last.is),
    )

settled_paused : (rate : ℕ) (region : Extent) (l : Label Held) (below after : Nodes Held) (ws us : List ℕ) → CanWalk rate region (node l below after) ws → IsSettled rate after ws us
    → IsKept (live_held (node l below after)) ws us × (node (relabelled l (content_of ws l.payload)) (with_payloads (content_of ws) below) (settled_nodes rate (with_payloads (content_of ws) after)) ≡ with_payloads (content_of us) (node l below after))
settled_paused rate region l below after ws us can last =
    let parts = parts_of l below after in
    let from_region : (x : ℕ) → 0 < overlaps x (live_held (node l below after)) → 10368 ≤ x = λ x more. omega (arith, can.base, held_from rate region (node l below after) x can.held more) in
    let own = kept_on (held_extents l.payload) (live_held after) ws us last.kept (λ x more. from_region x (omega (arith, parts x, more))) (λ x. omega (arith, parts x, can.apart x)) in
    let inner = kept_on (live_held below) (live_held after) ws us last.kept (λ x more. from_region x (omega (arith, parts x, more))) (λ x. omega (arith, parts x, can.apart x)) in (
      record { length = last.kept.length; others = λ x from free. last.kept.others x from (omega (arith, parts x, free)) },
      same_node _ _ _ _ _ _ (same_label l _ _ (same_content l.payload ws us own)) (same_nodes below ws us inner) last.is,
    )

-- of a node with what is below and after it, by its run flag
abbrev SettledBy : ℕ → Label Held → Nodes Held → Nodes Held → List ℕ → Bool → List ℕ → Type 0
SettledBy rate l below after ws r us =
    IsKept (live_held (node l below after)) ws us
    × ((if r then node (relabelled l (settled_content rate (content_of ws l.payload))) (settled_nodes rate (with_payloads (content_of ws) below)) (settled_nodes rate (with_payloads (content_of ws) after))
    else node (relabelled l (content_of ws l.payload)) (with_payloads (content_of ws) below) (settled_nodes rate (with_payloads (content_of ws) after)))
    ≡ with_payloads (content_of us) (node l below after))

pub settled_are : (rate : ℕ) (region : Extent) (t : Nodes Held) (ws : List ℕ) → CanWalk rate region t ws → IsSettled rate t ws (settled_walk rate (running_labels t) ws)
settled_are rate region none ws can = record { kept = record { length = refl; others = λ x from free. refl }; is = refl }
settled_are rate region (node l below after) ws can =
    let g = at (λ w c. settled_are rate region below w c) (λ w c. settled_are rate region after w c) l.running in
    record { kept = g.0; is = g.1 }
  where
    part_below : (x : ℕ) → overlaps x (live_held below) ≤ overlaps x (live_held (node l below after))
    part_below x = omega (arith, parts_of l below after x)

    part_after : (x : ℕ) → overlaps x (live_held after) ≤ overlaps x (live_held (node l below after))
    part_after x = omega (arith, parts_of l below after x)

    at : ((w : List ℕ) → CanWalk rate region below w → IsSettled rate below w (settled_walk rate (running_labels below) w)) → ((w : List ℕ) → CanWalk rate region after w → IsSettled rate after w (settled_walk rate (running_labels after) w))
        → (r : Bool) → SettledBy rate l below after ws r (settled_walk rate (if r then l ∷ (running_labels below ++ running_labels after) else running_labels after) ws)
    at of_below of_after true =
        let w1 = settled_held rate l.payload ws in
        let w2 = settled_walk rate (running_labels below) w1 in
        let w3 = settled_walk rate (running_labels after) w2 in
        let first = held_settled rate region l.payload ws can.held.0 can.base can.fits in
        let inner = of_below w1 (can_go_on rate region (node l below after) below ws w1 can first.kept.length can.held.1.0 part_below) in
        let last = of_after w2 (can_go_on rate region (node l below after) after ws w2 can (inner.kept.length ∙ first.kept.length) can.held.1.1 part_after) in
        subst (SettledBy rate l below after ws true) (sym (settled_walk-append rate (running_labels below) (running_labels after) w1)) (settled_running rate region l below after ws w1 w2 w3 can first inner last)
    at of_below of_after false =
        let us = settled_walk rate (running_labels after) ws in
        settled_paused rate region l below after ws us can (of_after ws (can_go_on rate region (node l below after) after ws ws can refl can.held.1.1 part_after))

-- ---- nothing ended

unended : (o : Option ℤ) (id : ℤ) (place : ℕ) (ws : List ℕ) (done : ℕ) → ending_of id done o ≡ [] → after_ending place ws done o ≡ ws
unended None id place ws done nil = refl
unended (Some action) id place ws done nil = choose (done == 1) nil
  where
    one : Ending
    one = record { node = id; action = action }

    choose : (b : Bool) → ◌≡◌ {A = List Ending} (if b then one ∷ [] else []) [] → (if b then set ws place 2 else ws) ≡ ws
    choose true nil = absurd cc
    choose false nil = refl

nothing_left : {A : Type 0} (xs ys : List A) → xs ++ ys ≡ [] → (xs ≡ []) × (ys ≡ [])
nothing_left [] ys nil = (refl, nil)
nothing_left (x ∷ xs) ys nil = absurd cc

units_unended : (rate : ℕ) (id : ℤ) (us : List UnitLine) (place : ℕ) (ws : List ℕ) → unit_endings rate id us place ws ≡ [] → settled_units rate us place ws ≡ ws
units_unended rate id [] place ws nil = refl
units_unended rate id (u ∷ us) place ws nil =
    let parts = nothing_left (endings_at id u place ws) (unit_endings rate id us (place + unit_words rate u) ws) nil in
    ap (settled_units rate us (place + unit_words rate u)) (unended (done_action u.kind u.inputs) id place ws (get_or ws place 0) parts.0) ∙ units_unended rate id us (place + unit_words rate u) ws parts.1

held_unended : (rate : ℕ) (id : ℤ) (h : Held) (ws : List ℕ) → held_endings rate id h ws ≡ [] → settled_held rate h ws ≡ ws
held_unended rate id held.Group ws nil = refl
held_unended rate id (held.Synth def controls state) ws nil = units_unended rate id (definition_of def.value).units state.at ws nil

-- if nothing ended, the words stay
pub walk_unended : (rate : ℕ) (ls : List (Label Held)) (ws : List ℕ) → walk_endings rate ls ws ≡ [] → settled_walk rate ls ws ≡ ws
walk_unended rate [] ws nil = refl
walk_unended rate (l ∷ ls) ws nil =
    let parts = nothing_left (held_endings rate l.id l.payload ws) (walk_endings rate ls ws) nil in
    ap (settled_walk rate ls) (held_unended rate l.id l.payload ws parts.0) ∙ walk_unended rate ls ws parts.1

-- ---- how many events there are at most

few_at : (rate b : ℕ) (id : ℤ) (u : UnitLine) (place : ℕ) (ws : List ℕ) → length (triggers_at b id u place ws) + length (endings_at id u place ws) ≤ unit_room u
few_at rate b id u place ws = omega (arith, sent_few (sends u.kind) (get_or ws place 0 == b + 1), ended_few (done_action u.kind u.inputs))
  where
    sent_few : (s c : Bool) → length (if s && c then notice.Tr id (sample_in (get_or ws (place + 1) 0)) (sample_in (get_or ws (place + 2) 0)) ∷ [] else []) ≤ (if s then 1 else 0)
    sent_few false c = omega arith
    sent_few true true = omega arith
    sent_few true false = omega arith

    ended_few : (o : Option ℤ) → length (ending_of id (get_or ws place 0) o) ≤ one_if_some o
    ended_few None = omega arith
    ended_few (Some action) = choose (get_or ws place 0 == 1)
      where
        one : Ending
        one = record { node = id; action = action }

        choose : (c : Bool) → length {A = Ending} (if c then one ∷ [] else []) ≤ 1
        choose true = omega arith
        choose false = omega arith

pub few_events : (rate b : ℕ) (ls : List (Label Held)) (ws : List ℕ) → length (walk_triggers rate b ls ws) + length (walk_endings rate ls ws) ≤ walk_room ls
few_events rate b [] ws = omega arith
few_events rate b (l ∷ ls) ws =
    omega (arith, length-append (held_triggers rate b l.id l.payload ws) (walk_triggers rate b ls ws), length-append (held_endings rate l.id l.payload ws) (walk_endings rate ls ws), few_held l.payload, few_events rate b ls ws)
  where
    few_units : (us : List UnitLine) (place : ℕ) → length (unit_triggers rate b l.id us place ws) + length (unit_endings rate l.id us place ws) ≤ units_room us
    few_units [] place = omega arith
    few_units (u ∷ us) place =
        omega (arith, length-append (triggers_at b l.id u place ws) (unit_triggers rate b l.id us (place + unit_words rate u) ws), length-append (endings_at l.id u place ws) (unit_endings rate l.id us (place + unit_words rate u) ws), few_at rate b l.id u place ws, few_units us (place + unit_words rate u))

    few_held : (h : Held) → length (held_triggers rate b l.id h ws) + length (held_endings rate l.id h ws) ≤ held_room h
    few_held held.Group = omega arith
    few_held (held.Synth def controls state) = few_units (definition_of def.value).units state.at
