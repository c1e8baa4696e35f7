-- What is settled of a world is what is settled of its words.
use Rattle.std.proofs.Common.{◌≡◌, ◌≢◌, ◌≤◌, ◌<◌, ◌+◌, ◌==◌, ◌&&◌, ◌⊎◌, inl, inr, ⊎_elim, ℕ, ℤ, Bool, true, false, List, [], ◌∷◌, ◌++◌, Option, Some, None, length, get_or, set, refl, ap, sym, ◌∙◌, arith, length-set, get_or-set_other}
use Rattle.std.specs.Prelude.{if◌then◌else◌}
use Rattle.sn_mem.specs.declared.extents.Extent.{Extent}
use Rattle.sn_mem.specs.Blocks.{window, put, sample_in}
use Rattle.sn_mem.proofs.Windows.{window_at, window_put}
use Rattle.sn_def.specs.declared.control.Control.{Control}
use Rattle.sn_def.specs.declared.unit.Unit.{Unit as UnitLine}
use Rattle.sn_def.specs.Definition.{Definition}
use Rattle.sn_def.specs.Defs.{definition_of}
use Rattle.sn_def.specs.Facts.{sends, done_action}
use Rattle.sn_def.specs.StateWords.{unit_words, units_words}
use Rattle.sn_reply.specs.declared.events.Notice.{Notice}
use Rattle.sn_reply.specs.declared.events.Notice.TheVariants as notice
use Rattle.sn_world.specs.declared.stage.Held.{Held}
use Rattle.sn_world.specs.declared.stage.Held.TheVariants as held
use Rattle.sn_world.specs.Nodes.{Content, synth, content_of}
use Rattle.sn_world.specs.Pictures.{held_extents, IsHeld}
use Rattle.sn_world.specs.Settling.{triggers_at, ending_of, after_ending, endings_at, settled_at, unit_triggers, unit_endings, settled_units, content_triggers, content_endings, settled_content}
use Rattle.sn_world.specs.SettleWords.{held_triggers, held_endings, settled_held}
use Rattle.sn_def.proofs.RowLaws.{sender_words, ender_words}
use Rattle.sn_mem.proofs.BufferWords.{outside}
use Rattle.sn_world.proofs.Walking.{IsKept}

-- ---- a unit's words among those of its synth

same_at : (ws : List ℕ) (j k : ℕ) → j ≡ k → get_or ws j 0 ≡ get_or ws k 0
same_at ws j k e = ap (λ n. get_or ws n 0) e

abbrev sent : ℕ → ℤ → Bool → ℕ → ℕ → ℕ → List Notice
sent b id s v0 v1 v2 = if s && v0 == b + 1 then notice.Tr id (sample_in v1) (sample_in v2) ∷ [] else []

same_sent : (b : ℕ) (id : ℤ) (s : Bool) (v0 v1 v2 w0 w1 w2 : ℕ) → (s ≡ true → v0 ≡ w0) → (s ≡ true → v1 ≡ w1) → (s ≡ true → v2 ≡ w2) → sent b id s v0 v1 v2 ≡ sent b id s w0 w1 w2
same_sent b id false v0 v1 v2 w0 w1 w2 e f g = refl
same_sent b id true v0 v1 v2 w0 w1 w2 e f g = ap (λ n. sent b id true n v1 v2) (e refl) ∙ ap (λ n. sent b id true w0 n v2) (f refl) ∙ ap (λ n. sent b id true w0 w1 n) (g refl)

triggers_own : (rate b : ℕ) (id : ℤ) (u : UnitLine) (ws : List ℕ) (at len p : ℕ) → p + unit_words rate u ≤ len → triggers_at b id u p (window ws at len) ≡ triggers_at b id u (at + p) ws
triggers_own rate b id u ws at len p within =
    same_sent b id (sends u.kind) _ _ _ _ _ _
    (λ is. window_at ws at len p (omega (arith, within, sender_words rate u is)))
    (λ is. window_at ws at len (p + 1) (omega (arith, within, sender_words rate u is)) ∙ same_at ws (at + (p + 1)) (at + p + 1) (omega arith))
    (λ is. window_at ws at len (p + 2) (omega (arith, within, sender_words rate u is)) ∙ same_at ws (at + (p + 2)) (at + p + 2) (omega arith))

same_ending : (id : ℤ) (o : Option ℤ) (v w : ℕ) → ((action : ℤ) → o ≡ Some action → v ≡ w) → ending_of id v o ≡ ending_of id w o
same_ending id None v w h = refl
same_ending id (Some action) v w h = ap (λ n. ending_of id n (Some action)) (h action refl)

endings_own : (rate : ℕ) (id : ℤ) (u : UnitLine) (ws : List ℕ) (at len p : ℕ) → p + unit_words rate u ≤ len → endings_at id u p (window ws at len) ≡ endings_at id u (at + p) ws
endings_own rate id u ws at len p within =
    same_ending id (done_action u.kind u.inputs) _ _ (λ action is. window_at ws at len p (omega (arith, within, ender_words rate u action is)))

same_settled : (o : Option ℤ) (ws : List ℕ) (at len p v w : ℕ) → ((action : ℤ) → o ≡ Some action → (v ≡ w) × (window (set ws (at + p) 2) at len ≡ set (window ws at len) p 2))
    → window (after_ending (at + p) ws w o) at len ≡ after_ending p (window ws at len) v o
same_settled None ws at len p v w h = refl
same_settled (Some action) ws at len p v w h =
    choose (w == 1) ∙ ap (λ (n : ℕ). if n == 1 then set (window ws at len) p 2 else window ws at len) (sym (h action refl).0)
  where
    choose : (b : Bool) → window (if b then set ws (at + p) 2 else ws) at len ≡ (if b then set (window ws at len) p 2 else window ws at len)
    choose true = (h action refl).1
    choose false = refl

set_own : (ws : List ℕ) (at len p : ℕ) → p + 1 ≤ len → at + len ≤ length ws → window (set ws (at + p) 2) at len ≡ set (window ws at len) p 2
unfolding put
set_own ws at len p inside fits = window_put ws at len p (2 ∷ []) inside fits

settled_own : (rate : ℕ) (u : UnitLine) (ws : List ℕ) (at len p : ℕ) → p + unit_words rate u ≤ len → at + len ≤ length ws → window (settled_at u (at + p) ws) at len ≡ settled_at u p (window ws at len)
settled_own rate u ws at len p within fits =
    same_settled (done_action u.kind u.inputs) ws at len p _ _ (λ action is.
    let some = ender_words rate u action is in
    (window_at ws at len p (omega (arith, within, some)), set_own ws at len p (omega (arith, within, some)) fits))

length-ending : (place : ℕ) (ws : List ℕ) (done : ℕ) (o : Option ℤ) → length (after_ending place ws done o) ≡ length ws
length-ending place ws done None = refl
length-ending place ws done (Some action) = choose (done == 1)
  where
    choose : (b : Bool) → length (if b then set ws place 2 else ws) ≡ length ws
    choose true = length-set ws place 2
    choose false = refl

other_ending : (place : ℕ) (ws : List ℕ) (done : ℕ) (o : Option ℤ) (x : ℕ) → ((action : ℤ) → o ≡ Some action → x ≢ place) → get_or (after_ending place ws done o) x 0 ≡ get_or ws x 0
other_ending place ws done None x h = refl
other_ending place ws done (Some action) x h = choose (done == 1)
  where
    choose : (b : Bool) → get_or (if b then set ws place 2 else ws) x 0 ≡ get_or ws x 0
    choose true = get_or-set_other ws place x 2 0 (let ne : x ≢ place = h action refl in omega (arith, ne))
    choose false = refl

-- ---- the units of a synth

unit_triggers_own : (rate b : ℕ) (id : ℤ) (us : List UnitLine) (ws : List ℕ) (at len p : ℕ) → p + units_words rate us ≤ len → unit_triggers rate b id us p (window ws at len) ≡ unit_triggers rate b id us (at + p) ws
unit_triggers_own rate b id [] ws at len p within = refl
unit_triggers_own rate b id (u ∷ us) ws at len p within =
    ap (λ es. es ++ unit_triggers rate b id us (p + unit_words rate u) (window ws at len)) (triggers_own rate b id u ws at len p (omega (arith, within)))
    ∙ ap (λ es. triggers_at b id u (at + p) ws ++ es)
    (unit_triggers_own rate b id us ws at len (p + unit_words rate u) (omega (arith, within)) ∙ ap (λ k. unit_triggers rate b id us k ws) (let e : at + (p + unit_words rate u) ≡ at + p + unit_words rate u = omega arith in e))

unit_endings_own : (rate : ℕ) (id : ℤ) (us : List UnitLine) (ws : List ℕ) (at len p : ℕ) → p + units_words rate us ≤ len → unit_endings rate id us p (window ws at len) ≡ unit_endings rate id us (at + p) ws
unit_endings_own rate id [] ws at len p within = refl
unit_endings_own rate id (u ∷ us) ws at len p within =
    ap (λ es. es ++ unit_endings rate id us (p + unit_words rate u) (window ws at len)) (endings_own rate id u ws at len p (omega (arith, within)))
    ∙ ap (λ es. endings_at id u (at + p) ws ++ es)
    (unit_endings_own rate id us ws at len (p + unit_words rate u) (omega (arith, within)) ∙ ap (λ k. unit_endings rate id us k ws) (let e : at + (p + unit_words rate u) ≡ at + p + unit_words rate u = omega arith in e))

length-units : (rate : ℕ) (us : List UnitLine) (p : ℕ) (ws : List ℕ) → length (settled_units rate us p ws) ≡ length ws
length-units rate [] p ws = refl
length-units rate (u ∷ us) p ws = length-units rate us (p + unit_words rate u) (settled_at u p ws) ∙ length-ending p ws (get_or ws p 0) (done_action u.kind u.inputs)

other_units : (rate : ℕ) (us : List UnitLine) (p : ℕ) (ws : List ℕ) (x : ℕ) → (x < p) ⊎ (p + units_words rate us ≤ x) → get_or (settled_units rate us p ws) x 0 ≡ get_or ws x 0
other_units rate [] p ws x out = refl
other_units rate (u ∷ us) p ws x out =
    other_units rate us (p + unit_words rate u) (settled_at u p ws) x
    (⊎_elim (λ (low : x < p). inl (omega (arith, low))) (λ (high : p + (unit_words rate u + units_words rate us) ≤ x). inr (omega (arith, high))) out)
    ∙ other_ending p ws (get_or ws p 0) (done_action u.kind u.inputs) x
    (λ action is e. ⊎_elim (λ (low : x < p). absurd (omega (arith, low, e))) (λ (high : p + (unit_words rate u + units_words rate us) ≤ x). absurd (omega (arith, high, e, ender_words rate u action is))) out)

settled_units_own : (rate : ℕ) (us : List UnitLine) (ws : List ℕ) (at len p : ℕ) → p + units_words rate us ≤ len → at + len ≤ length ws → window (settled_units rate us (at + p) ws) at len ≡ settled_units rate us p (window ws at len)
settled_units_own rate [] ws at len p within fits = refl
settled_units_own rate (u ∷ us) ws at len p within fits =
    let w1 = settled_at u (at + p) ws in
    let n = unit_words rate u in
    ap (λ k. window (settled_units rate us k w1) at len) (let e : at + p + n ≡ at + (p + n) = omega arith in e)
    ∙ settled_units_own rate us w1 at len (p + n) (omega (arith, within)) (omega (arith, fits, length-ending (at + p) ws (get_or ws (at + p) 0) (done_action u.kind u.inputs)))
    ∙ ap (settled_units rate us (p + n)) (settled_own rate u ws at len p (omega (arith, within)) fits)

-- ---- what a node holds

whole : (n : ℕ) → n + 0 ≡ n
whole n = omega arith

pub held_triggers_are : (rate b : ℕ) (region : Extent) (id : ℤ) (h : Held) (ws : List ℕ) → IsHeld rate region h → content_triggers rate b id (content_of ws h) ≡ held_triggers rate b id h ws
held_triggers_are rate b region id held.Group ws is = refl
held_triggers_are rate b region id (held.Synth def controls state) ws is =
    unit_triggers_own rate b id (definition_of def.value).units ws state.at state.len 0 (omega (arith, is.size))
    ∙ ap (λ k. unit_triggers rate b id (definition_of def.value).units k ws) (whole state.at)

pub held_endings_are : (rate : ℕ) (region : Extent) (id : ℤ) (h : Held) (ws : List ℕ) → IsHeld rate region h → content_endings rate id (content_of ws h) ≡ held_endings rate id h ws
held_endings_are rate region id held.Group ws is = refl
held_endings_are rate region id (held.Synth def controls state) ws is =
    unit_endings_own rate id (definition_of def.value).units ws state.at state.len 0 (omega (arith, is.size))
    ∙ ap (λ k. unit_endings rate id (definition_of def.value).units k ws) (whole state.at)

with_state : (d : Definition) (controls : List Control) (e : Extent) (s s' : List ℕ) → s ≡ s' → ◌≡◌ {A = Content} (synth (record { definition = d; controls = controls; state = s; extent = e })) (synth (record { definition = d; controls = controls; state = s'; extent = e }))
with_state d controls e s s' p = ap (λ (t : List ℕ). synth (record { definition = d; controls = controls; state = t; extent = e })) p

pub record IsSettledHeld (rate : ℕ) (h : Held) (ws us : List ℕ) : Type 0 where
  pub kept : IsKept (held_extents h) ws us
  pub is : settled_content rate (content_of ws h) ≡ content_of us h

pub held_settled : (rate : ℕ) (region : Extent) (h : Held) (ws : List ℕ) → IsHeld rate region h → region.at ≡ 10368 → 10368 + region.len ≤ length ws → IsSettledHeld rate h ws (settled_held rate h ws)
held_settled rate region held.Group ws is base fits = record { kept = record { length = refl; others = λ x from free. refl }; is = refl }
held_settled rate region (held.Synth def controls state) ws is base fits =
    let us = (definition_of def.value).units in
    record {
      kept = record {
        length = length-units rate us state.at ws;
        others = λ x from free. other_units rate us state.at ws x
            (⊎_elim (λ (low : x < state.at). inl low) (λ (high : state.at + state.len ≤ x). inr (omega (arith, high, is.size))) (outside state x free));
      };
      is = with_state (definition_of def.value) controls state _ _
          (sym (ap (λ k. window (settled_units rate us k ws) state.at state.len) (sym (whole state.at)) ∙ settled_units_own rate us ws state.at state.len 0 (omega (arith, is.size)) (omega (arith, base, fits, is.within.1))));
    }
