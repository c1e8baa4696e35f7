-- What comes of the eventful synths is what comes of all nodes that run.
use Rattle.std.proofs.Common.{◌≡◌, ◌≤◌, ◌+◌, ◌==◌, ⊎_elim, ℕ, ℤ, Bool, true, false, List, [], ◌∷◌, ◌++◌, length, Option, refl, ap, sym, subst, ◌∙◌, arith, length-append}
use Rattle.std.specs.Prelude.{if◌then◌else◌}
use Rattle.std.proofs.lemmas.Bool.{cases_Bool, eqb-true}
use Rattle.sn_mem.specs.declared.extents.Extent.{Extent}
use Rattle.sn_mem.specs.declared.buffers.BufferPlace.{BufferPlace}
use Rattle.sn_reply.specs.declared.events.Notice.{Notice}
use Rattle.sn_tree.specs.Trees.{Label}
use Rattle.sn_world.specs.declared.endings.Ending.{Ending}
use Rattle.sn_world.specs.declared.stage.Held.{Held}
use Rattle.sn_world.specs.declared.stage.Held.TheVariants as held
use Rattle.sn_world.specs.Pictures.{IsHeld}
use Rattle.sn_world.specs.SettleWords.{held_triggers, held_endings, settled_held, walk_triggers, walk_endings, settled_walk, held_room, walk_room}
use Rattle.sn_world.proofs.SettleWalks.{few_events, walk_unended}
use Rattle.sn_world.proofs.Walking.{HoldEach}
use Rattle.sn_settle.specs.Eventful.{SynthAt, held_synth, eventful_in, all_triggers, all_endings, all_settled, all_room, AreWithin}
use Rattle.sn_settle.proofs.Reading.{nothing}

-- ---- a node of which nothing may come

module _ (rate : ℕ) (l : Label Held) (ws : List ℕ) (none : held_room l.payload ≡ 0) where
  few : (b : ℕ) → length (held_triggers rate b l.id l.payload ws) + length (held_endings rate l.id l.payload ws) ≤ 0
  few b = omega (arith, none, few_events rate b (l ∷ []) ws, length-append (held_triggers rate b l.id l.payload ws) [], length-append (held_endings rate l.id l.payload ws) [])

  no_triggers : (b : ℕ) → held_triggers rate b l.id l.payload ws ≡ []
  no_triggers b = nothing (held_triggers rate b l.id l.payload ws) (omega (arith, few b))

  no_endings : held_endings rate l.id l.payload ws ≡ []
  no_endings = nothing (held_endings rate l.id l.payload ws) (omega (arith, few 0))

  nothing_settled : settled_held rate l.payload ws ≡ ws
  nothing_settled = walk_unended rate (l ∷ []) ws (ap (λ (es : List Ending). es ++ []) no_endings)

-- ---- a node of which something may come

synth_triggers_first : (rate b : ℕ) (id : ℤ) (h : Held) (ss : List SynthAt) (ws : List ℕ) → all_triggers rate b (held_synth id h ++ ss) ws ≡ held_triggers rate b id h ws ++ all_triggers rate b ss ws
synth_triggers_first rate b id held.Group ss ws = refl
synth_triggers_first rate b id (held.Synth def controls state) ss ws = refl

synth_endings_first : (rate : ℕ) (id : ℤ) (h : Held) (ss : List SynthAt) (ws : List ℕ) → all_endings rate (held_synth id h ++ ss) ws ≡ held_endings rate id h ws ++ all_endings rate ss ws
synth_endings_first rate id held.Group ss ws = refl
synth_endings_first rate id (held.Synth def controls state) ss ws = refl

synth_settled_first : (rate : ℕ) (id : ℤ) (h : Held) (ss : List SynthAt) (ws : List ℕ) → all_settled rate (held_synth id h ++ ss) ws ≡ all_settled rate ss (settled_held rate h ws)
synth_settled_first rate id held.Group ss ws = refl
synth_settled_first rate id (held.Synth def controls state) ss ws = refl

synth_room_first : (id : ℤ) (h : Held) (ss : List SynthAt) → all_room (held_synth id h ++ ss) ≡ held_room h + all_room ss
synth_room_first id held.Group ss = omega arith
synth_room_first id (held.Synth def controls state) ss = refl

synth_within : (rate : ℕ) (region : Extent) (id : ℤ) (h : Held) (ss : List SynthAt) → IsHeld rate region h → AreWithin rate region ss → AreWithin rate region (held_synth id h ++ ss)
synth_within rate region id held.Group ss is rest = rest
synth_within rate region id (held.Synth def controls state) ss is rest = (record { size = is.size; within = is.within }, rest)

-- ---- all of them

-- a node first, if something may come of it
abbrev put_first : Label Held → List SynthAt → Bool → List SynthAt
put_first l ss none = (if none then [] else held_synth l.id l.payload) ++ ss

pub triggers_are : (rate b : ℕ) (ls : List (Label Held)) (ws : List ℕ) → all_triggers rate b (eventful_in ls) ws ≡ walk_triggers rate b ls ws
triggers_are rate b [] ws = refl
triggers_are rate b (l ∷ ls) ws = ⊎_elim
    (λ (none : (held_room l.payload == 0) ≡ true).
    ap (λ c. all_triggers rate b (put_first l (eventful_in ls) c) ws) none
    ∙ triggers_are rate b ls ws
    ∙ ap (λ (es : List Notice). es ++ walk_triggers rate b ls ws) (sym (no_triggers rate l ws (eqb-true (held_room l.payload) 0 none) b)))
    (λ (some : (held_room l.payload == 0) ≡ false).
    ap (λ c. all_triggers rate b (put_first l (eventful_in ls) c) ws) some
    ∙ synth_triggers_first rate b l.id l.payload (eventful_in ls) ws
    ∙ ap (λ (es : List Notice). held_triggers rate b l.id l.payload ws ++ es) (triggers_are rate b ls ws))
    (cases_Bool (held_room l.payload == 0))

pub endings_are : (rate : ℕ) (ls : List (Label Held)) (ws : List ℕ) → all_endings rate (eventful_in ls) ws ≡ walk_endings rate ls ws
endings_are rate [] ws = refl
endings_are rate (l ∷ ls) ws = ⊎_elim
    (λ (none : (held_room l.payload == 0) ≡ true).
    ap (λ c. all_endings rate (put_first l (eventful_in ls) c) ws) none
    ∙ endings_are rate ls ws
    ∙ ap (λ (es : List Ending). es ++ walk_endings rate ls ws) (sym (no_endings rate l ws (eqb-true (held_room l.payload) 0 none))))
    (λ (some : (held_room l.payload == 0) ≡ false).
    ap (λ c. all_endings rate (put_first l (eventful_in ls) c) ws) some
    ∙ synth_endings_first rate l.id l.payload (eventful_in ls) ws
    ∙ ap (λ (es : List Ending). held_endings rate l.id l.payload ws ++ es) (endings_are rate ls ws))
    (cases_Bool (held_room l.payload == 0))

pub settled_are : (rate : ℕ) (ls : List (Label Held)) (ws : List ℕ) → all_settled rate (eventful_in ls) ws ≡ settled_walk rate ls ws
settled_are rate [] ws = refl
settled_are rate (l ∷ ls) ws = ⊎_elim
    (λ (none : (held_room l.payload == 0) ≡ true).
    ap (λ c. all_settled rate (put_first l (eventful_in ls) c) ws) none
    ∙ settled_are rate ls ws
    ∙ ap (settled_walk rate ls) (sym (nothing_settled rate l ws (eqb-true (held_room l.payload) 0 none))))
    (λ (some : (held_room l.payload == 0) ≡ false).
    ap (λ c. all_settled rate (put_first l (eventful_in ls) c) ws) some
    ∙ synth_settled_first rate l.id l.payload (eventful_in ls) ws
    ∙ settled_are rate ls (settled_held rate l.payload ws))
    (cases_Bool (held_room l.payload == 0))

pub whole_room : (ls : List (Label Held)) → all_room (eventful_in ls) ≡ walk_room ls
whole_room [] = refl
whole_room (l ∷ ls) = ⊎_elim
    (λ (none : (held_room l.payload == 0) ≡ true).
    ap (λ c. all_room (put_first l (eventful_in ls) c)) none
    ∙ omega (arith, whole_room ls, eqb-true (held_room l.payload) 0 none))
    (λ (some : (held_room l.payload == 0) ≡ false).
    ap (λ c. all_room (put_first l (eventful_in ls) c)) some
    ∙ synth_room_first l.id l.payload (eventful_in ls)
    ∙ ap (λ n. held_room l.payload + n) (whole_room ls))
    (cases_Bool (held_room l.payload == 0))

pub are_within : (rate : ℕ) (region : Extent) (places : List (Option BufferPlace)) (ls : List (Label Held)) → HoldEach rate region places ls → AreWithin rate region (eventful_in ls)
are_within rate region places [] each = tt
are_within rate region places (l ∷ ls) each =
    let rest : AreWithin rate region (eventful_in ls) = are_within rate region places ls each.1 in
    let found : Bool → Type 0 = λ (c : Bool). AreWithin rate region (put_first l (eventful_in ls) c) in
    ⊎_elim
    (λ (none : (held_room l.payload == 0) ≡ true). subst found (sym none) rest)
    (λ (some : (held_room l.payload == 0) ≡ false). subst found (sym some) (synth_within rate region l.id l.payload (eventful_in ls) each.0.0 rest))
    (cases_Bool (held_room l.payload == 0))
