-- A step is followed by an open journal, and steps are undone one by one.
use Rattle.std.proofs.Common.{◌≡◌, ℕ, ◌-◌, ◌≤◌, Bool, List, [], ◌∷◌, ◌++◌, reverse, Option, Some, None, sym, refl, ap, ◌∙◌, subst}
use Rattle.std.proofs.lemmas.List.{reverse-append}
use Rattle.sn_forest.specs.Trees.{Trees, none, tree, uses, without, below_of, value_of}
use Rattle.sn_forest.specs.Places.{put, shifted, place_of, IsPlaceIn}
use Rattle.sn_forest.specs.declared.place.Place.{Place}
use Rattle.sn_forest.proofs.Paths.{top, Found, found}
use Rattle.sn_forest.proofs.Passing.{value_found}
use Rattle.sn_forest.proofs.Holes.{alone_on}
use Rattle.sn_tree.specs.Saving.{SavedNodes, spent, noted}
use Rattle.sn_tree.specs.declared.item.Item.{Item}
use Rattle.sn_tree.specs.declared.undo.Undo.{Undo}
use Rattle.sn_tree.specs.declared.undo.Undo.TheVariants.{Inserted, Moved, Ran}
use Rattle.sn_tree.specs.Keyed.{sides, flagged}
use Rattle.sn_tree.specs.Stored.{IsSound}
use Rattle.sn_tree.specs.Undoing.{IsInner, CanUndo, undone, restored, IsUndoable}
use Rattle.sn_tree.specs.Journals.{Steps, followed, noted_new}
use Rattle.sn_tree.specs.Ordered.{saved_by, AreFew, IsReady}
use Rattle.sn_tree.proofs.UndoLaws.{Undoes, undo_insert, undo_move, undo_run, one_more}

-- what a journal restores stays, and has room for one step fewer
pub step_shows : (step : Undo) (before now : Trees Item) (journal : Option Steps) → Undoes step before now → IsReady before journal
    → IsReady now (followed step journal) × (saved_by now (followed step journal) ≡ spent 1 (saved_by before journal))
step_shows step before now None u h = (tt, refl)
step_shows step before now (Some journal) u h =
    let more : IsUndoable (step ∷ journal.steps) now × (restored (step ∷ journal.steps) now ≡ restored journal.steps before) = one_more step journal.steps before now u h.0 in
    ((more.0, subst AreFew (sym more.1) h.1), ap (λ t. let s : Option SavedNodes = Some (record { nodes = sides t; room = journal.room - 1; made = journal.made }) in s) more.1)

-- the same if a payload is put in under a key
pub new_shows : (step : Undo) (key : ℕ) (before now : Trees Item) (journal : Option Steps) → Undoes step before now → IsReady before journal
    → IsReady now (noted_new step key journal) × (saved_by now (noted_new step key journal) ≡ noted key (saved_by before journal))
new_shows step key before now None u h = (tt, refl)
new_shows step key before now (Some journal) u h =
    let more : IsUndoable (step ∷ journal.steps) now × (restored (step ∷ journal.steps) now ≡ restored journal.steps before) = one_more step journal.steps before now u h.0 in
    ((more.0, subst AreFew (sym more.1) h.1), ap (λ t. let s : Option SavedNodes = Some (record { nodes = sides t; room = journal.room; made = key ∷ journal.made }) in s) more.1)

-- some steps are left to undo
pub record IsUndoing (all : List Undo) (start : Trees Item) (rest : List Undo) (now : Trees Item) : Type 0 where
  pub can : IsUndoable rest now
  pub same : restored rest now ≡ restored all start

pub undoing_start : (all : List Undo) (start : Trees Item) → IsUndoable all start → IsUndoing all start all start
undoing_start all start h = record { can = h; same = refl }

last_first : (xs ys : List Undo) (step : Undo) → xs ≡ ys ++ step ∷ [] → reverse xs ≡ step ∷ reverse ys
last_first xs ys step e = ap reverse e ∙ reverse-append ys (step ∷ [])

pub undoing_can : (all : List Undo) (start now : Trees Item) (rest after : List Undo) (step : Undo) → IsUndoing all start (reverse rest) now → rest ≡ after ++ step ∷ [] → CanUndo step now
undoing_can all start now rest after step h e = (subst (λ l. IsUndoable l now) (last_first rest after step e) h.can).0

pub undoing_next : (all : List Undo) (start now : Trees Item) (rest after : List Undo) (step : Undo) → IsUndoing all start (reverse rest) now → rest ≡ after ++ step ∷ [] → IsUndoing all start (reverse after) (undone step now)
undoing_next all start now rest after step h e = record {
  can = (subst (λ l. IsUndoable l now) (last_first rest after step e) h.can).1;
  same = sym (ap (λ l. restored l now) (last_first rest after step e)) ∙ h.same;
}

pub undoing_end : (all : List Undo) (start now : Trees Item) (rest : List Undo) → IsUndoing all start (reverse rest) now → rest ≡ [] → now ≡ restored all start
undoing_end all start now rest h e = sym (ap (λ l. restored (reverse l) now) e) ∙ h.same

-- what a followed step leaves ready, and what is kept then
pub record Followed (before now : Trees Item) (journal new : Option Steps) : Type 0 where
  pub ready : IsReady now new
  pub kept : saved_by now new ≡ spent 1 (saved_by before journal)

followed_by : (step : Undo) (before now : Trees Item) (journal new : Option Steps) → Undoes step before now → IsReady before journal → new ≡ followed step journal → Followed before now journal new
followed_by step before now journal new u h e =
    let shows : IsReady now (followed step journal) × (saved_by now (followed step journal) ≡ spent 1 (saved_by before journal)) = step_shows step before now journal u h in
    record { ready = subst (IsReady now) (sym e) shows.0; kept = ap (saved_by now) e ∙ shows.1 }

pub shift_followed : (before now : Trees Item) (key : ℕ) (place stood : Place) (journal new : Option Steps) → ((j : ℕ) → uses j before ≤ 1) → IsSound before → IsInner key before → IsPlaceIn (without key before) place → IsReady before journal
    → stood ≡ place_of key before → new ≡ followed (Moved key stood) journal → now ≡ shifted key place before → Followed before now journal new
shift_followed before now key place stood journal new once sound i w h e f g =
    subst (λ t. Followed before t journal new) (sym g)
    (followed_by (Moved key (place_of key before)) before (shifted key place before) journal new (undo_move before key place once i.used i.inner w sound) h
    (f ∙ ap (λ p. followed (Moved key p) journal) e))

pub run_followed : (before now : Trees Item) (key : ℕ) (on was : Bool) (journal new : Option Steps) → ((j : ℕ) → uses j before ≤ 1) → 1 ≤ uses key before → IsReady before journal
    → ((item : Item) → value_of key before ≡ Some item → was ≡ item.running) → new ≡ followed (Ran key was) journal → now ≡ flagged key on before → Followed before now journal new
run_followed before now key on was journal new once u h told f g =
    let x : Found key before = found key top before u in
    let held : value_of key before ≡ Some x.value = ap (value_of key) x.is ∙ value_found x.path key x.value x.below x.after (alone_on before key x once) in
    subst (λ t. Followed before t journal new) (sym g)
    (followed_by (Ran key x.value.running) before (flagged key on before) journal new (undo_run before key on x.value once u (sym held)) h
    (f ∙ ap (λ b. followed (Ran key b) journal) (told x.value held)))

-- the same of a new node
pub record FollowedNew (before now : Trees Item) (journal new : Option Steps) (key : ℕ) : Type 0 where
  pub ready : IsReady now new
  pub kept : saved_by now new ≡ noted key (saved_by before journal)

pub insert_followed : (before now : Trees Item) (node : ℕ) (place : Place) (item : Item) (key : ℕ) (journal new : Option Steps) → ((j : ℕ) → uses j before ≤ 1) → uses node before ≡ 0 → IsPlaceIn before place → IsReady before journal
    → now ≡ put place (tree node item none none) before → new ≡ noted_new (Inserted node) key journal → FollowedNew before now journal new key
insert_followed before now node place item key journal new once fresh w h g e =
    let shows : IsReady (put place (tree node item none none) before) (noted_new (Inserted node) key journal) × (saved_by (put place (tree node item none none) before) (noted_new (Inserted node) key journal) ≡ noted key (saved_by before journal)) =
    new_shows (Inserted node) key before (put place (tree node item none none) before) journal (undo_insert before node place item once fresh w) h in
    subst (λ t. FollowedNew before t journal new key) (sym g)
    (record { ready = subst (IsReady (put place (tree node item none none) before)) (sym e) shows.0; kept = ap (saved_by (put place (tree node item none none) before)) e ∙ shows.1 })

-- a new node that finds no room in the journal is removed again
pub insert_undone : (before now : Trees Item) (node : ℕ) (place : Place) (item : Item) → ((j : ℕ) → uses j before ≤ 1) → uses node before ≡ 0 → IsPlaceIn before place → now ≡ put place (tree node item none none) before
    → IsInner node now × (below_of node now ≡ none) × (without node now ≡ before)
insert_undone before now node place item once fresh w g =
    let u : Undoes (Inserted node) before (put place (tree node item none none) before) = undo_insert before node place item once fresh w in
    subst (λ t. IsInner node t × (below_of node t ≡ none) × (without node t ≡ before)) (sym g) (u.can.0, u.can.1, u.back)
