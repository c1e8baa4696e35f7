-- What a pool stands for, and keeps, after words are taken or given back.
use Rattle.std.proofs.Common.{◌≡◌, ◌+◌, ◌-◌, ◌<◌, ◌≤◌, ◌++◌, List, [], ◌∷◌, length, Option, Some, None, refl, sym, ap, ◌∙◌, subst, arith}
use Rattle.std.specs.Prelude.{IfSome, vec_capacity}
use Rattle.std.proofs.lemmas.List.{length-append}
use Rattle.std.proofs.lemmas.Option.{IfSome_then}
use Rattle.sn_mem.specs.declared.extents.Extent.{Extent}
use Rattle.sn_pool.specs.declared.changes.Change.{Change}
use Rattle.sn_pool.specs.declared.changes.Change.TheVariants.{Taken, Given}
use Rattle.sn_pool.specs.declared.pool.OpenJournal.{OpenJournal}
use Rattle.sn_pool.specs.declared.pool.Pool.TheInside.{Inside}
use Rattle.sn_pool.specs.Pools.{Journal, PoolState, AreLaidOut, HasRoom, one_given, times, with_extent, without_extent}
use Rattle.sn_pool.specs.Regions.{IsFree}
use Rattle.sn_pool.specs.Changes.{AreUndoable, undone}
use Rattle.sn_pool.specs.Represents.{IsJournal, IsSound, journal_of, spent}
use Rattle.sn_pool.proofs.Counts.{times_inside}
use Rattle.sn_pool.proofs.Undoing.{given_back, given_free, is_taken, taken_back, undoable_more, undone_last}

pub empty_list : (cs : List Change) → length cs ≡ 0 → cs ≡ []
empty_list [] h = refl
empty_list (c ∷ cs) h = absurd (omega (arith, h))

both_some : {X : Type 0} (o : Option X) (P Q : X → Type 0) → IfSome o P → IfSome o Q → IfSome o (λ x. P x × Q x)
both_some None P Q p q = tt
both_some (Some x) P Q p q = (p, q)

-- The saved extents are the same if the noted changes lead back to the same ones.
same_journal : (j : Option OpenJournal) (one other : List Extent) → IfSome j (λ _. one ≡ other) → journal_of j one ≡ journal_of j other
same_journal None one other h = refl
same_journal (Some x) one other h = ap (journal_of (Some x)) h

spent_is : (j : Option OpenJournal) (saved : List Extent) → journal_of (spent j) saved ≡ one_given (journal_of j saved)
spent_is None saved = refl
spent_is (Some x) saved = refl

spent_some : (j : Option OpenJournal) (P : OpenJournal → Type 0) → IfSome j (λ x. P (record x { room = x.room - 1 })) → IfSome (spent j) P
spent_some None P h = tt
spent_some (Some x) P h = h

pub room_left : (j : Option OpenJournal) (saved : List Extent) → HasRoom (journal_of j saved) → IfSome j (λ x. 0 < x.room)
room_left None saved h = tt
room_left (Some x) saved h = h

module _ (words : Extent) (live now : List Extent) (e : Extent) (j : Option OpenJournal) (old new : List Change) (laid : AreLaidOut words.at (words.at + words.len) live) where
  abbrev pub state : List Extent → Option Journal → PoolState
  state l journal = record { region = words; live = l; journal = journal }

  pub taken_shown : 1 ≤ e.len → IsFree words live e.len e.at → now ≡ with_extent e live → IfSome j (λ _. new ≡ old ++ Taken e ∷ []) → state now (journal_of j (undone new now)) ≡ state (with_extent e live) (journal_of j (undone old live))
  taken_shown one free is noted =
      let saved = same_journal j (undone new now) (undone old live) (IfSome_then j noted (λ x (note : new ≡ old ++ Taken e ∷ []).
      ap (λ l. undone new l) is ∙ ap (λ cs. undone cs (with_extent e live)) note ∙ undone_last (Taken e) old (with_extent e live) ∙ ap (undone old) (taken_back words live e laid one free))) in
      ap (λ l. state l (journal_of j (undone new now))) is ∙ ap (state (with_extent e live)) saved

  pub given_shown : 0 < times e live → now ≡ without_extent e live → IfSome j (λ _. new ≡ old ++ Given e ∷ []) → state now (journal_of (spent j) (undone new now)) ≡ state (without_extent e live) (one_given (journal_of j (undone old live)))
  given_shown some is noted =
      let saved = same_journal j (undone new now) (undone old live) (IfSome_then j noted (λ x (note : new ≡ old ++ Given e ∷ []).
      ap (λ l. undone new l) is ∙ ap (λ cs. undone cs (without_extent e live)) note ∙ undone_last (Given e) old (without_extent e live) ∙ ap (undone old) (given_back words live e laid some))) in
      ap (λ l. state l (journal_of (spent j) (undone new now))) is ∙ ap (state (without_extent e live)) (spent_is j (undone new now) ∙ ap one_given saved)

  pub taken_undoable : 1 ≤ e.len → IsFree words live e.len e.at → now ≡ with_extent e live → new ≡ old ++ Taken e ∷ [] → AreUndoable words old live → AreUndoable words new now
  taken_undoable one free is note may =
      let back = subst (AreUndoable words old) (sym (taken_back words live e laid one free)) may in
      subst (λ cs. AreUndoable words cs now) (sym note) (subst (AreUndoable words (old ++ Taken e ∷ [])) (sym is) (undoable_more words (Taken e) old (with_extent e live) (is_taken words live e laid) back))

  pub given_undoable : 0 < times e live → now ≡ without_extent e live → new ≡ old ++ Given e ∷ [] → AreUndoable words old live → AreUndoable words new now
  given_undoable some is note may =
      let back = subst (AreUndoable words old) (sym (given_back words live e laid some)) may in
      let size = (times_inside words live e laid some).1 in
      subst (λ cs. AreUndoable words cs now) (sym note) (subst (AreUndoable words (old ++ Given e ∷ [])) (sym is) (undoable_more words (Given e) old (without_extent e live) (size, given_free words live e laid some) back))

-- A pool after a take, from what its region and its changes were.
pub taken_sound : (p : Inside) (live : List Extent) (old : List Change) (e : Extent) → AreLaidOut p.region.words.at (p.region.words.at + p.region.words.len) live → 1 ≤ e.len → IsFree p.region.words live e.len e.at → p.region.live ≡ with_extent e live → length p.region.live ≡ length live + 1 → length live + length old + 2 ≤ p.region.room → IfSome p.journal (λ _. AreUndoable p.region.words old live) → IfSome p.journal (λ _. p.changes.items ≡ old ++ Taken e ∷ []) → IfSome p.journal (λ j. length old + j.room + 1 ≤ vec_capacity p.changes) → IsSound p
taken_sound p live old e laid one free is count room may noted notes = record {
  room = omega (arith, count, room);
  journal = IfSome_then p.journal
      (both_some p.journal (λ _. AreUndoable p.region.words old live) (λ j. (p.changes.items ≡ old ++ Taken e ∷ []) × (length old + j.room + 1 ≤ vec_capacity p.changes)) may
      (both_some p.journal (λ _. p.changes.items ≡ old ++ Taken e ∷ []) (λ j. length old + j.room + 1 ≤ vec_capacity p.changes) noted notes))
      (λ j (h : AreUndoable p.region.words old live × ((p.changes.items ≡ old ++ Taken e ∷ []) × (length old + j.room + 1 ≤ vec_capacity p.changes))).
      let longer = ap length h.1.0 ∙ length-append old (Taken e ∷ []) in
      let kept : IsJournal p j = record {
        may = taken_undoable p.region.words live p.region.live e p.journal old p.changes.items laid one free is h.1.0 h.0;
        room = omega (arith, count, room, longer);
        notes = omega (arith, longer, h.1.1);
      } in kept);
}

-- A pool after words are given back.
pub given_sound : (p : Inside) (j : Option OpenJournal) (live : List Extent) (old : List Change) (e : Extent) → p.journal ≡ spent j → AreLaidOut p.region.words.at (p.region.words.at + p.region.words.len) live → 0 < times e live → p.region.live ≡ without_extent e live → length p.region.live + 1 ≡ length live → length live ≤ p.region.room → IfSome j (λ x. AreUndoable p.region.words old live × (length live + length old ≤ p.region.room) × (length old + x.room ≤ vec_capacity p.changes)) → IfSome j (λ _. p.changes.items ≡ old ++ Given e ∷ []) → IfSome j (λ x. 0 < x.room) → IsSound p
given_sound p j live old e spends laid some is count room kept noted left = record {
  room = omega (arith, count, room);
  journal = subst (λ o. IfSome o (IsJournal p)) (sym spends) (spent_some j (IsJournal p) (IfSome_then j
      (both_some j (λ x. AreUndoable p.region.words old live × (length live + length old ≤ p.region.room) × (length old + x.room ≤ vec_capacity p.changes)) (λ x. (p.changes.items ≡ old ++ Given e ∷ []) × (0 < x.room)) kept
      (both_some j (λ _. p.changes.items ≡ old ++ Given e ∷ []) (λ x. 0 < x.room) noted left))
      (λ x (h : (AreUndoable p.region.words old live × (length live + length old ≤ p.region.room) × (length old + x.room ≤ vec_capacity p.changes)) × ((p.changes.items ≡ old ++ Given e ∷ []) × (0 < x.room))).
      let longer = ap length h.1.0 ∙ length-append old (Given e ∷ []) in
      let now : IsJournal p (record x { room = x.room - 1 }) = record {
        may = given_undoable p.region.words live p.region.live e j old p.changes.items laid some is h.1.0 h.0.0;
        room = omega (arith, count, h.0.1, longer);
        notes = omega (arith, longer, h.0.2, h.1.1);
      } in now)));
}
