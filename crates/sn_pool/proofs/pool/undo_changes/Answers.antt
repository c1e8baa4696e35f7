use Rattle.std.proofs.Common.{◌≡◌, ◌∷◌, ℕ, [], List, length, sym, ap, ◌∙◌, subst, arith}
use Rattle.std.specs.Prelude.{vec_len}
use Rattle.std.proofs.lemmas.List.{length-append}
use Rattle.sn_mem.specs.declared.extents.Extent.{Extent}
use Rattle.sn_pool.specs.declared.changes.Change.{Change}
use Rattle.sn_pool.specs.Pools.{RegionState}
use Rattle.sn_pool.specs.Changes.{AreUndoable, before_change, undone}
use Rattle.sn_pool.proofs.Pooled.{empty_list}
use Rattle.sn_pool.proofs.Undoing.{undoable_last, undone_last, undone_none}
use Rattle.sn_pool.proofs.pool.undo_changes.Goals as goal

pub undo_change-requires-clause-may : goal.undo_change-requires-clause-may
undo_change-requires-clause-may c =
    let region = c.loop-change.region in
    (undoable_last region.words c.in-Some.change c.pop.new.self.items region.live (subst (λ (cs : List Change). AreUndoable region.words cs region.live) c.in-Some.ensures.items c.loop-change.invariant.may)).0

pub loop-change-preserved : goal.loop-change-preserved
loop-change-preserved c =
    let region = c.loop-change.region in
    let change = c.in-Some.change in
    let left = c.pop.new.self.items in
    let is = c.undo_change.ensures.undone in
    let live : c.undo_change.new.region.live ≡ before_change change region.live = ap (λ (r : RegionState). r.live) is in
    let words : c.undo_change.new.region.words ≡ region.words = ap (λ (r : RegionState). r.words) is in
    let room : c.undo_change.new.region.room ≡ region.room = ap (λ (r : RegionState). r.room) is in
    let may = undoable_last region.words change left region.live (subst (λ (cs : List Change). AreUndoable region.words cs region.live) c.in-Some.ensures.items c.loop-change.invariant.may) in
    record {
      may = subst (λ (w : Extent). AreUndoable w left c.undo_change.new.region.live) (sym words) (subst (λ (l : List Extent). AreUndoable region.words left l) (sym live) may.1);
      fits = omega (arith, c.loop-change.invariant.fits, c.undo_change.ensures.len, room, ap length c.in-Some.ensures.items, length-append left (change ∷ []));
      words = words ∙ c.loop-change.invariant.words;
      room = room ∙ c.loop-change.invariant.room;
      live = ap (undone left) live ∙ sym (undone_last change left region.live) ∙ ap (λ (cs : List Change). undone cs region.live) (sym c.in-Some.ensures.items) ∙ c.loop-change.invariant.live;
    }

pub returns-clause-undone : goal.returns-clause-undone
returns-clause-undone c =
    let region = c.loop-change.region in
    let cases : (vec_len c.loop-change.changes ≡ 0) × (vec_len c.pop.new.self ≡ 0) = rw c.in_default.is at c.pop.ensures.cases in
    let none : c.loop-change.changes.items ≡ [] = empty_list c.loop-change.changes.items (sym c.loop-change.changes.ok.0 ∙ cases.0) in
    let shown : Extent → List Extent → ℕ → RegionState = λ w l r. record { words = w; live = l; room = r } in
    ap (λ w. shown w region.live region.room) c.loop-change.invariant.words
    ∙ ap (λ l. shown c.args.region.now.words l region.room) (sym (undone_none region.live) ∙ ap (λ (cs : List Change). undone cs region.live) (sym none) ∙ c.loop-change.invariant.live)
    ∙ ap (shown c.args.region.now.words (undone c.args.changes.now.items c.args.region.now.live)) c.loop-change.invariant.room
