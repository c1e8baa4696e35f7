use Rattle.std.proofs.Common.{◌≡◌, ◌+◌, ◌<◌, Option, sym, ap, ◌∙◌, subst, arith}
use Rattle.std.proofs.lemmas.Option.{IfSome_then}
use Rattle.sn_mem.specs.declared.extents.Extent.{Extent}
use Rattle.sn_pool.specs.declared.pool.OpenJournal.{OpenJournal}
use Rattle.sn_pool.specs.declared.pool.Pool.TheInside.{Inside}
use Rattle.sn_pool.specs.Pools.{PoolState, RegionState, AreLaidOut, HasRoom, one_given, times, without_extent}
use Rattle.sn_pool.specs.Changes.{AreUndoable, undone}
use Rattle.sn_pool.specs.Represents.{IsJournal, journal_of}
use Rattle.sn_pool.proofs.Pooled.{given_shown, given_sound, room_left}
use Rattle.sn_pool.proofs.pool.Pool.give_back.Goals as goal

pub invariant_of-self : goal.invariant_of-self
invariant_of-self c =
    let p = c.self.inside in
    let live = p.region.live in
    let e = c.args.extent in
    let some = subst (λ (s : PoolState). 0 < times e s.live) (sym c.self.view_is) c.requires.live in
    let left = subst (λ (s : PoolState). HasRoom s.journal) (sym c.self.view_is) c.requires.room in
    let words = ap (λ (r : RegionState). r.words) c.release.ensures.released in
    let room = ap (λ (r : RegionState). r.room) c.release.ensures.released in
    let after : Inside = record { region = c.release.new.self; journal = c.one_given-self-inside.result; changes = c.note.new.changes; begun = p.begun } in
    given_sound after p.journal live p.changes.items e c.one_given-self-inside.ensures
    (subst (λ (w : Extent). AreLaidOut w.at (w.at + w.len) live) (sym words) c.release.ensures.layout) some
    (ap (λ (r : RegionState). r.live) c.release.ensures.released) c.release.ensures.len (omega (arith, c.self.invariant.room, room))
    (IfSome_then p.journal c.self.invariant.journal (λ (j : OpenJournal) (h : IsJournal p j).
    (subst (λ w. AreUndoable w p.changes.items live) (sym words) h.may, omega (arith, h.room, room), omega (arith, h.notes, c.note.ensures.room))))
    c.note.ensures.noted
    (room_left p.journal (undone p.changes.items live) left)

pub returns-clause-given : goal.returns-clause-given
returns-clause-given c =
    let p = c.self.inside in
    let live = p.region.live in
    let e = c.args.extent in
    let some = subst (λ (s : PoolState). 0 < times e s.live) (sym c.self.view_is) c.requires.live in
    let words = ap (λ (r : RegionState). r.words) c.release.ensures.released in
    let now = c.release.new.self.live in
    let state : Extent → Option OpenJournal → PoolState = λ w j. record { region = w; live = now; journal = journal_of j (undone c.note.new.changes.items now) } in
    subst (λ (s : PoolState). state c.release.new.self.words c.one_given-self-inside.result ≡ record s { live = without_extent e s.live; journal = one_given s.journal }) c.self.view_is
    (ap (λ w. state w c.one_given-self-inside.result) words
    ∙ ap (state p.region.words) c.one_given-self-inside.ensures
    ∙ given_shown p.region.words live now e p.journal p.changes.items c.note.new.changes.items c.release.ensures.layout some (ap (λ (r : RegionState). r.live) c.release.ensures.released) c.note.ensures.noted)
