use Rattle.std.proofs.Common.{◌≡◌, ◌+◌, ◌≤◌, ◌∷◌, ◌++◌, [], Some, None, length, sym, refl, ap, ◌∙◌, subst, arith, if◌then◌else◌}
use Rattle.std.specs.Prelude.{IfSome}
use Rattle.std.proofs.lemmas.Option.{IfSome_then}
use Rattle.std.proofs.lemmas.Result.{err_from_is_err_and}
use Rattle.sn_mem.specs.declared.extents.Extent.{Extent}
use Rattle.sn_pool.specs.declared.changes.Change.TheVariants.{Taken}
use Rattle.sn_pool.specs.declared.pool.Pool.TheInside.{Inside}
use Rattle.sn_pool.specs.Pools.{PoolState, RegionState, AreLaidOut, with_extent, same_extent, times}
use Rattle.sn_pool.specs.Regions.{HasNoPlace, IsFree, IsLeastPlace, LeastPlace, least_place}
use Rattle.sn_pool.specs.Changes.{AreUndoable, undone}
use Rattle.sn_pool.specs.Represents.{IsJournal, journal_of}
use Rattle.sn_pool.proofs.Counts.{times_with}
use Rattle.sn_pool.proofs.Trials.{least_place_is, least_place_alone}
use Rattle.sn_pool.proofs.Pooled.{taken_shown, taken_sound}
use Rattle.sn_pool.proofs.pool.Pool.take.Goals as goal

pub returns-in_default-clause-full : goal.returns-in_default-clause-full
returns-in_default-clause-full c =
    let none = subst (λ (s : PoolState). HasNoPlace s.region s.live c.args.n) c.self.view_is (subst (LeastPlace c.self.inside.region.words c.self.inside.region.live c.args.n) c.in_default.is c.least.ensures) in
    (λ _. none, λ _. refl)

pub returns-in_default-clause-by_trial : goal.returns-in_default-clause-by_trial
returns-in_default-clause-by_trial c =
    let words = c.self.inside.region.words in
    let live = c.self.inside.region.live in
    let n = c.args.n in
    let none = subst (LeastPlace words live n) c.in_default.is c.least.ensures in
    subst (λ (s : PoolState). least_place s.region s.live n ≡ None) c.self.view_is (least_place_alone words live n (least_place words live n) None (least_place_is words live n c.requires) none)

pub returns-in_err-make_room-clause-full : goal.returns-in_err-make_room-clause-full
returns-in_err-make_room-clause-full c =
    let p = err_from_is_err_and c.from_residual.result c.from_residual.ensures.1 in
    let least = subst (λ (s : PoolState). IsLeastPlace s.region s.live c.args.n c.in-Some.at) c.self.view_is (subst (LeastPlace c.self.inside.region.words c.self.inside.region.live c.args.n) c.in-Some.is c.least.ensures) in
    rw (p.1, p.2) ((λ full. cc), λ none. absurd (none c.in-Some.at least.free))

pub invariant_of-self-2 : goal.invariant_of-self-2
invariant_of-self-2 c =
    let p = c.self.inside in
    let live = p.region.live in
    let e : Extent = record { at = c.in-Some.at; len = c.args.n } in
    let free = (subst (LeastPlace p.region.words live c.args.n) c.in-Some.is c.least.ensures).free in
    let words = ap (λ (r : RegionState). r.words) c.fill.ensures.filled ∙ c.make_room.ensures.words in
    let same = c.make_room.ensures.live in
    let after : Inside = record { region = c.fill.new.self; journal = p.journal; changes = c.note.new.changes; begun = p.begun } in
    let laid = subst (λ l. AreLaidOut p.region.words.at (p.region.words.at + p.region.words.len) l) same (subst (λ (w : Extent). AreLaidOut w.at (w.at + w.len) c.make_room.new.region.live) c.make_room.ensures.words c.fill.ensures.layout) in
    taken_sound after live p.changes.items e
    (subst (λ (w : Extent). AreLaidOut w.at (w.at + w.len) live) (sym words) laid) c.requires (subst (λ w. IsFree w live e.len e.at) (sym words) free)
    (ap (λ (r : RegionState). r.live) c.fill.ensures.filled ∙ ap (with_extent e) same)
    (omega (arith, c.fill.ensures.len, ap length same))
    (omega (arith, c.in_ok-make_room.ensures.room, ap (λ (r : RegionState). r.room) c.fill.ensures.filled))
    (IfSome_then p.journal c.self.invariant.journal (λ j (h : IsJournal p j). subst (λ w. AreUndoable w p.changes.items live) (sym words) h.may))
    (IfSome_then p.journal c.note.ensures.noted (λ j (h : c.note.new.changes.items ≡ c.make_room.new.changes.items ++ Taken e ∷ []). h ∙ ap (λ cs. cs ++ Taken e ∷ []) c.make_room.ensures.changes))
    (subst (λ cap. IfSome p.journal (λ j. length p.changes.items + j.room + 1 ≤ cap)) (sym c.note.ensures.room) c.in_ok-make_room.ensures.notes)

pub returns-clause-taken : goal.returns-clause-taken
returns-clause-taken c =
    let p = c.self.inside in
    let live = p.region.live in
    let e : Extent = record { at = c.in-Some.at; len = c.args.n } in
    let free = (subst (LeastPlace p.region.words live c.args.n) c.in-Some.is c.least.ensures).free in
    let words = ap (λ (r : RegionState). r.words) c.fill.ensures.filled ∙ c.make_room.ensures.words in
    let same = c.make_room.ensures.live in
    let laid = subst (λ l. AreLaidOut p.region.words.at (p.region.words.at + p.region.words.len) l) same (subst (λ (w : Extent). AreLaidOut w.at (w.at + w.len) c.make_room.new.region.live) c.make_room.ensures.words c.fill.ensures.layout) in
    let now = c.fill.new.self.live in
    let state : Extent → PoolState = λ w. record { region = w; live = now; journal = journal_of p.journal (undone c.note.new.changes.items now) } in
    subst (λ (s : PoolState). state c.fill.new.self.words ≡ record s { live = with_extent e s.live }) c.self.view_is
    (ap state words
    ∙ taken_shown p.region.words live now e p.journal p.changes.items c.note.new.changes.items laid c.requires free
    (ap (λ (r : RegionState). r.live) c.fill.ensures.filled ∙ ap (with_extent e) same)
    (IfSome_then p.journal c.note.ensures.noted (λ j (h : c.note.new.changes.items ≡ c.make_room.new.changes.items ++ Taken e ∷ []). h ∙ ap (λ cs. cs ++ Taken e ∷ []) c.make_room.ensures.changes)))

pub returns-clause-counted : goal.returns-clause-counted
returns-clause-counted c =
    let p = c.self.inside in
    let new : Extent = record { at = c.in-Some.at; len = c.args.n } in
    let now = ap (λ (r : RegionState). r.live) c.fill.ensures.filled ∙ ap (with_extent new) c.make_room.ensures.live in
    subst (λ (s : PoolState). (e : Extent) → times e c.fill.new.self.live ≡ (if same_extent e new then 1 else 0) + times e s.live) c.self.view_is
    (λ e. ap (times e) now ∙ times_with e new p.region.live)

pub returns-clause-full : goal.returns-clause-full
returns-clause-full c =
    let least = subst (λ (s : PoolState). IsLeastPlace s.region s.live c.args.n c.in-Some.at) c.self.view_is (subst (LeastPlace c.self.inside.region.words c.self.inside.region.live c.args.n) c.in-Some.is c.least.ensures) in
    ((λ full. cc), λ none. absurd (none c.in-Some.at least.free))

pub returns-clause-by_trial : goal.returns-clause-by_trial
returns-clause-by_trial c =
    let words = c.self.inside.region.words in
    let live = c.self.inside.region.live in
    let n = c.args.n in
    let least = subst (LeastPlace words live n) c.in-Some.is c.least.ensures in
    subst (λ (s : PoolState). least_place s.region s.live n ≡ Some c.in-Some.at) c.self.view_is (least_place_alone words live n (least_place words live n) (Some c.in-Some.at) (least_place_is words live n c.requires) least)
