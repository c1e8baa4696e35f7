use Rattle.std.proofs.Common.{◌≡◌, ◌+◌, ◌-◌, ◌<◌, ◌≤◌, ℕ, List, length, min, sym, ap, ◌∙◌, subst, arith}
use Rattle.sn_mem.specs.declared.extents.Extent.{Extent}
use Rattle.sn_pool.specs.Pools.{RegionState, AreLaidOut, LiesIn, times, without_extent}
use Rattle.sn_pool.specs.Sorting.{AreInOrder}
use Rattle.sn_pool.proofs.LaidOut.{laid_out_without}
use Rattle.sn_pool.proofs.Counts.{place_of, times_inside}
use Rattle.sn_pool.proofs.Ground.{live_unused, number_of_runs, released_live, released_parts}
use Rattle.sn_pool.proofs.region.Region.release.Goals as goal

pub release-requires-clause-some : goal.release-requires-clause-some
release-requires-clause-some c =
    let some = subst (λ (s : RegionState). 0 < times c.args.extent s.live) (sym c.self.view_is) c.requires.live in
    (times_inside c.self.inside.words c.self.inside.live.items c.args.extent c.self.invariant.live some).1

pub release-requires-clause-fits : goal.release-requires-clause-fits
release-requires-clause-fits c =
    let some = subst (λ (s : RegionState). 0 < times c.args.extent s.live) (sym c.self.view_is) c.requires.live in
    let lies : LiesIn c.self.inside.words c.args.extent = (times_inside c.self.inside.words c.self.inside.live.items c.args.extent c.self.invariant.live some).0 in
    omega (arith, lies.1, c.self.invariant.fits)

pub release-requires-clause-used : goal.release-requires-clause-used
release-requires-clause-used c =
    let some = subst (λ (s : RegionState). 0 < times c.args.extent s.live) (sym c.self.view_is) c.requires.live in
    live_unused c.self.inside.words c.self.inside.live.items c.self.inside.holes.runs c.self.invariant.holes c.args.extent some

pub release-requires-clause-room : goal.release-requires-clause-room
release-requires-clause-room c =
    let live = c.self.inside.live.items in
    let some = subst (λ (s : RegionState). 0 < times c.args.extent s.live) (sym c.self.view_is) c.requires.live in
    let room = subst (λ (s : RegionState). length s.live ≤ s.room) (sym c.self.view_is) c.requires.room in
    omega (arith, room, (place_of c.args.extent live some).1, number_of_runs c.self.inside.words live c.self.inside.holes.runs c.self.invariant.holes c.self.invariant.live c.layout.ensures.runs c.layout.ensures.sorted)

pub invariant_of-self : goal.invariant_of-self
invariant_of-self c =
    let words = c.self.inside.words in
    let live = c.self.inside.live.items in
    let e = c.args.extent in
    let some = subst (λ (s : RegionState). 0 < times e s.live) (sym c.self.view_is) c.requires.live in
    let order = c.remove.ensures.order ∙ c.self.invariant.order in
    let sorted = subst (λ o. AreInOrder o c.remove.new.self.items) order c.remove.ensures.sorted in
    let now = released_live words live c.remove.new.self.items e c.self.invariant.live some sorted c.remove.ensures.removed in
    record {
      fits = c.self.invariant.fits;
      order = order;
      live = subst (AreLaidOut words.at (words.at + words.len)) (sym now) (laid_out_without words.at (words.at + words.len) live e c.self.invariant.live);
      holes = released_parts words e live c.remove.new.self.items c.self.invariant.live some c.remove.ensures.removed c.self.inside.holes.runs c.release.new.self.runs c.self.invariant.holes c.release.ensures.words;
    }

pub returns-clause-released : goal.returns-clause-released
returns-clause-released c =
    let words = c.self.inside.words in
    let live = c.self.inside.live.items in
    let e = c.args.extent in
    let some = subst (λ (s : RegionState). 0 < times e s.live) (sym c.self.view_is) c.requires.live in
    let sorted = subst (λ o. AreInOrder o c.remove.new.self.items) (c.remove.ensures.order ∙ c.self.invariant.order) c.remove.ensures.sorted in
    let now = released_live words live c.remove.new.self.items e c.self.invariant.live some sorted c.remove.ensures.removed in
    let shown : List Extent → ℕ → ℕ → RegionState = λ l a b. record { words = words; live = l; room = min a (b - 2) } in
    subst (λ (s : RegionState). shown c.remove.new.self.items c.remove.new.self.room c.release.new.self.room ≡ record s { live = without_extent e s.live }) c.self.view_is
    (ap (λ l. shown l c.remove.new.self.room c.release.new.self.room) now
    ∙ ap (λ a. shown (without_extent e live) a c.release.new.self.room) c.remove.ensures.room
    ∙ ap (shown (without_extent e live) c.self.inside.live.room) c.release.ensures.room)
