use Rattle.std.proofs.Common.{◌≡◌, ◌+◌, ◌-◌, ◌<◌, ℕ, List, length, min, sym, ap, ◌∙◌, subst, arith}
use Rattle.sn_mem.specs.declared.extents.Extent.{Extent}
use Rattle.sn_pool.specs.Pools.{RegionState, AreLaidOut, with_extent}
use Rattle.sn_pool.specs.Sorting.{AreInOrder}
use Rattle.sn_pool.specs.Regions.{IsFree}
use Rattle.sn_pool.proofs.Ground.{filled_live, filled_parts, laid_out_filled, number_of_runs}
use Rattle.sn_pool.proofs.region.Region.fill.Goals as goal

pub fill-requires-clause-room : goal.fill-requires-clause-room
fill-requires-clause-room c =
    let room = subst (λ (s : RegionState). length s.live < s.room) (sym c.self.view_is) c.requires.room in
    omega (arith, room, number_of_runs c.self.inside.words c.self.inside.live.items c.self.inside.holes.runs c.self.invariant.holes c.self.invariant.live c.layout.ensures.runs c.layout.ensures.sorted)

pub invariant_of-self : goal.invariant_of-self
invariant_of-self c =
    let words = c.self.inside.words in
    let live = c.self.inside.live.items in
    let e = c.args.extent in
    let free = subst (λ (s : RegionState). IsFree s.words s.live e.len e.at) (sym c.self.view_is) c.requires.free in
    let order = c.insert.ensures.order ∙ c.self.invariant.order in
    let sorted = subst (λ o. AreInOrder o c.insert.new.self.items) order c.insert.ensures.sorted in
    let now = filled_live words live c.insert.new.self.items e c.self.invariant.live c.requires.some free sorted c.insert.ensures.added in
    record {
      fits = c.self.invariant.fits;
      order = order;
      live = subst (AreLaidOut words.at (words.at + words.len)) (sym now) (laid_out_filled words live e c.self.invariant.live c.requires.some free);
      holes = filled_parts words e live c.insert.new.self.items c.self.inside.holes.runs c.fill.new.self.runs c.self.invariant.holes c.insert.ensures.added c.fill.ensures.words;
    }

pub returns-clause-filled : goal.returns-clause-filled
returns-clause-filled c =
    let words = c.self.inside.words in
    let live = c.self.inside.live.items in
    let e = c.args.extent in
    let free = subst (λ (s : RegionState). IsFree s.words s.live e.len e.at) (sym c.self.view_is) c.requires.free in
    let sorted = subst (λ o. AreInOrder o c.insert.new.self.items) (c.insert.ensures.order ∙ c.self.invariant.order) c.insert.ensures.sorted in
    let now = filled_live words live c.insert.new.self.items e c.self.invariant.live c.requires.some free sorted c.insert.ensures.added in
    let shown : List Extent → ℕ → ℕ → RegionState = λ l a b. record { words = words; live = l; room = min a (b - 2) } in
    subst (λ (s : RegionState). shown c.insert.new.self.items c.insert.new.self.room c.fill.new.self.room ≡ record s { live = with_extent e s.live }) c.self.view_is
    (ap (λ l. shown l c.insert.new.self.room c.fill.new.self.room) now
    ∙ ap (λ a. shown (with_extent e live) a c.fill.new.self.room) c.insert.ensures.room
    ∙ ap (shown (with_extent e live) c.self.inside.live.room) c.fill.ensures.room)
