use Rattle.std.proofs.Common.{◌≡◌, ◌+◌, ◌%◌, ℕ, Some, List, length, sym, ap, ◌∙◌, subst, arith}
use Rattle.sn_mem.specs.declared.extents.Extent.{Extent}
use Rattle.sn_pool.specs.Pools.{PoolState}
use Rattle.sn_pool.specs.Changes.{AreUndoable, undone}
use Rattle.sn_pool.proofs.Undoing.{undoable_none, undone_none}
use Rattle.sn_pool.proofs.pool.Pool.begin.Goals as goal

pub invariant_of-self-2 : goal.invariant_of-self-2
invariant_of-self-2 c =
    let none = c.in_ok-reserve.ensures.items ∙ c.clear.ensures.items in
    record {
      room = c.self.invariant.room;
      journal = record {
        may = subst (λ cs. AreUndoable c.self.inside.region.words cs c.self.inside.region.live) (sym none) (undoable_none c.self.inside.region.words c.self.inside.region.live);
        room = omega (arith, c.self.invariant.room, ap length none);
        notes = omega (arith, ap length none, c.in_ok-reserve.ensures.ok);
      };
    }

pub returns-clause-begun : goal.returns-clause-begun
returns-clause-begun c =
    let live = c.self.inside.region.live in
    let none = c.in_ok-reserve.ensures.items ∙ c.clear.ensures.items in
    let number : ℕ = (c.self.inside.begun + 1) % 18446744073709551616 in
    let shown : List Extent → PoolState = λ saved. record { region = c.self.inside.region.words; live = live; journal = Some (record { mark = record { number = number }; saved = saved; room = c.args.gives }) } in
    subst (λ (s : PoolState). shown (undone c.reserve.new.self.items live) ≡ record s { journal = Some (record { mark = record { number = number }; saved = s.live; room = c.args.gives }) }) c.self.view_is
    (ap shown (ap (λ cs. undone cs live) none ∙ undone_none live))
