use Rattle.std.proofs.Common.{◌≡◌, ◌*◌, refl, ap, sym, subst, ◌∙◌, arith}
use Rattle.sn_mem.specs.declared.extents.Extent.{Extent}
use Rattle.sn_pool.specs.Pools.{PoolState, times}
use Rattle.sn_pool.specs.Regions.{IsFree, least_place}
use Rattle.sn_pool.proofs.Counts.{times_with}
use Rattle.sn_buscmd.proofs.PlacingLemmas.{times_one}
use Rattle.sn_buscmd.proofs.buffer_holding.take_place.Goals as goal

pub returns-in-Ok : goal.returns-in-Ok
returns-in-Ok c =
    let n = c.args.new.now.frames * c.args.new.now.channels in
    let e = c.in-Ok.extent in
    let left = c.give_old.new.pool.live in
    let same : c.give_old.new.pool.region ≡ c.args.pool.now.region = c.give_old.ensures.gone.region ∙ ap (λ (p : PoolState). p.region) c.in_ok-mark.ensures.begun in
    record {
      frames = refl;
      channels = refl;
      size = c.in-Ok.ensures.size;
      left = left;
      are_left = λ x. sym (ap (λ (p : PoolState). times x p.live) c.in_ok-mark.ensures.begun) ∙ c.give_old.ensures.gone.left x;
      free = subst (λ (g : Extent). IsFree g left n e.at) same c.in-Ok.ensures.free;
      least = ap (λ (g : Extent). least_place g left n) (sym same) ∙ c.in-Ok.ensures.by_trial;
      live = λ x. omega (arith, ap (λ (p : PoolState). times x p.live) c.commit.ensures, ap (λ (p : PoolState). times x p.live) c.in-Ok.ensures.taken, times_with x e left, times_one x e);
      region = ap (λ (p : PoolState). p.region) c.commit.ensures ∙ ap (λ (p : PoolState). p.region) c.in-Ok.ensures.taken ∙ same;
      journal = ap (λ (p : PoolState). p.journal) c.commit.ensures;
    }
