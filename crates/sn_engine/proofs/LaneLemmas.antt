-- Lanes between rounds, and in them.
use Rattle.std.proofs.Common.{◌≡◌, ◌≤◌, ◌<◌, ℕ, ◌+◌, ◌-◌, ◌*◌, ◌^◌, Bool, true, false, List, length, replicate, drop, get_or, sym, ap, subst, ◌∙◌, arith}
use Rattle.std.specs.Prelude.{slice_index}
use Rattle.std.proofs.lemmas.List.{get_or-drop, get_or-replicate}
use Rattle.sn_mem.specs.declared.extents.Extent.{Extent}
use Rattle.sn_mem.specs.declared.extents.Foot.{Foot}
use Rattle.sn_mem.specs.Through.{is_where}
use Rattle.sn_mem.specs.Under.{foot_below}
use Rattle.sn_mem.specs.Words.{has}
use Rattle.sn_world.specs.declared.stage.Stage.{Stage}
use Rattle.sn_world.specs.Pictures.{KeepsOutside, Pictures, WritesWorld}
use Rattle.sn_play.specs.declared.block.BlockJobs.{BlockJobs}
use Rattle.sn_play.specs.declared.span.Span.{Span}
use Rattle.sn_play.specs.Blocks.{AreResting, IsReady}
use Rattle.sn_engine.specs.Planning.{HasLanes, IsPlanOf, IsRowReady, LanesRest, first_lane, lanes_for}

-- there are that many lanes
pub lanes_few : (laned : Bool) → lanes_for laned ≤ 4096
lanes_few true = omega arith
lanes_few false = omega arith

-- a block of the plan of a stage that stands for a world is ready
abbrev pub block_ready : (w : BlockJobs) (words : List ℕ) → Pictures w.stage.now words → HasLanes w.stage.now words → IsPlanOf w.stage.now w.plan.now → w.block < 2 ^ 63 → IsReady w
block_ready w words pictures lanes planned early = record {
  words = words;
  pictures = pictures;
  first = first_lane w.stage.now;
  most = lanes_for planned.laned;
  lies = omega arith;
  room = omega (arith, lanes.fits, lanes_few planned.laned);
  few = lanes_few planned.laned;
  bounded = omega (arith, lanes.bounded);
  planned = planned.planned;
  early = early;
}

-- the lanes still have room if the memory is as wide and the pool is where it was
pub still_laned : (old new : Stage) (ws us : List ℕ) → new.pool.region ≡ old.pool.region → length us ≡ length ws → HasLanes old ws → HasLanes new us
still_laned old new ws us same long h =
    let len : new.pool.region.len ≡ old.pool.region.len = ap (λ (e : Extent). e.len) same in
    record { fits = omega (arith, h.fits, long, len); bounded = omega (arith, h.bounded, len) }

-- ---- lanes that do not count as written

-- none does at first
pub rest_at_first : (stage : Stage) (n : ℕ) (words : List ℕ) → words ≡ replicate n 0 → first_lane stage + 266240 ≤ n → LanesRest stage 0 words
rest_at_first stage n words zeros room = λ k lt.
    let at : ℕ = first_lane stage + 65 * k in
    let none : slice_index words at ≡ 0 = ap (λ (ws : List ℕ). slice_index ws at) zeros ∙ get_or-replicate n at 0 0 (omega (arith, lt, room)) in
    subst (λ m. m ≤ 0) (sym none) (omega arith)

-- none does if the words after the pool are unchanged
pub rest_on : (old new : Stage) (b : ℕ) (ws us : List ℕ) → old.pool.region.at ≡ 10368 → new.pool.region ≡ old.pool.region → KeepsOutside old.pool.region ws us → LanesRest old b ws → LanesRest new b us
rest_on old new b ws us base same kept rest = λ k lt.
    let len : new.pool.region.len ≡ old.pool.region.len = ap (λ (e : Extent). e.len) same in
    let at : first_lane new + 65 * k ≡ first_lane old + 65 * k = omega (arith, len) in
    let as_was : slice_index us (first_lane old + 65 * k) ≡ slice_index ws (first_lane old + 65 * k) = kept (first_lane old + 65 * k) (omega arith) (omega (arith, base)) in
    subst (λ m. m ≤ b) (sym (ap (slice_index us) at ∙ as_was)) (rest k lt)

-- some of them rest if all do
pub rest_of_some : (first most b : ℕ) (words : List ℕ) → most ≤ 4096 → AreResting first 4096 b words → AreResting first most b words
rest_of_some first most b words few rest = λ k lt. rest k (omega (arith, lt, few))

-- those of a span begin where all do
pub rest_of_row : (w : Span) {b : ℕ} (words : List ℕ) (row : IsRowReady w) → LanesRest w.first.stage.now b words → AreResting row.ready.first 4096 b words
rest_of_row w {b} words row rest = subst (λ n. AreResting n 4096 b words) (sym row.first) rest

pub rest_of_lanes : (w : Span) (b : ℕ) (words : List ℕ) (row : IsRowReady w) → AreResting row.ready.first 4096 b words → LanesRest w.first.stage.now b words
rest_of_lanes w b words row rest = subst (λ n. AreResting n 4096 b words) row.first rest

-- ---- words below the end of the pool

-- those of the world may be written
pub below_writes : (f : Foot) (region : Extent) (end : ℕ) → region.at ≡ 10368 → end ≡ 10368 + region.len → WritesWorld f region → WritesWorld (foot_below end f) region
below_writes f region end base is w = record {
  buses = λ k low. is_where (has f.writes) end k (omega (arith, low, is)) (w.buses k low);
  pool = λ k from to. is_where (has f.writes) end k (omega (arith, to, base, is)) (w.pool k from to);
}

-- those from there on are unchanged
pub kept_outside : (region : Extent) (end : ℕ) (old new : List ℕ) → region.at ≡ 10368 → end ≡ 10368 + region.len → drop end new ≡ drop end old → KeepsOutside region old new
kept_outside region end old new base is same = λ k low from.
    let more : ℕ = k - end in
    let at : end + more ≡ k = omega (arith, from, base, is) in
    ap (slice_index new) (sym at)
    ∙ sym (get_or-drop end new more 0)
    ∙ ap (λ (ws : List ℕ). get_or ws more 0) same
    ∙ get_or-drop end old more 0
    ∙ ap (slice_index old) at
