-- Adding lanes to their buses sees and changes a foot alone that has them.
use Rattle.std.proofs.Common.{◌≡◌, ◌<◌, ℕ, ◌+◌, Bool, true, List, [], ◌∷◌, ℤ, get_or, refl, ap, sym, subst, ◌∙◌, arith, true≢false}
use Rattle.std.specs.List.{All}
use Rattle.std.proofs.lemmas.List.Elements.{All-head, All-tail}
use Rattle.sn_mem.specs.declared.extents.Foot.{Foot}
use Rattle.sn_mem.specs.declared.moves.Moved.{Moved}
use Rattle.sn_mem.specs.Blocks.{sample_in, samples_at}
use Rattle.sn_mem.specs.Words.{touches}
use Rattle.sn_mem.proofs.Feet.{may_read, may_touch, may_write}
use Rattle.sn_mem.proofs.Windows.{table_same}
use Rattle.sn_io.specs.ByFoot.{Agree, IsByFoot}
use Rattle.sn_io.specs.Joints.{MayAdd, with_lane, with_lanes}
use Rattle.sn_io.specs.OverWords.{onto_block}
use Rattle.sn_io.proofs.Agreeing.{AreSeen}
use Rattle.sn_io.proofs.BusByFoot.{block_agrees}
use Rattle.sn_io.proofs.ByFoot.{by_foot_none, by_foot_then}
use Rattle.sn_io.proofs.Mixing.{apart_from, onto_apart, onto_long}

-- what a lane holds is the same if its words agree
lane_samples : (seen : ℕ → Bool) (us ws : List ℕ) (at : ℕ) → AreSeen seen at 65 → Agree seen us ws → samples_at us (at + 1) ≡ samples_at ws (at + 1)
lane_samples seen us ws at on a =
    table_same (λ k. sample_in (get_or us (at + 1 + k) 0)) (λ k. sample_in (get_or ws (at + 1 + k) 0)) 64
    (λ k lt. ap sample_in (a.same (at + 1 + k) (on (at + 1 + k) (omega arith) (omega arith))))

pub lane_agrees : (seen : ℕ → Bool) (b : ℕ) (m : Moved) (us ws : List ℕ) → AreSeen seen m.bus.at 65 → AreSeen seen m.lane.at 65 → Agree seen us ws → Agree seen (with_lane b m us) (with_lane b m ws)
lane_agrees seen b m us ws bus lane a =
    let xs : List ℤ = samples_at us (m.lane.at + 1) in
    subst (λ (ys : List ℤ). Agree seen (onto_block true b us m.bus.at xs) (onto_block true b ws m.bus.at ys)) (lane_samples seen us ws m.lane.at lane a) (block_agrees seen true b us ws m.bus.at xs bus a)

lane_by_foot : (f : Foot) (b : ℕ) (m : Moved) → MayAdd f m → IsByFoot f (with_lane b m)
lane_by_foot f b m may = record {
  long = λ ws. onto_long true b ws m.bus.at (samples_at ws (m.lane.at + 1));
  keeps = λ ws x off. onto_apart true b ws m.bus.at (samples_at ws (m.lane.at + 1)) x (apart_from x m.bus.at 65 (λ low high. true≢false (sym (may_write f f m.bus.at 65 x may.bus refl low high) ∙ off)));
  agree = λ us ws a. lane_agrees (touches f) b m us ws (λ j low high. may_touch f f m.bus.at 65 j may.bus refl low high) (λ j low high. may_read f f m.lane.at 65 j may.lane refl low high) a;
}

pub lanes_by_foot : (f : Foot) (b : ℕ) (ms : List Moved) → All (MayAdd f) ms → IsByFoot f (with_lanes b ms)
lanes_by_foot f b [] may = by_foot_none f
lanes_by_foot f b (m ∷ ms) may = by_foot_then f (with_lane b m) (with_lanes b ms) (lane_by_foot f b m (All-head (MayAdd f) m ms may)) (lanes_by_foot f b ms (All-tail (MayAdd f) m ms may))
