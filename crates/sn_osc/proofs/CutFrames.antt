-- A prefix of a frame is no longer than the frame.
use Rattle.std.proofs.Common.{◌≡◌, ℕ, ℤ, ◌≤◌, Bool, true, false, not, cond, ltb, List, length, take, drop, refl, arith}
use Rattle.std.proofs.lemmas.Bool.{ltb-true}
use Rattle.std.proofs.lemmas.List.{length-drop}
use Rattle.sn_osc.specs.Frames.{cut, bad_size, frame, first_frame, is_frame_size}
use Rattle.sn_osc.specs.Reading.{int_in, size_in}
use Rattle.sn_osc.proofs.Streams.{no_more}

cut_parts : (b c d : Bool) (i : ℤ) (f a : List ℕ) (P : Type 0) → cond b cut (cond c (bad_size i) (cond d cut (frame f a))) ≡ cut → (b ≡ true → P) → (c ≡ false → d ≡ true → P) → P
cut_parts true c d i f a P e short inside = short refl
cut_parts false true d i f a P e short inside = absurd cc
cut_parts false false true i f a P e short inside = inside refl refl
cut_parts false false false i f a P e short inside = absurd cc

pub front_is_short : (bytes : List ℕ) → first_frame bytes ≡ cut → length bytes ≤ 65540
front_is_short bytes e = cut_parts (ltb (length bytes) 4) (not (is_frame_size (size_in bytes))) (ltb (length (drop 4 bytes)) (size_in bytes)) (int_in bytes) (take (size_in bytes) (drop 4 bytes)) (drop (size_in bytes) (drop 4 bytes)) (length bytes ≤ 65540) e
    (λ short. omega (arith, ltb-true _ _ short))
    (λ good inside. omega (arith, ltb-true _ _ inside, length-drop 4 bytes, no_more (size_in bytes) (double (is_frame_size (size_in bytes)) good)))
  where
    double : (b : Bool) → not b ≡ false → b ≡ true
    double true h = refl
    double false h = absurd cc
