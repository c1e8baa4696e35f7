-- Two footprints clash on what the second reads if the first writes or mixes it, on what it writes if the first uses
-- it, and on what it mixes if the first reads or writes it.
use Rattle.std.proofs.Common.{◌≡◌, Bool, true, false, ◌&&◌, ◌||◌, refl, ap, ◌∙◌}
use Rattle.std.proofs.Math.Bool.{or_comm}
use Rattle.sn_foot.specs.declared.resource.Resource.{Resource}
use Rattle.sn_foot.specs.Footprints.{Footprint, clash_on, meets_on}

-- what one reads, writes and mixes, and the other
abbrev pub clash_bits : Bool → Bool → Bool → Bool → Bool → Bool → Bool
clash_bits ar aw am br bw bm = ((br && (aw || am)) || (bw && ((ar || aw) || am))) || (bm && (ar || aw))

linear : (ar aw am br bw bm : Bool) →
    (((aw && ((br || bw) || bm)) || (am && (br || bw))) || ((bw && ((ar || aw) || am)) || (bm && (ar || aw)))) ≡ clash_bits ar aw am br bw bm
linear ar true am true bw bm = refl
linear true true am false true bm = refl
linear false true am false true bm = refl
linear true true am false false true = refl
linear false true am false false true = refl
linear ar true true false false false = refl
linear ar true false false false false = refl
linear ar false true true bw bm = refl
linear true false true false true bm = refl
linear false false true false true bm = refl
linear ar false true false false bm = refl
linear ar false false true bw bm = refl
linear ar false false false bw bm = refl

pub clash_is : (a b : Footprint) (r : Resource) → clash_on a b r ≡ clash_bits (a.reads r) (a.writes r) (a.mixes r) (b.reads r) (b.writes r) (b.mixes r)
clash_is a b r = linear (a.reads r) (a.writes r) (a.mixes r) (b.reads r) (b.writes r) (b.mixes r)

pub clash_swapped : (a b : Footprint) → clash_on a b ≡ clash_on b a
clash_swapped a b = λ i r. or_comm (meets_on a b r) (meets_on b a r) i

-- ---- together

shared : (u v w : Bool) → ((u || v) && w) ≡ ((u && w) || (v && w))
shared true v true = refl
shared true true false = refl
shared true false false = refl
shared false v w = refl

turned : (x y z p q s : Bool) → (((x || p) || (y || q)) || (z || s)) ≡ (((x || y) || z) || ((p || q) || s))
turned true y z p q s = refl
turned false true z true q s = refl
turned false true z false q s = refl
turned false false true true q s = refl
turned false false true false true s = refl
turned false false true false false s = refl
turned false false false p q s = refl

-- f and b tell of two footprints what they read, write and mix
pub bits_together : (ar aw am fr fw fm br bw bm : Bool) → clash_bits ar aw am (fr || br) (fw || bw) (fm || bm) ≡ (clash_bits ar aw am fr fw fm || clash_bits ar aw am br bw bm)
bits_together ar aw am fr fw fm br bw bm =
    let one : Bool = aw || am in
    let two : Bool = (ar || aw) || am in
    let three : Bool = ar || aw in
    ap (λ x. (x || ((fw || bw) && two)) || ((fm || bm) && three)) (shared fr br one)
    ∙ ap (λ x. (((fr && one) || (br && one)) || x) || ((fm || bm) && three)) (shared fw bw two)
    ∙ ap (λ x. (((fr && one) || (br && one)) || ((fw && two) || (bw && two))) || x) (shared fm bm three)
    ∙ turned (fr && one) (fw && two) (fm && three) (br && one) (bw && two) (bm && three)
