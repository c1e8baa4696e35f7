-- What nodes use together.
use Rattle.std.proofs.Common.{◌≡◌, ◌≤◌, ◌<◌, ℕ, Bool, true, false, ◌||◌, List, [], ◌∷◌, ◌++◌, sym, refl, ap, ◌∙◌, arith, length, drop, take, map, reverse, length-append}
use Rattle.std.proofs.Math.Bool.{or_comm}
use Rattle.std.proofs.lemmas.List.{drop-append-le, drop_all, map-append, reverse-append, take-append-le, take_all}
use Rattle.sn_foot.specs.declared.resource.Resource.{Resource}
use Rattle.sn_foot.specs.declared.uses.Use.{Use}
use Rattle.sn_foot.specs.Footprints.{Footprint}
use Rattle.sn_foot.specs.Uses.{footprint_in}
use Rattle.sn_clash.specs.declared.subtree.Subtree.{Subtree}
use Rattle.sn_clash.specs.Clashing.{Member}
use Rattle.sn_clash.specs.Passing.{either, gathered, member_of, members_of}

-- ---- footprints in another order

pub either_swapped : (f g : Footprint) → either f g ≡ either g f
either_swapped f g = λ i. record { reads = λ r. or_comm (f.reads r) (g.reads r) i; writes = λ r. or_comm (f.writes r) (g.writes r) i; mixes = λ r. or_comm (f.mixes r) (g.mixes r) i }

turned : (a b c : Bool) → ((a || b) || c) ≡ ((a || c) || b)
turned true b c = refl
turned false true true = refl
turned false true false = refl
turned false false true = refl
turned false false false = refl

either_turned : (f g h : Footprint) → either (either f g) h ≡ either (either f h) g
either_turned f g h = λ i. record { reads = λ r. turned (f.reads r) (g.reads r) (h.reads r) i; writes = λ r. turned (f.writes r) (g.writes r) (h.writes r) i; mixes = λ r. turned (f.mixes r) (g.mixes r) (h.mixes r) i }

gathered_first : (f g : Footprint) (ms : List Member) → gathered (either f g) ms ≡ either (gathered f ms) g
gathered_first f g [] = refl
gathered_first f g (m ∷ ms) = ap (λ (h : Footprint). either h m.uses) (gathered_first f g ms) ∙ either_turned (gathered f ms) g m.uses

-- ---- a loop's steps

pub last_gathered : (there : Resource → Bool) (kept : ℕ) (old new : List Subtree) (e : Subtree) (us ws : List Use) → old ≡ new ++ e ∷ [] → kept < length old →
    footprint_in there ws ≡ either (footprint_in there us) (footprint_in there e.uses.items) →
    gathered (footprint_in there ws) (members_of there (drop kept new)) ≡ gathered (footprint_in there us) (members_of there (drop kept old))
last_gathered there kept old new e us ws is more both =
    let few : kept ≤ length new = omega (arith, more, ap length is, length-append new (e ∷ [])) in
    let rest : List Subtree = drop kept new in
    let f : Footprint = footprint_in there us in
    let cut : drop kept old ≡ rest ++ e ∷ [] = ap (λ (es : List Subtree). drop kept es) is ∙ drop-append-le kept new (e ∷ []) few in
    ap (λ (h : Footprint). gathered h (members_of there rest)) both
    ∙ gathered_first f (footprint_in there e.uses.items) (members_of there rest)
    ∙ sym (ap (λ (es : List Subtree). gathered f (members_of there es)) cut
    ∙ ap (λ (ms : List Member). gathered f (reverse ms)) (map-append (member_of there) rest (e ∷ []))
    ∙ ap (λ (ms : List Member). gathered f ms) (reverse-append (map (member_of there) rest) (member_of there e ∷ [])))

pub last_left : (kept : ℕ) (old new : List Subtree) (e : Subtree) → old ≡ new ++ e ∷ [] → kept < length old → take kept new ≡ take kept old
last_left kept old new e is more =
    let few : kept ≤ length new = omega (arith, more, ap length is, length-append new (e ∷ [])) in
    sym (ap (λ (es : List Subtree). take kept es) is ∙ take-append-le kept new (e ∷ []) few)

pub all_gathered : (there : Resource → Bool) (kept : ℕ) (es : List Subtree) (f : Footprint) → length es ≤ kept → gathered f (members_of there (drop kept es)) ≡ f
all_gathered there kept es f few = ap (λ (xs : List Subtree). gathered f (members_of there xs)) (drop_all kept es few)

pub all_left : (kept : ℕ) (es : List Subtree) → length es ≤ kept → take kept es ≡ es
all_left kept es few = take_all kept es few
