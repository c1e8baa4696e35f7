-- When two resources are the same.
use Rattle.std.proofs.Common.{◌≡◌, Bool, true, false, ◌&&◌, sym, refl, ap, ◌∙◌, ⊎_elim, true≢false}
use Rattle.std.proofs.lemmas.Bool.{cases_Bool, eq-eqb, eqb-true}
use Rattle.std.proofs.Math.Bool.{and-false}
use Rattle.sn_foot.specs.declared.resource.Resource.{Resource}
use Rattle.sn_foot.specs.declared.resource.Resource.TheVariants.{Audio, Control, Buffer}
use Rattle.sn_foot.specs.Uses.{is_same}

pub is_itself : (r : Resource) → is_same r r ≡ true
is_itself (Audio n) = eq-eqb n n refl
is_itself (Control n) = eq-eqb n n refl
is_itself (Buffer n) = eq-eqb n n refl

pub same_is : (q r : Resource) → is_same q r ≡ true → q ≡ r
same_is (Audio m) (Audio n) h = ap Audio (eqb-true m n h)
same_is (Audio m) (Control n) h = absurd (true≢false (sym h))
same_is (Audio m) (Buffer n) h = absurd (true≢false (sym h))
same_is (Control m) (Audio n) h = absurd (true≢false (sym h))
same_is (Control m) (Control n) h = ap Control (eqb-true m n h)
same_is (Control m) (Buffer n) h = absurd (true≢false (sym h))
same_is (Buffer m) (Audio n) h = absurd (true≢false (sym h))
same_is (Buffer m) (Control n) h = absurd (true≢false (sym h))
same_is (Buffer m) (Buffer n) h = ap Buffer (eqb-true m n h)

-- a test of one of two that are the same is one of the other
pub at_same : (f : Resource → Bool) (q r : Resource) → (f q && is_same q r) ≡ (f r && is_same q r)
at_same f q r =
    ⊎_elim
    (λ (h : is_same q r ≡ true). ap (λ p. f p && is_same q r) (same_is q r h))
    (λ (h : is_same q r ≡ false). ap (λ b. f q && b) h ∙ and-false (f q) ∙ sym (ap (λ b. f r && b) h ∙ and-false (f r)))
    (cases_Bool (is_same q r))
