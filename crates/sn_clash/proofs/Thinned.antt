-- Lists of uses without repeats.
use Rattle.std.proofs.Common.{◌≡◌, ◌≤◌, ◌<◌, ◌⊎◌, ⊎_elim, ℕ, Bool, true, false, ◌&&◌, ◌||◌, List, [], ◌∷◌, ◌++◌, sym, refl, ap, ◌∙◌, subst, arith, length, true≢false}
use Rattle.std.specs.Prelude.{slice_index_or}
use Rattle.std.proofs.lemmas.Bool.{and_parts, cases_Bool, cases_lt}
use Rattle.std.proofs.Math.Bool.{or-false, or-true}
use Rattle.std.proofs.lemmas.List.{get_or_past}
use Rattle.sn_foot.specs.declared.resource.Resource.{Resource}
use Rattle.sn_foot.specs.declared.uses.Role.{Role}
use Rattle.sn_foot.specs.declared.uses.Role.TheVariants.{Read, Write, Mix}
use Rattle.sn_foot.specs.declared.uses.Use.{Use}
use Rattle.sn_foot.specs.Uses.{footprint_in, is_role, is_same, uses_in}
use Rattle.sn_foot.proofs.Putting.{at_end}
use Rattle.sn_foot.proofs.Sameness.{same_is}
use Rattle.sn_clash.specs.declared.marks.Mark.{Mark}
use Rattle.sn_clash.specs.Marking.{IsThinned, is_marked, mark_of, mark_use, place, unmarked}
use Rattle.sn_clash.proofs.Marking.{long_use, one_marked}

role_is : (a b : Role) → is_role a b ≡ true → a ≡ b
role_is Read Read h = refl
role_is Read Write h = absurd (true≢false (sym h))
role_is Read Mix h = absurd (true≢false (sym h))
role_is Write Read h = absurd (true≢false (sym h))
role_is Write Write h = refl
role_is Write Mix h = absurd (true≢false (sym h))
role_is Mix Read h = absurd (true≢false (sym h))
role_is Mix Write h = absurd (true≢false (sym h))
role_is Mix Mix h = refl

never_marked : (a : Role) → is_marked a unmarked ≡ false
never_marked Read = refl
never_marked Write = refl
never_marked Mix = refl

-- what is marked has a place
has_place : (marks : List Mark) (u : Use) → length marks ≡ 3072 → is_marked u.role (mark_of marks u.resource) ≡ true → place u.resource < 3072
has_place marks u long marked =
    ⊎_elim
    (λ (below : place u.resource < 3072). below)
    (λ (above : 3072 ≤ place u.resource).
    let none : mark_of marks u.resource ≡ unmarked = get_or_past marks (place u.resource) unmarked (omega (arith, above, long)) in
    absurd (true≢false (sym marked ∙ ap (λ (m : Mark). is_marked u.role m) none ∙ never_marked u.role)))
    (cases_lt (place u.resource) 3072)

-- a use that is there already
again : (a : Role) (u : Use) (us : List Use) (r : Resource) → uses_in u.role us u.resource ≡ true → uses_in a us r ≡ (uses_in a us r || (is_role a u.role && is_same u.resource r))
again a u us r there =
    ⊎_elim
    (λ (b : (is_role a u.role && is_same u.resource r) ≡ true).
    let parts = and_parts (is_role a u.role) (is_same u.resource r) b in
    let known : uses_in a us r ≡ true = ap (λ c. uses_in c us r) (role_is a u.role parts.0) ∙ ap (λ q. uses_in u.role us q) (sym (same_is u.resource r parts.1)) ∙ there in
    known ∙ sym (ap (λ c. uses_in a us r || c) b ∙ or-true (uses_in a us r)))
    (λ (b : (is_role a u.role && is_same u.resource r) ≡ false). sym (ap (λ c. uses_in a us r || c) b ∙ or-false (uses_in a us r)))
    (cases_Bool (is_role a u.role && is_same u.resource r))

pub thinned_old : (marks : List Mark) (kept uses : List Use) (u : Use) → is_marked u.role (mark_of marks u.resource) ≡ true → IsThinned marks kept uses → IsThinned marks kept (uses ++ u ∷ [])
thinned_old marks kept uses u marked is = record {
  long = is.long;
  same = λ a r. again a u kept r (sym (is.marked u.role u.resource (has_place marks u is.long marked)) ∙ marked)
      ∙ ap (λ b. b || (is_role a u.role && is_same u.resource r)) (is.same a r) ∙ sym (at_end a uses u r);
  marked = is.marked;
}

pub thinned_new : (marks : List Mark) (kept uses : List Use) (u : Use) → IsThinned marks kept uses → IsThinned (mark_use u marks) (kept ++ u ∷ []) (uses ++ u ∷ [])
thinned_new marks kept uses u is = record {
  long = long_use u marks ∙ is.long;
  same = λ a r. at_end a kept u r ∙ ap (λ b. b || (is_role a u.role && is_same u.resource r)) (is.same a r) ∙ sym (at_end a uses u r);
  marked = λ a r lt. one_marked a u marks r (subst (λ k. place r < k) (sym is.long) lt)
      ∙ ap (λ b. b || (is_role a u.role && is_same u.resource r)) (is.marked a r lt) ∙ sym (at_end a kept u r);
}

pub thinned_nothing : (marks : List Mark) → length marks ≡ 3072 → ((n : ℕ) → slice_index_or marks n unmarked ≡ unmarked) → IsThinned marks [] []
thinned_nothing marks long none = record {
  long = long;
  same = λ a r. refl;
  marked = λ a r lt. ap (λ (m : Mark). is_marked a m) (none (place r)) ∙ never_marked a;
}

pub same_uses : (there : Resource → Bool) (marks : List Mark) (kept uses : List Use) → IsThinned marks kept uses → footprint_in there kept ≡ footprint_in there uses
same_uses there marks kept uses is = λ i. record { reads = λ r. there r && is.same Read r i; writes = λ r. there r && is.same Write r i; mixes = λ r. there r && is.same Mix r i }
