-- A clash is found by its key exactly if it is there.
use Rattle.std.proofs.Common.{◌≡◌, ◌<◌, ◌+◌, ℕ, Bool, true, false, cond, ◌&&◌, ◌||◌, List, take, length, get_or, refl, sym, ap, ◌∙◌}
use Rattle.std.specs.Cmp.{tied_then, unsigned_tied}
use Rattle.std.specs.List.{list_any}
use Rattle.std.specs.BTreeMap.{is_at}
use Rattle.std.specs.BTreeSet.{BTreeSet, contains, Updates}
use Rattle.std.specs.Ordering.{is_eq, nat_cmp, int_cmp, int_eq, ordering_then}
use Rattle.std.proofs.lemmas.List.Folds.{list_any_more}
use Rattle.sn_foot.specs.declared.resource.Resource.{Resource}
use Rattle.sn_clash.specs.declared.clash.Clash.{Clash}
use Rattle.sn_engine.specs.declared.before.Key.{Key}
use Rattle.sn_engine.specs.Clashing.{sort_of, same_resource, same_clash}
use Rattle.sn_foot.specs.Footprints.{number_of}
use Rattle.sn_engine.specs.Seeking.{key_of, key_cmp}

resource_at : (a b : Resource) → is_eq (ordering_then (nat_cmp (sort_of a) (sort_of b)) (nat_cmp (number_of a) (number_of b))) ≡ same_resource a b
resource_at a b =
    sym (tied_then (nat_cmp (sort_of a) (sort_of b)) (nat_cmp (number_of a) (number_of b)))
    ∙ (λ i. unsigned_tied (sort_of a) (sort_of b) i && unsigned_tied (number_of a) (number_of b) i)

clash_at : (a b : Clash) → is_at (key_cmp (key_of a)) (key_of b) ≡ same_clash a b
clash_at a b =
    let resource = ordering_then (nat_cmp (sort_of a.resource) (sort_of b.resource)) (nat_cmp (number_of a.resource) (number_of b.resource)) in
    let second = ordering_then (int_cmp a.second b.second) resource in
    sym (tied_then (int_cmp a.group b.group) (ordering_then (int_cmp a.first b.first) second))
    ∙ ap (λ s. int_eq a.group b.group && s) (sym (tied_then (int_cmp a.first b.first) second))
    ∙ ap (λ s. int_eq a.group b.group && (int_eq a.first b.first && s)) (sym (tied_then (int_cmp a.second b.second) resource))
    ∙ ap (λ s. int_eq a.group b.group && (int_eq a.first b.first && (int_eq a.second b.second && s))) (resource_at a.resource b.resource)

either : (s t : Bool) → cond s true t ≡ (t || s)
either true true = refl
either true false = refl
either false true = refl
either false false = refl

pub one_more : (old new : BTreeSet Key) (k : Key) (clashes : List Clash) (i : ℕ) (d : Clash) → i < length clashes → k ≡ key_of (get_or clashes i d) → Updates key_cmp old new k true
    → ((c : Clash) → contains key_cmp old (key_of c) ≡ list_any (λ b. same_clash b c) (take i clashes)) → (c : Clash) → contains key_cmp new (key_of c) ≡ list_any (λ b. same_clash b c) (take (i + 1) clashes)
one_more old new k clashes i d low is updates before c =
    let b = get_or clashes i d in
    updates.0 (key_of c)
    ∙ ap (λ (h : Key). cond (is_at (key_cmp h) (key_of c)) true (contains key_cmp old (key_of c))) is
    ∙ ap (λ (t : Bool). cond t true (contains key_cmp old (key_of c))) (clash_at b c)
    ∙ ap (λ (t : Bool). cond (same_clash b c) true t) (before c)
    ∙ either (same_clash b c) (list_any (λ b. same_clash b c) (take i clashes))
    ∙ sym (list_any_more (λ b. same_clash b c) clashes i d low)
