-- What is told of what a node holds.
use Rattle.std.proofs.Common.{◌≡◌, ℕ, ℤ, ◌+◌, Bool, true, false, ◌&&◌, List, [], ◌∷◌, ◌++◌, refl, ap, ◌∙◌, sym, append_assoc, add-one}
use Rattle.std.specs.List.{filter}
use Rattle.std.proofs.lemmas.List.Elements.{filter-append}
use Rattle.sn_mem.specs.Blocks.{table}
use Rattle.sn_world.specs.declared.stage.Held.{Held}
use Rattle.sn_world.specs.declared.stage.Held.TheVariants as held
use Rattle.sn_world.specs.Pictures.{has_synth, units_of}
use Rattle.sn_foot.specs.declared.resource.Resource.{Resource}
use Rattle.sn_foot.specs.declared.resource.Resource.TheVariants.{Audio, Control, Buffer}
use Rattle.sn_foot.specs.declared.uses.Role.{Role}
use Rattle.sn_foot.specs.declared.uses.Role.TheVariants.{Read, Write, Mix}
use Rattle.sn_foot.specs.declared.uses.Use.{Use}
use Rattle.sn_foot.specs.Uses.{footprint_in, uses_in}
use Rattle.sn_clash.specs.Clashing.{resources}
use Rattle.sn_clash.specs.Passing.{used_by}
use Rattle.sn_report.specs.Reports.{foot_line, held_sight, is_seen, node_line, seen_units}
use Rattle.sn_report.specs.Visits.{used_so}

pub seen_is : (h : Held) → is_seen (held_sight h) ≡ has_synth h
seen_is held.Group = refl
seen_is (held.Synth def controls state) = refl

pub seen_units_is : (h : Held) → seen_units (held_sight h) ≡ units_of h
seen_units_is held.Group = refl
seen_units_is (held.Synth def controls state) = refl

pub used_is : (there : Resource → Bool) (uses : List Use) (role : Role) (r : Resource) → used_so role (footprint_in there uses) r ≡ (there r && uses_in role uses r)
used_is there uses Read r = refl
used_is there uses Write r = refl
used_is there uses Mix r = refl

pub node_line_is : (there : Resource → Bool) (h : Held) → has_synth h ≡ true → ◌≡◌ {A = ℤ → List ℕ} (λ id. node_line there id (held_sight h)) (λ id. foot_line id (units_of h) (used_by there h))
node_line_is there held.Group synth = absurd (cc)
node_line_is there (held.Synth def controls state) synth = refl

pub no_line : (there : Resource → Bool) (h : Held) → has_synth h ≡ false → ◌≡◌ {A = ℤ → List ℕ} (λ id. node_line there id (held_sight h)) (λ id. [])
no_line there held.Group group = refl
no_line there (held.Synth def controls state) group = absurd (cc)

-- one more resource of a bank
pub filter_next : (test : Resource → Bool) (of : ℕ → Resource) (n : ℕ) (before : List Resource) → (before ++ filter test (table of n)) ++ filter test (of n ∷ []) ≡ before ++ filter test (table of (n + 1))
unfolding table
filter_next test of n before = append_assoc before (filter test (table of n)) (filter test (of n ∷ []))
    ∙ ap (λ rs. before ++ rs) (sym (filter-append test (table of n) (of n ∷ [])) ∙ ap (λ m. filter test (table of m)) (sym (add-one n)))

pub filter_none : (test : Resource → Bool) (of : ℕ → Resource) → filter test (table of 0) ≡ []
unfolding table
filter_none test of = refl

-- the three banks
pub filter_banks : (test : Resource → Bool) (a c b : List Resource) → resources ≡ a ++ (c ++ b) → (([] ++ filter test a) ++ filter test c) ++ filter test b ≡ filter test resources
filter_banks test a c b e =
    append_assoc (filter test a) (filter test c) (filter test b)
    ∙ ap (λ rs. filter test a ++ rs) (sym (filter-append test c b))
    ∙ sym (filter-append test a (c ++ b))
    ∙ ap (filter test) (sym e)

pub banks_are : resources ≡ table Audio 128 ++ (table Control 1024 ++ table Buffer 1024)
unfolding resources
banks_are = refl
