-- Controls of which some keep their values.
use Rattle.std.proofs.Common.{◌≡◌, ℕ, ℤ, zero, suc, pos, Bool, true, false, ◌||◌, List, [], ◌∷◌, get_or, set, Option, None, refl, ap, sym}
use Rattle.std.specs.List.{list_any}
use Rattle.sn_def.specs.declared.control.Control.{Control}
use Rattle.sn_synth.specs.Conditions.{no_control}
use Rattle.sn_foot.specs.declared.resource.Resource.{Resource}
use Rattle.sn_foot.specs.declared.resource.Resource.TheVariants as resources
use Rattle.sn_foot.specs.Footprints.{follows}
use Rattle.sn_layout.specs.Layout.{kept_value, kept_values}

-- a control whose number passes the test has its value
pub value_stays : (test : ℕ → Bool) (cs : List Control) (k : ℕ) → test k ≡ true → (get_or (kept_values test cs) k no_control).value ≡ (get_or cs k no_control).value
value_stays test [] k e = refl
value_stays test (c ∷ cs) zero e = ap (λ b. (kept_value b c).value) e
value_stays test (c ∷ cs) (suc k) e = value_stays (λ n. test (suc n)) cs k e

follows_too : (b : Bool) (c : Control) (r : Resource) → follows (kept_value b c) r ≡ follows c r
follows_too true c r = refl
follows_too false c (resources.Audio n) = refl
follows_too false c (resources.Control n) = refl
follows_too false c (resources.Buffer n) = refl

pub follow_too : (test : ℕ → Bool) (cs : List Control) (r : Resource) → list_any (λ c. follows c r) (kept_values test cs) ≡ list_any (λ c. follows c r) cs
follow_too test [] r = refl
follow_too test (c ∷ cs) r = λ i. follows_too (test zero) c r i || follow_too (λ n. test (suc n)) cs r i

-- ---- a value that is set

abbrev pub plain : ℤ → Control
plain v = record { value = v; bus = None }

without_value : (b : Bool) (c : Control) (v : ℤ) → b ≡ false → c.bus ≡ None → kept_value b (plain v) ≡ kept_value b c
without_value true c v off free = absurd cc
without_value false c v off free = ap (λ (o : Option ℕ). let d : Control = record { value = pos 0; bus = o } in d) (sym free)

-- of a control that is not kept and follows no bus
pub set_unseen : (test : ℕ → Bool) (cs : List Control) (k : ℕ) (v : ℤ) → test k ≡ false → (get_or cs k no_control).bus ≡ None → kept_values test (set cs k (plain v)) ≡ kept_values test cs
set_unseen test [] k v off free = refl
set_unseen test (c ∷ cs) zero v off free = ap (λ d. d ∷ kept_values (λ n. test (suc n)) cs) (without_value (test zero) c v off free)
set_unseen test (c ∷ cs) (suc k) v off free = ap (λ ds. kept_value (test zero) c ∷ ds) (set_unseen (λ n. test (suc n)) cs k v off free)

-- and the buses that are followed are the same
pub same_buses : (cs : List Control) (k : ℕ) (v : ℤ) → (get_or cs k no_control).bus ≡ None → (j : ℕ) → (get_or (set cs k (plain v)) j no_control).bus ≡ (get_or cs j no_control).bus
same_buses [] k v free j = refl
same_buses (c ∷ cs) zero v free zero = sym free
same_buses (c ∷ cs) zero v free (suc j) = refl
same_buses (c ∷ cs) (suc k) v free zero = refl
same_buses (c ∷ cs) (suc k) v free (suc j) = same_buses cs k v free j
