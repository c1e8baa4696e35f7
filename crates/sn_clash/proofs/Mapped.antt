-- What is at a number, and the clashes of nodes, if payloads are changed.
use Rattle.std.proofs.Common.{◌≡◌, ℕ, zero, suc, Bool, ◌&&◌, ◌||◌, List, [], ◌∷◌, ◌++◌, Option, None, get_or, refl, ap, ◌∙◌, map, take}
use Rattle.std.specs.Prelude.{if◌then◌else◌, nat_lt, is_some}
use Rattle.std.specs.List.{list_any}
use Rattle.std.specs.Option.{option_map}
use Rattle.sn_tree.specs.Trees.{Label, Nodes, none, node, running_labels, with_payloads}
use Rattle.sn_tree.proofs.PayloadLaws.{relabelled}
use Rattle.sn_tree.proofs.Walking.{running-payloads}
use Rattle.sn_world.proofs.DefsLemmas.{is_some-map}
use Rattle.sn_foot.specs.declared.resource.Resource.{Resource}
use Rattle.sn_foot.specs.declared.resource.Resource.TheVariants.{Audio, Control, Buffer}
use Rattle.sn_foot.specs.declared.uses.Role.{Role}
use Rattle.sn_foot.specs.declared.uses.Role.TheVariants.{Read, Write, Mix}
use Rattle.sn_foot.specs.Footprints.{Footprint, is_there}
use Rattle.sn_clash.specs.Clashing.{Member, clashes, clashes_among, footprint, is_parallel, members}

-- ---- what is at a number

pub at_map : {A B : Type 0} (f : A → B) (os : List (Option A)) (n : ℕ) → get_or (map (option_map f) os) n None ≡ option_map f (get_or os n None)
at_map f [] n = refl
at_map f (o ∷ os) zero = refl
at_map f (o ∷ os) (suc n) = at_map f os n

pub there_map : {A B : Type 0} (f : A → B) (os : List (Option A)) (r : Resource) → is_there (map (option_map f) os) r ≡ is_there os r
there_map f os (Audio n) = refl
there_map f os (Control n) = refl
there_map f os (Buffer n) = ap (λ b. nat_lt n 1024 && b) (ap is_some (at_map f os n) ∙ is_some-map f (get_or os n None))

-- ---- other payloads

module _ {P Q : Type 0} (f : P → Q) where
  any_mapped : (test : Q → Bool) (ls : List (Label P)) → list_any (λ (l : Label Q). test l.payload) (map (relabelled f) ls) ≡ list_any (λ (l : Label P). test (f l.payload)) ls
  any_mapped test [] = refl
  any_mapped test (l ∷ ls) = ap (λ b. test (f l.payload) || b) (any_mapped test ls)

  module _ (there : Resource → Bool) (uses : Role → Q → Resource → Bool) where
    footprint_mapped : (t : Nodes P) → footprint there uses (running_labels (with_payloads f t)) ≡ footprint there (λ role p. uses role (f p)) (running_labels t)
    footprint_mapped t =
        ap (λ ls. footprint there uses ls) (running-payloads f t)
        ∙ (λ i. record {
          reads = λ r. there r && any_mapped (λ q. uses Read q r) (running_labels t) i;
          writes = λ r. there r && any_mapped (λ q. uses Write q r) (running_labels t) i;
          mixes = λ r. there r && any_mapped (λ q. uses Mix q r) (running_labels t) i;
        })

    members_mapped : (t : Nodes P) → members there uses (with_payloads f t) ≡ members there (λ role p. uses role (f p)) t
    members_mapped none = refl
    members_mapped (node label below after) =
        ap (λ (u : Footprint). record { id = label.id; uses = u } ∷ members there uses (with_payloads f after)) (footprint_mapped (node label below none))
        ∙ ap (λ (ms : List Member). record { id = label.id; uses = footprint there (λ role p. uses role (f p)) (running_labels (node label below none)) } ∷ ms) (members_mapped after)

    pub clashes_mapped : (t : Nodes P) → clashes there uses (with_payloads f t) ≡ clashes there (λ role p. uses role (f p)) t
    clashes_mapped none = refl
    clashes_mapped (node label below after) =
        λ i. if label.running
        then (if is_parallel label.kind then take 1 (clashes_among label.id (members_mapped below i)) else []) ++ (clashes_mapped below i ++ clashes_mapped after i)
        else clashes_mapped after i
