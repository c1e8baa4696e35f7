-- Finding a detached subtree, and putting it back.
use Rattle.std.proofs.Common.{◌≡◌, ◌+◌, ◌≤◌, ◌<◌, ℤ, Bool, true, false, not, nat_lt, List, [], ◌∷◌, ◌++◌, Some, None, sym, refl, ap, ◌∙◌, ⊎_elim}
use Rattle.std.specs.Prelude.{if◌then◌else◌}
use Rattle.std.specs.Ordering.{int_eq}
use Rattle.std.proofs.lemmas.Bool.{cases_lt, or_parts, lt-ltb, le-ltb}
use Rattle.sn_tree.specs.declared.node.AddAction.{AddAction}
use Rattle.sn_tree.specs.declared.node.TreeFault.{TreeFault}
use Rattle.sn_tree.specs.declared.node.TreeFault.TheVariants.{NoNode, InUse, NotGroup, IsRoot, TooMany}
use Rattle.sn_tree.specs.Trees.{Nodes, none, node, count, has_top, last_top, shares}
use Rattle.sn_tree.specs.Faults.{first_fault, spot_fault, attach_fault, is_missing, is_beside_root, is_in_synth}
use Rattle.sn_tree.proofs.Following.{none_holds}

-- why a subtree can't be put in

no_last : {P : Type 0} (id : ℤ) (d : Nodes P) → has_top id d ≡ false → last_top id d ≡ none
no_last id none h = refl
no_last id (node label below after) h = let e = or_parts (int_eq label.id id) (has_top id after) h in rw (e.1, e.0) refl

refused_first : (ts us : List (Bool × TreeFault)) (x : TreeFault) → first_fault ts ≡ Some x → first_fault (ts ++ us) ≡ Some x
refused_first [] us x h = cc
refused_first ((true, f) ∷ ts) us x h = h
refused_first ((false, f) ∷ ts) us x h = refused_first ts us x h

allowed_first : (ts us : List (Bool × TreeFault)) → first_fault ts ≡ None → first_fault (ts ++ us) ≡ first_fault us
allowed_first [] us h = refl
allowed_first ((true, f) ∷ ts) us h = cc
allowed_first ((false, f) ∷ ts) us h = allowed_first ts us h

module _ {P : Type 0} (id : ℤ) (action : AddAction) (target : ℤ) (t d : Nodes P) where
  pub no_top : has_top id d ≡ false → attach_fault id action target t d ≡ Some NoNode
  no_top h = let e : shares (last_top id d) t ≡ false = ap (λ l. shares l t) (no_last id d h) in rw (e, h) refl

  pub in_use : shares (last_top id d) t ≡ true → attach_fault id action target t d ≡ Some InUse
  in_use h = rw h refl

  abbrev spot_tests : List (Bool × TreeFault)
  spot_tests = (is_missing target t, NoNode) ∷ (is_beside_root action target, IsRoot) ∷ (is_in_synth action target t, NotGroup) ∷ []

  abbrev size_test : List (Bool × TreeFault)
  size_test = (nat_lt 4096 (count t + count (last_top id d)), TooMany) ∷ []

  module _ (apart : shares (last_top id d) t ≡ false) (held : has_top id d ≡ true) where
    tests_left : attach_fault id action target t d ≡ first_fault (spot_tests ++ size_test)
    tests_left = rw (apart, held) refl

    pub spot_refused : (x : TreeFault) → spot_fault action target t ≡ Some x → attach_fault id action target t d ≡ Some x
    spot_refused x h = tests_left ∙ refused_first spot_tests size_test x h

    pub too_many : spot_fault action target t ≡ None → 4096 < count t + count (last_top id d) → attach_fault id action target t d ≡ Some TooMany
    too_many h l = tests_left ∙ (allowed_first spot_tests size_test h ∙ ap (λ b. if b then Some TooMany else None) (lt-ltb 4096 (count t + count (last_top id d)) l))

    pub can_attach : spot_fault action target t ≡ None → count t + count (last_top id d) ≤ 4096 → attach_fault id action target t d ≡ None
    can_attach h l = tests_left ∙ (allowed_first spot_tests size_test h ∙ ap (λ b. if b then Some TooMany else None) (le-ltb 4096 (count t + count (last_top id d)) l))

-- a subtree put in

pub attach_few : {P : Type 0} (id : ℤ) (action : AddAction) (target : ℤ) (t d : Nodes P) → attach_fault id action target t d ≡ None → count t + count (last_top id d) ≤ 4096
attach_few id action target t d h =
    let no : nat_lt 4096 (count t + count (last_top id d)) ≡ false = (none_holds ((shares (last_top id d) t, InUse) ∷ (not (has_top id d), NoNode) ∷ (is_missing target t, NoNode) ∷ (is_beside_root action target, IsRoot) ∷ (is_in_synth action target t, NotGroup) ∷ (nat_lt 4096 (count t + count (last_top id d)), TooMany) ∷ []) h).1.1.1.1.1.0 in
    ⊎_elim (λ (l : 4096 < count t + count (last_top id d)). let bad : true ≡ false = sym (lt-ltb 4096 (count t + count (last_top id d)) l) ∙ no in cc) (λ (l : count t + count (last_top id d) ≤ 4096). l) (cases_lt 4096 (count t + count (last_top id d)))
