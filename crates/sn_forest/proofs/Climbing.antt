-- From a node up to the nearest one that others follow, within the tree of a top.
use Rattle.std.proofs.Common.{◌≡◌, ◌≢◌, ℕ, ◌+◌, ◌<◌, ◌≤◌, Bool, true, false, Option, Some, None, sym, refl, ap, ◌∙◌, subst, ⊎_elim, arith}
use Rattle.std.specs.Prelude.{◌==◌, if◌then◌else◌}
use Rattle.std.proofs.lemmas.Bool.{cases_eq}
use Rattle.sn_forest.specs.declared.links.Links.{Links}
use Rattle.sn_forest.specs.Trees.{Trees, none, tree, count, uses, has_key, first_key, last_key, joined, subtree, links_of}
use Rattle.sn_forest.specs.Walking.{from, behind_node, behind_tree}
use Rattle.sn_forest.proofs.Keys.{one_same, one_other, count-joined}
use Rattle.sn_forest.proofs.Paths.{Path, top, under, beside, plug, parent_of, previous_of, path_uses, uses-plug, Found, found}
use Rattle.sn_forest.proofs.Passing.{subtree_found, links_found}
use Rattle.sn_forest.proofs.Walking.{onward, onward-joined, from_found, none_first, some_first}

some_links : (a b : Links) → Some a ≡ Some b → a ≡ b
some_links a b e = cc

none_links : (a : Links) → None ≡ Some a → ⊥
none_links a e = cc

module _ {T : Type 0} where
  -- a path that goes on with another
  abbrev pub over : Path T → Path T → Path T
  over top q = q
  over (under key value after p) q = under key value after (over p q)
  over (beside key value below p) q = beside key value below (over p q)

  pub plug-over : (p q : Path T) (t : Trees T) → plug (over p q) t ≡ plug q (plug p t)
  plug-over top q t = refl
  plug-over (under key value after p) q t = plug-over p q (tree key value t after)
  plug-over (beside key value below p) q t = plug-over p q (tree key value below t)

  -- the tree of a top by itself
  abbrev pub alone : ℕ → T → Path T
  alone k value = under k value none top

  pub parent_over : (p : Path T) (k : ℕ) (value : T) (after : Trees T) (q : Path T) → parent_of (over p (under k value after q)) ≡ parent_of (over p (alone k value))
  parent_over top k value after q = refl
  parent_over (under key v a p) k value after q = refl
  parent_over (beside key v b p) k value after q = parent_over p k value after q

  -- the parent of a hole's trees, and what a walk reaches from there on
  pub record Climb (p : Path T) (k : ℕ) (value : T) (t : Trees T) : Type 0 where
    pub key : ℕ
    pub held : T
    pub below : Trees T
    pub parent : parent_of (over p (alone k value)) ≡ Some key
    pub from_there : from key (plug (over p (alone k value)) t) ≡ tree key held below (onward (over p (alone k value)) none)
    pub more : count t ≤ count below
    pub used : 1 ≤ uses key (plug (over p (alone k value)) t)

  pub climb : (p : Path T) (k : ℕ) (value : T) (t : Trees T) → ((j : ℕ) → uses j (plug (over p (alone k value)) t) ≤ 1) → Climb p k value t
  climb top k value t once = record {
    key = k;
    held = value;
    below = t;
    parent = refl;
    from_there = from_found k top value t none refl;
    more = omega arith;
    used = omega (arith, one_same k);
  }
  climb (under key v a p) k value t once = record {
    key = key;
    held = v;
    below = t;
    parent = refl;
    from_there = from_found key (over p (alone k value)) v t a (omega (arith, once key, uses-plug key (over p (alone k value)) (tree key v t a), one_same key));
    more = omega arith;
    used = omega (arith, uses-plug key (over p (alone k value)) (tree key v t a), one_same key);
  }
  climb (beside key v b p) k value t once =
      let c : Climb p k value (tree key v b t) = climb p k value (tree key v b t) once in
      record { key = c.key; held = c.held; below = c.below; parent = c.parent; from_there = c.from_there; more = omega (arith, c.more); used = c.used }

  -- a node within the tree of a top: the top itself, or one below it
  pub record Inside (trees : Trees T) (k at : ℕ) : Type 0 where
    pub outer : Path T
    pub value : T
    pub behind : Trees T
    pub path : Path T
    pub held : T
    pub below : Trees T
    pub after : Trees T
    pub whole : trees ≡ plug (over path (under k value behind outer)) (tree at held below after)
    pub within : subtree k trees ≡ plug (over path (alone k value)) (tree at held below after)

  pub inside : (trees : Trees T) (k at : ℕ) → ((j : ℕ) → uses j trees ≤ 1) → 1 ≤ uses k trees → 1 ≤ uses at (subtree k trees) → at ≢ k → Inside trees k at
  inside trees k at once u v n =
      let f : Found k trees = found k top trees u in
      let z : path_uses k f.path ≡ 0 = omega (arith, once k, ap (λ x. uses k x) f.is, uses-plug k f.path (tree k f.value f.below f.after), one_same k) in
      let sub : subtree k trees ≡ tree k f.value f.below none = ap (subtree k) f.is ∙ subtree_found f.path k f.value f.below f.after z in
      let deep : 1 ≤ uses at f.below = omega (arith, v, ap (λ x. uses at x) sub, one_other k at (λ e. n (sym e))) in
      let g : Found at f.below = found at top f.below deep in
      let whole_in : plug f.path (tree k f.value f.below f.after) ≡ plug f.path (tree k f.value (plug g.path (tree at g.value g.below g.after)) f.after) = ap (λ x. plug f.path (tree k f.value x f.after)) g.is in
      let whole_over : plug f.path (tree k f.value (plug g.path (tree at g.value g.below g.after)) f.after) ≡ plug (over g.path (under k f.value f.after f.path)) (tree at g.value g.below g.after) = sym (plug-over g.path (under k f.value f.after f.path) (tree at g.value g.below g.after)) in
      let whole_from : plug f.path (tree k f.value f.below f.after) ≡ plug (over g.path (under k f.value f.after f.path)) (tree at g.value g.below g.after) = whole_in ∙ whole_over in
      let whole_is : trees ≡ plug (over g.path (under k f.value f.after f.path)) (tree at g.value g.below g.after) = f.is ∙ whole_from in
      let within_in : tree k f.value f.below none ≡ tree k f.value (plug g.path (tree at g.value g.below g.after)) none = ap (λ x. tree k f.value x none) g.is in
      let within_over : tree k f.value (plug g.path (tree at g.value g.below g.after)) none ≡ plug (over g.path (alone k f.value)) (tree at g.value g.below g.after) = sym (plug-over g.path (alone k f.value) (tree at g.value g.below g.after)) in
      let within_from : tree k f.value f.below none ≡ plug (over g.path (alone k f.value)) (tree at g.value g.below g.after) = within_in ∙ within_over in
      let within_is : subtree k trees ≡ plug (over g.path (alone k f.value)) (tree at g.value g.below g.after) = sub ∙ within_from in
      record {
        outer = f.path;
        value = f.value;
        behind = f.after;
        path = g.path;
        held = g.value;
        below = g.below;
        after = g.after;
        whole = whole_is;
        within = within_is;
      }

  -- the tree of a node has no key twice
  pub once_within : (trees : Trees T) (k : ℕ) → ((j : ℕ) → uses j trees ≤ 1) → 1 ≤ uses k trees → (j : ℕ) → uses j (subtree k trees) ≤ 1
  once_within trees k once u j =
      let f : Found k trees = found k top trees u in
      let z : path_uses k f.path ≡ 0 = omega (arith, once k, ap (λ x. uses k x) f.is, uses-plug k f.path (tree k f.value f.below f.after), one_same k) in
      let sub : subtree k trees ≡ tree k f.value f.below none = ap (subtree k) f.is ∙ subtree_found f.path k f.value f.below f.after z in
      omega (arith, once j, ap (λ x. uses j x) sub, ap (λ x. uses j x) f.is, uses-plug j f.path (tree k f.value f.below f.after))

  -- the search goes up: what comes after the tree of `at` is what comes after that of `key`
  pub record IsClimbing (trees : Trees T) (key k at : ℕ) : Type 0 where
    pub node : 1 ≤ uses at (subtree k trees)
    pub same : first_key (behind_tree (from at (subtree k trees))) ≡ first_key (behind_tree (from key (subtree k trees)))

  module _ (trees : Trees T) (key k at : ℕ) (once : (j : ℕ) → uses j trees ≤ 1) (u : 1 ≤ uses k trees) (h : IsClimbing trees key k at) (links : Links) (l : links_of at trees ≡ Some links) (n : at ≢ k) where
    abbrev i : Inside trees k at
    i = inside trees k at once u h.node n

    here_once : path_uses at (over i.path (under k i.value i.behind i.outer)) ≡ 0
    here_once = omega (arith, once at, ap (λ x. uses at x) i.whole, uses-plug at (over i.path (under k i.value i.behind i.outer)) (tree at i.held i.below i.after), one_same at)

    sub_once : (j : ℕ) → uses j (plug (over i.path (alone k i.value)) (tree at i.held i.below i.after)) ≤ 1
    sub_once j = omega (arith, once_within trees k once u j, ap (λ x. uses j x) i.within)

    from_at : from at (subtree k trees) ≡ tree at i.held i.below (onward (over i.path (alone k i.value)) i.after)
    from_at = ap (from at) i.within ∙ from_found at (over i.path (alone k i.value)) i.held i.below i.after
        (omega (arith, sub_once at, uses-plug at (over i.path (alone k i.value)) (tree at i.held i.below i.after), one_same at))

    links_are : Some links ≡ Some (record { parent = parent_of (over i.path (under k i.value i.behind i.outer)); previous = previous_of (over i.path (under k i.value i.behind i.outer)); next = first_key i.after; first = first_key i.below; last = last_key None i.below })
    links_are = sym l ∙ (ap (links_of at) i.whole ∙ links_found (over i.path (under k i.value i.behind i.outer)) at i.held i.below i.after here_once)

    next_is : links.next ≡ first_key i.after
    next_is = ap (λ (x : Links). x.next) (some_links links (record { parent = parent_of (over i.path (under k i.value i.behind i.outer)); previous = previous_of (over i.path (under k i.value i.behind i.outer)); next = first_key i.after; first = first_key i.below; last = last_key None i.below }) links_are)

    parent_is : links.parent ≡ parent_of (over i.path (alone k i.value))
    parent_is = ap (λ (x : Links). x.parent) (some_links links (record { parent = parent_of (over i.path (under k i.value i.behind i.outer)); previous = previous_of (over i.path (under k i.value i.behind i.outer)); next = first_key i.after; first = first_key i.below; last = last_key None i.below }) links_are)
        ∙ parent_over i.path k i.value i.behind i.outer

    first_onward : (p : Path T) (t : Trees T) (m : ℕ) → first_key t ≡ Some m → first_key (onward p t) ≡ Some m
    first_onward p none m e = absurd (none_first m e)
    first_onward p (tree j v b a) m e = ap first_key (onward-joined p (tree j v b none) a) ∙ e

    -- a node follows: it is the one that is sought
    pub climb_found : (m : ℕ) → links.next ≡ Some m → Some m ≡ first_key (behind_tree (from key (subtree k trees)))
    climb_found m e = sym (first_onward (over i.path (alone k i.value)) i.after m (sym next_is ∙ e)) ∙ (sym (ap (λ x. first_key (behind_tree x)) from_at) ∙ h.same)

    first_none : (t : Trees T) → None ≡ first_key t → t ≡ none
    first_none none e = refl
    first_none (tree j v b a) e = absurd (none_first j e)

    -- none follows: the search goes on from the parent
    pub climb_on : links.next ≡ None → (q : ℕ) → links.parent ≡ Some q → IsClimbing trees key k q × (count (from at (subtree k trees)) < count (from q (subtree k trees)))
    climb_on e q p =
        let over_it : Path T = over i.path (alone k i.value) in
        let last : i.after ≡ none = first_none i.after (sym e ∙ next_is) in
        let c : Climb i.path k i.value (tree at i.held i.below i.after) = climb i.path k i.value (tree at i.held i.below i.after) sub_once in
        let same : c.key ≡ q = some_first c.key q (sym c.parent ∙ (sym parent_is ∙ p)) in
        let there : from c.key (subtree k trees) ≡ tree c.key c.held c.below (onward over_it none) = ap (from c.key) i.within ∙ c.from_there in
        let here : from at (subtree k trees) ≡ tree at i.held i.below (onward over_it none) = from_at ∙ ap (λ x. tree at i.held i.below (onward over_it x)) last in
        let less : count (from at (subtree k trees)) < count (from c.key (subtree k trees)) = omega (arith, ap (λ x. count x) here, ap (λ x. count x) there, c.more) in
        let on : IsClimbing trees key k c.key = record {
          node = omega (arith, c.used, ap (λ x. uses c.key x) i.within);
          same = ap (λ x. first_key (behind_tree x)) there ∙ (sym (ap (λ x. first_key (behind_tree x)) here) ∙ h.same);
        } in
        (subst (λ x. IsClimbing trees key k x) same on, subst (λ x. count (from at (subtree k trees)) < count (from x (subtree k trees))) same less)

    pub climb_has_parent : links.parent ≡ None → ⊥
    climb_has_parent p =
        let c : Climb i.path k i.value (tree at i.held i.below i.after) = climb i.path k i.value (tree at i.held i.below i.after) sub_once in
        none_first c.key (sym p ∙ (parent_is ∙ c.parent))

  -- at the top nothing is left
  pub climb_ends : (trees : Trees T) (key k at : ℕ) → ((j : ℕ) → uses j trees ≤ 1) → 1 ≤ uses k trees → IsClimbing trees key k at → at ≡ k → None ≡ first_key (behind_tree (from key (subtree k trees)))
  climb_ends trees key k at once u h e =
      let f : Found k trees = found k top trees u in
      let z : path_uses k f.path ≡ 0 = omega (arith, once k, ap (λ x. uses k x) f.is, uses-plug k f.path (tree k f.value f.below f.after), one_same k) in
      let sub : subtree k trees ≡ tree k f.value f.below none = ap (subtree k) f.is ∙ subtree_found f.path k f.value f.below f.after z in
      sym (ap (λ x. first_key (behind_tree x)) (ap (from k) sub ∙ from_found k top f.value f.below none refl))
      ∙ (ap (λ x. first_key (behind_tree (from x (subtree k trees)))) (sym e) ∙ h.same)

  few_from : (a b : Bool) (t f g below after : Trees T) → count f ≤ count below → count g ≤ count after → 1 + (count below + count after) ≡ count t
      → count (if a then t else if b then joined f after else g) ≤ count t
  few_from true b t f g below after h i e = omega arith
  few_from false true t f g below after h i e = omega (arith, count-joined f after, h, e)
  few_from false false t f g below after h i e = omega (arith, i, e)

  -- what a walk still has to reach are no more nodes than all
  pub count-from : (k : ℕ) (t : Trees T) → count (from k t) ≤ count t
  count-from k none = omega arith
  count-from k (tree key value below after) = few_from (key == k) (has_key k below) (tree key value below after) (from k below) (from k after) below after (count-from k below) (count-from k after) (omega arith)

  -- a node within the tree of a top, and what it is linked with
  pub record Within (trees : Trees T) (k at : ℕ) : Type 0 where
    pub value : T
    pub below : Trees T
    pub rest : Trees T
    pub links : Links
    pub from_there : from at (subtree k trees) ≡ tree at value below rest
    pub told : links_of at trees ≡ Some links
    pub first : links.first ≡ first_key below

  pub within_tree : (trees : Trees T) (k at : ℕ) → ((j : ℕ) → uses j trees ≤ 1) → 1 ≤ uses k trees → 1 ≤ uses at (subtree k trees) → Within trees k at
  within_tree trees k at once u v =
      ⊎_elim
      (λ (e : at ≡ k). subst (λ x. Within trees k x) (sym e)
      (let f : Found k trees = found k top trees u in
      let z : path_uses k f.path ≡ 0 = omega (arith, once k, ap (λ x. uses k x) f.is, uses-plug k f.path (tree k f.value f.below f.after), one_same k) in
      let sub : subtree k trees ≡ tree k f.value f.below none = ap (subtree k) f.is ∙ subtree_found f.path k f.value f.below f.after z in
      let told_of : links_of k (plug f.path (tree k f.value f.below f.after)) ≡ Some (record { parent = parent_of f.path; previous = previous_of f.path; next = first_key f.after; first = first_key f.below; last = last_key None f.below }) =
      links_found f.path k f.value f.below f.after z in
      record {
        value = f.value;
        below = f.below;
        rest = none;
        links = record { parent = parent_of f.path; previous = previous_of f.path; next = first_key f.after; first = first_key f.below; last = last_key None f.below };
        from_there = ap (from k) sub ∙ from_found k top f.value f.below none refl;
        told = ap (links_of k) f.is ∙ told_of;
        first = refl;
      }))
      (λ n.
      let i : Inside trees k at = inside trees k at once u v n in
      let way : Path T = over i.path (under k i.value i.behind i.outer) in
      let z : path_uses at way ≡ 0 = omega (arith, once at, ap (λ x. uses at x) i.whole, uses-plug at way (tree at i.held i.below i.after), one_same at) in
      let y : path_uses at (over i.path (alone k i.value)) ≡ 0 = omega (arith, once_within trees k once u at, ap (λ x. uses at x) i.within, uses-plug at (over i.path (alone k i.value)) (tree at i.held i.below i.after), one_same at) in
      let told_of : links_of at (plug way (tree at i.held i.below i.after)) ≡ Some (record { parent = parent_of way; previous = previous_of way; next = first_key i.after; first = first_key i.below; last = last_key None i.below }) =
      links_found way at i.held i.below i.after z in
      let from_of : from at (plug (over i.path (alone k i.value)) (tree at i.held i.below i.after)) ≡ tree at i.held i.below (onward (over i.path (alone k i.value)) i.after) =
      from_found at (over i.path (alone k i.value)) i.held i.below i.after y in
      record {
        value = i.held;
        below = i.below;
        rest = onward (over i.path (alone k i.value)) i.after;
        links = record { parent = parent_of way; previous = previous_of way; next = first_key i.after; first = first_key i.below; last = last_key None i.below };
        from_there = ap (from at) i.within ∙ from_of;
        told = ap (links_of at) i.whole ∙ told_of;
        first = refl;
      })
      (cases_eq at k)

  first_joined : (s t : Trees T) (n : ℕ) → first_key s ≡ Some n → first_key (joined s t) ≡ Some n
  first_joined none t n e = absurd (none_first n e)
  first_joined (tree k v b a) t n e = e

  no_trees : (t : Trees T) → first_key t ≡ None → t ≡ none
  no_trees none e = refl
  no_trees (tree k v b a) e = absurd (none_first k (sym e))

  pub step_first : (trees : Trees T) (k at : ℕ) (links : Links) (n : ℕ) → ((j : ℕ) → uses j trees ≤ 1) → 1 ≤ uses k trees → 1 ≤ uses at (subtree k trees)
      → Some links ≡ links_of at trees → links.first ≡ Some n → Some n ≡ first_key (behind_node (from at (subtree k trees)))
  step_first trees k at links n once u v l e =
      let w : Within trees k at = within_tree trees k at once u v in
      let same : links ≡ w.links = some_links links w.links (l ∙ w.told) in
      let head : first_key w.below ≡ Some n = sym w.first ∙ (ap (λ (x : Links). x.first) (sym same) ∙ e) in
      sym (ap (λ x. first_key (behind_node x)) w.from_there ∙ first_joined w.below w.rest n head)

  pub step_past : (trees : Trees T) (k at : ℕ) (links : Links) (r : Option ℕ) → ((j : ℕ) → uses j trees ≤ 1) → 1 ≤ uses k trees → 1 ≤ uses at (subtree k trees)
      → Some links ≡ links_of at trees → links.first ≡ None → r ≡ first_key (behind_tree (from at (subtree k trees))) → r ≡ first_key (behind_node (from at (subtree k trees)))
  step_past trees k at links r once u v l e h =
      let w : Within trees k at = within_tree trees k at once u v in
      let same : links ≡ w.links = some_links links w.links (l ∙ w.told) in
      let empty : w.below ≡ none = no_trees w.below (sym w.first ∙ (ap (λ (x : Links). x.first) (sym same) ∙ e)) in
      h ∙ (ap (λ x. first_key (behind_tree x)) w.from_there
      ∙ sym (ap (λ x. first_key (behind_node x)) w.from_there ∙ ap (λ x. first_key (joined x w.rest)) empty))

  pub not_linked : (trees : Trees T) (k at : ℕ) → ((j : ℕ) → uses j trees ≤ 1) → 1 ≤ uses k trees → 1 ≤ uses at (subtree k trees) → None ≡ links_of at trees → ⊥
  not_linked trees k at once u v e =
      let w : Within trees k at = within_tree trees k at once u v in
      none_links w.links (e ∙ w.told)
