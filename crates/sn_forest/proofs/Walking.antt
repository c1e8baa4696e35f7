-- From a node on: what a walk reaches next.
use Rattle.std.proofs.Common.{◌≡◌, ◌≢◌, ℕ, ◌≤◌, Some, None, sym, refl, ap, ◌∙◌, subst, arith}
use Rattle.std.specs.Prelude.{if◌then◌else◌}
use Rattle.sn_forest.specs.Trees.{Trees, none, tree, uses, has_key, first_key, joined}
use Rattle.sn_forest.specs.Walking.{from}
use Rattle.sn_forest.proofs.Keys.{same_key, other_key, one_same, apart, missing, present, joined-joined}
use Rattle.sn_forest.proofs.Paths.{Path, top, under, beside, plug, path_uses, uses-plug}

pub none_first : (n : ℕ) → None ≡ Some n → ⊥
none_first n e = cc

pub some_first : (m n : ℕ) → Some m ≡ Some n → m ≡ n
some_first m n e = cc

module _ {T : Type 0} where
  -- what a walk reaches after these, which fill the hole
  abbrev pub onward : Path T → Trees T → Trees T
  onward top t = t
  onward (under key value after p) t = onward p (joined t after)
  onward (beside key value below p) t = onward p t

  pub onward-joined : (p : Path T) (s t : Trees T) → onward p (joined s t) ≡ joined s (onward p t)
  onward-joined top s t = refl
  onward-joined (under key value after p) s t = ap (onward p) (joined-joined s t after) ∙ onward-joined p s (joined t after)
  onward-joined (beside key value below p) s t = onward-joined p s t

  from_step_below : (k key : ℕ) (value : T) (below after : Trees T) → key ≢ k → 1 ≤ uses k below → from k (tree key value below after) ≡ joined (from k below) after
  from_step_below k key value below after n u = (λ i. if other_key key k n i then tree key value below after else if present k below u i then joined (from k below) after else from k after)

  from_step_after : (k key : ℕ) (value : T) (below after : Trees T) → key ≢ k → uses k below ≡ 0 → from k (tree key value below after) ≡ from k after
  from_step_after k key value below after n z = (λ i. if other_key key k n i then tree key value below after else if missing k below z i then joined (from k below) after else from k after)

  pub from_plug : (k : ℕ) (p : Path T) (t : Trees T) → 1 ≤ uses k t → path_uses k p ≡ 0 → from k (plug p t) ≡ onward p (from k t)
  from_plug k top t u z = refl
  from_plug k (under key value after p) t u z =
      from_plug k p (tree key value t after) (omega (arith, u)) (omega (arith, z))
      ∙ ap (onward p) (from_step_below k key value t after (apart key k (omega (arith, z))) u)
  from_plug k (beside key value below p) t u z =
      from_plug k p (tree key value below t) (omega (arith, u)) (omega (arith, z))
      ∙ ap (onward p) (from_step_after k key value below t (apart key k (omega (arith, z))) (omega (arith, z)))

  from_here : (k : ℕ) (value : T) (below after : Trees T) → from k (tree k value below after) ≡ tree k value below after
  from_here k value below after = ap (λ b. if b then tree k value below after else if has_key k below then joined (from k below) after else from k after) (same_key k)

  pub from_found : (k : ℕ) (p : Path T) (value : T) (below after : Trees T) → path_uses k p ≡ 0 → from k (plug p (tree k value below after)) ≡ tree k value below (onward p after)
  from_found k p value below after z =
      from_plug k p (tree k value below after) (omega (arith, one_same k)) z
      ∙ (ap (onward p) (from_here k value below after) ∙ onward-joined p (tree k value below none) after)

  -- the next node begins what comes after the trees in the hole
  from_onward : (n : ℕ) (p : Path T) (t : Trees T) → ((j : ℕ) → uses j (plug p t) ≤ 1) → first_key (onward p none) ≡ Some n → from n (plug p t) ≡ onward p none
  from_onward n top t once e = absurd (none_first n e)
  from_onward n (under key value none p) t once e = from_onward n p (tree key value t none) once e
  from_onward n (under key value (tree m w c d) p) t once e =
      let here : m ≡ n = some_first m n (sym (ap first_key (onward-joined p (tree m w c none) d)) ∙ e) in
      subst (λ x. from x (plug p (tree key value t (tree m w c d))) ≡ onward p (tree m w c d)) here
      (from_found m (beside key value t p) w c d (omega (arith, once m, uses-plug m p (tree key value t (tree m w c d)), one_same m))
      ∙ sym (onward-joined p (tree m w c none) d))
  from_onward n (beside key value below p) t once e = from_onward n p (tree key value below t) once e

  -- the next node begins what comes from the hole on
  from_hole : (n : ℕ) (p : Path T) (t : Trees T) → ((j : ℕ) → uses j (plug p t) ≤ 1) → first_key (onward p t) ≡ Some n → from n (plug p t) ≡ onward p t
  from_hole n p none once e = from_onward n p none once e
  from_hole n p (tree m w c d) once e =
      let here : m ≡ n = some_first m n (sym (ap first_key (onward-joined p (tree m w c none) d)) ∙ e) in
      subst (λ x. from x (plug p (tree m w c d)) ≡ onward p (tree m w c d)) here
      (from_found m p w c d (omega (arith, once m, uses-plug m p (tree m w c d), one_same m))
      ∙ sym (onward-joined p (tree m w c none) d))

  pub next_behind_node : (k n : ℕ) (p : Path T) (value : T) (below after : Trees T) → ((j : ℕ) → uses j (plug p (tree k value below after)) ≤ 1)
      → first_key (joined below (onward p after)) ≡ Some n → from n (plug p (tree k value below after)) ≡ joined below (onward p after)
  next_behind_node k n p value below after once e =
      from_hole n (under k value after p) below once (ap first_key (onward-joined p below after) ∙ e) ∙ onward-joined p below after

  pub next_behind_tree : (k n : ℕ) (p : Path T) (value : T) (below after : Trees T) → ((j : ℕ) → uses j (plug p (tree k value below after)) ≤ 1)
      → first_key (onward p after) ≡ Some n → from n (plug p (tree k value below after)) ≡ onward p after
  next_behind_tree k n p value below after once e = from_hole n (beside k value below p) after once e
