-- Requests that are judged, and what is left of them.
use Rattle.std.proofs.Common.{◌≡◌, ◌<◌, ◌+◌, ℕ, zero, suc, Bool, true, false, List, [], ◌∷◌, ◌++◌, length, drop, set, get_or, inl, inr, refl, ap, sym, subst, ◌∙◌, arith, true≢false, append_assoc}
use Rattle.std.specs.Prelude.{if◌then◌else◌}
use Rattle.std.proofs.lemmas.List.{length-map, map-append, drop_more}
use Rattle.sn_nodecmd.specs.declared.latest.Judged.{Judged}
use Rattle.sn_nodecmd.specs.Covering.{IsCovered, AreLeft, AreJudged, items_in, uncovered}

module _ {A : Type 0} where
  -- none is said to be covered
  abbrev pub Unmarked : List (Judged A) → Type 0
  Unmarked [] = Unit {0}
  Unmarked (j ∷ js) = (j.is_covered ≡ false) × Unmarked js

  unmarked-more : (js : List (Judged A)) (j : Judged A) → j.is_covered ≡ false → Unmarked js → Unmarked (js ++ j ∷ [])
  unmarked-more [] j none u = (none, tt)
  unmarked-more (k ∷ js) j none u = (u.0, unmarked-more js j none u.1)

  pub unmarked-pushed : (js new : List (Judged A)) (j : Judged A) → new ≡ js ++ j ∷ [] → j.is_covered ≡ false → Unmarked js → Unmarked new
  unmarked-pushed js new j pushed none u = subst Unmarked (sym pushed) (unmarked-more js j none u)

  pub items-next : (js new : List (Judged A)) (r : A) (b : Bool) (rs : List A) (i : ℕ) → i < length rs → new ≡ js ++ record { item = r; is_covered = b } ∷ [] → r ≡ get_or rs i r
      → items_in new ++ drop (i + 1) rs ≡ items_in js ++ drop i rs
  items-next js new r b rs i within pushed is =
      let j : Judged A = record { item = r; is_covered = b } in
      ap (λ (all : List (Judged A)). items_in all ++ drop (i + 1) rs) pushed
      ∙ ap (λ (all : List A). all ++ drop (i + 1) rs) (map-append (λ (x : Judged A). x.item) js (j ∷ []))
      ∙ append_assoc (items_in js) (r ∷ []) (drop (i + 1) rs)
      ∙ ap (λ (x : A). items_in js ++ x ∷ drop (i + 1) rs) is
      ∙ ap (λ (all : List A). items_in js ++ all) (sym (drop_more rs i r within))

  pub mark-items : (js : List (Judged A)) (i : ℕ) (d : Judged A) → i < length js → items_in (set js i (record { item = (get_or js i d).item; is_covered = true })) ≡ items_in js
  mark-items [] i d within = absurd (omega arith)
  mark-items (j ∷ js) zero d within = refl
  mark-items (j ∷ js) (suc i) d within = ap (λ (all : List A). j.item ∷ all) (mark-items js i d (omega arith))

  pub same-length : (js ks : List (Judged A)) → items_in js ≡ items_in ks → length js ≡ length ks
  same-length js ks same = sym (length-map js (λ (j : Judged A). j.item)) ∙ ap length same ∙ length-map ks (λ (j : Judged A). j.item)

module _ {A : Type 0} (covered : A → A → Type 0) where
  pub unmarked-judged : (js : List (Judged A)) → Unmarked js → AreJudged covered js
  unmarked-judged [] u = tt
  unmarked-judged (j ∷ js) u = ((λ marked. absurd (true≢false (sym marked ∙ u.0))), unmarked-judged js u.1)

  covered-at : (r : A) (js : List (Judged A)) (k : ℕ) (d : Judged A) → k < length js → covered r (get_or js k d).item → IsCovered covered r (items_in js)
  covered-at r [] k d within c = absurd (omega arith)
  covered-at r (j ∷ js) zero d within c = inl c
  covered-at r (j ∷ js) (suc k) d within c = inr (covered-at r js k d (omega arith) c)

  pub mark-judged : (js : List (Judged A)) (i k : ℕ) (d e : Judged A) → i < k → k < length js → covered (get_or js i d).item (get_or js k e).item → AreJudged covered js
      → AreJudged covered (set js i (record { item = (get_or js i d).item; is_covered = true }))
  mark-judged [] i k d e after within c a = absurd (omega arith)
  mark-judged (j ∷ js) i zero d e after within c a = absurd (omega arith)
  mark-judged (j ∷ js) zero (suc k) d e after within c a = ((λ _. covered-at j.item js k e (omega arith) c), a.1)
  mark-judged (j ∷ js) (suc i) (suc k) d e after within c a =
      (subst (λ (all : List A). j.is_covered ≡ true → IsCovered covered j.item all) (sym (mark-items js i d (omega arith))) a.0, mark-judged js i k d e (omega arith) (omega arith) c a.1)

  pub all-left : (xs : List A) → AreLeft covered xs xs
  all-left [] = refl
  all-left (x ∷ xs) = inl (xs, (refl, all-left xs))

  pub uncovered-left : (js : List (Judged A)) → AreJudged covered js → AreLeft covered (items_in js) (uncovered js)
  uncovered-left [] a = refl
  uncovered-left (j ∷ js) a = at j.is_covered refl (uncovered-left js a.1)
    where
      at : (b : Bool) → j.is_covered ≡ b → AreLeft covered (items_in js) (uncovered js) → AreLeft covered (items_in (j ∷ js)) (if b then uncovered js else j.item ∷ uncovered js)
      at true e others = inr (a.0 e, others)
      at false e others = inl (uncovered js, (refl, others))
