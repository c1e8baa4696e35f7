-- The payloads that were put in since a journal was opened are dropped.
use Rattle.std.proofs.Common.{◌≡◌, ◌≢◌, ℕ, ◌+◌, ◌<◌, ◌≤◌, true, false, List, [], ◌∷◌, ◌++◌, reverse, Some, None, sym, ap, ◌∙◌, ⊎_elim, arith}
use Rattle.std.specs.Prelude.{◌==◌, if◌then◌else◌}
use Rattle.std.proofs.lemmas.Bool.Decides.{eqb_tells}
use Rattle.std.proofs.lemmas.List.{reverse-append}
use Rattle.slab.specs.Slab.{Slab, get, Updates}
use Rattle.sn_tree.specs.Kept.{same_key, times}

-- of these keys some are left, and the payloads under the others are gone
pub record IsDropping {P : Type 0} (keys : List ℕ) (old : Slab P) (rest : List ℕ) (new : Slab P) : Type 0 where
  pub fewer : (key : ℕ) → times (Some key) rest ≤ times (Some key) keys
  pub others : (key : ℕ) → times (Some key) rest ≡ times (Some key) keys → get new key ≡ get old key
  pub dropped : (key : ℕ) → times (Some key) rest < times (Some key) keys → get new key ≡ None

last_first : (xs ys : List ℕ) (key : ℕ) → xs ≡ ys ++ key ∷ [] → reverse xs ≡ key ∷ reverse ys
last_first xs ys key e = ap reverse e ∙ reverse-append ys (key ∷ [])

pub dropping_next : {P : Type 0} (keys : List ℕ) (old new new' : Slab P) (rest after : List ℕ) (last : ℕ)
    → IsDropping keys old (reverse rest) new → rest ≡ after ++ last ∷ [] → Updates new new' last None → IsDropping keys old (reverse after) new'
dropping_next keys old new new' rest after last h e u = record {
  fewer = λ key. omega (arith, counts key, h.fewer key);
  others = λ key same.
      ⊎_elim
      (λ (q : ((last == key) ≡ true) × (last ≡ key)).
      let one : ◌≡◌ {A = ℕ} (if same_key (Some last) (Some key) then 1 else 0) 1 = ap (λ b. if b then 1 else 0) q.0 in
      absurd (omega (arith, counts key, one, same, h.fewer key)))
      (λ (q : ((last == key) ≡ false) × (last ≢ key)).
      let no : ◌≡◌ {A = ℕ} (if same_key (Some last) (Some key) then 1 else 0) 0 = ap (λ b. if b then 1 else 0) q.0 in
      u.others key (λ r. q.1 (sym r)) ∙ h.others key (omega (arith, counts key, no, same)))
      (eqb_tells last key);
  dropped = λ key less.
      ⊎_elim
      (λ (q : ((last == key) ≡ true) × (last ≡ key)). ap (get new') (sym q.1) ∙ u.changed)
      (λ (q : ((last == key) ≡ false) × (last ≢ key)).
      let no : ◌≡◌ {A = ℕ} (if same_key (Some last) (Some key) then 1 else 0) 0 = ap (λ b. if b then 1 else 0) q.0 in
      u.others key (λ r. q.1 (sym r)) ∙ h.dropped key (omega (arith, counts key, no, less)))
      (eqb_tells last key);
}
  where
    counts : (key : ℕ) → times (Some key) (reverse rest) ≡ (if same_key (Some last) (Some key) then 1 else 0) + times (Some key) (reverse after)
    counts key = ap (times (Some key)) (last_first rest after last e)
