-- Where units have their words of state.
use Rattle.std.proofs.Common.{◌≡◌, ◌≤◌, ◌<◌, ℕ, zero, suc, ◌+◌, get_or, length, List, [], ◌∷◌, ◌++◌, Option, Some, None, take, drop, append_assoc, sym, ap, subst, ◌∙◌, arith, IfSome}
use Rattle.std.specs.Prelude.{slice_get}
use Rattle.std.proofs.lemmas.List.{drop_more}
use Rattle.std.proofs.lemmas.Option.{slice_get-get_or}
use Rattle.sn_def.specs.declared.unit.Unit.{Unit as UnitLine}
use Rattle.sn_def.specs.declared.layout.UnitWords.{UnitWords}
use Rattle.sn_def.specs.StateWords.{unit_words, units_words}
use Rattle.sn_def.specs.Layout.{words_from, laid_out, words_if_there, words_at}

-- the words of the first units are no more than those of all
pub fewer : (rate : ℕ) (us : List UnitLine) (n : ℕ) → units_words rate (take n us) ≤ units_words rate us
fewer rate [] zero = omega arith
fewer rate [] (suc n) = omega arith
fewer rate (u ∷ us) zero = omega arith
fewer rate (u ∷ us) (suc n) = omega (arith, fewer rate us n)

rest_of : (us : List UnitLine) (i : ℕ) (u : UnitLine) → i < length us → u ≡ get_or us i u → drop i us ≡ u ∷ drop (i + 1) us
rest_of us i u lt is = drop_more us i u lt ∙ ap (λ (v : UnitLine). v ∷ drop (i + 1) us) (sym is)

-- one more unit is laid out
pub one_more : (rate : ℕ) (us : List UnitLine) (i : ℕ) (u : UnitLine) (first count : ℕ) (rows new : List UnitWords) → i < length us → u ≡ get_or us i u → count ≡ unit_words rate u → new ≡ rows ++ words_from first count ∷ []
    → rows ++ laid_out rate first (drop i us) ≡ laid_out rate 0 us → new ++ laid_out rate (first + count) (drop (i + 1) us) ≡ laid_out rate 0 us
one_more rate us i u first count rows new lt is size e so_far =
    let left = drop (i + 1) us in
    ap (λ (xs : List UnitWords). xs ++ laid_out rate (first + count) left) e
    ∙ append_assoc rows (words_from first count ∷ []) (laid_out rate (first + count) left)
    ∙ ap (λ (n : ℕ). rows ++ words_from first n ∷ laid_out rate (first + n) left) size
    ∙ ap (λ (vs : List UnitLine). rows ++ laid_out rate first vs) (sym (rest_of us i u lt is))
    ∙ so_far

pub one_less : (rate : ℕ) (us : List UnitLine) (i : ℕ) (u : UnitLine) (first count : ℕ) → i < length us → u ≡ get_or us i u → count ≡ unit_words rate u
    → first + units_words rate (drop i us) ≡ units_words rate us → first + count + units_words rate (drop (i + 1) us) ≡ units_words rate us
one_less rate us i u first count lt is size so_far = omega (arith, size, so_far, ap (units_words rate) (rest_of us i u lt is))

-- what stands at a number
at_number : (rate first : ℕ) (us : List UnitLine) (n : ℕ) → IfSome (slice_get (laid_out rate first us) n) (λ w. w ≡ words_from (first + units_words rate (take n us)) (words_if_there rate (slice_get us n)))
at_number rate first [] n = tt
at_number rate first (u ∷ us) zero = ap (λ (m : ℕ). words_from m (unit_words rate u)) (omega arith)
at_number rate first (u ∷ us) (suc n) =
    more (slice_get (laid_out rate (first + unit_words rate u) us) n) (at_number rate (first + unit_words rate u) us n)
  where
    more : (o : Option UnitWords) → IfSome o (λ w. w ≡ words_from (first + unit_words rate u + units_words rate (take n us)) (words_if_there rate (slice_get us n)))
        → IfSome o (λ w. w ≡ words_from (first + (unit_words rate u + units_words rate (take n us))) (words_if_there rate (slice_get us n)))
    more None h = tt
    more (Some w) h = h ∙ ap (λ (m : ℕ). words_from m (words_if_there rate (slice_get us n))) (omega arith)

pub kept_at : (rate : ℕ) (us : List UnitLine) (rows : List UnitWords) (n : ℕ) → rows ≡ laid_out rate 0 us → IfSome (slice_get rows n) (λ w. w ≡ words_at rate us n)
kept_at rate us rows n e =
    let P : ℕ → Type 0 = λ (m : ℕ). IfSome (slice_get (laid_out rate 0 us) n) (λ w. w ≡ words_from m (words_if_there rate (slice_get us n))) in
    rw e (subst P (omega arith) (at_number rate 0 us n))

-- the words of the unit at a number
pub count_is : (rate : ℕ) (us vs : List UnitLine) (n i : ℕ) (u : UnitLine) (w : UnitWords) → w ≡ words_at rate vs n → n ≡ i → us ≡ vs → i < length us → u ≡ get_or us i u → w.count ≡ unit_words rate u
count_is rate us vs n i u w e same of lt is =
    ap (λ (w : UnitWords). w.count) e
    ∙ (ap (λ (k : ℕ). words_if_there rate (slice_get vs k)) same
    ∙ (ap (λ (us : List UnitLine). words_if_there rate (slice_get us i)) (sym of)
    ∙ (ap (words_if_there rate) (slice_get-get_or us i u lt) ∙ ap (unit_words rate) (sym is))))

pub first_is : (rate : ℕ) (us vs : List UnitLine) (n i : ℕ) (w : UnitWords) → w ≡ words_at rate vs n → n ≡ i → us ≡ vs → w.first ≡ units_words rate (take i us)
first_is rate us vs n i w e same of =
    ap (λ (w : UnitWords). w.first) e ∙ (ap (λ (k : ℕ). units_words rate (take k vs)) same ∙ ap (λ (us : List UnitLine). units_words rate (take i us)) (sym of))
