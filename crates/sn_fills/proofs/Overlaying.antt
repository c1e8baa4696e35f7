-- Later fills over earlier ones.
use Rattle.std.proofs.Common.{◌≡◌, ◌≤◌, ◌<◌, ◌+◌, ⊎_elim, ℕ, List, [], ◌∷◌, drop, take, length, get_or, All, Some, None, ap, sym, ◌∙◌, subst, arith}
use Rattle.std.specs.Option.{option_or}
use Rattle.std.proofs.lemmas.Bool.{cases_lt}
use Rattle.std.proofs.lemmas.List.{drop_all, nil_from_length}
use Rattle.std.proofs.lemmas.List.Elements.{All-nil, All-cons}
use Rattle.sn_fills.specs.declared.fill.Fill.{Fill}
use Rattle.sn_fills.specs.Fills.{fill_at, last_at}
use Rattle.sn_fills.specs.Rows.{LieInOrder, IsPut, ArePut, IsInOrder, IsOverlaid}
use Rattle.sn_fills.proofs.Lying.{set-inside, none-below, none-above, or-none, last-halves, order-within, order-lower, order-wider, none-before, none-behind}

-- Below `now` the row sets what the later fills set, and elsewhere what the earlier ones set. From there on those that
-- are left decide: the later ones from the number `index` on, and the earlier ones from `next` on.
pub record IsOverlaidSoFar (earlier later : List Fill) (index next now : ℕ) (new : List Fill) : Type 0 where
  pub order : LieInOrder 0 now new
  pub set : (n : ℕ) → n < now → last_at n new ≡ option_or (last_at n later) (last_at n earlier)
  pub rest : LieInOrder now 4294967295 (drop index later)
  pub later-left : (n : ℕ) → now ≤ n → last_at n (drop index later) ≡ last_at n later
  pub earlier-left : (n : ℕ) → now ≤ n → last_at n (drop next earlier) ≡ last_at n earlier

module _ (earlier later : List Fill) (index next now : ℕ) (new : List Fill) (f : Fill) (so-far : IsOverlaidSoFar earlier later index next now new)
    (is : drop index later ≡ f ∷ drop (index + 1) later) where
  abbrev rest : List Fill
  rest = drop (index + 1) later

  pub ordered : LieInOrder now 4294967295 (f ∷ rest)
  ordered = subst (LieInOrder now 4294967295) is so-far.rest

  -- the place where the next fill begins, and that where it ends
  pub begins : now ≤ f.first
  begins = ordered.0

  pub short : f.first + f.count ≤ 4294967295
  short = order-within (f.first + f.count) 4294967295 rest ordered.2

  here : (n : ℕ) → now ≤ n → last_at n later ≡ option_or (last_at n rest) (fill_at n f)
  here n low = sym (so-far.later-left n low) ∙ ap (last_at n) is

  below : (n : ℕ) → now ≤ n → n < f.first → last_at n later ≡ None
  below n low high = sym (so-far.later-left n low) ∙ none-before n f.first 4294967295 (drop index later) (subst (LieInOrder f.first 4294967295) (sym is) (omega arith, ordered.1, ordered.2)) high

  within : (n : ℕ) → f.first ≤ n → n < f.first + f.count → last_at n later ≡ Some f.value
  within n low high =
      here n (omega (arith, begins, low))
      ∙ ap (λ o. option_or o (fill_at n f)) (none-before n (f.first + f.count) 4294967295 rest ordered.2 high)
      ∙ set-inside n f low high

  module _ (next' mid : ℕ) (row : List Fill) (before : ArePut earlier f.first next' now new mid row) (last : ℕ) (all : List Fill) (put : IsPut f 4294967295 mid row last all) where
    -- places before the fill
    set-before : (n : ℕ) → now ≤ n → n < f.first → last_at n row ≡ option_or (last_at n later) (last_at n earlier)
    set-before n low high = before.set n low high ∙ ap (λ o. option_or o (last_at n earlier)) (sym (below n low high))

    -- places in it
    set-within : (n : ℕ) → f.first ≤ n → n < f.first + f.count → mid ≤ n → last_at n all ≡ option_or (last_at n later) (last_at n earlier)
    set-within n low high from =
        put.set n from (omega (arith, short, high)) ∙ set-inside n f low high
        ∙ ap (λ o. option_or o (last_at n earlier)) (sym (within n low high))

    -- places between the row and the fill, which no fill covers
    set-between : (n : ℕ) → mid ≤ n → n < f.first → last_at n all ≡ option_or (last_at n later) (last_at n earlier)
    set-between n low high =
        put.set n low (omega (arith, short, high)) ∙ none-below n f high
        ∙ sym (none-behind n 0 mid row before.order low) ∙ set-before n (omega (arith, before.grows, low)) high

    set-all : (n : ℕ) → n < last → last_at n all ≡ option_or (last_at n later) (last_at n earlier)
    set-all n high = ⊎_elim
        (λ (l : n < mid). put.kept n l ∙ ⊎_elim
        (λ (old : n < now). before.kept n old ∙ so-far.set n old)
        (λ (from : now ≤ n). set-before n from (omega (arith, before.limit, l)))
        (cases_lt n now))
        (λ (m : mid ≤ n). ⊎_elim
        (λ (low : n < f.first). set-between n m low)
        (λ (from : f.first ≤ n). set-within n from (omega (arith, put.limit, high, m)) m)
        (cases_lt n f.first))
        (cases_lt n mid)

    -- the fill sets nothing after the row
    over : (n : ℕ) → last ≤ n → fill_at n f ≡ None
    over n low = ⊎_elim
        (λ (l : n < 4294967295). sym (put.set n (omega (arith, put.grows, low)) l) ∙ none-behind n 0 last all put.order low)
        (λ (m : 4294967295 ≤ n). none-above n f (omega (arith, short, m)))
        (cases_lt n 4294967295)

    ends : last ≤ f.first + f.count
    ends = omega (arith, put.limit, before.limit)

    pub more-overlaid : IsOverlaidSoFar earlier later (index + 1) next' last all
    more-overlaid = record {
      order = put.order;
      set = set-all;
      rest = order-lower (f.first + f.count) last 4294967295 rest ends ordered.2;
      later-left = λ n low.
          let from : now ≤ n = omega (arith, low, put.grows, before.grows) in
          sym (here n from ∙ ap (option_or (last_at n rest)) (over n low) ∙ or-none (last_at n rest));
      earlier-left = λ n low. before.left n (omega (arith, low, put.grows));
    }

-- what is left of the earlier ones is put
pub all-overlaid : (earlier later : List Fill) (index next now : ℕ) (new : List Fill) → LieInOrder 0 4294967295 earlier → LieInOrder 0 4294967295 later
    → IsOverlaidSoFar earlier later index next now new → length later ≤ index → (next' last : ℕ) (all : List Fill) → ArePut earlier 4294967295 next' now new last all → IsOverlaid earlier later all
all-overlaid earlier later index next now new first second so-far done next' last all put =
    let none : (n : ℕ) → now ≤ n → last_at n later ≡ None = λ n low. sym (so-far.later-left n low) ∙ ap (last_at n) (drop_all index later done) in
    record {
      order = order-wider 0 last 4294967295 all put.limit put.order;
      same = λ n. ⊎_elim
          (λ (l : n < now). put.kept n l ∙ so-far.set n l)
          (λ (m : now ≤ n). ⊎_elim
          (λ (k : n < 4294967295). put.set n m k ∙ ap (λ o. option_or o (last_at n earlier)) (sym (none n m)))
          (λ (k : 4294967295 ≤ n). none-behind n 0 last all put.order (omega (arith, put.limit, k))
          ∙ sym (none-behind n 0 4294967295 earlier first k) ∙ ap (λ o. option_or o (last_at n earlier)) (sym (none n m)))
          (cases_lt n 4294967295))
          (cases_lt n now);
    }

-- ---- halves

pub halves-in-order : (fs : List Fill) (m : ℕ) (one two all : List Fill) → IsInOrder (take m fs) one → IsInOrder (drop m fs) two → IsOverlaid one two all → IsInOrder fs all
halves-in-order fs m one two all first second over = record {
  order = over.order;
  same = λ n. over.same n ∙ (λ i. option_or (second.same n i) (first.same n i)) ∙ last-halves n m fs;
}

-- ---- none is empty

pub order-some : (from until : ℕ) (fs : List Fill) → LieInOrder from until fs → All (λ (f : Fill). 0 < f.count) fs
order-some from until [] h = All-nil (λ (f : Fill). 0 < f.count)
order-some from until (f ∷ fs) h = All-cons (λ (g : Fill). 0 < g.count) f fs h.1 (order-some (f.first + f.count) until fs h.2)

-- ---- one fill

pub one-in-order : (f : Fill) (end : ℕ) (new : List Fill) → f.first + f.count < 4294967296 → IsPut f 4294967295 0 [] end new → IsInOrder (f ∷ []) new
one-in-order f end new short put = record {
  order = order-wider 0 end 4294967295 new (omega (arith, put.limit, short)) put.order;
  same = λ n. ⊎_elim
      (λ (l : n < 4294967295). put.set n (omega arith) l)
      (λ (m : 4294967295 ≤ n). none-behind n 0 end new put.order (omega (arith, put.limit, short, m)) ∙ sym (none-above n f (omega (arith, short, m))))
      (cases_lt n 4294967295);
}

pub only : (fs : List Fill) (d : Fill) → length fs ≡ 1 → fs ≡ get_or fs 0 d ∷ []
only [] d one = absurd (omega (arith, one))
only (f ∷ fs) d one = ap (λ (gs : List Fill). f ∷ gs) (nil_from_length fs (omega (arith, one)))
