-- Fills that are put after a row.
use Rattle.std.proofs.Common.{◌≡◌, ◌≤◌, ◌<◌, ◌+◌, ◌-◌, ⊎_elim, ℕ, ℤ, List, [], ◌∷◌, ◌++◌, drop, length, min, max, Some, None, refl, ap, sym, ◌∙◌, subst, arith}
use Rattle.std.specs.Option.{option_or}
use Rattle.std.proofs.lemmas.Bool.{cases_lt}
use Rattle.std.proofs.lemmas.List.{drop_all}
use Rattle.sn_fills.specs.declared.fill.Fill.{Fill}
use Rattle.sn_fills.specs.Fills.{fill_at, last_at}
use Rattle.sn_fills.specs.Rows.{LieInOrder, IsPut, ArePut}
use Rattle.sn_fills.proofs.Lying.{set-inside, none-below, none-above, or-none, last-append, order-within, order-lower, order-put, none-before, none-behind}

-- ---- one fill

-- x is the part of f from `end` up to `until`
record IsPart (f : Fill) (until end : ℕ) (x : Fill) : Type 0 where
  first : x.first ≡ max f.first end
  behind : x.first + x.count ≡ min (f.first + f.count) until
  some : 0 < x.count
  value : x.value ≡ f.value

same-part : (f : Fill) (until end : ℕ) (x : Fill) (n : ℕ) → IsPart f until end x → end ≤ n → n < until → fill_at n x ≡ fill_at n f
same-part f until end x n is low high = ⊎_elim
    (λ (before : n < f.first). none-below n x (omega (arith, is.first, before)) ∙ sym (none-below n f before))
    (λ (from : f.first ≤ n). ⊎_elim
    (λ (inside : n < f.first + f.count). set-inside n x (omega (arith, is.first, from, low)) (omega (arith, is.behind, inside, high)) ∙ ap Some is.value ∙ sym (set-inside n f from inside))
    (λ (behind : f.first + f.count ≤ n). none-above n x (omega (arith, is.behind, behind)) ∙ sym (none-above n f behind))
    (cases_lt n (f.first + f.count)))
    (cases_lt n f.first)

put-alone : (n end : ℕ) (old : List Fill) (x : Fill) → LieInOrder 0 end old → end ≤ n → last_at n (old ++ x ∷ []) ≡ fill_at n x
put-alone n end old x order high =
    last-append n old (x ∷ []) ∙ ap (option_or (fill_at n x)) (none-behind n 0 end old order high) ∙ or-none (fill_at n x)

put-kept : (n : ℕ) (old : List Fill) (x : Fill) → n < x.first → last_at n (old ++ x ∷ []) ≡ last_at n old
put-kept n old x low = last-append n old (x ∷ []) ∙ ap (λ o. option_or o (last_at n old)) (none-below n x low)

part-put : (f : Fill) (until end : ℕ) (old : List Fill) (x : Fill) → LieInOrder 0 end old → IsPart f until end x → IsPut f until end old (x.first + x.count) (old ++ x ∷ [])
part-put f until end old x order is = record {
  order = order-put 0 end old x order (omega (arith, is.first)) is.some;
  grows = omega (arith, is.first);
  limit = omega (arith, is.behind);
  kept = λ n low. put-kept n old x (omega (arith, is.first, low));
  set = λ n low high. put-alone n end old x order low ∙ same-part f until end x n is low high;
}

pub some-put : (f : Fill) (until end : ℕ) (old : List Fill) (first count : ℕ) (value : ℤ) (behind : ℕ) → LieInOrder 0 end old
    → first ≡ max f.first end → behind ≡ min (f.first + f.count) until → first < behind → count ≡ behind - first → value ≡ f.value
    → IsPut f until end old behind (old ++ record { first = first; count = count; value = value } ∷ [])
some-put f until end old first count value behind order is-first is-behind some is-count is-value =
    let x : Fill = record { first = first; count = count; value = value } in
    let whole : first + count ≡ behind = omega arith in
    let part : IsPart f until end x = record { first = is-first; behind = whole ∙ is-behind; some = omega arith; value = is-value } in
    subst (λ k. IsPut f until end old k (old ++ x ∷ [])) whole (part-put f until end old x order part)

no-part : (f : Fill) (until end n : ℕ) → min (f.first + f.count) until ≤ max f.first end → end ≤ n → n < until → fill_at n f ≡ None
no-part f until end n none low high = ⊎_elim
    (λ (before : n < f.first). none-below n f before)
    (λ (from : f.first ≤ n). none-above n f (omega arith))
    (cases_lt n f.first)

pub none-put : (f : Fill) (until end : ℕ) (old : List Fill) → LieInOrder 0 end old → min (f.first + f.count) until ≤ max f.first end → IsPut f until end old end old
none-put f until end old order none = record {
  order = order;
  grows = omega arith;
  limit = omega arith;
  kept = λ n low. refl;
  set = λ n low high. none-behind n 0 end old order low ∙ sym (no-part f until end n none low high);
}

-- ---- several

-- so far those before `next` were put
pub record ArePutSoFar (fs : List Fill) (until next end : ℕ) (old : List Fill) (now : ℕ) (new : List Fill) : Type 0 where
  pub order : LieInOrder 0 now new
  pub grows : end ≤ now
  pub limit : now ≤ until
  pub kept : (n : ℕ) → n < end → last_at n new ≡ last_at n old
  pub set : (n : ℕ) → end ≤ n → n < now → last_at n new ≡ last_at n fs
  pub left : (n : ℕ) → now ≤ n → last_at n (drop next fs) ≡ last_at n fs
  pub rest : LieInOrder 0 4294967295 (drop next fs)

pub none-so-far : (fs : List Fill) (until next end : ℕ) (old : List Fill) → LieInOrder 0 end old → end ≤ until → ((n : ℕ) → end ≤ n → last_at n (drop next fs) ≡ last_at n fs)
    → LieInOrder 0 4294967295 (drop next fs) → ArePutSoFar fs until next end old end old
none-so-far fs until next end old order le left rest = record {
  order = order;
  grows = omega arith;
  limit = le;
  kept = λ n low. refl;
  set = λ n low high. absurd (omega arith);
  left = left;
  rest = rest;
}

-- the first of those that are left
next-first : (n : ℕ) (f : Fill) (fs : List Fill) → LieInOrder 0 4294967295 (f ∷ fs) → n < f.first + f.count → last_at n (f ∷ fs) ≡ fill_at n f
next-first n f fs order low = ap (λ o. option_or o (fill_at n f)) (none-before n (f.first + f.count) 4294967295 fs order.2 low)

next-over : (n : ℕ) (f : Fill) (fs : List Fill) → fill_at n f ≡ None → last_at n (f ∷ fs) ≡ last_at n fs
next-over n f fs none = ap (option_or (last_at n fs)) none ∙ or-none (last_at n fs)

module _ (fs : List Fill) (until next end : ℕ) (old : List Fill) (now : ℕ) (mid : List Fill) (f : Fill) (so-far : ArePutSoFar fs until next end old now mid)
    (is : drop next fs ≡ f ∷ drop (next + 1) fs) (later : ℕ) (new : List Fill) (put : IsPut f until now mid later new) where
  ordered : LieInOrder 0 4294967295 (f ∷ drop (next + 1) fs)
  ordered = subst (LieInOrder 0 4294967295) is so-far.rest

  -- what the fills set from here on
  here : (n : ℕ) → now ≤ n → last_at n fs ≡ last_at n (f ∷ drop (next + 1) fs)
  here n low = sym (so-far.left n low) ∙ ap (last_at n) is

  kept-on : (n : ℕ) → n < end → last_at n new ≡ last_at n old
  kept-on n low = put.kept n (omega (arith, low, so-far.grows)) ∙ so-far.kept n low

  set-on : (n : ℕ) → end ≤ n → n < until → (now ≤ n → n < f.first + f.count) → last_at n new ≡ last_at n fs
  set-on n low high inside = ⊎_elim
      (λ (l : n < now). put.kept n l ∙ so-far.set n low l)
      (λ (m : now ≤ n). put.set n m high ∙ sym (here n m ∙ next-first n f (drop (next + 1) fs) ordered (inside m)))
      (cases_lt n now)

  limit-on : later ≤ until
  limit-on = omega (arith, put.limit, so-far.limit)

  none-on : (n : ℕ) → later ≤ n → f.first + f.count ≤ until → fill_at n f ≡ None
  none-on n low whole = ⊎_elim
      (λ (l : n < until). sym (put.set n (omega (arith, put.grows)) l) ∙ none-behind n 0 later new put.order low)
      (λ (m : until ≤ n). none-above n f (omega arith))
      (cases_lt n until)

  -- a fill that ends by `until`
  pub more-put : f.first + f.count ≤ until → ArePutSoFar fs until (next + 1) end old later new
  more-put whole = record {
    order = put.order;
    grows = omega (arith, so-far.grows, put.grows);
    limit = limit-on;
    kept = kept-on;
    set = λ n low high. set-on n low (omega (arith, limit-on, high)) (λ from. omega (arith, put.limit, high, from));
    left = λ n low. sym (here n (omega (arith, put.grows)) ∙ next-over n f (drop (next + 1) fs) (none-on n low whole));
    rest = order-lower (f.first + f.count) 0 4294967295 (drop (next + 1) fs) (omega arith) ordered.2;
  }

  -- one that goes on beyond
  pub last-put : until < f.first + f.count → ArePut fs until next end old later new
  last-put beyond = record {
    order = put.order;
    grows = omega (arith, so-far.grows, put.grows);
    limit = limit-on;
    kept = kept-on;
    set = λ n low high. set-on n low high (λ from. omega (arith, high, beyond));
    left = λ n low. so-far.left n (omega (arith, put.grows));
  }

-- all are put
pub all-put : (fs : List Fill) (until next end : ℕ) (old : List Fill) (now : ℕ) (new : List Fill) → ArePutSoFar fs until next end old now new → length fs ≤ next
    → ArePut fs until (length fs) end old now new
all-put fs until next end old now new so-far all =
    let none : (n : ℕ) → now ≤ n → last_at n fs ≡ None = λ n low. sym (so-far.left n low) ∙ ap (last_at n) (drop_all next fs all) in
    record {
      order = so-far.order;
      grows = so-far.grows;
      limit = so-far.limit;
      kept = so-far.kept;
      set = λ n low high. ⊎_elim
          (λ (l : n < now). so-far.set n low l)
          (λ (m : now ≤ n). none-behind n 0 now new so-far.order m ∙ sym (none n m))
          (cases_lt n now);
      left = λ n low. ap (last_at n) (drop_all (length fs) fs (omega arith)) ∙ sym (none n low);
    }

-- the next one ends below 2^32
pub next-short : (fs : List Fill) (next : ℕ) (f : Fill) → LieInOrder 0 4294967295 (drop next fs) → drop next fs ≡ f ∷ drop (next + 1) fs → f.first + f.count ≤ 4294967295
next-short fs next f order is =
    let parts : LieInOrder 0 4294967295 (f ∷ drop (next + 1) fs) = subst (LieInOrder 0 4294967295) is order in
    order-within (f.first + f.count) 4294967295 (drop (next + 1) fs) parts.2
