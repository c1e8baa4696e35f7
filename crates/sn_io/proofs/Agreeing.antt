-- Words that agree: a lemma for each way in which units write and read them.
use Rattle.std.proofs.Common.{◌≡◌, ◌≢◌, ◌≤◌, ◌<◌, ℕ, ◌+◌, Bool, true, List, [], ◌∷◌, ℤ, pos, length, get_or, set, ap, sym, subst, ◌∙◌, ⊎_elim, arith, length-set, get_or-set_same, get_or-set_other}
use Rattle.std.proofs.lemmas.Bool.{cases_eq, cases_lt}
use Rattle.std.proofs.lemmas.List.{get_or_past}
use Rattle.sn_mem.specs.Blocks.{window, put, table, changed}
use Rattle.sn_mem.proofs.Windows.{table_same, window_same}
use Rattle.sn_io.specs.ByFoot.{Agree, BlocksAgree}

-- ---- writing: words that agree are changed alike

pub agree_set : (seen : ℕ → Bool) (us ws : List ℕ) (at v : ℕ) → Agree seen us ws → Agree seen (set us at v) (set ws at v)
agree_set seen us ws at v a = record {
  long = length-set us at v ∙ (a.long ∙ sym (length-set ws at v));
  same = λ x on. ⊎_elim
      (λ (e : x ≡ at). ⊎_elim
      (λ (l : at < length us). ap (λ i. get_or (set us at v) i 0) e ∙ (get_or-set_same us at v 0 l ∙ sym (ap (λ i. get_or (set ws at v) i 0) e ∙ get_or-set_same ws at v 0 (omega (arith, a.long, l)))))
      (λ (g : length us ≤ at). get_or_past (set us at v) x 0 (omega (arith, length-set us at v, g, e)) ∙ sym (get_or_past (set ws at v) x 0 (omega (arith, length-set ws at v, a.long, g, e))))
      (cases_lt at (length us)))
      (λ (d : x ≢ at). get_or-set_other us at x v 0 d ∙ (a.same x on ∙ sym (get_or-set_other ws at x v 0 d)))
      (cases_eq x at);
}

put_agree : (seen : ℕ → Bool) (us ws : List ℕ) (at : ℕ) (xs : List ℕ) → Agree seen us ws → Agree seen (put us at xs) (put ws at xs)
unfolding put
put_agree seen us ws at [] a = a
put_agree seen us ws at (x ∷ xs) a = put_agree seen (set us at x) (set ws at x) (at + 1) xs (agree_set seen us ws at x a)

pub agree_put : (seen : ℕ → Bool) (us ws : List ℕ) (at : ℕ) (xs ys : List ℕ) → xs ≡ ys → Agree seen us ws → Agree seen (put us at xs) (put ws at ys)
agree_put seen us ws at xs ys e a = let P : List ℕ → Type 0 = λ (ys : List ℕ). Agree seen (put us at xs) (put ws at ys) in subst P e (put_agree seen us ws at xs a)

-- ---- reading: from a place on, so many words that are all seen

abbrev pub AreSeen : (ℕ → Bool) → ℕ → ℕ → Type 0
AreSeen seen at n = (j : ℕ) → at ≤ j → j < at + n → seen j ≡ true

pub agree_window : (seen : ℕ → Bool) (us ws : List ℕ) (at n : ℕ) → AreSeen seen at n → Agree seen us ws → window us at n ≡ window ws at n
agree_window seen us ws at n on a = window_same us ws at n (λ k lt. a.same (at + k) (on (at + k) (omega arith) (omega (arith, lt))))

-- 64 words, each changed from what stood there
pub agree_changed : (seen : ℕ → Bool) (g : ℕ → ℤ → ℕ) (us ws : List ℕ) (at : ℕ) (xs : List ℤ) → AreSeen seen at 64 → Agree seen us ws → Agree seen (changed g us at xs) (changed g ws at xs)
agree_changed seen g us ws at xs on a =
    let F : ℕ → ℕ = λ k. g (get_or us (at + k) 0) (get_or xs k (pos 0)) in
    let G : ℕ → ℕ = λ k. g (get_or ws (at + k) 0) (get_or xs k (pos 0)) in
    agree_put seen us ws at (table F 64) (table G 64) (table_same F G 64 (λ k lt. ap (λ w. g w (get_or xs k (pos 0))) (a.same (at + k) (on (at + k) (omega arith) (omega (arith, lt)))))) a

-- what a unit makes of its state alone
pub agree_state : (seen : ℕ → Bool) (make : List ℕ → List ℕ × List (List ℤ)) (us ws : List ℕ) (at n : ℕ) → AreSeen seen at n → Agree seen us ws
    → BlocksAgree seen (put us at (make (window us at n)).0, (make (window us at n)).1) (put ws at (make (window ws at n)).0, (make (window ws at n)).1)
agree_state seen make us ws at n on a =
    let e : window us at n ≡ window ws at n = agree_window seen us ws at n on a in record {
      words = agree_put seen us ws at (make (window us at n)).0 (make (window ws at n)).0 (ap (λ (st : List ℕ). (make st).0) e) a;
      outputs = ap (λ (st : List ℕ). (make st).1) e;
    }
