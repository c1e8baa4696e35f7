-- Jobs that mix three words into their own.
use Rattle.std.specs.Prelude.{ℕ, ◌+◌, ◌-◌, ◌*◌, ◌%◌, ◌^◌, ◌≡◌, true, false, List, length, slice_index, slice_set}
use Rattle.std.proofs.Common.{Bool, cond, get_or, set, sym, refl, ap, ◌∙◌, subst, ⊎_elim, inl, inr, arith, true≢false, length-set, get_or-set_same, get_or-set_other, ◌<◌, ◌≤◌, ◌⊎◌}
use Rattle.std.proofs.lemmas.Bool.{cases_Bool, cases_eq, cases_lt, or_left}
use Rattle.std.proofs.lemmas.List.{set_past}
use Rattle.sn_mem.specs.declared.extents.Foot.{Foot}
use Rattle.sn_mem.specs.Words.{has, writes, touches}

abbrev pub mix : ℕ → ℕ → ℕ → ℕ
mix own near far = ((((((own * 31) % 2 ^ 64 + near) % 2 ^ 64) * 31) % 2 ^ 64 + far) % 2 ^ 64 + 1) % 2 ^ 64

-- the word x, if the foot touches it
abbrev pub seen : Foot → List ℕ → ℕ → ℕ
seen f ws x = cond (touches f x) (slice_index ws x) 0

-- what the job j makes of its own word
abbrev pub blend : Foot → ℕ → List ℕ → ℕ
blend f j ws = mix (seen f ws j) (seen f ws (j - 5)) (seen f ws (j - 8))

-- the words after the job j, which writes the word j if its foot has it
abbrev pub mixed : Foot → ℕ → List ℕ → List ℕ
mixed f j ws = cond (writes f j) (slice_set ws j (blend f j ws)) ws

long_by : (b : Bool) (ws us : List ℕ) → length us ≡ length ws → length (cond b us ws) ≡ length ws
long_by true ws us e = e
long_by false ws us e = refl

pub mixed_long : (f : Foot) (j : ℕ) (ws : List ℕ) → length (mixed f j ws) ≡ length ws
mixed_long f j ws = long_by (writes f j) ws (slice_set ws j (blend f j ws)) (length-set ws j (blend f j ws))

else_by : (b : Bool) (x : ℕ) (ws us : List ℕ) → (b ≡ true → get_or us x 0 ≡ get_or ws x 0) → get_or (cond b us ws) x 0 ≡ get_or ws x 0
else_by true x ws us e = e refl
else_by false x ws us e = refl

pub mixed_else : (f : Foot) (j x : ℕ) (ws : List ℕ) → writes f x ≡ false → slice_index (mixed f j ws) x ≡ slice_index ws x
mixed_else f j x ws off = else_by (writes f j) x ws (slice_set ws j (blend f j ws))
    (λ on. get_or-set_other ws j x (blend f j ws) 0 (λ e. true≢false (sym on ∙ (ap (writes f) (sym e) ∙ off))))

seen_by : (b : Bool) (us ws : List ℕ) (x : ℕ) → (b ≡ true → get_or us x 0 ≡ get_or ws x 0) → cond b (get_or us x 0) 0 ≡ cond b (get_or ws x 0) 0
seen_by true us ws x e = e refl
seen_by false us ws x e = refl

same_seen : (f : Foot) (us ws : List ℕ) → ((x : ℕ) → touches f x ≡ true → slice_index us x ≡ slice_index ws x) → (x : ℕ) → seen f us x ≡ seen f ws x
same_seen f us ws same x = seen_by (touches f x) us ws x (same x)

blend_same : (f : Foot) (j : ℕ) (us ws : List ℕ) → ((x : ℕ) → touches f x ≡ true → slice_index us x ≡ slice_index ws x) → blend f j us ≡ blend f j ws
blend_same f j us ws same =
    let a = same_seen f us ws same j in
    let b = same_seen f us ws same (j - 5) in
    let c = same_seen f us ws same (j - 8) in
    λ i. mix (a i) (b i) (c i)

set_same : (us ws : List ℕ) (j x a : ℕ) → length us ≡ length ws → get_or us x 0 ≡ get_or ws x 0 → get_or (set us j a) x 0 ≡ get_or (set ws j a) x 0
set_same us ws j x a long e = ⊎_elim
    (λ (is : j ≡ x). subst (λ y. get_or (set us j a) y 0 ≡ get_or (set ws j a) y 0) is (⊎_elim
    (λ (l : j < length us). get_or-set_same us j a 0 l ∙ sym (get_or-set_same ws j a 0 (omega (arith, l, long))))
    (λ (g : length us ≤ j).
    let p : get_or us j 0 ≡ get_or ws j 0 = subst (λ y. get_or us y 0 ≡ get_or ws y 0) (sym is) e in
    ap (λ (l : List ℕ). get_or l j 0) (set_past us j a g) ∙ (p ∙ sym (ap (λ (l : List ℕ). get_or l j 0) (set_past ws j a (omega (arith, g, long))))))
    (cases_lt j (length us))))
    (λ (no : j ≡ x → ⊥). get_or-set_other us j x a 0 (λ q. no (sym q)) ∙ (e ∙ sym (get_or-set_other ws j x a 0 (λ q. no (sym q)))))
    (cases_eq j x)

by_foot_by : (b : Bool) (us ws : List ℕ) (j x a c : ℕ) → length us ≡ length ws → a ≡ c → get_or us x 0 ≡ get_or ws x 0 → get_or (cond b (set us j a) us) x 0 ≡ get_or (cond b (set ws j c) ws) x 0
by_foot_by true us ws j x a c long same e = ap (λ v. get_or (set us j v) x 0) same ∙ set_same us ws j x c long e
by_foot_by false us ws j x a c long same e = e

pub mixed_by_foot : (f : Foot) (j : ℕ) (us ws : List ℕ) → length us ≡ length ws → ((x : ℕ) → touches f x ≡ true → slice_index us x ≡ slice_index ws x) → (x : ℕ) → writes f x ≡ true
    → slice_index (mixed f j us) x ≡ slice_index (mixed f j ws) x
mixed_by_foot f j us ws long same x wr = by_foot_by (writes f j) us ws j x (blend f j us) (blend f j ws) long (blend_same f j us ws same)
    (same x (or_left (has f.writes x) (has f.reads x) wr))
