-- Quotients and remainders, from one multiple to the next.
use Rattle.std.proofs.Common.{◌≡◌, ◌≤◌, ◌<◌, ℕ, ◌+◌, ◌-◌, ◌*◌, ◌/◌, ℤ, pos, negsuc, ◌+ℤ◌, ◌-ℤ◌, ◌*ℤ◌, ◌≤ℤ◌, unsigned_abs, FitsSigned, arith, ap, sym, ◌∙◌, subst, ⊎_elim, ◌⊎◌, inl, inr}
use Rattle.std.proofs.lemmas.Bool.{cases_lt}
use Rattle.std.specs.Int.{int_rem_euclid, w32}
use Rattle.std.proofs.lemmas.Int.{ints}
use Rattle.sn_fixed.specs.Fixed.{floor}
use Rattle.sn_fixed.specs.Lines.{IsBetween, line_at}
use Rattle.sn_fixed.specs.Divisions.{IsDivided}
use Rattle.sn_fixed.proofs.Portions.{portion_between}
use Rattle.sn_fixed.proofs.HalfWave.{guessed}
use borrow.Author.Differences.{up, down, sum_is_lem}

-- the quotient and the remainder of a division
divided : (z : ℤ) (n : ℕ) → 0 < n → IsDivided z n (floor z n) (unsigned_abs (int_rem_euclid z (pos n)))
divided (pos a) n some = record { parts = omega (arith, ints); small = omega arith }
divided (negsuc a) n some = record { parts = omega (arith, ints); small = omega arith }

-- and no other quotient is
floor_parts : (y : ℤ) (n m : ℕ) → m < n → y ≡ floor (y *ℤ pos n +ℤ pos m) n
floor_parts (pos y) n m lt = ap pos (guessed (y * n + m) n y (omega arith) (omega arith) (omega arith))
floor_parts (negsuc y) n m lt =
    let e : y ≡ (y * n + (n - m - 1)) / n = guessed (y * n + (n - m - 1)) n y (omega arith) (omega arith) (omega arith) in
    let s : negsuc y *ℤ pos n +ℤ pos m ≡ negsuc (y * n + (n - m - 1)) = omega (arith, ints) in
    ap negsuc e ∙ ap (λ z. floor z n) (sym s)

floored : (z : ℤ) (n : ℕ) (q : ℤ) (r : ℕ) → IsDivided z n q r → q ≡ floor z n
floored z n q r h = floor_parts q n r h.small ∙ ap (λ z. floor z n) (sym h.parts)

between : (d y : ℤ) (k n m : ℕ) → k ≤ n → IsDivided (d *ℤ pos k) n y m → IsBetween y d
between d y k n m le h = subst (λ y. IsBetween y d) (sym (floored (d *ℤ pos k) n y m h)) (portion_between d k n le (omega (arith, h.small)))

sides : (z : ℤ) → (pos 0 ≤ℤ z) ⊎ (z ≤ℤ pos 0)
sides (pos n) = inl (omega (arith, ints))
sides (negsuc n) = inr (omega (arith, ints))

sum_times : (y q : ℤ) (n : ℕ) → (y +ℤ q) *ℤ pos n ≡ y *ℤ pos n +ℤ q *ℤ pos n
sum_times y q n =
    let s : (up (y +ℤ q) + down y + down q) * n ≡ (down (y +ℤ q) + up y + up q) * n = ap (λ x. x * n) (sum_is_lem y q) in
    omega (arith, ints, s)

-- the next multiple, with a remainder that may be too great
more : (d q y : ℤ) (k n r m : ℕ) → d ≡ q *ℤ pos n +ℤ pos r → d *ℤ pos k ≡ y *ℤ pos n +ℤ pos m → d *ℤ pos (k + 1) ≡ (y +ℤ q) *ℤ pos n +ℤ pos (m + r)
more d q y k n r m e f = omega (arith, ints, sum_times y q n, e, f)

next_under : (d q y : ℤ) (k n r m : ℕ) → IsDivided d n q r → IsDivided (d *ℤ pos k) n y m → m + r < n → IsDivided (d *ℤ pos (k + 1)) n (y +ℤ q) (m + r)
next_under d q y k n r m e f lt = record { parts = more d q y k n r m e.parts f.parts; small = lt }

next_over : (d q y : ℤ) (k n r m : ℕ) → IsDivided d n q r → IsDivided (d *ℤ pos k) n y m → n ≤ m + r → IsDivided (d *ℤ pos (k + 1)) n (y +ℤ q +ℤ pos 1) (m + r - n)
next_over d q y k n r m e f le =
    let s = more d q y k n r m e.parts f.parts in
    record { parts = omega (arith, ints, s, sum_times (y +ℤ q) (pos 1) n); small = omega (arith, e.small, f.small) }

-- what a division answers, under other names
pub divided_at : (z h : ℤ) (n r : ℕ) → 0 < n → h ≡ floor z n → r ≡ unsigned_abs (int_rem_euclid z (pos n)) → IsDivided z n h r
divided_at z h n r some e f =
    subst (λ h. IsDivided z n h r) (sym e) (subst (λ r. IsDivided z n (floor z n) r) (sym f) (divided z n some))

-- what lies between 0 and a number is no greater than it
bound : (d y : ℤ) (b : ℕ) → IsBetween y d → unsigned_abs d ≤ b → unsigned_abs y ≤ b
bound (pos d) (pos y) b h small = let t = h.0 in omega (arith, ints, (h.0 (omega (arith, ints))).1)
bound (pos d) (negsuc y) b h small = absurd (omega (arith, ints, (h.0 (omega (arith, ints))).0))
bound (negsuc d) (pos y) b h small = let t = (h.1 (omega (arith, ints))).1 in omega (arith, ints, t)
bound (negsuc d) (negsuc y) b h small = let t = (h.1 (omega (arith, ints))).0 in omega (arith, ints, t)

pub bounded : (d y : ℤ) (k n m b : ℕ) → k ≤ n → unsigned_abs d ≤ b → IsDivided (d *ℤ pos k) n y m → unsigned_abs y ≤ b
bounded d y k n m b le small h = bound d y b (between d y k n m le h) small

-- the next multiple, as the code has it
pub next_part : (d q y y' : ℤ) (k n r m m' : ℕ) → IsDivided d n q r → IsDivided (d *ℤ pos k) n y m
    → (m + r < n → (y' ≡ y +ℤ q) × (m' ≡ m + r)) → (n ≤ m + r → (y' ≡ y +ℤ q +ℤ pos 1) × (m' ≡ m + r - n)) → IsDivided (d *ℤ pos (k + 1)) n y' m'
next_part d q y y' k n r m m' e f under over = ⊎_elim
    (λ (lt : m + r < n). at (under lt) (next_under d q y k n r m e f lt))
    (λ (le : n ≤ m + r). at (over le) (next_over d q y k n r m e f le))
    (cases_lt (m + r) n)
  where
    at : {h : ℤ} {s : ℕ} → (y' ≡ h) × (m' ≡ s) → IsDivided (d *ℤ pos (k + 1)) n h s → IsDivided (d *ℤ pos (k + 1)) n y' m'
    at {h} {s} p g = subst (λ y. IsDivided (d *ℤ pos (k + 1)) n y m') (sym p.0) (subst (λ m. IsDivided (d *ℤ pos (k + 1)) n h m) (sym p.1) g)

-- how high a line is anywhere fits a sample
fits_at : (start end y : ℤ) → FitsSigned w32 start → FitsSigned w32 end → IsBetween y (end -ℤ start) → FitsSigned w32 (start +ℤ y)
fits_at start end y f g h = ⊎_elim
    (λ (le : pos 0 ≤ℤ (end -ℤ start)). let t = h.0 le in let a = t.0 in let b = t.1 in omega (arith, ints, f, g, a, b))
    (λ (le : (end -ℤ start) ≤ℤ pos 0). let t = h.1 le in let a = t.0 in let b = t.1 in omega (arith, ints, f, g, a, b))
    (sides (end -ℤ start))

in_range : (start end y : ℤ) (k n m : ℕ) → FitsSigned w32 start → FitsSigned w32 end → k ≤ n → IsDivided ((end -ℤ start) *ℤ pos k) n y m → FitsSigned w32 (start +ℤ y)
in_range start end y k n m f g le h = fits_at start end y f g (between (end -ℤ start) y k n m le h)

pub in_range_at : (start end y start' y' : ℤ) (k n m : ℕ) → start' ≡ start → y' ≡ y → FitsSigned w32 start → FitsSigned w32 end → k ≤ n → IsDivided ((end -ℤ start) *ℤ pos k) n y m → FitsSigned w32 (start' +ℤ y')
in_range_at start end y start' y' k n m a b f g le h =
    subst (λ s. FitsSigned w32 (s +ℤ y')) (sym a) (subst (λ y. FitsSigned w32 (start +ℤ y)) (sym b) (in_range start end y k n m f g le h))

-- the sample of a line
pub sample_at : (start end y r : ℤ) (k n m : ℕ) → r ≡ start +ℤ y → IsDivided ((end -ℤ start) *ℤ pos k) n y m → r ≡ line_at start end k n
unfolding line_at
sample_at start end y r k n m e h = e ∙ ap (λ y. start +ℤ y) (floored ((end -ℤ start) *ℤ pos k) n y m h)

-- the same of an equal distance
pub of_whole : (w d : ℤ) (k n m : ℕ) (y : ℤ) → w ≡ d → IsDivided (w *ℤ pos k) n y m → IsDivided (d *ℤ pos k) n y m
of_whole w d k n m y e h = subst (λ w. IsDivided (w *ℤ pos k) n y m) e h

-- the greatest distance of two samples
pub far : (start end : ℤ) → FitsSigned w32 start → FitsSigned w32 end → unsigned_abs (end -ℤ start) ≤ 8589934592
far start end f g = omega (arith, ints, f, g)

pub once : (d q : ℤ) (n r b : ℕ) → unsigned_abs d ≤ b → IsDivided d n q r → unsigned_abs q ≤ b
once d q n r b small h =
    let e : d ≡ d *ℤ pos 1 = omega (arith, ints) in
    bounded d q 1 n r b (omega (arith, h.small)) small (subst (λ z. IsDivided z n q r) e h)

difference_times : (y q : ℤ) (n : ℕ) → (y -ℤ q) *ℤ pos n ≡ y *ℤ pos n -ℤ q *ℤ pos n
difference_times y q n =
    let e : y -ℤ q +ℤ q ≡ y = omega (arith, ints) in
    let s : (y -ℤ q +ℤ q) *ℤ pos n ≡ (y -ℤ q) *ℤ pos n +ℤ q *ℤ pos n = sum_times (y -ℤ q) q n in
    let t : (y -ℤ q +ℤ q) *ℤ pos n ≡ y *ℤ pos n = ap (λ z. z *ℤ pos n) e in
    omega (arith, ints, s, t)

-- the multiple before
less : (d q y : ℤ) (j n r m : ℕ) → d ≡ q *ℤ pos n +ℤ pos r → d *ℤ pos (j + 1) ≡ y *ℤ pos n +ℤ pos m → d *ℤ pos j +ℤ pos r ≡ (y -ℤ q) *ℤ pos n +ℤ pos m
less d q y j n r m e f = let s = difference_times y q n in omega (arith, ints, s, e, f)

last_over : (d q y : ℤ) (j n r m : ℕ) → IsDivided d n q r → IsDivided (d *ℤ pos (j + 1)) n y m → r ≤ m → IsDivided (d *ℤ pos j) n (y -ℤ q) (m - r)
last_over d q y j n r m e f le =
    let s = less d q y j n r m e.parts f.parts in
    record { parts = omega (arith, ints, s); small = omega (arith, f.small) }

last_under : (d q y : ℤ) (j n r m : ℕ) → IsDivided d n q r → IsDivided (d *ℤ pos (j + 1)) n y m → m < r → IsDivided (d *ℤ pos j) n (y -ℤ q -ℤ pos 1) (m + n - r)
last_under d q y j n r m e f lt =
    let s = less d q y j n r m e.parts f.parts in
    let t = difference_times (y -ℤ q) (pos 1) n in
    record { parts = omega (arith, ints, s, t, e.small); small = omega (arith, e.small, f.small) }

-- the multiple before, as the code has it
pub last_part : (d q y y' : ℤ) (j k n r m m' : ℕ) → j + 1 ≡ k → IsDivided d n q r → IsDivided (d *ℤ pos k) n y m
    → (r ≤ m → (y' ≡ y -ℤ q) × (m' ≡ m - r)) → (m < r → (y' ≡ y -ℤ q -ℤ pos 1) × (m' ≡ m + n - r)) → IsDivided (d *ℤ pos j) n y' m'
last_part d q y y' j k n r m m' is e f over under =
    let g : IsDivided (d *ℤ pos (j + 1)) n y m = subst (λ k. IsDivided (d *ℤ pos k) n y m) (sym is) f in
    ⊎_elim
    (λ (lt : m < r). at (under lt) (last_under d q y j n r m e g lt))
    (λ (le : r ≤ m). at (over le) (last_over d q y j n r m e g le))
    (cases_lt m r)
  where
    at : {h : ℤ} {s : ℕ} → (y' ≡ h) × (m' ≡ s) → IsDivided (d *ℤ pos j) n h s → IsDivided (d *ℤ pos j) n y' m'
    at {h} {s} p g = subst (λ y. IsDivided (d *ℤ pos j) n y m') (sym p.0) (subst (λ m. IsDivided (d *ℤ pos j) n h m) (sym p.1) g)
