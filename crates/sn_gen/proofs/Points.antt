-- Frames of a line, eight on.
use Rattle.std.proofs.Common.{◌≡◌, ◌≢◌, ◌≤◌, ◌<◌, ℕ, List, length, get_or, set, ◌+◌, ◌-◌, ◌*◌, ℤ, pos, ◌+ℤ◌, ◌-ℤ◌, ◌*ℤ◌, FitsSigned, to_z, of_z, arith, refl, ap, sym, subst, ⊎_elim}
use Rattle.std.specs.Int.{w32}
use Rattle.std.proofs.lemmas.Bool.{cases_lt}
use Rattle.std.proofs.lemmas.Int.{ints, to_z-of_z}
use Rattle.std.proofs.lemmas.List.{get_or-set_other}
use Rattle.std.proofs.lemmas.Grind.{get_or-set_at}
use Rattle.sn_fixed.specs.Lines.{line_at}
use Rattle.sn_fixed.specs.Divisions.{IsDivided}
use Rattle.sn_fixed.proofs.Multiples.{in_range_at, sample_at}
use Rattle.sn_gen.specs.declared.line.Sweep.{Sweep}
use Rattle.sn_gen.specs.declared.course.Point.{Point}
use Rattle.sn_gen.specs.Points.{IsPoint}
use borrow.Author.Differences.{up, down, sum_is_lem}

sum_times : (y q : ℤ) (n : ℕ) → (y +ℤ q) *ℤ pos n ≡ y *ℤ pos n +ℤ q *ℤ pos n
sum_times y q n =
    let s : (up (y +ℤ q) + down y + down q) * n ≡ (down (y +ℤ q) + up y + up q) * n = ap (λ x. x * n) (sum_is_lem y q) in
    omega (arith, ints, s)

-- the sum of two multiples, with a remainder that may be too great
more : (d q y : ℤ) (j k n r m : ℕ) → d *ℤ pos j ≡ q *ℤ pos n +ℤ pos r → d *ℤ pos k ≡ y *ℤ pos n +ℤ pos m → d *ℤ pos (k + j) ≡ (y +ℤ q) *ℤ pos n +ℤ pos (m + r)
more d q y j k n r m e f = omega (arith, ints, sum_times y q n, e, f)

sum_under : (d q y : ℤ) (j k n r m : ℕ) → IsDivided (d *ℤ pos j) n q r → IsDivided (d *ℤ pos k) n y m → m + r < n → IsDivided (d *ℤ pos (k + j)) n (y +ℤ q) (m + r)
sum_under d q y j k n r m e f lt = record { parts = more d q y j k n r m e.parts f.parts; small = lt }

sum_over : (d q y : ℤ) (j k n r m : ℕ) → IsDivided (d *ℤ pos j) n q r → IsDivided (d *ℤ pos k) n y m → n ≤ m + r → IsDivided (d *ℤ pos (k + j)) n (y +ℤ q +ℤ pos 1) (m + r - n)
sum_over d q y j k n r m e f le =
    let s = more d q y j k n r m e.parts f.parts in
    record { parts = omega (arith, ints, s, sum_times (y +ℤ q) (pos 1) n); small = omega (arith, e.small, f.small) }

-- the sum of two multiples, as the code has it
pub sum_part : (d q y y' : ℤ) (j k n r m m' : ℕ) → IsDivided (d *ℤ pos j) n q r → IsDivided (d *ℤ pos k) n y m
    → (m + r < n → (y' ≡ y +ℤ q) × (m' ≡ m + r)) → (n ≤ m + r → (y' ≡ y +ℤ q +ℤ pos 1) × (m' ≡ m + r - n)) → IsDivided (d *ℤ pos (k + j)) n y' m'
sum_part d q y y' j k n r m m' e f under over = ⊎_elim
    (λ (lt : m + r < n). at (under lt) (sum_under d q y j k n r m e f lt))
    (λ (le : n ≤ m + r). at (over le) (sum_over d q y j k n r m e f le))
    (cases_lt (m + r) n)
  where
    at : {h : ℤ} {s : ℕ} → (y' ≡ h) × (m' ≡ s) → IsDivided (d *ℤ pos (k + j)) n h s → IsDivided (d *ℤ pos (k + j)) n y' m'
    at {h} {s} p g = subst (λ y. IsDivided (d *ℤ pos (k + j)) n y m') (sym p.0) (subst (λ m. IsDivided (d *ℤ pos (k + j)) n h m) (sym p.1) g)

-- how far a line goes in eight frames
pub record IsStride (line : Sweep) (q : ℤ) (r room : ℕ) : Type 0 where
  pub way : IsDivided ((line.end -ℤ line.start) *ℤ pos 8) line.frames q r
  pub all : room + r ≡ line.frames

pub single : (d : ℤ) (n : ℕ) (q : ℤ) (r : ℕ) → IsDivided d n q r → IsDivided (d *ℤ pos 1) n q r
single d n q r h =
    let e : d ≡ d *ℤ pos 1 = omega (arith, ints) in
    subst (λ z. IsDivided z n q r) e h

-- a height above the start, as a sample
pub point_at : (start end y x : ℤ) (k n m : ℕ) → x ≡ start +ℤ y → IsDivided ((end -ℤ start) *ℤ pos k) n y m → IsDivided ((end -ℤ start) *ℤ pos k) n (x -ℤ start) m
point_at start end y x k n m e h =
    let s : y ≡ x -ℤ start = omega (arith, ints, e) in
    subst (λ y. IsDivided ((end -ℤ start) *ℤ pos k) n y m) s h

-- and the sample is the line's
pub on_line : (line : Sweep) (k : ℕ) (p : Point) → IsPoint line k p → p.sample ≡ line_at line.start line.end k line.frames
on_line line k p h =
    let e : p.sample ≡ line.start +ℤ (p.sample -ℤ line.start) = omega (arith, ints) in
    sample_at line.start line.end (p.sample -ℤ line.start) p.sample k line.frames p.remainder e h

-- eight frames on, the remainders' sum is below the number of frames or not
below : (line : Sweep) (k : ℕ) (p : Point) (q : ℤ) (r : ℕ) → IsPoint line k p → IsDivided ((line.end -ℤ line.start) *ℤ pos 8) line.frames q r → p.remainder + r < line.frames
    → IsDivided ((line.end -ℤ line.start) *ℤ pos (k + 8)) line.frames (p.sample -ℤ line.start +ℤ q) (p.remainder + r)
below line k p q r h way lt = sum_under (line.end -ℤ line.start) q (p.sample -ℤ line.start) 8 k line.frames r p.remainder way h lt

above : (line : Sweep) (k : ℕ) (p : Point) (q : ℤ) (r : ℕ) → IsPoint line k p → IsDivided ((line.end -ℤ line.start) *ℤ pos 8) line.frames q r → line.frames ≤ p.remainder + r
    → IsDivided ((line.end -ℤ line.start) *ℤ pos (k + 8)) line.frames (p.sample -ℤ line.start +ℤ q +ℤ pos 1) (p.remainder + r - line.frames)
above line k p q r h way le = sum_over (line.end -ℤ line.start) q (p.sample -ℤ line.start) 8 k line.frames r p.remainder way h le

pub fits_below : (line : Sweep) (k : ℕ) (p : Point) (q : ℤ) (r room : ℕ) → FitsSigned w32 line.start → FitsSigned w32 line.end → k + 8 ≤ line.frames → room + r ≡ line.frames
    → IsPoint line k p → IsDivided ((line.end -ℤ line.start) *ℤ pos 8) line.frames q r → p.remainder < room → FitsSigned w32 (p.sample +ℤ q)
fits_below line k p q r room f g le all h way lt =
    let e : line.start +ℤ (p.sample -ℤ line.start +ℤ q) ≡ p.sample +ℤ q = omega (arith, ints) in
    subst (λ x. FitsSigned w32 x) e (in_range_at line.start line.end (p.sample -ℤ line.start +ℤ q) line.start (p.sample -ℤ line.start +ℤ q) (k + 8) line.frames (p.remainder + r) refl refl f g le (below line k p q r h way (omega (arith, all, lt))))

pub fits_above : (line : Sweep) (k : ℕ) (p : Point) (q : ℤ) (r room : ℕ) → FitsSigned w32 line.start → FitsSigned w32 line.end → k + 8 ≤ line.frames → room + r ≡ line.frames
    → IsPoint line k p → IsDivided ((line.end -ℤ line.start) *ℤ pos 8) line.frames q r → room ≤ p.remainder → FitsSigned w32 (p.sample +ℤ (q +ℤ pos 1))
fits_above line k p q r room f g le all h way high =
    let e : line.start +ℤ (p.sample -ℤ line.start +ℤ q +ℤ pos 1) ≡ p.sample +ℤ (q +ℤ pos 1) = omega (arith, ints) in
    subst (λ x. FitsSigned w32 x) e (in_range_at line.start line.end (p.sample -ℤ line.start +ℤ q +ℤ pos 1) line.start (p.sample -ℤ line.start +ℤ q +ℤ pos 1) (k + 8) line.frames (p.remainder + r - line.frames) refl refl f g le (above line k p q r h way (omega (arith, all, high))))

-- the point eight frames on, as the code has it
pub eight_on : (line : Sweep) (k j : ℕ) (p p' : Point) (q : ℤ) (r room : ℕ) → k + 8 ≡ j → room + r ≡ line.frames
    → IsPoint line k p → IsDivided ((line.end -ℤ line.start) *ℤ pos 8) line.frames q r
    → (p.remainder < room → (p'.sample ≡ p.sample +ℤ q) × (p'.remainder ≡ p.remainder + r))
    → (room ≤ p.remainder → (p'.sample ≡ p.sample +ℤ (q +ℤ pos 1)) × (p'.remainder ≡ p.remainder - room))
    → IsPoint line j p'
eight_on line k j p p' q r room is all h way under over =
    subst (λ j. IsPoint line j p') is
    (sum_part (line.end -ℤ line.start) q (p.sample -ℤ line.start) (p'.sample -ℤ line.start) 8 k line.frames r p.remainder p'.remainder way h
    (λ lt. let t = under (omega (arith, all, lt)) in let a = t.0 in let b = t.1 in (omega (arith, ints, a), b))
    (λ le. let t = over (omega (arith, all, le)) in let a = t.0 in let b = t.1 in (omega (arith, ints, a), omega (arith, all, b, le))))

-- the points of the first frames of two lists, of their samples and of their remainders
abbrev pub ArePoints : Sweep → ℕ → List ℤ → List ℕ → Type 0
ArePoints line n ys ms = (j : ℕ) → j < n → IsPoint line (line.frame + j) (record { sample = get_or ys j (pos 0); remainder = get_or ms j 0 })

pub points_none : (line : Sweep) (ys : List ℤ) (ms : List ℕ) → ArePoints line 0 ys ms
points_none line ys ms j lt = absurd (omega (arith, lt))

pub points_more : (line : Sweep) (k : ℕ) (ys : List ℤ) (ms : List ℕ) (p : Point) → k < length ys → k < length ms → ArePoints line k ys ms → IsPoint line (line.frame + k) p
    → ArePoints line (k + 1) (set ys k p.sample) (set ms k p.remainder)
points_more line k ys ms p lt lt' h new j below = ⊎_elim
    (λ (before : j < k).
    let ne : j ≢ k = omega (arith, before) in
    subst (λ y. IsPoint line (line.frame + j) (record { sample = y; remainder = get_or (set ms k p.remainder) j 0 })) (sym (get_or-set_other ys k j p.sample (pos 0) ne))
    (subst (λ m. IsPoint line (line.frame + j) (record { sample = get_or ys j (pos 0); remainder = m })) (sym (get_or-set_other ms k j p.remainder 0 ne)) (h j before)))
    (λ (le : k ≤ j).
    let is : j ≡ k = omega (arith, le, below) in
    subst (λ y. IsPoint line (line.frame + j) (record { sample = y; remainder = get_or (set ms k p.remainder) j 0 })) (sym (get_or-set_at ys k j p.sample (pos 0) is lt))
    (subst (λ m. IsPoint line (line.frame + j) (record { sample = p.sample; remainder = m })) (sym (get_or-set_at ms k j p.remainder 0 is lt'))
    (subst (λ i. IsPoint line (line.frame + i) p) (sym is) new)))
    (cases_lt j k)

-- a point of two lists, as the code reads it
abbrev pub point_in : List ℤ → List ℕ → ℕ → Point
point_in ys ms j = record { sample = to_z w32 (of_z w32 (get_or ys j (pos 0))); remainder = get_or ms j 0 }

-- it is a sample
fits_there : (line : Sweep) (k : ℕ) (p : Point) → FitsSigned w32 line.start → FitsSigned w32 line.end → k ≤ line.frames → IsPoint line k p → FitsSigned w32 p.sample
fits_there line k p f g le h =
    let e : line.start +ℤ (p.sample -ℤ line.start) ≡ p.sample = omega (arith, ints) in
    subst (λ x. FitsSigned w32 x) e (in_range_at line.start line.end (p.sample -ℤ line.start) line.start (p.sample -ℤ line.start) k line.frames p.remainder refl refl f g le h)

pub point_before : (line : Sweep) (k : ℕ) (ys : List ℤ) (ms : List ℕ) → FitsSigned w32 line.start → FitsSigned w32 line.end → k - 8 < k → line.frame + (k - 8) + 8 ≤ line.frames → ArePoints line k ys ms
    → IsPoint line (line.frame + (k - 8)) (point_in ys ms (k - 8))
point_before line k ys ms f g lt le h =
    let p : Point = record { sample = get_or ys (k - 8) (pos 0); remainder = get_or ms (k - 8) 0 } in
    let here : IsPoint line (line.frame + (k - 8)) p = h (k - 8) lt in
    subst (λ y. IsPoint line (line.frame + (k - 8)) (record { sample = y; remainder = get_or ms (k - 8) 0 })) (sym (to_z-of_z w32 (get_or ys (k - 8) (pos 0)) (fits_there line (line.frame + (k - 8)) p f g (omega (arith, le)) here))) here
