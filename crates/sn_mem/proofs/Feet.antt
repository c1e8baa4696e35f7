-- What a run of words that may be written allows.
use Rattle.std.proofs.Common.{◌≡◌, ◌≤◌, ◌<◌, ℕ, ◌+◌, ◌-◌, true, subst, sym, arith}
use Rattle.std.proofs.lemmas.Bool.{or_left}
use Rattle.sn_mem.specs.declared.extents.Foot.{Foot}
use Rattle.sn_mem.specs.Words.{writes, touches, has, MayWrite, MayRead}

pub may_write : (f f' : Foot) (at n j : ℕ) → MayWrite f at n → f' ≡ f → at ≤ j → j < at + n → writes f' j ≡ true
may_write f f' at n j may e low high =
    let P : Foot → Type 0 = λ (h : Foot). writes h j ≡ true in
    let i : ℕ = j - at in let s : at + i ≡ j = omega arith in let Q : ℕ → Type 0 = λ x. writes f x ≡ true in
    subst P (sym e) (subst Q s (may.each i (omega arith)))

pub may_touch : (f f' : Foot) (at n j : ℕ) → MayWrite f at n → f' ≡ f → at ≤ j → j < at + n → touches f' j ≡ true
may_touch f f' at n j may e low high = or_left (has f'.writes j) (has f'.reads j) (may_write f f' at n j may e low high)

pub part_at : (f f' : Foot) (at n at' n' : ℕ) → MayWrite f at n → f' ≡ f → at ≤ at' → at' + n' ≤ at + n → MayWrite f' at' n'
part_at f f' at n at' n' may e low high = let b : at + n < 4294967296 = may.below in record { below = omega arith; each = λ i lt. may_write f f' at n (at' + i) may e (omega arith) (omega arith) }

pub may_read : (f f' : Foot) (at n j : ℕ) → MayRead f at n → f' ≡ f → at ≤ j → j < at + n → touches f' j ≡ true
may_read f f' at n j may e low high =
    let P : Foot → Type 0 = λ (h : Foot). touches h j ≡ true in
    let i : ℕ = j - at in let s : at + i ≡ j = omega arith in let Q : ℕ → Type 0 = λ x. touches f x ≡ true in
    subst P (sym e) (subst Q s (may.each i (omega arith)))

pub read_part : (f f' : Foot) (at n at' n' : ℕ) → MayRead f at n → f' ≡ f → at ≤ at' → at' + n' ≤ at + n → MayRead f' at' n'
read_part f f' at n at' n' may e low high = let b : at + n < 4294967296 = may.below in record { below = omega arith; each = λ i lt. may_read f f' at n (at' + i) may e (omega arith) (omega arith) }

-- what may be written may be read
pub readable : (f : Foot) (at n : ℕ) → MayWrite f at n → MayRead f at n
readable f at n may = record { below = may.below; each = λ i lt. or_left (has f.writes (at + i)) (has f.reads (at + i)) (may.each i lt) }
