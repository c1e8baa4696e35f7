-- Runs of control buses that are set to one value.
use Rattle.std.proofs.Common.{◌≡◌, ◌≤◌, ◌<◌, ◌+◌, ◌-◌, ℕ, suc, ℤ, pos, negsuc, nat_abs, Bool, true, false, not, List, [], ◌∷◌, replicate, None, refl, ap, arith}
use Rattle.std.proofs.lemmas.Bool.{ltb-true, leb-true}
use Rattle.std.specs.Prelude.{nat_lt, nat_le}
use Rattle.sn_mem.specs.Buses.{ControlBus}
use Rattle.sn_reply.specs.declared.reason.Reason.TheVariants.{Bus}
use Rattle.sn_reply.proofs.Sending.{first-of, second-of}
use Rattle.sn_world.specs.Rows.{first_of}
use Rattle.sn_world.specs.Buses.{is_run, run_refusal, with_value, with_values, set_run}

-- a run lies in the buses
pub record LiesInBuses (n count : ℕ) : Type 0 where
  pub first : n < 1024
  pub end : n + count ≤ 1024

run-allowed : (bus : ℤ) (count : ℕ) → run_refusal bus count ≡ None → is_run bus count ≡ true
run-allowed bus count h = at (is_run bus count) h
  where
    at : (b : Bool) → first_of ((not b, Bus) ∷ []) ≡ None → b ≡ true
    at true h = refl
    at false h = absurd cc

run-tested : (bus : ℤ) (count : ℕ) → is_run bus count ≡ true → LiesInBuses (nat_abs bus) count
run-tested (pos n) count h = record {
  first = ltb-true n 1024 (first-of (nat_lt n 1024) (nat_le (n + count) 1024) h);
  end = leb-true (n + count) 1024 (second-of (nat_lt n 1024) (nat_le (n + count) 1024) h);
}
run-tested (negsuc n) count h = absurd cc

pub run-inside : (bus : ℤ) (count : ℕ) → run_refusal bus count ≡ None → LiesInBuses (nat_abs bus) count
run-inside bus count h = run-tested bus count (run-allowed bus count h)

run-set_tested : (bus : ℤ) (count : ℕ) (vs : List ℤ) (bs : List ControlBus) → is_run bus count ≡ true → set_run bus vs bs ≡ with_values bs (nat_abs bus) vs
run-set_tested (pos n) count vs bs h = refl
run-set_tested (negsuc n) count vs bs h = absurd cc

pub run-set : (bus : ℤ) (count : ℕ) (vs : List ℤ) (bs : List ControlBus) → run_refusal bus count ≡ None → set_run bus vs bs ≡ with_values bs (nat_abs bus) vs
run-set bus count vs bs h = run-set_tested bus count vs bs (run-allowed bus count h)

-- one more bus of a run
pub filled-more : (bs : List ControlBus) (n end : ℕ) (v : ℤ) → n < end → with_values bs n (replicate (end - n) v) ≡ with_values (with_value bs n v) (n + 1) (replicate (end - (n + 1)) v)
filled-more bs n end v lt =
    let one : end - n ≡ suc (end - (n + 1)) = omega arith in
    ap (λ k. with_values bs n (replicate k v)) one

pub filled-all : (bs : List ControlBus) (n end : ℕ) (v : ℤ) → end ≤ n → with_values bs n (replicate (end - n) v) ≡ bs
filled-all bs n end v le =
    let none : end - n ≡ 0 = omega arith in
    ap (λ k. with_values bs n (replicate k v)) none
