-- Facts of steps that hold unless one end came.
use Rattle.std.proofs.Common.{◌≡◌, ◌∙◌, Result, Ok, Err, ap, ◌⊎◌, inl, inr}
use Rattle.std.specs.Prelude.{IfErr, OnOk}
use Rattle.std.specs.Result.{IsErrAnd}
use Rattle.sn_server.specs.declared.ended.Ended.{Ended}
use Rattle.sn_server.proofs.ServingLemmas.{failed}

abbrev done : Unit {0} → Result (Unit {0}) Ended
done x = Ok x

not_failed : (x : Unit {0}) (end : Ended) → done x ≡ failed end → ⊥
not_failed x end e = cc

same_end : (how end : Ended) → failed how ≡ failed end → how ≡ end
same_end how end e = cc

-- a fact gives another
pub either_so : (A P Q : Type 0) → (P → Q) → A ⊎ P → A ⊎ Q
either_so A P Q so (inl a) = inl a
either_so A P Q so (inr p) = inr (so p)

-- a step that ends in one way alone
pub either_of : (r : Result (Unit {0}) Ended) (end : Ended) (P : Type 0) → IfErr r (λ how. how ≡ end) → OnOk r P → (r ≡ failed end) ⊎ P
either_of (Ok x) end P only p = inr p
either_of (Err how) end P only p = inl (ap failed only)

-- what is said if a step ended is said of the answer that hands this on
pub either_err : (r : Result (Unit {0}) Ended) (how end : Ended) (P : Type 0) → IsErrAnd r (λ k. k ≡ how) → (failed how ≡ failed end) ⊎ P → (r ≡ failed end) ⊎ P
either_err (Ok x) how end P is said = absurd is
either_err (Err k) how end P is (inl e) = inl (ap failed is ∙ e)
either_err (Err k) how end P is (inr p) = inr p

-- and of the end alone
pub either_end : (how end : Ended) (P Q : Type 0) → (P → Q) → (failed how ≡ failed end) ⊎ P → (how ≡ end) ⊎ Q
either_end how end P Q so (inl e) = inl (same_end how end e)
either_end how end P Q so (inr p) = inr (so p)

-- a step that goes on did not end
pub goes_on : (x : Unit {0}) (end : Ended) (P : Type 0) → (done x ≡ failed end) ⊎ P → P
goes_on x end P (inl e) = absurd (not_failed x end e)
goes_on x end P (inr p) = p
