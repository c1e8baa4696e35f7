-- One job word changes.
use Rattle.std.proofs.Common.{◌≡◌, ◌≢◌, ℕ, ◌^◌, ◌<◌, false, ◌||◌, eqb, List, length, get_or, set, sym, ap, ◌∙◌, ⊎_elim, arith, get_or-set_same, get_or-set_other}
use Rattle.std.proofs.lemmas.Bool.{cases_eq, ne_eqb}
use Rattle.sn_machine.specs.States.{CLAIMED, ENDED, is_claimed, is_ended, has_begun}

pub claimed_else : (counts : List ℕ) (j x k : ℕ) → k ≢ j → is_claimed (set counts j x) k ≡ is_claimed counts k
claimed_else counts j x k d = ap (λ (n : ℕ). eqb n CLAIMED) (get_or-set_other counts j k x 0 d)

pub ended_else : (counts : List ℕ) (j x k : ℕ) → k ≢ j → is_ended (set counts j x) k ≡ is_ended counts k
ended_else counts j x k d = ap (λ (n : ℕ). eqb n ENDED) (get_or-set_other counts j k x 0 d)

pub begun_else : (counts : List ℕ) (j x k : ℕ) → k ≢ j → has_begun (set counts j x) k ≡ has_begun counts k
begun_else counts j x k d = λ i. claimed_else counts j x k d i || ended_else counts j x k d i

-- the tests of a word that is known
pub claimed_is : (counts : List ℕ) (j n : ℕ) → get_or counts j 0 ≡ n → is_claimed counts j ≡ eqb n CLAIMED
claimed_is counts j n e = ap (λ (m : ℕ). eqb m CLAIMED) e

pub ended_is : (counts : List ℕ) (j n : ℕ) → get_or counts j 0 ≡ n → is_ended counts j ≡ eqb n ENDED
ended_is counts j n e = ap (λ (m : ℕ). eqb m ENDED) e

-- a word that is not ENDED before and after leaves the ended jobs
pub ended_stays : (counts : List ℕ) (j x : ℕ) → j < length counts → is_ended counts j ≡ false → x ≢ ENDED → is_ended (set counts j x) ≡ is_ended counts
ended_stays counts j x l was now = λ i k. each k i
  where
    each : (k : ℕ) → is_ended (set counts j x) k ≡ is_ended counts k
    each k = ⊎_elim
        (λ (e : k ≡ j). ap (is_ended (set counts j x)) e ∙ ended_is (set counts j x) j x (get_or-set_same counts j x 0 l) ∙ ne_eqb x ENDED now ∙ sym was ∙ ap (is_ended counts) (sym e))
        (λ (d : k ≡ j → ⊥). ended_else counts j x k d)
        (cases_eq k j)

-- a word that is neither is a count
pub unbegun : (counts : List ℕ) (j n : ℕ) → get_or counts j 0 ≡ n → n < 2 ^ 62 → has_begun counts j ≡ false
unbegun counts j n e l = λ i. (claimed_is counts j n e ∙ ne_eqb n CLAIMED (λ h. omega arith)) i || (ended_is counts j n e ∙ ne_eqb n ENDED (λ h. omega arith)) i
