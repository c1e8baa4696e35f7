-- What the order of the jobs gives while they run.
use Rattle.std.proofs.Common.{◌≡◌, ◌≢◌, ◌⊎◌, ℕ, ◌<◌, Bool, true, false, List, length, get_or, sym, ◌∙◌, ⊎_elim, inl, inr, arith, true≢false}
use Rattle.std.specs.Prelude.{Contains}
use Rattle.std.proofs.lemmas.Bool.{cases_order, or_left, or_right, eqb-true, ne_eqb, false_from_ne_true}
use Rattle.sn_mem.specs.Words.{writes, touches}
use Rattle.sn_round.specs.declared.jobs.Job.{Job}
use Rattle.sn_machine.specs.declared.views.View.{View}
use Rattle.sn_round.specs.Jobs.{foot_at, predecessors, Ordered, direct, through}
use Rattle.sn_machine.specs.States.{CLAIMED, ENDED, is_claimed, is_ended, has_begun}
use Rattle.sn_machine.specs.Rule.{BegunHold}
use Rattle.sn_machine.proofs.Forms.{IsInOrder, Sound}

pub begun_claimed : (counts : List ℕ) (j : ℕ) → is_claimed counts j ≡ true → has_begun counts j ≡ true
begun_claimed counts j h = or_left (is_claimed counts j) (is_ended counts j) h

pub begun_ended : (counts : List ℕ) (j : ℕ) → is_ended counts j ≡ true → has_begun counts j ≡ true
begun_ended counts j h = or_right (is_claimed counts j) (is_ended counts j) h

pub claimed_unended : (counts : List ℕ) (j : ℕ) → is_claimed counts j ≡ true → is_ended counts j ≡ false
claimed_unended counts j h = ne_eqb (get_or counts j 0) ENDED (λ e. let a : get_or counts j 0 ≡ CLAIMED = eqb-true (get_or counts j 0) CLAIMED h in omega arith)

pub both_ways : (b : Bool) → b ≡ true → b ≡ false → ⊥
both_ways b y n = true≢false (sym y ∙ n)

pub ordered_ended : (jobs : List Job) (counts : List ℕ) (views : List View) → IsInOrder jobs → BegunHold jobs counts views → {i j : ℕ} → Ordered jobs i j → j < length jobs → has_begun counts j ≡ true → is_ended counts i ≡ true
ordered_ended jobs counts views order begun {i} {j} (direct c) l h = begun.before j i l h c
ordered_ended jobs counts views order begun {i} {j} (through {k = k} o c) l h =
    let lower : k < j = (order j l).0 k c in
    ordered_ended jobs counts views order begun o (omega arith) (begun_ended counts k (begun.before j k l h c))

-- of two jobs of which one writes what the other touches, the lower has ended if the higher has begun
pub lower_ended : (jobs : List Job) (counts : List ℕ) (views : List View) → IsInOrder jobs → Sound jobs → BegunHold jobs counts views → (i j x : ℕ) → i < j → j < length jobs
    → ((writes (foot_at jobs i) x ≡ true) × (touches (foot_at jobs j) x ≡ true)) ⊎ ((writes (foot_at jobs j) x ≡ true) × (touches (foot_at jobs i) x ≡ true))
    → has_begun counts j ≡ true → is_ended counts i ≡ true
lower_ended jobs counts views order sound begun i j x l m clash h = ordered_ended jobs counts views order begun (sound i j l m (x, clash)) m h

-- two claimed jobs do not clash
pub claimed_apart : (jobs : List Job) (counts : List ℕ) (views : List View) → IsInOrder jobs → Sound jobs → BegunHold jobs counts views → (i j x : ℕ) → i ≢ j → i < length jobs → j < length jobs
    → is_claimed counts i ≡ true → is_claimed counts j ≡ true → writes (foot_at jobs i) x ≡ true → touches (foot_at jobs j) x ≡ false
claimed_apart jobs counts views order sound begun i j x apart li lj ci cj w =
    false_from_ne_true (touches (foot_at jobs j) x) (λ t.
    ⊎_elim
    (λ (e : i ≡ j). absurd (apart e))
    (λ (o : (i < j) ⊎ (j < i)).
    ⊎_elim
    (λ (a : i < j). both_ways (is_ended counts i) (lower_ended jobs counts views order sound begun i j x a lj (inl (w, t)) (begun_claimed counts j cj)) (claimed_unended counts i ci))
    (λ (b : j < i). both_ways (is_ended counts j) (lower_ended jobs counts views order sound begun j i x b li (inr (w, t)) (begun_claimed counts i ci)) (claimed_unended counts j cj))
    o)
    (cases_order i j))

-- the same for a job all of whose predecessors have ended
pub ordered_ready : (jobs : List Job) (counts : List ℕ) (views : List View) → IsInOrder jobs → BegunHold jobs counts views → {i j : ℕ} → Ordered jobs i j → j < length jobs
    → ((p : ℕ) → Contains (predecessors jobs j) p → is_ended counts p ≡ true) → is_ended counts i ≡ true
ordered_ready jobs counts views order begun {i} {j} (direct c) l h = h i c
ordered_ready jobs counts views order begun {i} {j} (through {k = k} o c) l h =
    let lower : k < j = (order j l).0 k c in
    ordered_ended jobs counts views order begun o (omega arith) (begun_ended counts k (h k c))
