-- Seats by their numbers, and what a call of the interpreter shows of a seat that it asks.
use Rattle.std.proofs.Common.{◌≡◌, ℕ, zero, suc, ◌+◌, ◌<◌, eqb, false, true≢false, List, [], ◌∷◌, ◌++◌, length, get_or, set, take, drop, Option, refl, sym, ap, subst, ◌∙◌, arith}
use Rattle.sn_round.specs.declared.jobs.Job.{Job}
use Rattle.sn_machine.specs.declared.views.View.{View}
use Rattle.sn_machine.specs.declared.views.RunningJob.{RunningJob}
use Rattle.sn_machine.specs.declared.views.Phase.{Phase}
use Rattle.sn_machine.specs.declared.views.Phase.TheVariants.{Round}
use Rattle.sn_machine.specs.States.{State, At, IsInRound, jobs_in, script_in, crew_in, counts_in}
use Rattle.sn_machine.specs.Steps.{pictured}
use Rattle.sn_machine.specs.Fits.{job_of, picture_of, IsBusy}
use Rattle.sn_machine.specs.Calls.{painted, painted_run}
use Rattle.sn_machine.proofs.Replaced.{same_at}

seat_at : (views : List View) (i : ℕ) (d : View) → i < length views → At views i (get_or views i d)
seat_at [] i d l = absurd (omega arith)
seat_at (v ∷ views) zero d l = refl
seat_at (v ∷ views) (suc i) d l = seat_at views i d (omega (arith, l))

-- a view that was read at a place is the seat's
pub here : (views : List View) (i : ℕ) (v : View) → i < length views → v ≡ get_or views i v → At views i v
here views i v l e = subst (λ (y : View). At views i y) (sym e) (seat_at views i v l)

-- read twice, it is the same
pub same_here : (views : List View) (i : ℕ) (a b : View) → i < length views → a ≡ get_or views i a → b ≡ get_or views i b → a ≡ b
same_here views i a b l ea eb = same_at views i a b (here views i a l ea) (here views i b l eb)

-- a call tests the view and then changes it
pub takes : (s : State) (i : ℕ) (may : View → Type 0) (after : View → State) (a m : View) (t : State) → i < length s.views → a ≡ get_or s.views i a → m ≡ get_or s.views i m → may a → (may m → t ≡ after m)
    → (v : View) × At s.views i v × may v × (t ≡ after v)
takes s i may after a m t l ea em can e =
    let same = subst may (same_here s.views i a m l ea em) can in
    (m, here s.views i m l em, same, e same)

pub painted_is : (v : View) (x a : ℕ) → IsBusy v → painted v x a ≡ pictured v (job_of v) (set (picture_of v) x a)
painted_is v x a runs = ap (λ (r : Option RunningJob). record v { worker = record v.worker { runs = painted_run r x a } }) runs

parts : (xs : List (ℕ × ℕ)) (n : ℕ) → n < length xs → xs ≡ take n xs ++ get_or xs n (0, 0) ∷ drop (suc n) xs
parts [] n l = absurd (omega arith)
parts (x ∷ xs) zero l = refl
parts (x ∷ xs) (suc n) l = ap (λ (ys : List (ℕ × ℕ)). x ∷ ys) (parts xs n (omega (arith, l)))

pub parts_are : (xs : List (ℕ × ℕ)) (n : ℕ) → n < length xs → xs ≡ take n xs ++ get_or xs n (0, 0) ∷ drop (n + 1) xs
parts_are xs n l = parts xs n l ∙ ap (λ k. take n xs ++ get_or xs n (0, 0) ∷ drop k xs) next
  where
    next : suc n ≡ n + 1
    next = omega arith

pub in_round : (v : View) (jobs : List Job) (script : List (List ℕ)) (crew : ℕ) (at_go : List ℕ) → v.main.phase ≡ Round jobs script crew at_go → IsInRound v
in_round v jobs script crew at_go e = e ∙ sym (ap (λ (p : Phase). Round (jobs_in p) (script_in p) (crew_in p) (counts_in p)) e)

pub not_none : (n : ℕ) → eqb n 0 ≡ false → 0 < n
not_none zero e = absurd (true≢false e)
not_none (suc n) e = omega arith
