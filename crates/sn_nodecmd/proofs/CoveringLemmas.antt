-- A run that a later one covers is as if it were not there.
use Rattle.std.proofs.Common.{◌≡◌, ◌≤◌, ◌<◌, ◌+◌, ℕ, zero, suc, ℤ, List, [], ◌∷◌, map, length, set, Option, Some, None, inl, inr, Ok, refl, ap, sym, subst, ◌∙◌, arith}
use Rattle.sn_def.specs.declared.control.Control.{Control}
use Rattle.sn_def.specs.Definition.{Definition}
use Rattle.sn_world.specs.World.{Turn}
use Rattle.sn_world.specs.Rows.{unless}
use Rattle.sn_world.specs.NewSynth.{control_of}
use Rattle.sn_world.specs.ControlRuns.{ControlRun, in_synth, with_values_from, with_run, with_runs, judge_node, set_outcome}
use Rattle.sn_tree.specs.Reworking.{reworked}
use Rattle.sn_nodecmd.specs.declared.runs.Run.{Run}
use Rattle.sn_nodecmd.specs.Runs.{run_of}
use Rattle.sn_nodecmd.specs.Covering.{Covers, IsCovered, AreLeft}

-- ---- controls that agree except for n of them from the one at k on

abbrev Agree : List Control → List Control → ℕ → ℕ → Type 0
Agree [] [] k n = Unit {0}
Agree [] (y ∷ ys) k n = ⊥
Agree (x ∷ xs) [] k n = ⊥
Agree (x ∷ xs) (y ∷ ys) zero zero = (x ≡ y) × Agree xs ys zero zero
Agree (x ∷ xs) (y ∷ ys) zero (suc n) = Agree xs ys zero n
Agree (x ∷ xs) (y ∷ ys) (suc k) n = (x ≡ y) × Agree xs ys k n

agree-same : (xs : List Control) (k n : ℕ) → Agree xs xs k n
agree-same [] k n = tt
agree-same (x ∷ xs) zero zero = (refl, agree-same xs zero zero)
agree-same (x ∷ xs) zero (suc n) = agree-same xs zero n
agree-same (x ∷ xs) (suc k) n = (refl, agree-same xs k n)

agree-equal : (xs ys : List Control) (k : ℕ) → Agree xs ys k zero → xs ≡ ys
agree-equal [] [] k a = refl
agree-equal [] (y ∷ ys) k a = elim a [ ]
agree-equal (x ∷ xs) [] k a = elim a [ ]
agree-equal (x ∷ xs) (y ∷ ys) zero a = λ i. a.0 i ∷ agree-equal xs ys zero a.1 i
agree-equal (x ∷ xs) (y ∷ ys) (suc k) a = λ i. a.0 i ∷ agree-equal xs ys k a.1 i

agree-set : (xs ys : List Control) (k n i : ℕ) (v : Control) → Agree xs ys k n → Agree (set xs i v) (set ys i v) k n
agree-set [] [] k n i v a = tt
agree-set [] (y ∷ ys) k n i v a = elim a [ ]
agree-set (x ∷ xs) [] k n i v a = elim a [ ]
agree-set (x ∷ xs) (y ∷ ys) zero zero zero v a = (refl, a.1)
agree-set (x ∷ xs) (y ∷ ys) zero zero (suc i) v a = (a.0, agree-set xs ys zero zero i v a.1)
agree-set (x ∷ xs) (y ∷ ys) zero (suc n) zero v a = a
agree-set (x ∷ xs) (y ∷ ys) zero (suc n) (suc i) v a = agree-set xs ys zero n i v a
agree-set (x ∷ xs) (y ∷ ys) (suc k) n zero v a = (refl, a.1)
agree-set (x ∷ xs) (y ∷ ys) (suc k) n (suc i) v a = (a.0, agree-set xs ys k n i v a.1)

-- a control among the n
agree-within : (xs ys : List Control) (k n i : ℕ) (v : Control) → k ≤ i → i < k + n → Agree xs ys k n → Agree (set xs i v) ys k n
agree-within [] [] k n i v from to a = tt
agree-within [] (y ∷ ys) k n i v from to a = elim a [ ]
agree-within (x ∷ xs) [] k n i v from to a = elim a [ ]
agree-within (x ∷ xs) (y ∷ ys) zero zero i v from to a = absurd (omega arith)
agree-within (x ∷ xs) (y ∷ ys) zero (suc n) zero v from to a = a
agree-within (x ∷ xs) (y ∷ ys) zero (suc n) (suc i) v from to a = agree-within xs ys zero n i v (omega arith) (omega arith) a
agree-within (x ∷ xs) (y ∷ ys) (suc k) n zero v from to a = absurd (omega arith)
agree-within (x ∷ xs) (y ∷ ys) (suc k) n (suc i) v from to a = (a.0, agree-within xs ys k n i v (omega arith) (omega arith) a.1)

-- the first of the n, in both
agree-first : (xs ys : List Control) (k n : ℕ) (v : Control) → Agree xs ys k (suc n) → Agree (set xs k v) (set ys k v) (suc k) n
agree-first [] [] k n v a = tt
agree-first [] (y ∷ ys) k n v a = elim a [ ]
agree-first (x ∷ xs) [] k n v a = elim a [ ]
agree-first (x ∷ xs) (y ∷ ys) zero n v a = (refl, a)
agree-first (x ∷ xs) (y ∷ ys) (suc k) n v a = (a.0, agree-first xs ys k n v a.1)

-- ---- runs that are set

abbrev plain : ℤ → Control
plain v = record { value = v; bus = None }

agree-values : (vs : List ℤ) (j : ℕ) (xs ys : List Control) (k n : ℕ) → Agree xs ys k n → Agree (with_values_from j vs xs) (with_values_from j vs ys) k n
agree-values [] j xs ys k n a = a
agree-values (v ∷ vs) j xs ys k n a = agree-values vs (j + 1) (set xs j (plain v)) (set ys j (plain v)) k n (agree-set xs ys k n j (plain v) a)

values-within : (vs : List ℤ) (j : ℕ) (xs ys : List Control) (k n : ℕ) → k ≤ j → j + length vs ≤ k + n → Agree xs ys k n → Agree (with_values_from j vs xs) ys k n
values-within [] j xs ys k n from to a = a
values-within (v ∷ vs) j xs ys k n from to a = values-within vs (j + 1) (set xs j (plain v)) ys k n (omega arith) (omega arith) (agree-within xs ys k n j (plain v) from (omega arith) a)

values-over : (vs : List ℤ) (xs ys : List Control) (k n : ℕ) → n ≤ length vs → Agree xs ys k n → with_values_from k vs xs ≡ with_values_from k vs ys
values-over vs xs ys k zero few a = ap (with_values_from k vs) (agree-equal xs ys k a)
values-over [] xs ys k (suc n) few a = absurd (omega arith)
values-over (v ∷ vs) xs ys k (suc n) few a =
    let next : suc k ≡ k + 1 = omega arith in
    values-over vs (set xs k (plain v)) (set ys k (plain v)) (k + 1) n (omega arith) (subst (λ (m : ℕ). Agree (set xs k (plain v)) (set ys k (plain v)) m n) next (agree-first xs ys k n (plain v) a))

-- controls that agree except for those of a run
abbrev AgreeBut : Option ℕ → ℕ → List Control → List Control → Type 0
AgreeBut None n xs ys = xs ≡ ys
AgreeBut (Some k) n xs ys = Agree xs ys k n

but-run : (o p : Option ℕ) (vs : List ℤ) (n : ℕ) (xs ys : List Control) → AgreeBut o n xs ys → AgreeBut o n (with_run p vs xs) (with_run p vs ys)
but-run None p vs n xs ys a = ap (with_run p vs) a
but-run (Some k) None vs n xs ys a = a
but-run (Some k) (Some j) vs n xs ys a = agree-values vs j xs ys k n a

run-over : (o : Option ℕ) (vs : List ℤ) (n : ℕ) (xs ys : List Control) → n ≤ length vs → AgreeBut o n xs ys → with_run o vs xs ≡ with_run o vs ys
run-over None vs n xs ys few a = a
run-over (Some k) vs n xs ys few a = values-over vs xs ys k n few a

but-first : (o : Option ℕ) (vs : List ℤ) (xs : List Control) → AgreeBut o (length vs) (with_run o vs xs) xs
but-first None vs xs = refl
but-first (Some k) vs xs = values-within vs k xs xs k (length vs) (omega arith) (omega arith) (agree-same xs k (length vs))

covered : (r : ControlRun) (rs : List ControlRun) (d : Definition) (xs ys : List Control) → IsCovered Covers r rs → AgreeBut (control_of d r.control) (length r.values) xs ys → with_runs rs d xs ≡ with_runs rs d ys
covered r [] d xs ys is a = absurd is
covered r (s ∷ ss) d xs ys (inl c) a =
    ap (with_runs ss d) (run-over (control_of d s.control) s.values (length r.values) xs ys c.few (subst (λ n. AgreeBut (control_of d n) (length r.values) xs ys) (sym c.control) a))
covered r (s ∷ ss) d xs ys (inr is) a =
    covered r ss d (with_run (control_of d s.control) s.values xs) (with_run (control_of d s.control) s.values ys) is (but-run (control_of d r.control) (control_of d s.control) s.values (length r.values) xs ys a)

left_out : (r : ControlRun) (rs : List ControlRun) → IsCovered Covers r rs → (d : Definition) (cs : List Control) → with_runs (r ∷ rs) d cs ≡ with_runs rs d cs
left_out r rs is d cs = covered r rs d (with_run (control_of d r.control) r.values cs) cs is (but-first (control_of d r.control) r.values cs)

abbrev pub covers : Run → Run → Type 0
covers r later = Covers (run_of r) (run_of later)

covered-runs : (r : Run) (rs : List Run) → IsCovered covers r rs → IsCovered Covers (run_of r) (map run_of rs)
covered-runs r [] is = is
covered-runs r (s ∷ ss) (inl c) = inl c
covered-runs r (s ∷ ss) (inr is) = inr (covered-runs r ss is)

-- what is left of runs sets the same
pub left-set : (rs left : List Run) → AreLeft covers rs left → (d : Definition) (cs : List Control) → with_runs (map run_of left) d cs ≡ with_runs (map run_of rs) d cs
left-set [] left l d cs = ap (λ (all : List Run). with_runs (map run_of all) d cs) l
left-set (r ∷ rs) left (inl l) d cs =
    ap (λ (all : List Run). with_runs (map run_of all) d cs) l.1.0 ∙ left-set rs l.0 l.1.1 d (with_run (control_of d (run_of r).control) (run_of r).values cs)
left-set (r ∷ rs) left (inr l) d cs = left-set rs left l.1 d cs ∙ sym (left_out (run_of r) (map run_of rs) (covered-runs r rs l.0) d cs)

-- ---- what is set in a tree

pub same-outcome : (id : ℤ) (xs ys : List ControlRun) → ((d : Definition) (cs : List Control) → with_runs xs d cs ≡ with_runs ys d cs) → (t : Turn)
    → set_outcome (Some (record { id = id; all = xs })) t ≡ set_outcome (Some (record { id = id; all = ys })) t
same-outcome id xs ys same t = λ i. unless (judge_node t.world id) (Ok (record t { world = record t.world { nodes = reworked (in_synth (λ d cs. same d cs i)) id t.world.nodes } }))
