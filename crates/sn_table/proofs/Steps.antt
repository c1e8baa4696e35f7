-- Each step on the table is a step of the round machine.
use Rattle.std.proofs.Common.{◌≡◌, ℕ, zero, suc, ◌+◌, ◌-◌, ◌%◌, ◌^◌, ◌<◌, Bool, true, false, cond, eqb, eq-eqb, List, [], ◌∷◌, length, get_or, set, take, drop, replicate, sym, refl, ap, ◌∙◌, subst, ⊎_elim, inl, arith, length-set}
use Rattle.std.proofs.lemmas.List.{take-set-le, drop-set-lt, drop-set-add, get_or-drop, get_or-take, length-replicate, take-replicate, drop-replicate}
use Rattle.std.specs.Prelude.{Contains}
use mathlib.Core.Option.{some, none, some-injective, some-ne-none}
use lib.ListN.{get_elem?}
use lib.Seq.{set-get_or}
use prog.Atomic.{either}
use Rattle.atomic_table.proofs.Lists.{set_again}
use Rattle.atomic_table.specs.Table.{Me, Act, keeps, step, Allows, stepped, opening, Splits, Joins}
use Rattle.atomic_table.specs.Table as table
use Rattle.sn_mem.specs.Words.{touches}
use Rattle.sn_machine.specs.declared.views.View.{View}
use Rattle.sn_round.specs.declared.jobs.Job.{Job}
use Rattle.sn_machine.specs.Fits.{Fits, IsBusy, IsFree, foot_of, job_of, picture_of}
use Rattle.sn_machine.specs.Rule.{Between, InRound, IsBlank, RoundHolds}
use Rattle.sn_machine.specs.States.{idle_main, At, CLAIMED, ENDED, IsIdle, RunsJob, memory_in, spent}
use Rattle.sn_machine.specs.Steps.{CanClaim, CanEnd, CanGo, CanJoin, CanRest, CanSplit, CanStore, claim_view, claim_word, ended_view, go_view, join_view, paid_view, pictured, read_view, rested_view, set_count, set_memory, split_main, split_worker}
use Rattle.sn_round.specs.Jobs.{foot_at}
use Rattle.sn_machine.proofs.Quiet.{claim_keeps}
use Rattle.sn_machine.proofs.Stores.{store_keeps}
use Rattle.sn_machine.proofs.Mainly.{memory_keeps, count_keeps, go_keeps}
use Rattle.sn_machine.proofs.Resting.{rest_keeps, join_keeps}
use Rattle.sn_machine.proofs.Sweeping.{sweep_finds}
use Rattle.sn_machine.proofs.Claims.{idle_dead}
use Rattle.sn_machine.proofs.Loads.{look_keeps}
use Rattle.sn_machine.proofs.Replaced.{set_else}
use Rattle.sn_machine.specs.declared.views.Phase.{Phase}
use Rattle.sn_machine.proofs.Splitting.{split_keeps}
use Rattle.sn_machine.proofs.Endings.{end_keeps}
use Rattle.sn_machine.proofs.Releases.{release_keeps, release_word}
use Rattle.sn_machine.proofs.Waits.{no_run, same_picture, same_job}
use Rattle.sn_table.specs.Tables.{state_of, TableHolds, first_view, claimed, loaded, stored, ended, paid, wrote_memory, wrote_count, looked_idle, went, came_to_rest, looked}

-- the rule holds of a new table
pub opens : (m n : ℕ) → TableHolds m n (opening (replicate (m + n) 0) [] (first_view m n))
opens m n = record {
  wide = length-replicate (m + n) 0;
  round = inl (record {
    main = idle_main (replicate m 0) (replicate n 0);
    has_main = (first_view m n, refl, refl);
    phase = λ k. Rattle.sn_machine.specs.declared.views.Phase.TheVariants.Idle (sym (take-replicate m (m + n) 0 (omega arith)) k) (sym (drop-replicate m (m + n) 0 ∙ ap (λ c. replicate c 0) shift) k);
    knows = refl;
    live = refl;
    blank = λ i v at. subst (λ (y : View). IsBlank y.worker) (only i v at) (record { dead = refl; runs = refl; debts = refl; ended = refl });
    others = λ i v at d. absurd (d (first i v at));
  });
}
  where
    shift : (m + n) - m ≡ n
    shift = omega arith

    only : (i : ℕ) (v : View) → get_elem? (first_view m n ∷ []) i ≡ some v → first_view m n ≡ v
    only zero v e = some-injective _ _ e
    only (suc i) v e = absurd (some-ne-none v (sym e))

    first : (i : ℕ) (v : View) → get_elem? (first_view m n ∷ []) i ≡ some v → i ≡ 0
    first zero v e = refl
    first (suc i) v e = absurd (some-ne-none v (sym e))

either_cond : (b : Bool) (x y : ℕ) → either b x y ≡ cond b x y
either_cond true x y = refl
either_cond false x y = refl

take_set : (m : ℕ) (ws : List ℕ) (x a : ℕ) → take m (set ws x a) ≡ set (take m ws) x a
take_set zero ws x a = refl
take_set (suc m) [] x a = refl
take_set (suc m) (w ∷ ws) zero a = refl
take_set (suc m) (w ∷ ws) (suc x) a = ap (λ l. w ∷ l) (take_set m ws x a)

abbrev St : Type 0
St = table.State ℕ View

-- a step on a job word
on_count : (m : ℕ) (s : St) (j a id : ℕ) (w : View) → RoundHolds (record { memory = take m s.words; counts = set (drop m s.words) j a; views = set s.views id w })
    → RoundHolds (record { memory = take m (set s.words (m + j) a); counts = drop m (set s.words (m + j) a); views = set s.views id w })
on_count m s j a id w h = subst (λ (p : List ℕ × List ℕ). RoundHolds (record { memory = p.0; counts = p.1; views = set s.views id w }))
    (λ k. (sym (take-set-le m s.words (m + j) a (omega arith)) k, sym (drop-set-add m s.words j a) k)) h

-- a step on a memory word
on_memory : (m : ℕ) (s : St) (x a id : ℕ) (w : View) → x < m → RoundHolds (record { memory = set (take m s.words) x a; counts = drop m s.words; views = set s.views id w })
    → RoundHolds (record { memory = take m (set s.words x a); counts = drop m (set s.words x a); views = set s.views id w })
on_memory m s x a id w l h = subst (λ (p : List ℕ × List ℕ). RoundHolds (record { memory = p.0; counts = p.1; views = set s.views id w }))
    (λ k. (sym (take_set m s.words x a) k, sym (drop-set-lt m s.words x a l) k)) h

swept : (m n : ℕ) (s : St) (id : ℕ) (v : View) (j : ℕ) → TableHolds m n s → At s.views id v → CanClaim v j → v.worker.sweeps ≡ true
    → (IsFree v j → get_or s.words (m + j) 0 ≡ 0) × (get_or s.words (m + j) 0 ≡ 0 → IsFree v j)
swept m n s id v j h at can sw =
    let here : get_or (drop m s.words) j 0 ≡ get_or s.words (m + j) 0 = get_or-drop m s.words j 0 in
    let finds = sweep_finds (state_of m s) id v j h.round at can sw in
    ((λ f. sym here ∙ finds.1 f), (λ e. finds.0 (here ∙ e)))

pub claim_allows : (m n slots id : ℕ) (v : View) (j : ℕ) → v.size ≡ m → CanClaim v j → Allows (TableHolds m n) slots id (v, []) (m + j) (λ x. either (eqb x 0) CLAIMED x) (claimed (step slots (m + j) 0 CLAIMED none) (v, []))
claim_allows m n slots id v j size can s h len at small =
    let found : ℕ = get_or s.words (m + j) 0 in
    let w : View = claim_view v j found in
    let here : get_or (drop m s.words) j 0 ≡ found = get_or-drop m s.words j 0 in
    let word : (m + j) - v.size ≡ j = omega arith in (
      w,
      keeps,
      tt,
      record {
        wide = length-set s.words (m + j) (either (eqb found 0) CLAIMED found) ∙ h.wide;
        round = on_count m s j (either (eqb found 0) CLAIMED found) id w
            (subst (λ (p : ℕ × ℕ). RoundHolds (record { memory = take m s.words; counts = set (drop m s.words) j p.0; views = set s.views id (claim_view v j p.1) }))
            (λ k. ((ap claim_word here ∙ sym (either_cond (eqb found 0) CLAIMED found)) k, here k))
            (claim_keeps (state_of m s) id v j h.round at can));
      },
      (ap (λ x. (claim_view v x found, [])) (sym word), λ sw. subst (λ x. (IsFree v x → found ≡ 0) × (found ≡ 0 → IsFree v x)) (sym word) (swept m n s id v j h at can sw)),
    )

-- the same at the numbers that the table's key and the seat say
pub claim_allows_at : (m n kw kj slots id : ℕ) (me : Me ℕ View) (j : ℕ) → kw ≡ m → kj ≡ n → me.1 ≡ [] → me.0.size ≡ m → CanClaim me.0 j
    → Allows (TableHolds kw kj) slots id me (m + j) (λ x. either (eqb x 0) CLAIMED x) (claimed (step slots (m + j) 0 CLAIMED none) me)
claim_allows_at m n kw kj slots id me j a b c size can = subst (λ (p : ℕ × ℕ × List (ℕ × ℕ)). Allows (TableHolds p.0 p.1) slots id (me.0, p.2) (m + j) (λ x. either (eqb x 0) CLAIMED x) (claimed (step slots (m + j) 0 CLAIMED none) (me.0, p.2)))
    (λ k. (sym a k, sym b k, sym c k)) (claim_allows m n slots id me.0 j size can)

pub store_allows : (m n slots id : ℕ) (v : View) (j : ℕ) (picture : List ℕ) (x a : ℕ) → x < m → CanStore v j picture x → Allows (TableHolds m n) slots id (v, []) x (λ _. a) (λ _. stored (step slots x a 0 none) (v, []) a)
store_allows m n slots id v j picture x a l can s h len at small =
    let w : View = pictured v j (set picture x a) in (
      w,
      keeps,
      tt,
      record {
        wide = length-set s.words x a ∙ h.wide;
        round = on_memory m s x a id w l (store_keeps (state_of m s) id v j picture x a h.round at can);
      },
      λ k p runs. let e = same_job v.worker.runs j k picture p can.runs runs in let f = same_picture v.worker.runs j k picture p can.runs runs in (λ i. (pictured v (e i) (set (f i) x a), [])),
    )

pub store_allows_at : (m n kw kj slots id : ℕ) (me : Me ℕ View) (j : ℕ) (picture : List ℕ) (x a : ℕ) → kw ≡ m → kj ≡ n → me.1 ≡ [] → x < m → CanStore me.0 j picture x
    → Allows (TableHolds kw kj) slots id me x (λ _. a) (λ _. stored (step slots x a 0 none) me a)
store_allows_at m n kw kj slots id me j picture x v a b c l can = subst (λ (p : ℕ × ℕ × List (ℕ × ℕ)). Allows (TableHolds p.0 p.1) slots id (me.0, p.2) x (λ _. v) (λ _. stored (step slots x v 0 none) (me.0, p.2) v))
    (λ k. (sym a k, sym b k, sym c k)) (store_allows m n slots id me.0 j picture x v l can)

-- a running job finds the words of its picture
found_in : (m : ℕ) (s : St) (id : ℕ) (v : View) (j : ℕ) (picture : List ℕ) (x : ℕ) → RoundHolds (state_of m s) → At s.views id v → RunsJob v j picture → x < m → touches (foot_at v.worker.jobs j) x ≡ true
    → get_or s.words x 0 ≡ get_or picture x 0
found_in m s id v j picture x h at runs l t = ⊎_elim
    (λ (b : Between (state_of m s)). absurd (no_run v j picture (b.blank id v at).runs runs))
    (λ (r : InRound (state_of m s)).
    let live = (r.claims.runner id v j picture at runs).0 in
    sym (r.pictures.inside id v j picture x at runs (subst (λ (js : List Job). touches (foot_at js j) x ≡ true) (r.seats.live id v at live).0 t) ∙ get_or-take m s.words x 0 l))
    h

pub load_allows : (m n slots id : ℕ) (v : View) (j : ℕ) (picture : List ℕ) (x : ℕ) → x < m → RunsJob v j picture → touches (foot_at v.worker.jobs j) x ≡ true → Allows (TableHolds m n) slots id (v, []) x (λ y. y) (loaded (step slots x 0 0 none) (v, []))
load_allows m n slots id v j picture x l runs t s h len at small = (
  v,
  keeps,
  tt,
  subst (λ (p : List ℕ × List View). TableHolds m n (record { words = p.0; homes = s.homes; views = p.1 })) (λ k. (sym (set-get_or s.words x 0) k, sym (set_again s.views id v at) k)) h,
  (refl, λ k p runs' t'. found_in m s id v k p x h.round at runs' l t'),
)

pub load_allows_at : (m n kw kj slots id : ℕ) (me : Me ℕ View) (j : ℕ) (picture : List ℕ) (x : ℕ) → kw ≡ m → kj ≡ n → me.1 ≡ [] → x < m → RunsJob me.0 j picture → touches (foot_at me.0.worker.jobs j) x ≡ true
    → Allows (TableHolds kw kj) slots id me x (λ y. y) (loaded (step slots x 0 0 none) me)
load_allows_at m n kw kj slots id me j picture x a b c l runs t = subst (λ (p : ℕ × ℕ × List (ℕ × ℕ)). Allows (TableHolds p.0 p.1) slots id (me.0, p.2) x (λ y. y) (loaded (step slots x 0 0 none) (me.0, p.2)))
    (λ k. (sym a k, sym b k, sym c k)) (load_allows m n slots id me.0 j picture x l runs t)

-- how far a running job is in the table
pub within : (v : View) (m x : ℕ) → v.size ≡ m → Fits v → IsBusy v → touches (foot_of v) x ≡ true → x < m
within v m x e f busy t = subst (λ n. x < n) e (f.within (job_of v) x (f.running (job_of v) (picture_of v) busy).0 t)

split_allows : (m n : ℕ) (v : View) → CanSplit v → Splits (TableHolds m n) 0 v (split_main v) (split_worker v)
split_allows m n v can s h at = record { wide = h.wide; round = split_keeps (state_of m s) v h.round at can }

pub split_allows_at : (m n id : ℕ) (v : View) → id ≡ 0 → CanSplit v → Splits (TableHolds m n) id v (split_main v) (split_worker v)
split_allows_at m n id v e can = subst (λ i. Splits (TableHolds m n) i v (split_main v) (split_worker v)) (sym e) (split_allows m n v can)

pub end_allows : (m n slots id : ℕ) (v : View) (j : ℕ) (picture : List ℕ) → v.size ≡ m → CanEnd v j picture → Allows (TableHolds m n) slots id (v, []) (m + j) (λ _. ENDED) (λ _. ended (step slots (m + j) ENDED 0 none) (v, []) ENDED)
end_allows m n slots id v j picture size can s h len at small =
    let w : View = ended_view v j in
    let word : (m + j) - v.size ≡ j = omega arith in (
      w,
      keeps,
      tt,
      record { wide = length-set s.words (m + j) ENDED ∙ h.wide; round = on_count m s j ENDED id w (end_keeps (state_of m s) id v j picture h.round at can) },
      ap (λ x. (ended_view v x, [])) (sym word),
    )

pub end_allows_at : (m n kw kj slots id : ℕ) (me : Me ℕ View) (j i : ℕ) (picture : List ℕ) → kw ≡ m → kj ≡ n → me.1 ≡ [] → me.0.size ≡ m → i ≡ j → CanEnd me.0 i picture
    → Allows (TableHolds kw kj) slots id me (m + j) (λ _. ENDED) (λ _. ended (step slots (m + j) ENDED 0 none) me ENDED)
end_allows_at m n kw kj slots id me j i picture a b c size same can = subst (λ (p : ℕ × ℕ × List (ℕ × ℕ)). Allows (TableHolds p.0 p.1) slots id (me.0, p.2) (m + j) (λ _. ENDED) (λ _. ended (step slots (m + j) ENDED 0 none) (me.0, p.2) ENDED))
    (λ k. (sym a k, sym b k, sym c k)) (end_allows m n slots id me.0 j picture size (subst (λ x. CanEnd me.0 x picture) same can))

less_one : (x : ℕ) → 0 < x → x < 2 ^ 32 → (x + (2 ^ 64 - 1)) % 2 ^ 64 ≡ x - 1
less_one x a b = omega arith

found_count : (m n : ℕ) (s : St) (id : ℕ) (v : View) (p q : ℕ) (rest : List (ℕ × ℕ)) → TableHolds m n s → At s.views id v → v.worker.debts ≡ (p, q) ∷ rest → (0 < get_or s.words (m + q) 0) × (get_or s.words (m + q) 0 < 2 ^ 32)
found_count m n s id v p q rest h at owes = ⊎_elim
    (λ (b : Between (state_of m s)). let e : ◌≡◌ {A = List (ℕ × ℕ)} ((p, q) ∷ rest) [] = sym owes ∙ (b.blank id v at).debts in absurd (cc))
    (λ r. subst (λ x. (0 < x) × (x < 2 ^ 32)) (get_or-drop m s.words q 0) (release_word (state_of m s) id v [] p q rest r at owes))
    h.round

pub release_allows : (m n slots id : ℕ) (v : View) (p q : ℕ) (rest : List (ℕ × ℕ)) → v.worker.debts ≡ (p, q) ∷ rest
    → Allows (TableHolds m n) slots id (v, []) (m + q) (λ x. (x + (2 ^ 64 - 1)) % 2 ^ 64) (paid (step slots (m + q) 1 0 none) (v, []))
release_allows m n slots id v p q rest owes s h len at small =
    let found : ℕ = get_or s.words (m + q) 0 in
    let w : View = paid_view v q rest (found - 1) in
    let f = found_count m n s id v p q rest h at owes in
    let here : get_or (drop m s.words) q 0 ≡ found = get_or-drop m s.words q 0 in
    let less = less_one found f.0 f.1 in (
      w,
      keeps,
      tt,
      record {
        wide = length-set s.words (m + q) ((found + (2 ^ 64 - 1)) % 2 ^ 64) ∙ h.wide;
        round = on_count m s q ((found + (2 ^ 64 - 1)) % 2 ^ 64) id w
            (subst (λ (x : ℕ × ℕ). RoundHolds (record { memory = take m s.words; counts = set (drop m s.words) q x.0; views = set s.views id (paid_view v q rest x.1) }))
            (λ k. ((ap (λ x. x - 1) here ∙ sym less) k, (ap (λ x. x - 1) here) k))
            (release_keeps (state_of m s) id v [] p q rest h.round at owes));
      },
      λ p' q' rest' owes'.
          let e : ◌≡◌ {A = List (ℕ × ℕ)} ((p, q) ∷ rest) ((p', q') ∷ rest') = sym owes ∙ owes' in
          let a : q ≡ q' = ap (λ (d : ℕ × ℕ). d.1) (ap (λ (l : List (ℕ × ℕ)). get_or l 0 (0, 0)) e) in
          let b : rest ≡ rest' = ap (drop 1) e in
          ((λ i. (paid_view v (a i) (b i) (found - 1), [])), f.0),
    )

pub release_allows_at : (m n kw kj slots id : ℕ) (me : Me ℕ View) (p q : ℕ) (rest : List (ℕ × ℕ)) → kw ≡ m → kj ≡ n → me.1 ≡ [] → me.0.worker.debts ≡ (p, q) ∷ rest
    → Allows (TableHolds kw kj) slots id me (m + q) (λ x. (x + (2 ^ 64 - 1)) % 2 ^ 64) (paid (step slots (m + q) 1 0 none) me)
release_allows_at m n kw kj slots id me p q rest a b c owes = subst (λ (x : ℕ × ℕ × List (ℕ × ℕ)). Allows (TableHolds x.0 x.1) slots id (me.0, x.2) (m + q) (λ x. (x + (2 ^ 64 - 1)) % 2 ^ 64) (paid (step slots (m + q) 1 0 none) (me.0, x.2)))
    (λ k. (sym a k, sym b k, sym c k)) (release_allows m n slots id me.0 p q rest owes)

-- if nothing changes but a view
unchanged : (m n : ℕ) (s : St) (x id : ℕ) (w : View) → length s.words ≡ m + n → RoundHolds (record { memory = take m s.words; counts = drop m s.words; views = set s.views id w })
    → TableHolds m n (record { words = set s.words x (get_or s.words x 0); homes = s.homes; views = set s.views id w })
unchanged m n s x id w wide h = subst (λ (ws : List ℕ). TableHolds m n (record { words = ws; homes = s.homes; views = set s.views id w })) (sym (set-get_or s.words x 0)) (record { wide = wide; round = h })

module _ (m n slots : ℕ) (v : View) where
  pub memory_allows : (x a : ℕ) → x < m → IsIdle v → Allows (TableHolds m n) slots 0 (v, []) x (λ _. a) (λ _. wrote_memory (step slots x a 0 none) (v, []) a)
  memory_allows x a l idle s h len at small = (
    set_memory v x a,
    keeps,
    tt,
    record { wide = length-set s.words x a ∙ h.wide; round = on_memory m s x a 0 (set_memory v x a) l (memory_keeps (state_of m s) v x a h.round at idle) },
    refl,
  )

  pub count_allows : (j a : ℕ) → v.size ≡ m → IsIdle v → Allows (TableHolds m n) slots 0 (v, []) (m + j) (λ _. a) (λ _. wrote_count (step slots (m + j) a 0 none) (v, []) a)
  count_allows j a size idle s h len at small = let word : (m + j) - v.size ≡ j = omega arith in (
    set_count v j a,
    keeps,
    tt,
    record { wide = length-set s.words (m + j) a ∙ h.wide; round = on_count m s j a 0 (set_count v j a) (count_keeps (state_of m s) v j a h.round at idle) },
    ap (λ x. (set_count v x a, [])) (sym word),
  )

  pub idle_allows : (x : ℕ) → v.size ≡ m → IsIdle v → Allows (TableHolds m n) slots 0 (v, []) x (λ y. y) (looked_idle (step slots x 0 0 none) (v, []))
  idle_allows x size idle s h len at small = (
    v,
    keeps,
    tt,
    unchanged m n s x 0 v h.wide (subst (λ vs. RoundHolds (record { memory = take m s.words; counts = drop m s.words; views = vs })) (sym (set_again s.views 0 v at)) h.round),
    (refl, λ l. shown l),
  )
    where
      shown : x < v.size → get_or s.words x 0 ≡ get_or (memory_in v.main.phase) x 0
      shown l = ⊎_elim
          (λ (b : Between (state_of m s)).
          let p = Rattle.sn_machine.proofs.Mainly.phase_of (state_of m s) v b at in
          sym (get_or-take m s.words x 0 (omega arith)) ∙ sym (ap (λ (y : Phase). get_or (memory_in y) x 0) p))
          (λ r. absurd (Rattle.sn_machine.proofs.Mainly.idle_round (state_of m s) v r at idle))
          h.round

  pub go_allows : (jobs : List Job) (script : List (List ℕ)) → CanGo v jobs script → Allows (TableHolds m n) slots 0 (v, []) 0 (λ y. y) (went jobs script (step slots 0 0 0 none) (v, []))
  go_allows jobs script can s h len at small = (go_view v jobs script, keeps, tt, unchanged m n s 0 0 (go_view v jobs script) h.wide (go_keeps (state_of m s) v jobs script h.round at can), refl)

  pub rest_allows : CanRest v → Allows (TableHolds m n) slots 0 (v, []) 0 (λ y. y) (came_to_rest (step slots 0 0 0 none) (v, []))
  rest_allows can s h len at small = (rested_view v, keeps, tt, unchanged m n s 0 0 (rested_view v) h.wide (rest_keeps (state_of m s) v h.round at can), refl)

-- at the numbers that the table's key and the seat say
pub keyed : (kw kj m n id slots : ℕ) (me : Me ℕ View) (i : ℕ) (f : ℕ → ℕ) (then : Me ℕ View → ℕ → Me ℕ View → Type 0) → kw ≡ m → kj ≡ n → id ≡ 0 → me.1 ≡ []
    → Allows (TableHolds m n) slots 0 (me.0, []) i f (then (me.0, [])) → Allows (TableHolds kw kj) slots id me i f (then me)
keyed kw kj m n id slots me i f then a b c d h = subst (λ (x : ℕ × ℕ × ℕ × List (ℕ × ℕ)). Allows (TableHolds x.0 x.1) slots x.2 (me.0, x.3) i f (then (me.0, x.3))) (λ k. (sym a k, sym b k, sym c k, sym d k)) h

pub join_allows : (m n id : ℕ) (v : View) (other : ℕ) (w : View) → id ≡ 0 → CanJoin w → Joins (TableHolds m n) id v other w (join_view v w) spent
join_allows m n id v other w e can = subst (λ i. Joins (TableHolds m n) i v other w (join_view v w) spent) (sym e)
    (λ s h at apart there. record { wide = h.wide; round = join_keeps (state_of m s) v other w h.round at apart (sym (set_else s.views 0 other (join_view v w) apart) ∙ there) can })

-- on the sweep's seat a job that has ended is known
sighted : (m n : ℕ) (s : St) (id : ℕ) (v : View) (j : ℕ) → TableHolds m n s → At s.views id v → v.worker.live ≡ true → v.worker.sweeps ≡ true → j < length v.worker.jobs → get_or s.words (m + j) 0 ≡ ENDED → Contains v.worker.ended j
sighted m n s id v j h at live sw l e = ⊎_elim
    (λ (b : Between (state_of m s)). absurd (idle_dead (state_of m s) id v b at live))
    (λ (r : InRound (state_of m s)).
    let same = (r.seats.live id v at live).0 in
    r.sweep.knows id v j at live sw (subst (λ (js : List Job). j < length js) same l) (eq-eqb (get_or (drop m s.words) j 0) ENDED (get_or-drop m s.words j 0 ∙ e)))
    h.round

pub look_allows : (m n slots id : ℕ) (v : View) (j : ℕ) → v.size ≡ m → v.worker.live ≡ true → Allows (TableHolds m n) slots id (v, []) (m + j) (λ y. y) (looked (step slots (m + j) 0 0 none) (v, []))
look_allows m n slots id v j size live s h len at small =
    let found : ℕ = get_or s.words (m + j) 0 in
    let word : (m + j) - v.size ≡ j = omega (arith, size) in (
      read_view v j found,
      keeps,
      tt,
      unchanged m n s (m + j) id (read_view v j found) h.wide
          (subst (λ x. RoundHolds (record { memory = take m s.words; counts = drop m s.words; views = set s.views id (read_view v j x) })) (get_or-drop m s.words j 0) (look_keeps (state_of m s) id v j h.round at live)),
      (ap (λ x. (read_view v x found, [])) (sym word), λ sw l e. subst (Contains v.worker.ended) (sym word) (sighted m n s id v j h at live sw (subst (λ x. x < length v.worker.jobs) word l) e)),
    )

pub look_allows_at : (m n kw kj slots id : ℕ) (me : Me ℕ View) (j : ℕ) → kw ≡ m → kj ≡ n → me.1 ≡ [] → me.0.size ≡ m → me.0.worker.live ≡ true
    → Allows (TableHolds kw kj) slots id me (m + j) (λ y. y) (looked (step slots (m + j) 0 0 none) me)
look_allows_at m n kw kj slots id me j a b c size live = subst (λ (p : ℕ × ℕ × List (ℕ × ℕ)). Allows (TableHolds p.0 p.1) slots id (me.0, p.2) (m + j) (λ y. y) (looked (step slots (m + j) 0 0 none) (me.0, p.2)))
    (λ k. (sym a k, sym b k, sym c k)) (look_allows m n slots id me.0 j size live)
