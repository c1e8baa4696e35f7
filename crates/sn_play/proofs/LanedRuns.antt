-- A job of a stage's plan runs its synths through their lanes and then adds its own, over a foot that has all their
-- words.
use Rattle.std.proofs.Common.{◌≡◌, ◌≤◌, ◌<◌, ◌⊎◌, inl, inr, ⊎_elim, ℕ, ◌+◌, ◌*◌, ◌==◌, true, ◌&&◌, List, [], ◌∷◌, ◌++◌, map, ℤ, pos, length, refl, ap, sym, subst, ◌∙◌, arith, All, true≢false}
use Rattle.std.specs.Prelude.{nat_le, nat_lt}
use Rattle.std.specs.Ordering.{int_eq}
use Rattle.std.proofs.lemmas.Bool.{and_parts, cond_both, cond-true, eq-eqb, leb-true, ltb-true}
use Rattle.std.proofs.lemmas.List.Elements.{All-cons, All-nil}
use Rattle.sn_mem.specs.declared.extents.Extent.{Extent}
use Rattle.sn_mem.specs.declared.extents.Foot.{Foot}
use Rattle.sn_mem.specs.declared.moves.Moved.{Moved}
use Rattle.sn_mem.specs.ThroughFoot.{kept_to}
use Rattle.sn_mem.specs.Lanes.{buses_in, lanes_in}
use Rattle.sn_mem.specs.Layout.{audio_place, lane_place}
use Rattle.sn_mem.specs.Words.{covers, has, touches}
use Rattle.sn_io.specs.ByFoot.{IsByFoot}
use Rattle.sn_io.specs.Joints.{MayAdd, with_lane, with_lanes}
use Rattle.sn_io.specs.Queues.{IsAmong}
use Rattle.sn_io.proofs.ByFoot.{kept_same}
use Rattle.sn_io.proofs.LanesByFoot.{lane_of}
use Rattle.sn_io.proofs.QueueRuns.{bus_of}
use Rattle.sn_round.specs.declared.jobs.Job.{Job}
use Rattle.sn_round.specs.Jobs.{AreWithin, foot_at, job_at, lanes_at}
use Rattle.sn_round.specs.Scripts.{list_at, sequential}
use Rattle.sn_tree.specs.Trees.{ids, subtree}
use Rattle.sn_tree.specs.Steps.{AllDistinct}
use Rattle.sn_world.specs.Pictures.{Pictures}
use Rattle.sn_world.specs.Walk.{walk}
use Rattle.sn_world.specs.World.{world_of}
use Rattle.sn_world.specs.declared.stage.Stage.{Stage}
use Rattle.sn_graph.specs.declared.nodes.Voice.{Voice}
use Rattle.sn_graph.specs.Voices.{HeardNodes, own_foot, voices}
use Rattle.sn_graph.specs.Fitting.{Fits, at_end, rendered, added, on}
use Rattle.sn_graph.specs.Plans.{IsPlanned, Step, renders, adds_lane, runs_of, steps_of, synths_with, is_listed}
use Rattle.sn_graph.specs.Stages.{nodes_with}
use Rattle.sn_graph.proofs.Lanewise.{times}
use Rattle.sn_play.specs.Blocks.{AreResting}
use Rattle.sn_play.specs.Steps.{CanMove, CanMoveAll, job_steps, lane_steps}
use Rattle.sn_play.proofs.Among.{Among, among_filter, among_left}
use Rattle.sn_play.proofs.JobFeet.{of_all}
use Rattle.sn_play.proofs.LanedJobs.{added_is, added_there, is_among, is_render, job_by_foot, jobs_are_steps, lane_at, lane_then, may_add, runs, runs_by_foot}
use Rattle.sn_play.proofs.LanedStage.{can_move, inside, own_where}
use Rattle.sn_play.proofs.LanedSteps.{among_times, moves_in, of_extent}
use Rattle.sn_play.proofs.LanedWalk.{fits_of, rest_again, steps_move, world_is}

-- ---- lanes that wait

same_one : (ms : List Moved) (m : Moved) → IsAmong ms m → Among ms m
same_one [] m i = absurd i
same_one (k ∷ ms) m i = ⊎_elim (λ (e : k ≡ m). inl e) (λ (j : IsAmong ms m). inr (same_one ms m j)) i

one_left : (xs ys : List Moved) (m : Moved) → IsAmong xs m → IsAmong (xs ++ ys) m
one_left [] ys m i = absurd i
one_left (k ∷ xs) ys m i = ⊎_elim (λ (e : k ≡ m). inl e) (λ (j : IsAmong xs m). inr (one_left xs ys m j)) i

one_right : (xs ys : List Moved) (m : Moved) → IsAmong ys m → IsAmong (xs ++ ys) m
one_right [] ys m i = i
one_right (k ∷ xs) ys m i = inr (one_right xs ys m i)

one_of_two : (xs ys : List Moved) (m : Moved) → IsAmong (xs ++ ys) m → IsAmong xs m ⊎ IsAmong ys m
one_of_two [] ys m i = inr i
one_of_two (k ∷ xs) ys m i = ⊎_elim
    (λ (e : k ≡ m). inl (inl e))
    (λ (j : IsAmong (xs ++ ys) m). ⊎_elim (λ (l : IsAmong xs m). inl (inr l)) (λ (r : IsAmong ys m). inr r) (one_of_two xs ys m j))
    i

on_among : (n : ℕ) (ms : List Moved) (m : Moved) → IsAmong (on n ms) m → IsAmong ms m
on_among n [] m i = absurd i
on_among n (k ∷ ms) m i =
    cond_both (k.bus.at == 65 * n) (k ∷ on n ms) (on n ms) (λ (ks : List Moved). IsAmong ks m → IsAmong (k ∷ ms) m)
    (λ yes j. ⊎_elim (λ (e : k ≡ m). inl e) (λ (r : IsAmong (on n ms) m). inr (on_among n ms m r)) j)
    (λ no j. inr (on_among n ms m j))
    i

-- a lane that is added waited before the steps, or is one that they move
queued : {vs : List Voice} {q r : ℕ → List Moved} {steps : List Step} → Fits vs q steps r → (m : Moved) → Among steps (adds_lane m) → ((n : ℕ) × ((n < 128) × IsAmong (q n) m)) ⊎ IsAmong (moves_in steps) m
queued (at_end e) m a = absurd a
queued (rendered {q} {p} {r} {rest} v is free next f) m a = ⊎_elim
    (λ (e : renders v.id v.moves ≡ adds_lane m). absurd (true≢false (ap is_render e)))
    (λ (b : Among rest (adds_lane m)). ⊎_elim
    (λ (w : (n : ℕ) × ((n < 128) × IsAmong (p n) m)). ⊎_elim
    (λ (l : IsAmong (q w.0) m). inl (w.0, (w.1.0, l)))
    (λ (o : IsAmong (on w.0 v.moves) m). inr (one_left v.moves (moves_in rest) m (on_among w.0 v.moves m o)))
    (one_of_two (q w.0) (on w.0 v.moves) m (subst (λ (ms : List Moved). IsAmong ms m) (next w.0 w.1.0) w.1.1)))
    (λ (o : IsAmong (moves_in rest) m). inr (one_right v.moves (moves_in rest) m o))
    (queued f m b))
    a
queued (added {q} {p} {r} {rest} k i low at first_is f) m a = ⊎_elim
    (λ (e : adds_lane k ≡ adds_lane m).
    let same : k ≡ m = ap (lane_at k) e in
    let here : IsAmong (on i (k ∷ [])) m = subst (λ (ms : List Moved). IsAmong ms m) (sym (cond-true (k.bus.at == 65 * i) (k ∷ []) [] (eq-eqb k.bus.at (65 * i) at))) (inl same) in
    inl (i, (low, subst (λ (ms : List Moved). IsAmong ms m) (sym (first_is i low)) (one_left (on i (k ∷ [])) (p i) m here))))
    (λ (b : Among rest (adds_lane m)). ⊎_elim
    (λ (w : (n : ℕ) × ((n < 128) × IsAmong (p n) m)). inl (w.0, (w.1.0, subst (λ (ms : List Moved). IsAmong ms m) (sym (first_is w.0 w.1.0)) (one_right (on w.0 (k ∷ [])) (p w.0) m w.1.1))))
    (λ (o : IsAmong (moves_in rest) m). inr o)
    (queued f m b))
    a

-- ---- what holds for each

can_all : (stage : Stage) (b : ℕ) (f : Foot) (size : ℕ) (nodes : List ℤ) (moves : List (List Moved)) → ((a : ℤ) (ms : List Moved) → Among (runs_of nodes moves) (renders a ms) → CanMove stage b a ms f size) → CanMoveAll stage b nodes moves f size
can_all stage b f size [] moves h = tt
can_all stage b f size (a ∷ nodes) [] h = (h a [] (inl refl), can_all stage b f size nodes [] (λ c ms i. h c ms (inr i)))
can_all stage b f size (a ∷ nodes) (ms ∷ moves) h = (h a ms (inl refl), can_all stage b f size nodes moves (λ c ks i. h c ks (inr i)))

all_of : {A : Type 0} (P : A → Type 0) (xs : List A) → ((x : A) → Among xs x → P x) → All P xs
all_of P [] h = All-nil P
all_of P (x ∷ xs) h = All-cons P x xs (h x (inl refl)) (all_of P xs (λ y i. h y (inr i)))

added_steps : (stage : Stage) (b : ℕ) (lanes : List Moved) (ws : List ℕ) → lane_steps stage b (map adds_lane lanes) ws ≡ with_lanes b lanes ws
added_steps stage b [] ws = refl
added_steps stage b (m ∷ lanes) ws = added_steps stage b lanes (with_lane b m ws)

-- ---- the jobs of a stage's plan

module _ (stage : Stage) (top : subtree (pos 0) stage.tree.attached ≡ stage.tree.attached) (distinct : AllDistinct int_eq (ids stage.tree.attached)) (words : List ℕ) (p : Pictures stage words) (first most : ℕ) (lies : 10368 + stage.pool.region.len ≤ first) (room : first + 65 * most ≤ length words) (bounded : first + 65 * most < 4294967296)
    (end : first + 266240 < 4294967296) (few : most ≤ 4096) (js : List Job) (planned : IsPlanned (nodes_with first most stage) js) where
  abbrev tree : HeardNodes
  tree = nodes_with first most stage

  -- a lane that a job adds is one of those that synths move
  lane_below : (i : ℕ) → i < length js → (m : Moved) → Among (lanes_at js i) m → (k : ℕ) × ((m.lane ≡ lane_place first k) × (k < most))
  lane_below i lt m a =
      let is = added_is stage top distinct words p first most lies room bounded end few js planned 0 i lt m a in
      let k : ℕ = is.1.1.1.0 in
      let moved : List Moved = moves_in (steps_of tree) in
      ⊎_elim
      (λ (w : (n : ℕ) × ((n < 128) × IsAmong [] m)). absurd w.1.1)
      (λ (o : IsAmong moved m).
      let some : 1 ≤ times first k moved = among_times first k moved m o (ap (λ (e : Extent). e.at) is.1.1.1.1) in
      (k, (is.1.1.1.1, inside stage top distinct words p first most lies room bounded k (omega (arith, some, ap (λ (ms : List Moved). times first k ms) (steps_move tree))))))
      (queued (fits_of stage top distinct words p first most lies room bounded) m (added_there stage top distinct words p first most lies room bounded end few js planned 0 i lt m a))

  -- each word of a job's foot is one of the buses or of the pool, or of a lane
  pub touched_where : (i x : ℕ) → i < length js → touches (foot_at js i) x ≡ true → (x < 10368 + stage.pool.region.len) ⊎ ((first ≤ x) × (x < first + 65 * most))
  touched_where i x lt t =
      let nodes : List ℤ = (job_at js i).synths in
      let vs : List Voice = synths_with nodes (voices tree) in
      let lanes : List Moved = lanes_at js i in
      ⊎_elim
      (λ (r : (v : Voice) × (Among vs v × (touches (own_foot v) x ≡ true))). ⊎_elim
      (λ (l : x < 10368 + stage.pool.region.len). inl l)
      (λ (o : (nat_le first x && nat_lt x (first + 65 * most)) ≡ true). let q = and_parts (nat_le first x) (nat_lt x (first + 65 * most)) o in inr (leb-true first x q.0, ltb-true x (first + 65 * most) q.1))
      (own_where stage top distinct words p first most lies room bounded 0 r.0 (is_among (voices tree) r.0 (among_filter (λ (v : Voice). is_listed nodes v.id) (voices tree) r.0 r.1.0)) x r.1.1))
      (λ (o : (has (lanes_in lanes) x ≡ true) ⊎ (has (buses_in lanes) x ≡ true)). ⊎_elim
      (λ (l : has (lanes_in lanes) x ≡ true).
      let q = lane_of lanes x l in
      let k = lane_below i lt q.0 (same_one lanes q.0 q.1.0) in
      let u = of_extent (lane_place first k.0) x (subst (λ (e : Extent). covers e x ≡ true) k.1.0 q.1.1) in
      inr (omega (arith, u.0), omega (arith, u.1, k.1.1)))
      (λ (c : has (buses_in lanes) x ≡ true).
      let q = bus_of lanes x c in
      let is = added_is stage top distinct words p first most lies room bounded end few js planned 0 i lt q.0 (same_one lanes q.0 q.1.0) in
      let u = of_extent (audio_place is.0) x (subst (λ (e : Extent). covers e x ≡ true) is.1.1.0 q.1.1) in
      inl (omega (arith, u.1, is.1.0)))
      o)
      (of_all vs lanes x (ap (λ (f : Foot). touches f x) (sym (planned.feet i lt)) ∙ t))

  pub feet_within : AreWithin (length words) js
  feet_within i x lt t = ⊎_elim
      (λ (l : x < 10368 + stage.pool.region.len). omega (arith, l, p.fits))
      (λ (r : (first ≤ x) × (x < first + 65 * most)). omega (arith, r.1, room))
      (touched_where i x lt t)

  -- its synths can run over its foot, if that lies in so many words
  pub job_can : (b i size : ℕ) → i < length js → ((x : ℕ) → touches (foot_at js i) x ≡ true → x < size) → CanMoveAll stage b (job_at js i).synths (job_at js i).moves (foot_at js i) size
  job_can b i size lt wide =
      let synths : List Step = runs_of (job_at js i).synths (job_at js i).moves in
      can_all stage b (foot_at js i) size (job_at js i).synths (job_at js i).moves (λ a ms k.
      let r = runs stage top distinct words p first most lies room bounded end few js planned b i lt a ms (among_left synths (map adds_lane (lanes_at js i)) (renders a ms) k) in
      subst (λ (c : ℤ). CanMove stage b c ms (foot_at js i) size) r.id
      (subst (λ (ks : List Moved). CanMove stage b r.voice.id ks (foot_at js i) size) r.moves
      (can_move stage top distinct words p first most lies room bounded b r.voice r.is_in (foot_at js i) r.part size wide)))

  pub job_adds : (i : ℕ) → i < length js → All (MayAdd (foot_at js i)) (lanes_at js i)
  job_adds i lt = all_of (MayAdd (foot_at js i)) (lanes_at js i) (λ m k. may_add stage top distinct words p first most lies room bounded end few js planned 0 i lt m k)

  -- what its synths make of words does not depend on others
  pub synths_by_foot : (b i : ℕ) → i < length js → IsByFoot (foot_at js i) (lane_steps stage b (runs_of (job_at js i).synths (job_at js i).moves))
  synths_by_foot b i lt = runs_by_foot stage top distinct words p first most lies room bounded end few js planned b i lt

  -- they run, and then its lanes are added
  pub job_makes : (b i : ℕ) (ws : List ℕ) → i < length js → with_lanes b (lanes_at js i) (lane_steps stage b (runs_of (job_at js i).synths (job_at js i).moves) ws) ≡ kept_to (foot_at js i) (lane_steps stage b (job_steps (job_at js i))) ws
  job_makes b i ws lt =
      let synths : List Step = runs_of (job_at js i).synths (job_at js i).moves in
      sym (added_steps stage b (lanes_at js i) (lane_steps stage b synths ws))
      ∙ sym (lane_then stage b synths (map adds_lane (lanes_at js i)) ws)
      ∙ sym (kept_same (foot_at js i) (lane_steps stage b (job_steps (job_at js i))) ws (job_by_foot stage top distinct words p first most lies room bounded end few js planned b i lt))

  -- ---- a block

  module _ (b : ℕ) (resting : AreResting first most b words) where
    abbrev us : List ℕ
    us = list_at (sequential (λ i us. kept_to (foot_at js i) (lane_steps stage b (job_steps (job_at js i))) us) (length js) words) (length js)

    are : us ≡ lane_steps stage b (steps_of tree) words
    are = jobs_are_steps stage top distinct words p first most lies room bounded end few js planned b words

    pub block_walks : world_of stage us ≡ walk b (world_of stage words)
    block_walks = ap (world_of stage) are ∙ world_is stage top distinct words p first most lies room bounded b resting

    pub block_rests : AreResting first most (b + 1) us
    block_rests = subst (λ (ws : List ℕ). AreResting first most (b + 1) ws) (sym are) (rest_again stage top distinct words p first most lies room bounded b resting)
