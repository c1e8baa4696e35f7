-- What the steps of a job make of words sees and changes the job's foot alone.
use Rattle.std.proofs.Common.{◌≡◌, ◌≤◌, ◌<◌, ◌⊎◌, inl, inr, ⊎_elim, ℕ, zero, suc, ◌+◌, ◌*◌, Bool, true, false, List, [], ◌∷◌, ◌++◌, map, get_or, ℤ, pos, length, replicate, Some, None, refl, ap, sym, subst, ◌∙◌, append_assoc, arith, All, true≢false, not, ◌||◌, ◌&&◌}
use Rattle.std.specs.Ordering.{int_eq}
use Rattle.std.proofs.lemmas.Bool.{or_left, or_right}
use Rattle.std.proofs.lemmas.Bool.Decides.{Decides-int_eq}
use Rattle.std.proofs.lemmas.List.Elements.{All-head, All-tail}
use Rattle.sn_mem.specs.declared.extents.Extent.{Extent}
use Rattle.sn_mem.specs.declared.extents.Foot.{Foot}
use Rattle.sn_mem.specs.declared.moves.Moved.{Moved}
use Rattle.sn_mem.specs.Lanes.{buses_in, lanes_in}
use Rattle.sn_mem.specs.Words.{covers, has, touches}
use Rattle.sn_io.specs.ByFoot.{IsByFoot, IsPart}
use Rattle.sn_io.specs.Joints.{MayAdd}
use Rattle.sn_mem.specs.ThroughFoot.{kept_to}
use Rattle.sn_io.proofs.ByFoot.{by_foot_none, by_foot_then, kept_same}
use Rattle.sn_io.proofs.LanesByFoot.{lane_by_foot, through_by_foot}
use Rattle.sn_round.specs.declared.jobs.Job.{Job}
use Rattle.sn_round.specs.Jobs.{foot_at, job_at, lanes_at}
use Rattle.sn_round.specs.Scripts.{list_at, sequential, sequential_from}
use Rattle.sn_tree.specs.Trees.{ids, subtree}
use Rattle.sn_tree.specs.Steps.{AllDistinct}
use Rattle.sn_world.specs.Pictures.{Pictures}
use Rattle.sn_world.specs.declared.stage.Stage.{Stage}
use Rattle.sn_foot.specs.Canonical.{Ends}
use Rattle.sn_foot.proofs.Runs.{has_append, has_canonical}
use Rattle.sn_graph.specs.Sharing.{two_mix}
use Rattle.sn_graph.specs.declared.nodes.Voice.{Voice}
use Rattle.sn_graph.specs.Voices.{HeardNodes, JointsEnd, none, synth, group, all_reads, all_writes, foot_of, joint_lanes, own_foot, voices}
use Rattle.sn_graph.specs.Fitting.{IsIn}
use Rattle.sn_graph.specs.Stages.{clashing_in, nodes_in, nodes_with}
use Rattle.sn_graph.specs.Plans.{AreJoined, IsPlanned, Step, renders, adds_lane, is_listed, joined_steps, runs_of, steps_of, synths_with}
use Rattle.sn_graph.proofs.Clearing.{are_plain}
use Rattle.sn_graph.proofs.Ending.{nodes_joints}
use Rattle.sn_graph.proofs.Splitting.{are_joined, are_laned, heard_laned}
use Rattle.sn_graph.proofs.Hearing.{all_heard}
use Rattle.sn_graph.proofs.Laning.{AreAllMoves, AreLaned, ArePlain, IsOntoLane}
use Rattle.sn_play.specs.Steps.{job_steps, lane_step, lane_steps}
use Rattle.sn_play.specs.Named.{words_by_ids}
use Rattle.sn_play.proofs.JobFeet.{part_of_all, with_ids}
use Rattle.sn_play.proofs.LanedStage.{own_lanes, voice_mixes}
use Rattle.sn_play.proofs.LanedSteps.{bus_number, in_extent}
use Rattle.sn_play.proofs.Among.{Among, among_left, among_map, among_parts, among_right}

-- ---- steps of nodes

abbrev pub is_render : Step → Bool
is_render (renders a ms) = true
is_render (adds_lane m) = false

abbrev node_of : Step → ℤ
node_of (renders a ms) = a
node_of (adds_lane m) = pos 0

abbrev moves_at : Step → List Moved
moves_at (renders a ms) = ms
moves_at (adds_lane m) = []

abbrev pub lane_at : Moved → Step → Moved
lane_at d (renders a ms) = d
lane_at d (adds_lane m) = m

no_render : (lanes : List Moved) (a : ℤ) (ms : List Moved) → Among (map adds_lane lanes) (renders a ms) → ⊥
no_render [] a ms i = i
no_render (m ∷ lanes) a ms i = ⊎_elim
    (λ (e : adds_lane m ≡ renders a ms). true≢false (sym (ap is_render e)))
    (λ (j : Among (map adds_lane lanes) (renders a ms)). no_render lanes a ms j)
    i

-- a step of nodes in which a synth runs is that of a synth of these
pub synth_of : (t : HeardNodes) (a : ℤ) (ms : List Moved) → Among (steps_of t) (renders a ms) → (v : Voice) × (Among (voices t) v × ((v.id ≡ a) × (v.moves ≡ ms)))
synth_of none a ms i = absurd i
synth_of (synth v rest) a ms i = ⊎_elim
    (λ (e : renders v.id v.moves ≡ renders a ms). (v, (inl refl, (ap node_of e, ap moves_at e))))
    (λ (j : Among (steps_of rest) (renders a ms)). let q = synth_of rest a ms j in (q.0, (inr q.1.0, q.1.1)))
    i
synth_of (group lanes inner rest) a ms i = ⊎_elim
    (λ (j : Among (steps_of inner) (renders a ms)). let q = synth_of inner a ms j in (q.0, (among_left (voices inner) (voices rest) q.0 q.1.0, q.1.1)))
    (λ (j : Among (map adds_lane (joint_lanes lanes) ++ steps_of rest) (renders a ms)). ⊎_elim
    (λ (k : Among (map adds_lane (joint_lanes lanes)) (renders a ms)). absurd (no_render (joint_lanes lanes) a ms k))
    (λ (k : Among (steps_of rest) (renders a ms)). let q = synth_of rest a ms k in (q.0, (among_right (voices inner) (voices rest) q.0 q.1.0, q.1.1)))
    (among_parts (map adds_lane (joint_lanes lanes)) (steps_of rest) (renders a ms) j))
    (among_parts (steps_of inner) (map adds_lane (joint_lanes lanes) ++ steps_of rest) (renders a ms) i)

-- ---- steps of jobs

-- those of a job are among those of all
pub job_among : (js : List Job) (i : ℕ) (s : Step) → i < length js → Among (job_steps (job_at js i)) s → Among (joined_steps js) s
job_among [] i s lt a = absurd (omega (arith, lt))
job_among (j ∷ js) zero s lt a =
    let runs : List Step = runs_of j.synths j.moves in
    let adds : List Step = map adds_lane j.lanes in
    ⊎_elim
    (λ (b : Among runs s). among_left runs (adds ++ joined_steps js) s b)
    (λ (b : Among adds s). among_right runs (adds ++ joined_steps js) s (among_left adds (joined_steps js) s b))
    (among_parts runs adds s a)
job_among (j ∷ js) (suc i) s lt a =
    among_right (runs_of j.synths j.moves) (map adds_lane j.lanes ++ joined_steps js) s (among_right (map adds_lane j.lanes) (joined_steps js) s (job_among js i s (omega (arith, lt)) a))

-- a synth that a job runs is one of its synths
run_listed : (nodes : List ℤ) (moves : List (List Moved)) (a : ℤ) (ms : List Moved) → Among (runs_of nodes moves) (renders a ms) → is_listed nodes a ≡ true
run_listed [] moves a ms i = absurd i
run_listed (n ∷ nodes) [] a ms i = ⊎_elim
    (λ (e : renders n [] ≡ renders a ms). or_left (int_eq n a) (is_listed nodes a) ((Decides-int_eq n a).1 (ap node_of e)))
    (λ (j : Among (runs_of nodes []) (renders a ms)). or_right (int_eq n a) (is_listed nodes a) (run_listed nodes [] a ms j))
    i
run_listed (n ∷ nodes) (ks ∷ moves) a ms i = ⊎_elim
    (λ (e : renders n ks ≡ renders a ms). or_left (int_eq n a) (is_listed nodes a) ((Decides-int_eq n a).1 (ap node_of e)))
    (λ (j : Among (runs_of nodes moves) (renders a ms)). or_right (int_eq n a) (is_listed nodes a) (run_listed nodes moves a ms j))
    i

pub synth_listed : (j : Job) (a : ℤ) (ms : List Moved) → Among (job_steps j) (renders a ms) → is_listed j.synths a ≡ true
synth_listed j a ms i = ⊎_elim
    (λ (k : Among (runs_of j.synths j.moves) (renders a ms)). run_listed j.synths j.moves a ms k)
    (λ (k : Among (map adds_lane j.lanes) (renders a ms)). absurd (no_render j.lanes a ms k))
    (among_parts (runs_of j.synths j.moves) (map adds_lane j.lanes) (renders a ms) i)

no_adding : (nodes : List ℤ) (moves : List (List Moved)) (m : Moved) → Among (runs_of nodes moves) (adds_lane m) → ⊥
no_adding [] moves m i = i
no_adding (n ∷ nodes) [] m i = ⊎_elim (λ (e : renders n [] ≡ adds_lane m). true≢false (ap is_render e)) (λ (j : Among (runs_of nodes []) (adds_lane m)). no_adding nodes [] m j) i
no_adding (n ∷ nodes) (ks ∷ moves) m i = ⊎_elim (λ (e : renders n ks ≡ adds_lane m). true≢false (ap is_render e)) (λ (j : Among (runs_of nodes moves) (adds_lane m)). no_adding nodes moves m j) i

among_lanes : (lanes : List Moved) (m : Moved) → Among (map adds_lane lanes) (adds_lane m) → Among lanes m
among_lanes [] m i = i
among_lanes (k ∷ lanes) m i = ⊎_elim
    (λ (e : adds_lane k ≡ adds_lane m). inl (ap (lane_at k) e))
    (λ (j : Among (map adds_lane lanes) (adds_lane m)). inr (among_lanes lanes m j))
    i

pub lane_added : (j : Job) (m : Moved) → Among (job_steps j) (adds_lane m) → Among j.lanes m
lane_added j m i = ⊎_elim
    (λ (k : Among (runs_of j.synths j.moves) (adds_lane m)). absurd (no_adding j.synths j.moves m k))
    (λ (k : Among (map adds_lane j.lanes) (adds_lane m)). among_lanes j.lanes m k)
    (among_parts (runs_of j.synths j.moves) (map adds_lane j.lanes) (adds_lane m) i)

-- ---- one step after the other

pub steps_by_foot : (stage : Stage) (b : ℕ) (f : Foot) (steps : List Step) → ((s : Step) → Among steps s → IsByFoot f (lane_step stage b s)) → IsByFoot f (lane_steps stage b steps)
steps_by_foot stage b f [] h = by_foot_none f
steps_by_foot stage b f (s ∷ steps) h = by_foot_then f (lane_step stage b s) (lane_steps stage b steps) (h s (inl refl)) (steps_by_foot stage b f steps (λ t i. h t (inr i)))

-- ---- the foot of a job

in_lanes : (lanes : List Moved) (m : Moved) (x : ℕ) → Among lanes m → covers m.lane x ≡ true → has (lanes_in lanes) x ≡ true
in_lanes [] m x i c = absurd i
in_lanes (k ∷ lanes) m x i c = ⊎_elim
    (λ (e : k ≡ m). or_left (covers k.lane x) (has (lanes_in lanes) x) (ap (λ (l : Moved). covers l.lane x) e ∙ c))
    (λ (j : Among lanes m). or_right (covers k.lane x) (has (lanes_in lanes) x) (in_lanes lanes m x j c))
    i

in_buses : (lanes : List Moved) (m : Moved) (x : ℕ) → Among lanes m → covers m.bus x ≡ true → has (buses_in lanes) x ≡ true
in_buses [] m x i c = absurd i
in_buses (k ∷ lanes) m x i c = ⊎_elim
    (λ (e : k ≡ m). or_left (covers k.bus x) (has (buses_in lanes) x) (ap (λ (l : Moved). covers l.bus x) e ∙ c))
    (λ (j : Among lanes m). or_right (covers k.bus x) (has (buses_in lanes) x) (in_buses lanes m x j c))
    i

-- it may read the lanes that it adds, and write their buses
pub foot_adds : (vs : List Voice) (lanes : List Moved) (m : Moved) → Among lanes m → ((x : ℕ) → covers m.lane x ≡ true → touches (foot_of vs lanes) x ≡ true) × ((x : ℕ) → covers m.bus x ≡ true → has (foot_of vs lanes).writes x ≡ true)
foot_adds vs lanes m i = (
  (λ x c.
      or_right (has (foot_of vs lanes).writes x) (has (foot_of vs lanes).reads x)
      (has_canonical (lanes_in lanes ++ all_reads vs) x ∙ has_append (lanes_in lanes) (all_reads vs) x ∙ or_left (has (lanes_in lanes) x) (has (all_reads vs) x) (in_lanes lanes m x i c))),
  (λ x c. has_canonical (buses_in lanes ++ all_writes vs) x ∙ has_append (buses_in lanes) (all_writes vs) x ∙ or_left (has (buses_in lanes) x) (has (all_writes vs) x) (in_buses lanes m x i c)),
)

-- a lane that is added is one of a joint
pub added_move : (first : ℕ) (S A : ℕ → Bool) (t : HeardNodes) (m : Moved) → AreLaned first S A t → Among (steps_of t) (adds_lane m) → IsOntoLane first m
added_move first S A none m l i = absurd i
added_move first S A (synth v rest) m l i = ⊎_elim
    (λ (e : renders v.id v.moves ≡ adds_lane m). absurd (true≢false (ap is_render e)))
    (λ (j : Among (steps_of rest) (adds_lane m)). added_move first S A rest m l.1 j)
    i
added_move first S A (group None inner rest) m l i = ⊎_elim
    (λ (j : Among (steps_of inner) (adds_lane m)). added_move first S A inner m l.0 j)
    (λ (j : Among (steps_of rest) (adds_lane m)). added_move first S A rest m l.1 j)
    (among_parts (steps_of inner) (steps_of rest) (adds_lane m) i)
added_move first S A (group (Some lanes) inner rest) m l i = ⊎_elim
    (λ (j : Among (steps_of inner) (adds_lane m)). added_move first (λ n. S n || (two_mix inner n && not (S n))) (λ n. A n || (two_mix inner n && not (S n))) inner m l.1.0 j)
    (λ (j : Among (map adds_lane lanes ++ steps_of rest) (adds_lane m)). ⊎_elim
    (λ (k : Among (map adds_lane lanes) (adds_lane m)). each_move lanes l.0.each (among_lanes lanes m k))
    (λ (k : Among (steps_of rest) (adds_lane m)). added_move first S A rest m l.1.1 k)
    (among_parts (map adds_lane lanes) (steps_of rest) (adds_lane m) j))
    (among_parts (steps_of inner) (map adds_lane lanes ++ steps_of rest) (adds_lane m) i)
  where
    each_move : (ks : List Moved) → AreAllMoves first ks → Among ks m → IsOntoLane first m
    each_move [] a k = absurd k
    each_move (n ∷ ks) a k = ⊎_elim (λ (e : n ≡ m). subst (λ (x : Moved). IsOntoLane first x) e a.0) (λ (j : Among ks m). each_move ks a.1 j) k

pub added_end : (t : HeardNodes) (m : Moved) → JointsEnd t → Among (steps_of t) (adds_lane m) → Ends m.lane
added_end none m l i = absurd i
added_end (synth v rest) m l i = ⊎_elim
    (λ (e : renders v.id v.moves ≡ adds_lane m). absurd (true≢false (ap is_render e)))
    (λ (j : Among (steps_of rest) (adds_lane m)). added_end rest m l j)
    i
added_end (group lanes inner rest) m l i = ⊎_elim
    (λ (j : Among (steps_of inner) (adds_lane m)). added_end inner m l.1.0 j)
    (λ (j : Among (map adds_lane (joint_lanes lanes) ++ steps_of rest) (adds_lane m)). ⊎_elim
    (λ (k : Among (map adds_lane (joint_lanes lanes)) (adds_lane m)). each_end (joint_lanes lanes) l.0.0 (among_lanes (joint_lanes lanes) m k))
    (λ (k : Among (steps_of rest) (adds_lane m)). added_end rest m l.1.1 k)
    (among_parts (map adds_lane (joint_lanes lanes)) (steps_of rest) (adds_lane m) j))
    (among_parts (steps_of inner) (map adds_lane (joint_lanes lanes) ++ steps_of rest) (adds_lane m) i)
  where
    each_end : (ks : List Moved) → All Ends (lanes_in ks) → Among ks m → Ends m.lane
    each_end [] a k = absurd k
    each_end (n ∷ ks) a k = ⊎_elim (λ (e : n ≡ m). subst (λ (x : Moved). Ends x.lane) e (All-head Ends n.lane (lanes_in ks) a)) (λ (j : Among ks m). each_end ks (All-tail Ends n.lane (lanes_in ks) a) j) k

-- ---- jobs one after the other

pub lane_then : (stage : Stage) (b : ℕ) (xs ys : List Step) (ws : List ℕ) → lane_steps stage b (xs ++ ys) ws ≡ lane_steps stage b ys (lane_steps stage b xs ws)
lane_then stage b [] ys ws = refl
lane_then stage b (s ∷ xs) ys ws = lane_then stage b xs ys (lane_step stage b s ws)

pub jobs_walk : (stage : Stage) (b : ℕ) (outcome : ℕ → List ℕ → List ℕ) (js : List Job) (k : ℕ) (words : List ℕ) → ((i j : ℕ) (ws : List ℕ) → i < length js → j ≡ k + i → outcome j ws ≡ lane_steps stage b (job_steps (job_at js i)) ws)
    → get_or (sequential_from outcome k (length js) words) (length js) [] ≡ lane_steps stage b (joined_steps js) words
jobs_walk stage b outcome [] k words h = refl
jobs_walk stage b outcome (j ∷ js) k words h =
    let runs : List Step = runs_of j.synths j.moves in
    let adds : List Step = map adds_lane j.lanes in
    jobs_walk stage b outcome js (suc k) (outcome k words) (λ i n ws lt e. h (suc i) n ws (omega (arith, lt)) (omega (arith, e)))
    ∙ (ap (lane_steps stage b (joined_steps js)) (h 0 k words (omega arith) (omega arith))
    ∙ sym (ap (λ (steps : List Step). lane_steps stage b steps words) (sym (append_assoc runs adds (joined_steps js))) ∙ lane_then stage b (runs ++ adds) (joined_steps js) words))

-- ---- the jobs of a stage's plan

pub is_among : (vs : List Voice) (v : Voice) → Among vs v → IsIn vs v
is_among [] v i = absurd i
is_among (w ∷ vs) v i = ⊎_elim (λ (e : w ≡ v). inl e) (λ (j : Among vs v). inr (is_among vs v j)) i

module _ (stage : Stage) (top : subtree (pos 0) stage.tree.attached ≡ stage.tree.attached) (distinct : AllDistinct int_eq (ids stage.tree.attached)) (words : List ℕ) (p : Pictures stage words) (first most : ℕ) (lies : 10368 + stage.pool.region.len ≤ first) (room : first + 65 * most ≤ length words) (bounded : first + 65 * most < 4294967296)
    (end : first + 266240 < 4294967296) (few : most ≤ 4096) (js : List Job) (planned : IsPlanned (nodes_with first most stage) js) where
  abbrev tree : HeardNodes
  tree = nodes_with first most stage

  plain : ArePlain (nodes_in stage)
  plain = are_plain stage.buffers (clashing_in stage) (subtree (pos 0) stage.tree.attached)

  joined : AreJoined tree
  joined = are_joined first (λ n. false) (λ n. false) tree (heard_laned first most (replicate 128 false) 0 (nodes_in stage) (all_heard stage.buffers (clashing_in stage) (subtree (pos 0) stage.tree.attached))) (are_laned first most (nodes_in stage) plain)

  -- each step of a job is one of the nodes
  step_there : (i : ℕ) (s : Step) → i < length js → Among (job_steps (job_at js i)) s → Among (steps_of tree) s
  step_there i s lt a = subst (λ (steps : List Step). Among steps s) (planned.steps joined) (job_among js i s lt a)

  module _ (b i : ℕ) (lt : i < length js) where
    -- a synth that the job runs is one of the nodes', and the job's foot has its words
    pub record Runs (a : ℤ) (ms : List Moved) : Type 0 where
      pub voice : Voice
      pub is_in : IsIn (voices tree) voice
      pub id : voice.id ≡ a
      pub moves : voice.moves ≡ ms
      pub part : IsPart (own_foot voice) (foot_at js i)

    pub runs : (a : ℤ) (ms : List Moved) → Among (job_steps (job_at js i)) (renders a ms) → Runs a ms
    runs a ms s =
        let q = synth_of tree a ms (step_there i (renders a ms) lt s) in
        let v : Voice = q.0 in
        let nodes : List ℤ = (job_at js i).synths in
        let vs : List Voice = synths_with nodes (voices tree) in
        let listed : is_listed nodes v.id ≡ true = ap (is_listed nodes) q.1.1.0 ∙ synth_listed (job_at js i) a ms s in
        record {
          voice = v;
          is_in = is_among (voices tree) v q.1.0;
          id = q.1.1.0;
          moves = q.1.1.1;
          part = subst (λ (f : Foot). IsPart (own_foot v) f) (sym (planned.feet i lt)) (part_of_all vs (lanes_at js i) v (with_ids nodes (voices tree) v q.1.0 listed));
        }

    render_by_foot : (a : ℤ) (ms : List Moved) → Among (job_steps (job_at js i)) (renders a ms) → IsByFoot (foot_at js i) (lane_step stage b (renders a ms))
    render_by_foot a ms s =
        let r = runs a ms s in
        let v : Voice = r.voice in
        let mix = voice_mixes stage top distinct words p first most lies room bounded b v r.is_in in
        let part : IsPart mix.foot (foot_at js i) = record { written = λ x w. r.part.written x (mix.part.written x w); touched = λ x t. r.part.touched x (mix.part.touched x t) } in
        let by : IsByFoot (foot_at js i) (lane_step stage b (renders v.id v.moves)) =
        through_by_foot b mix.foot (foot_at js i) v.moves (words_by_ids stage b (v.id ∷ [])) mix.puts part
        (λ x o. r.part.written x (own_lanes v x o)) mix.off_buses (λ m k. ap (λ (e : Extent). e.len) (bus_number first v.moves m mix.each k).1.1) in
        subst (λ (step : Step). IsByFoot (foot_at js i) (lane_step stage b step)) (λ j. renders (r.id j) (r.moves j)) by

    -- a lane that the job adds is a joint's
    pub added_there : (m : Moved) → Among (lanes_at js i) m → Among (steps_of tree) (adds_lane m)
    added_there m k = step_there i (adds_lane m) lt (among_right (runs_of (job_at js i).synths (job_at js i).moves) (map adds_lane (lanes_at js i)) (adds_lane m) (among_map adds_lane (lanes_at js i) m k))

    pub added_is : (m : Moved) → Among (lanes_at js i) m → IsOntoLane first m
    added_is m k = added_move first (λ n. false) (λ n. false) tree m (are_laned first most (nodes_in stage) plain) (added_there m k)

    pub may_add : (m : Moved) → Among (lanes_at js i) m → MayAdd (foot_at js i) m
    may_add m k =
        let is = added_is m k in
        let vs : List Voice = synths_with (job_at js i).synths (voices tree) in
        let has_both = foot_adds vs (lanes_at js i) m k in
        let lane_len : m.lane.len ≡ 65 = ap (λ (e : Extent). e.len) is.1.1.1.1 in
        let bus_at : m.bus.at ≡ 65 * is.0 = ap (λ (e : Extent). e.at) is.1.1.0 in
        let bus_len : m.bus.len ≡ 65 = ap (λ (e : Extent). e.len) is.1.1.0 in
        let ends : Ends m.lane = added_end tree m (nodes_joints first most end few (nodes_in stage) plain) (added_there m k) in
        let may : MayAdd (foot_of vs (lanes_at js i)) m =
        record {
          lane = record { below = omega (arith, ends, lane_len); each = λ k l. has_both.0 (m.lane.at + k) (in_extent m.lane (m.lane.at + k) (omega arith) (omega (arith, l, lane_len))) };
          bus = record { below = omega (arith, bus_at, is.1.0); each = λ k l. has_both.1 (m.bus.at + k) (in_extent m.bus (m.bus.at + k) (omega arith) (omega (arith, l, bus_len))) };
        } in
        subst (λ (f : Foot). MayAdd f m) (sym (planned.feet i lt)) may

    add_by_foot : (m : Moved) → Among (job_steps (job_at js i)) (adds_lane m) → IsByFoot (foot_at js i) (lane_step stage b (adds_lane m))
    add_by_foot m s = lane_by_foot b (foot_at js i) m (may_add m (lane_added (job_at js i) m s))

    each_by_foot : (s : Step) → Among (job_steps (job_at js i)) s → IsByFoot (foot_at js i) (lane_step stage b s)
    each_by_foot (renders a ms) k = render_by_foot a ms k
    each_by_foot (adds_lane m) k = add_by_foot m k

    pub job_by_foot : IsByFoot (foot_at js i) (lane_steps stage b (job_steps (job_at js i)))
    job_by_foot = steps_by_foot stage b (foot_at js i) (job_steps (job_at js i)) (λ s a. each_by_foot s a)

    -- so do its synths alone
    pub runs_by_foot : IsByFoot (foot_at js i) (lane_steps stage b (runs_of (job_at js i).synths (job_at js i).moves))
    runs_by_foot =
        let synths : List Step = runs_of (job_at js i).synths (job_at js i).moves in
        steps_by_foot stage b (foot_at js i) synths (λ s a. each_by_foot s (among_left synths (map adds_lane (lanes_at js i)) s a))

  -- what the jobs make of the words, each kept to its foot, is what the steps make of them
  pub jobs_are_steps : (b : ℕ) (ws : List ℕ) → list_at (sequential (λ i us. kept_to (foot_at js i) (lane_steps stage b (job_steps (job_at js i))) us) (length js) ws) (length js) ≡ lane_steps stage b (steps_of tree) ws
  jobs_are_steps b ws =
      jobs_walk stage b (λ i us. kept_to (foot_at js i) (lane_steps stage b (job_steps (job_at js i))) us) js 0 ws
      (λ i j us lt e.
      let same : i ≡ j = omega (arith, e) in
      subst (λ k. kept_to (foot_at js k) (lane_steps stage b (job_steps (job_at js k))) us ≡ lane_steps stage b (job_steps (job_at js i)) us) same (kept_same (foot_at js i) (lane_steps stage b (job_steps (job_at js i))) us (job_by_foot b i lt)))
      ∙ ap (λ (steps : List Step). lane_steps stage b steps ws) (planned.steps joined)
