-- What the steps of a stage make of words with lanes is what the walk makes of them, except for the lanes.
use Rattle.std.proofs.Common.{◌≡◌, ◌≤◌, ◌<◌, ⊎_elim, ℕ, ◌+◌, ◌*◌, Bool, true, false, List, [], ◌∷◌, ◌++◌, ℤ, pos, length, map, Option, get_or, refl, ap, sym, subst, ◌∙◌, arith, append-nil, append_assoc}
use Rattle.std.specs.Ordering.{int_eq}
use Rattle.std.specs.Prelude.{nat_le, nat_lt}
use Rattle.std.specs.Option.{option_map}
use Rattle.std.proofs.lemmas.Bool.{and_parts, cases_lt, false_from_ne_true, leb-true, ltb-true}
use Rattle.sn_mem.specs.declared.moves.Moved.{Moved}
use Rattle.sn_mem.specs.Layout.{lane_place}
use Rattle.sn_io.proofs.QueueRuns.{locate}
use Rattle.sn_tree.specs.Trees.{Label, Nodes, ids, running_labels, subtree}
use Rattle.sn_tree.specs.Steps.{AllDistinct}
use Rattle.sn_world.specs.Pictures.{has_synth, Pictures}
use Rattle.sn_world.specs.Walk.{walk}
use Rattle.sn_world.specs.World.{world_of}
use Rattle.sn_world.proofs.WalkedStage.{world_walked}
use Rattle.sn_world.specs.declared.stage.Held.{Held}
use Rattle.sn_world.specs.declared.stage.Stage.{Stage}
use Rattle.sn_graph.specs.declared.nodes.Voice.{Voice}
use Rattle.sn_graph.specs.Voices.{HeardNodes, none, synth, group, ids_of, joint_lanes, voices}
use Rattle.sn_graph.specs.Clear.{AreListed}
use Rattle.sn_graph.specs.Fitting.{Fits}
use Rattle.sn_graph.specs.Plans.{Step, renders, adds_lane, steps_of}
use Rattle.sn_graph.specs.Stages.{clashing_in, nodes_in}
use Rattle.sn_graph.proofs.Alike.{ids_alike}
use Rattle.sn_graph.proofs.Clearing.{none_meet_below}
use Rattle.sn_graph.proofs.Laning.{all_moves, all-moves-append}
use Rattle.sn_graph.proofs.Lanewise.{times}
use Rattle.sn_graph.proofs.Naming.{all_listed}
use Rattle.sn_graph.proofs.Splitting.{alike, nodes_fit}
use Rattle.sn_graph.proofs.Worlds.{world_disjoint}
use Rattle.sn_play.specs.Named.{or_group, words_by_ids}
use Rattle.sn_play.specs.Synths.{voices_of, walk_synths}
use Rattle.sn_play.proofs.LanedStage.{inside, is_lane, lane_is, lane_past, nodes, once, plain, voice_mixes}
use Rattle.sn_play.specs.Blocks.{AreResting}
use Rattle.sn_play.specs.Steps.{lane_steps, walk_steps}
use Rattle.sn_play.proofs.LanedSteps.{Stands, fits_stand, in_extent, moves_in}
use Rattle.sn_play.proofs.Among.{among_filter}
use Rattle.sn_play.proofs.Finding.{found}
use Rattle.sn_play.proofs.Named.{by_their_ids}
use Rattle.sn_play.proofs.Resting.{pictured_in, world_same}
use Rattle.sn_play.proofs.Stages.{voices_walk}
use Rattle.sn_play.proofs.Walked.{synths_walk}

-- ---- the steps of nodes

by_ids_then : (stage : Stage) (b : ℕ) (xs ys : List ℤ) (ws : List ℕ) → words_by_ids stage b (xs ++ ys) ws ≡ words_by_ids stage b ys (words_by_ids stage b xs ws)
by_ids_then stage b [] ys ws = refl
by_ids_then stage b (a ∷ xs) ys ws = by_ids_then stage b xs ys (words_by_ids stage b (a ∷ []) ws)

ids-append : (vs ws : List Voice) → ids_of (vs ++ ws) ≡ ids_of vs ++ ids_of ws
ids-append [] ws = refl
ids-append (v ∷ vs) ws = ap (λ (xs : List ℤ). v.id ∷ xs) (ids-append vs ws)

adds_none : (stage : Stage) (b : ℕ) (lanes : List Moved) (rest : List Step) (ws : List ℕ) → walk_steps stage b (map adds_lane lanes ++ rest) ws ≡ walk_steps stage b rest ws
adds_none stage b [] rest ws = refl
adds_none stage b (m ∷ lanes) rest ws = adds_none stage b lanes rest ws

-- the walk runs the synths in order
pub steps_walk : (stage : Stage) (b : ℕ) (t : HeardNodes) (rest : List Step) (ws : List ℕ) → walk_steps stage b (steps_of t ++ rest) ws ≡ walk_steps stage b rest (words_by_ids stage b (ids_of (voices t)) ws)
steps_walk stage b none rest ws = refl
steps_walk stage b (synth v after) rest ws = steps_walk stage b after rest (words_by_ids stage b (v.id ∷ []) ws)
steps_walk stage b (group lanes inner after) rest ws =
    let adds : List Step = map adds_lane (joint_lanes lanes) in
    let mid : List ℕ = words_by_ids stage b (ids_of (voices inner)) ws in
    ap (λ (steps : List Step). walk_steps stage b steps ws) (append_assoc (steps_of inner) (adds ++ steps_of after) rest)
    ∙ steps_walk stage b inner ((adds ++ steps_of after) ++ rest) ws
    ∙ ap (λ (steps : List Step). walk_steps stage b steps mid) (append_assoc adds (steps_of after) rest)
    ∙ adds_none stage b (joint_lanes lanes) (steps_of after ++ rest) mid
    ∙ steps_walk stage b after rest mid
    ∙ ap (λ (us : List ℕ). walk_steps stage b rest us) (sym (by_ids_then stage b (ids_of (voices inner)) (ids_of (voices after)) ws) ∙ ap (λ (xs : List ℤ). words_by_ids stage b xs ws) (sym (ids-append (voices inner) (voices after))))

moves_adds : (lanes : List Moved) (rest : List Step) → moves_in (map adds_lane lanes ++ rest) ≡ moves_in rest
moves_adds [] rest = refl
moves_adds (m ∷ lanes) rest = moves_adds lanes rest

moves-append : (xs ys : List Step) → moves_in (xs ++ ys) ≡ moves_in xs ++ moves_in ys
moves-append [] ys = refl
moves-append (renders a ms ∷ xs) ys = ap (λ (ks : List Moved). ms ++ ks) (moves-append xs ys) ∙ sym (append_assoc ms (moves_in xs) (moves_in ys))
moves-append (adds_lane m ∷ xs) ys = moves-append xs ys

-- the steps move what the synths move
pub steps_move : (t : HeardNodes) → moves_in (steps_of t) ≡ all_moves (voices t)
steps_move none = refl
steps_move (synth v after) = ap (λ (ms : List Moved). v.moves ++ ms) (steps_move after)
steps_move (group lanes inner after) =
    moves-append (steps_of inner) (map adds_lane (joint_lanes lanes) ++ steps_of after)
    ∙ (λ i. steps_move inner i ++ (moves_adds (joint_lanes lanes) (steps_of after) ∙ steps_move after) i)
    ∙ sym (all-moves-append (voices inner) (voices after))

-- ---- a stage

module _ (stage : Stage) (top : subtree (pos 0) stage.tree.attached ≡ stage.tree.attached) (distinct : AllDistinct int_eq (ids stage.tree.attached)) (words : List ℕ) (p : Pictures stage words) (first most : ℕ) (lies : 10368 + stage.pool.region.len ≤ first) (room : first + 65 * most ≤ length words) (bounded : first + 65 * most < 4294967296) where
  abbrev lane : ℕ → Bool
  lane = is_lane stage top distinct words p first most lies room bounded

  abbrev tree : HeardNodes
  tree = nodes stage top distinct words p first most lies room bounded

  pub fits_of : Fits (voices tree) (λ n. []) (steps_of tree) (λ n. [])
  fits_of =
      nodes_fit first most (nodes_in stage) (plain stage top distinct words p first most lies room bounded)
      (none_meet_below stage.buffers (clashing_in stage) (pos 0) stage.tree.attached (world_disjoint stage words p)
      (subst (λ (t : Nodes Held). AreListed stage.buffers (clashing_in stage) t) (sym top) (all_listed stage.buffers stage.tree.attached)))

  below_most : (k : ℕ) → lane (first + 65 * k) ≡ true → k < most
  below_most k h =
      let q = and_parts (nat_le first (first + 65 * k)) (nat_lt (first + 65 * k) (first + 65 * most)) h in omega (arith, ltb-true (first + 65 * k) (first + 65 * most) q.1)

  moved : (k : ℕ) → 1 ≤ times first k (moves_in (steps_of tree)) → k < most
  moved k some = inside stage top distinct words p first most lies room bounded k (omega (arith, some, ap (λ (ms : List Moved). times first k ms) (steps_move tree)))

  module _ (b : ℕ) (resting : AreResting first most b words) where
    begins : Stands stage b first (length words) lane (lane_past stage top distinct words p first most lies room bounded) (λ n. []) (steps_of tree) words words
    begins = record {
      waits = record { long = refl; buses = λ n x lt from to. refl; others = λ x far off. refl };
      long = refl;
      queues = λ n lt. tt;
      once = λ n k lt. omega (arith, once stage top distinct words p first most lies room bounded k, ap (λ (ms : List Moved). times first k ms) (steps_move tree));
      fresh = λ k some h. omega (arith, h, resting k (moved k some));
      marks = λ k h. omega (arith, resting k (below_most k h));
    }

    ends : Stands stage b first (length words) lane (lane_past stage top distinct words p first most lies room bounded) (λ n. []) [] (walk_steps stage b (steps_of tree) words) (lane_steps stage b (steps_of tree) words)
    ends =
        fits_stand stage b first (length words) lane (lane_past stage top distinct words p first most lies room bounded) words words fits_of
        (λ v i. voice_mixes stage top distinct words p first most lies room bounded b v i)
        (λ k x c some. lane_is stage top distinct words p first most lies room bounded k x c (moved k some))
        begins

    -- except for lanes the words are the same
    pub laned_is_walk : (x : ℕ) → lane x ≡ false → get_or (walk_steps stage b (steps_of tree) words) x 0 ≡ get_or (lane_steps stage b (steps_of tree) words) x 0
    laned_is_walk x off = ⊎_elim
        (λ (l : x < 8320). let q = locate 128 x l in ends.waits.buses q.0 x q.1.0 q.1.1.0 q.1.1.1)
        (λ (far : 8320 ≤ x). ends.waits.others x far off)
        (cases_lt x 8320)

    -- the lanes rest in the next block
    pub rest_again : AreResting first most (b + 1) (lane_steps stage b (steps_of tree) words)
    rest_again k lt = ends.marks k (lane_is stage top distinct words p first most lies room bounded k (first + 65 * k) (in_extent (lane_place first k) (first + 65 * k) (omega arith) (omega arith)) lt)

    -- the walk by labels, and by ids in the order of the nodes
    pub walk_is : walk_steps stage b (steps_of tree) words ≡ words_by_ids stage b (ids_of (voices_of stage.buffers (walk_synths stage))) words
    walk_is =
        ap (λ (steps : List Step). walk_steps stage b steps words) (sym (append-nil (steps_of tree)))
        ∙ steps_walk stage b tree [] words
        ∙ ap (λ (xs : List ℤ). words_by_ids stage b xs words) (sym (ids_alike (voices (nodes_in stage)) (voices tree) (alike first most (nodes_in stage) (plain stage top distinct words p first most lies room bounded))) ∙ ap ids_of (voices_walk stage top words p))

    walked_long : length (walk_steps stage b (steps_of tree) words) ≡ length words
    walked_long = ends.waits.long ∙ ends.long

    -- the steps with lanes make of the stage's world what the walk makes of it
    pub world_is : world_of stage (lane_steps stage b (steps_of tree) words) ≡ walk b (world_of stage words)
    world_is =
        let laned : List ℕ = lane_steps stage b (steps_of tree) words in
        let walked : List ℕ = walk_steps stage b (steps_of tree) words in
        world_same stage laned walked (pictured_in stage walked words (omega (arith, p.fits, walked_long)) p)
        (λ x lt. sym (laned_is_walk x (false_from_ne_true (lane x) (λ h. let q = and_parts (nat_le first x) (nat_lt x (first + 65 * most)) h in omega (arith, lt, lies, leb-true first x q.0)))))
        ∙ world_walked stage b words walked p
        (walk_is
        ∙ by_their_ids stage b (walk_synths stage) words
        (λ l m. ap (λ (o : Option (Label Held)). or_group (option_map (λ (l : Label Held). l.payload) o)) (found stage.tree.attached distinct l (among_filter (λ (l : Label Held). has_synth l.payload) (running_labels stage.tree.attached) l m)))
        ∙ synths_walk stage.rate b stage.buffers (running_labels stage.tree.attached) words)
