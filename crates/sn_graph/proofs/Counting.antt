-- How many jobs there are at most, and how often a synth is among them.
use Rattle.std.proofs.Common.{◌≡◌, ◌≤◌, ◌<◌, ℕ, ◌+◌, ℤ, Bool, true, false, if◌then◌else◌, List, [], ◌∷◌, ◌++◌, Option, Some, None, replicate, sym, refl, ap, ◌∙◌, subst, arith, true≢false, ⊎_elim}
use Rattle.std.specs.Ordering.{int_eq}
use Rattle.std.proofs.lemmas.Bool.{cases_Bool, cond_both, or_cases, false_from_ne_true}
use Rattle.std.proofs.lemmas.Bool.Decides.{Decides-int_eq}
use Rattle.sn_mem.specs.declared.buffers.BufferPlace.{BufferPlace}
use Rattle.sn_mem.specs.declared.moves.Moved.{Moved}
use Rattle.sn_tree.specs.declared.node.NodeKind.{NodeKind}
use Rattle.sn_tree.specs.declared.node.NodeKind.TheVariants as kinds
use Rattle.sn_tree.specs.Trees as trees
use Rattle.sn_tree.specs.Trees.{Label, Nodes, holds, ids, subtree, count}
use Rattle.sn_tree.specs.Steps.{AllDistinct, occurrences}
use Rattle.sn_tree.proofs.Distinct.{occurrences-append}
use Rattle.sn_world.specs.declared.stage.Held.{Held}
use Rattle.sn_graph.specs.declared.nodes.Voice.{Voice}
use Rattle.sn_graph.specs.Voices.{HeardNodes, none, synth, group, voices, has, Once}
use Rattle.sn_graph.specs.Rows.{Row, done, job, split, size, size_all}
use Rattle.sn_graph.specs.Plans.{close, followed, members, joined, keep, row_of, rows_of}
use Rattle.sn_graph.specs.Lanes.{laned, with_lanes}
use Rattle.sn_graph.specs.Stages.{may_split, with_group, with_node, running_of}
use Rattle.sn_graph.proofs.Labels.{kind_at, kind_after, kind_below, kind_here, not_some, some_is, subtree_after, subtree_below, subtree_here}
use Rattle.sn_graph.proofs.Hearing.{voices_group}
use Rattle.sn_graph.proofs.Shapes.{weight}
use Rattle.sn_graph.proofs.Drafting.{size-followed}
use Rattle.sn_graph.proofs.Alike.{weight_laned}

-- ---- jobs

abbrev sizes : List Row → ℕ
sizes [] = 0
sizes (r ∷ rs) = size r + sizes rs

-- an open run is one job
abbrev runs : List Voice → ℕ
runs [] = 0
runs (v ∷ vs) = 1

some_run : (run : List Voice) (v : Voice) → runs (run ++ v ∷ []) ≡ 1
some_run [] v = refl
some_run (u ∷ us) v = refl

size-members : (r : Row) (rs : List Row) → size_all (members r rs) ≡ size r + sizes rs
size-members r [] = omega arith
size-members r (q ∷ rs) = omega (arith, size-members q rs)

size-joined : (lanes : List Moved) (rs : List Row) → size (joined lanes rs) ≤ 1 + sizes rs
size-joined lanes [] = omega arith
size-joined lanes (r ∷ []) = omega arith
size-joined lanes (r ∷ q ∷ rs) = omega (arith, size-members q rs)

sizes-keep : (r : Row) (rs : List Row) → sizes (keep r rs) ≡ size r + sizes rs
sizes-keep done rs = omega arith
sizes-keep (job vs a) rs = refl
sizes-keep (split lanes ms a) rs = refl

size-close : (run : List Voice) (r : Row) → size (close run r) ≡ runs run + size r
size-close [] r = omega arith
size-close (v ∷ vs) r = refl

size-after : (run : List Voice) (r rest : Row) → size (close run (followed r rest)) ≡ runs run + (size r + size rest)
size-after run r rest = omega (arith, size-close run (followed r rest), size-followed r rest)

mutual
  few_row : (run : List Voice) (t : HeardNodes) → size (row_of run t) ≤ runs run + weight t
  few_row run none = omega (arith, size-close run done)
  few_row run (synth v rest) = omega (arith, few_row (run ++ v ∷ []) rest, some_run run v)
  few_row run (group (Some lanes) inner rest) = omega (arith, size-after run (joined lanes (rows_of inner)) (row_of [] rest), few_row [] rest, size-joined lanes (rows_of inner), few_rows inner)
  few_row run (group None inner rest) = omega (arith, size-after run (row_of [] inner) (row_of [] rest), few_row [] rest, few_row [] inner)

  few_rows : (t : HeardNodes) → sizes (rows_of t) ≤ weight t
  few_rows none = omega arith
  few_rows (synth v rest) = omega (arith, few_rows rest)
  few_rows (group (Some lanes) inner rest) = omega (arith, sizes-keep (joined lanes (rows_of inner)) (rows_of rest), size-joined lanes (rows_of inner), few_rows inner, few_rows rest)
  few_rows (group None inner rest) = omega (arith, sizes-keep (row_of [] inner) (rows_of rest), few_row [] inner, few_rows rest)

-- ---- ids

abbrev one_if : Bool → ℕ
one_if b = if b then 1 else 0

abbrev heard : ℤ → List Voice → ℕ
heard a [] = 0
heard a (v ∷ vs) = one_if (int_eq v.id a) + heard a vs

heard-append : (a : ℤ) (vs ws : List Voice) → heard a (vs ++ ws) ≡ heard a vs + heard a ws
heard-append a [] ws = omega arith
heard-append a (v ∷ vs) ws = omega (arith, heard-append a vs ws)

one_from : (b : Bool) → b ≡ true → one_if b ≡ 1
one_from true h = refl
one_from false h = absurd (true≢false (sym h))

heard_group : (a : ℤ) (flag : Bool) (below after : HeardNodes) → heard a (voices (with_group flag below after)) ≡ heard a (voices below) + heard a (voices after)
heard_group a flag below after = ap (heard a) (voices_group flag below after) ∙ heard-append a (voices below) (voices after)

has_heard : (a : ℤ) (vs : List Voice) → has vs a ≡ true → 1 ≤ heard a vs
has_heard a [] h = absurd (true≢false (sym h))
has_heard a (v ∷ vs) h = ⊎_elim
    (λ (e : int_eq v.id a ≡ true). omega (arith, one_from (int_eq v.id a) e))
    (λ (e : has vs a ≡ true). omega (arith, has_heard a vs e))
    (or_cases (int_eq v.id a) (has vs a) h)

once_from : (vs : List Voice) → ((a : ℤ) → heard a vs ≤ 1) → Once vs
once_from [] h = tt
once_from (v ∷ vs) h =
    (false_from_ne_true (has vs v.id) (λ e. absurd (omega (arith, h v.id, has_heard v.id vs e, one_from (int_eq v.id v.id) ((Decides-int_eq v.id v.id).1 refl)))), once_from vs (λ a. omega (arith, h a)))

occurrences_below : (a id : ℤ) (t : Nodes Held) → occurrences int_eq a (ids (subtree id t)) ≤ occurrences int_eq a (ids t)
occurrences_below a id trees.none = omega arith
occurrences_below a id (trees.node label below after) =
    let all : occurrences int_eq a (ids (trees.node label below after)) ≡ one_if (int_eq label.id a) + (occurrences int_eq a (ids below) + occurrences int_eq a (ids after)) = omega (arith, occurrences-append int_eq a (ids below) (ids after)) in
    cond_both (int_eq label.id id) (trees.node label below trees.none) (if holds id below then subtree id below else subtree id after) (λ u. occurrences int_eq a (ids u) ≤ occurrences int_eq a (ids (trees.node label below after)))
    (λ b. omega (arith, all, occurrences-append int_eq a (ids below) []))
    (λ b. cond_both (holds id below) (subtree id below) (subtree id after) (λ u. occurrences int_eq a (ids u) ≤ occurrences int_eq a (ids (trees.node label below after)))
    (λ h. omega (arith, all, occurrences_below a id below))
    (λ h. omega (arith, all, occurrences_below a id after)))

weight_group : (flag : Bool) (below after : HeardNodes) → weight (with_group flag below after) ≤ 1 + weight below + weight after
weight_group flag none after = omega arith
weight_group flag (synth v rest) after = omega arith
weight_group flag (group f inner rest) after = omega arith

-- with lanes, a plain group has as many jobs as what is below it
few_inner : (first most : ℕ) (above : List Bool) (taken : ℕ) (below : HeardNodes) → size (row_of [] (laned first most above taken (group None below none)).nodes) ≤ weight below
few_inner first most above taken below =
    let r : HeardNodes = (laned first most above taken below).nodes in
    omega (arith, size-followed (row_of [] r) done, few_row [] r, weight_laned first most above taken below)

-- a plain group has no job of its own
few_plain : (first most : ℕ) (above : List Bool) (taken : ℕ) (below : HeardNodes) → size (row_of [] (laned first most above taken (with_group false below none)).nodes) ≤ weight below
few_plain first most above taken none = omega arith
few_plain first most above taken (synth v rest) = few_inner first most above taken (synth v rest)
few_plain first most above taken (group f inner rest) = few_inner first most above taken (group f inner rest)

module _ (buffers : List (Option BufferPlace)) (clashing : List ℤ) where
  weight_node : (kind : NodeKind) (label : Label Held) (below after : HeardNodes) → weight (with_node buffers clashing kind label below after) ≤ 1 + weight below + weight after
  weight_node kinds.Synth label below after = omega arith
  weight_node kinds.Group label below after = weight_group false below after
  weight_node kinds.Parallel label below after = weight_group (may_split clashing label.id) below after

  weight_all : (t : Nodes Held) → weight (running_of buffers clashing t) ≤ count t
  weight_all trees.none = omega arith
  weight_all (trees.node label below after) =
      let b : HeardNodes = running_of buffers clashing below in
      let a : HeardNodes = running_of buffers clashing after in
      cond_both label.running (with_node buffers clashing label.kind label b a) a (λ r. weight r ≤ 1 + count below + count after)
      (λ h. omega (arith, weight_node label.kind label b a, weight_all below, weight_all after))
      (λ h. omega (arith, weight_all after))

module _ (buffers : List (Option BufferPlace)) (clashing : List ℤ) (first most : ℕ) where
  few_group : (kind : NodeKind) (label : Label Held) (below : HeardNodes) → kind ≡ kinds.Group → size (row_of [] (with_lanes first most (with_node buffers clashing kind label below none))) ≤ weight below
  few_group kind label below plain =
      subst (λ (k : NodeKind). size (row_of [] (with_lanes first most (with_node buffers clashing k label below none))) ≤ weight below) (sym plain)
      (few_plain first most (replicate 128 false) 0 below)

  few_top : (label : Label Held) (below : Nodes Held) → label.kind ≡ kinds.Group → size (row_of [] (with_lanes first most (running_of buffers clashing (trees.node label below trees.none)))) ≤ count below
  few_top label below plain =
      let b : HeardNodes = running_of buffers clashing below in
      cond_both label.running (with_node buffers clashing label.kind label b none) none (λ r. size (row_of [] (with_lanes first most r)) ≤ count below)
      (λ h. omega (arith, few_group label.kind label b plain, weight_all buffers clashing below))
      (λ h. omega arith)

  abbrev Few : ℕ → Nodes Held → Type 0
  Few n t = size (row_of [] (with_lanes first most (running_of buffers clashing t))) < n

  -- of a plain group and what is below it there are fewer jobs than nodes
  pub few_jobs : (id : ℤ) (t : Nodes Held) → kind_at id t ≡ Some kinds.Group → Few (count t) (subtree id t)
  few_jobs id trees.none e = absurd (not_some kinds.Group e)
  few_jobs id (trees.node label below after) e = ⊎_elim
      (λ (same : int_eq label.id id ≡ true).
      let plain : label.kind ≡ kinds.Group = some_is label.kind kinds.Group (sym (kind_here id label below after same) ∙ e) in
      subst (Few (1 + count below + count after)) (sym (subtree_here id label below after same)) (omega (arith, few_top label below plain)))
      (λ (other : int_eq label.id id ≡ false). ⊎_elim
      (λ (h : holds id below ≡ true).
      subst (Few (1 + count below + count after)) (sym (subtree_below id label below after other h)) (omega (arith, few_jobs id below (sym (kind_below id label below after other h) ∙ e))))
      (λ (h : holds id below ≡ false).
      subst (Few (1 + count below + count after)) (sym (subtree_after id label below after other h)) (omega (arith, few_jobs id after (sym (kind_after id label below after other h) ∙ e))))
      (cases_Bool (holds id below)))
      (cases_Bool (int_eq label.id id))

module _ (buffers : List (Option BufferPlace)) (clashing : List ℤ) where
  heard_node : (a : ℤ) (kind : NodeKind) (label : Label Held) (below after : HeardNodes) → heard a (voices (with_node buffers clashing kind label below after)) ≤ one_if (int_eq label.id a) + (heard a (voices below) + heard a (voices after))
  heard_node a kinds.Synth label below after = omega arith
  heard_node a kinds.Group label below after = omega (arith, heard_group a false below after)
  heard_node a kinds.Parallel label below after = omega (arith, heard_group a (may_split clashing label.id) below after)

  heard_all : (a : ℤ) (t : Nodes Held) → heard a (voices (running_of buffers clashing t)) ≤ occurrences int_eq a (ids t)
  heard_all a trees.none = omega arith
  heard_all a (trees.node label below after) =
      let b : HeardNodes = running_of buffers clashing below in
      let c : HeardNodes = running_of buffers clashing after in
      let all : occurrences int_eq a (ids (trees.node label below after)) ≡ one_if (int_eq label.id a) + (occurrences int_eq a (ids below) + occurrences int_eq a (ids after)) = omega (arith, occurrences-append int_eq a (ids below) (ids after)) in
      cond_both label.running (with_node buffers clashing label.kind label b c) c (λ r. heard a (voices r) ≤ occurrences int_eq a (ids (trees.node label below after)))
      (λ h. omega (arith, all, heard_node a label.kind label b c, heard_all a below, heard_all a after))
      (λ h. omega (arith, all, heard_all a after))

  -- no synth is there twice
  pub once_below : (id : ℤ) (t : Nodes Held) → AllDistinct int_eq (ids t) → Once (voices (running_of buffers clashing (subtree id t)))
  once_below id t distinct = once_from (voices (running_of buffers clashing (subtree id t))) (λ a. omega (arith, heard_all a (subtree id t), occurrences_below a id t, distinct a))
