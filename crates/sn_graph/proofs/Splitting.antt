-- The nodes of a plan, after they got lanes.
use Rattle.std.proofs.Common.{◌≡◌, ◌<◌, ◌≤◌, ℕ, ◌+◌, ◌*◌, ◌==◌, Bool, true, false, not, ◌&&◌, ◌||◌, List, [], ◌∷◌, length, Option, Some, None, suc, replicate, sym, refl, ap, ◌∙◌, subst, arith, true≢false}
use Rattle.std.specs.Prelude.{slice_index_or}
use Rattle.std.proofs.lemmas.Bool.{cond-true, eq-eqb, false_from_ne_true}
use Rattle.std.proofs.Math.Bool.{and-false}
use Rattle.sn_mem.specs.declared.extents.Extent.{Extent}
use Rattle.std.proofs.lemmas.List.{get_or-replicate}
use Rattle.sn_foot.specs.declared.reach.Reach.{Reach}
use Rattle.sn_foot.specs.Reaches.{unmoved}
use Rattle.sn_mem.specs.declared.moves.Moved.{Moved}
use Rattle.sn_mem.specs.Words as words
use Rattle.sn_graph.specs.declared.nodes.Voice.{Voice}
use Rattle.sn_graph.specs.Voices.{HeardNodes, none, synth, group, voices, AreHeard}
use Rattle.sn_graph.specs.Rows.{Row, done, job, split}
use Rattle.sn_graph.specs.Plans.{AreJoined, SplitsAreClear, joined, keep, row_of, rows_of, steps_of}
use Rattle.sn_graph.specs.Sharing.{mixes, one_mixes, two_mix}
use Rattle.sn_graph.specs.Lanes.{Laned, given, laned, mixed_of, pairs, shared_by, with_lanes, with_shared}
use Rattle.sn_graph.specs.Fitting.{Fits, on}
use Rattle.sn_graph.proofs.Shapes.{heard, heard_list}
use Rattle.sn_graph.proofs.Parting.{heard-joined, heard-row, heard-rows}
use Rattle.sn_graph.proofs.Alike.{Alike, alike_given, alike_laned, alike_then, by_ways}
use Rattle.sn_graph.proofs.Meeting.{SplitsMeetNone, splits_laned}
use Rattle.sn_graph.proofs.Laning.{AreAllMoves, AreLaned, ArePlain, laned_is, laned_same}
use Rattle.sn_graph.proofs.Fitting.{all_fit, two_is_one}
use Rattle.sn_graph.proofs.Lanewise.{given_once}
use Rattle.sn_graph.proofs.Clearance.{AreWhole, IsWhole, no_cons, splits_clear}

-- what is said of the words of a synth alone
whole_of : (first : ℕ) (x y : Voice) → x.reach ≡ y.reach → IsWhole first x → IsWhole first y
whole_of first x y e w = record {
  mixed = λ z h. let q = w.mixed z (ap (λ (r : Reach). words.has r.mixes z) e ∙ h) in (q.0, (q.1.0, (q.1.1.0, sym (ap (λ (r : Reach). words.has r.mixes (65 * q.0)) e) ∙ q.1.1.1)));
  whole = λ n z lt m c. sym (ap (λ (r : Reach). words.has r.mixes z) e) ∙ w.whole n z lt (ap (λ (r : Reach). words.has r.mixes (65 * n)) e ∙ m) c;
  below = λ z t. w.below z (ap (λ (r : Reach). words.touches (unmoved r) z) e ∙ t);
}

pub whole_alike : (first : ℕ) (vs ws : List Voice) → Alike vs ws → AreWhole first vs → AreWhole first ws
whole_alike first [] [] a w = tt
whole_alike first [] (y ∷ ws) a w = absurd a
whole_alike first (x ∷ vs) [] a w = absurd a
whole_alike first (x ∷ vs) (y ∷ ws) a w = (whole_of first x y a.0.1 w.0, whole_alike first vs ws a.1 w.1)

module _ (first most : ℕ) (t : HeardNodes) (plain : ArePlain t) where
  abbrev start : List Bool
  start = replicate 128 false

  abbrev pub nodes : HeardNodes
  nodes = with_lanes first most t

  none_above : (n : ℕ) → n < 128 → slice_index_or start n false ≡ false
  none_above n lt = get_or-replicate 128 n false false lt

  pub are_laned : AreLaned first (λ n. false) (λ n. false) nodes
  are_laned = laned_same first (λ n. slice_index_or start n false) (λ n. false) (λ n. false) (λ n. false) nodes none_above (λ n lt. refl) (laned_is first most start 0 t plain)

  pub alike : Alike (voices t) (voices nodes)
  alike = alike_laned first most start 0 t

  pub nodes_fit : SplitsMeetNone t → Fits (voices nodes) (λ n. []) (steps_of nodes) (λ n. [])
  nodes_fit m = all_fit first nodes are_laned (splits_laned first most start 0 t m)

  pub nodes_clear : AreWhole first (voices t) → SplitsMeetNone t → SplitsAreClear nodes
  nodes_clear w m =
      splits_clear first (λ n. false) nodes are_laned (whole_alike first (voices t) (voices nodes) alike w) (splits_laned first most start 0 t m) (λ k. given_once first most k start 0 t plain)

-- ---- joints have two members or more

-- rows without a job
no_voices : (t : HeardNodes) → length (rows_of t) ≤ 0 → voices t ≡ []
no_voices t l = sym (heard-rows t) ∙ ap heard_list (empty (rows_of t) l)
  where
    empty : (rs : List Row) → length rs ≤ 0 → rs ≡ []
    empty [] l = refl
    empty (r ∷ rs) l = absurd (omega (arith, l))

none_mixes : (t : HeardNodes) (n : ℕ) → voices t ≡ [] → one_mixes (voices t) n ≡ false
none_mixes t n e = ap (λ (vs : List Voice). one_mixes vs n) e

none_share : (t : HeardNodes) (n : ℕ) → voices t ≡ [] → two_mix t n ≡ false
none_share t n e = false_from_ne_true (two_mix t n) (λ h. true≢false (sym (two_is_one t n h) ∙ none_mixes t n e))

-- a row that is heard is kept
kept : (r : Row) (rs : List Row) → 1 ≤ length (heard r) → length (keep r rs) ≡ 1 + length rs
kept done rs h = absurd (omega (arith, h))
kept (job vs a) rs h = omega arith
kept (split lanes ms a) rs h = omega arith

inner_kept : (lanes : Option (List Moved)) (inner rest : HeardNodes) → 1 ≤ length (voices inner) → length (rows_of (group lanes inner rest)) ≡ 1 + length (rows_of rest)
inner_kept None inner rest h = kept (row_of [] inner) (rows_of rest) (subst (λ (vs : List Voice). 1 ≤ length vs) (sym (heard-row [] inner)) h)
inner_kept (Some lanes) inner rest h = kept (joined lanes (rows_of inner)) (rows_of rest) (subst (λ (vs : List Voice). 1 ≤ length vs) (sym (heard-joined lanes (rows_of inner) ∙ heard-rows inner)) h)

-- one row shares no bus
one_row : (t : HeardNodes) (n : ℕ) → AreHeard t → length (rows_of t) ≤ 1 → two_mix t n ≡ false
one_row none n h l = refl
one_row (synth v rest) n h l =
    let e : voices rest ≡ [] = no_voices rest (omega (arith, l)) in
    ap (λ b. b || two_mix rest n) (ap (λ b. mixes v n && b) (none_mixes rest n e) ∙ and-false (mixes v n)) ∙ none_share rest n e
one_row (group lanes inner rest) n h l =
    let e : voices rest ≡ [] = no_voices rest (omega (arith, l, inner_kept lanes inner rest h.0)) in
    ap (λ b. b || two_mix rest n) (ap (λ b. one_mixes (voices inner) n && b) (none_mixes rest n e) ∙ and-false (one_mixes (voices inner) n)) ∙ none_share rest n e

-- moves of no bus are none
no_moves : (first : ℕ) (ms : List Moved) → AreAllMoves first ms → ((n : ℕ) → n < 128 → on n ms ≡ []) → ms ≡ []
no_moves first [] a h = refl
no_moves first (m ∷ ms) a h =
    let n : ℕ = a.0.0 in
    let here : (m.bus.at == 65 * n) ≡ true = eq-eqb m.bus.at (65 * n) (ap (λ (e : Extent). e.at) a.0.1.1.0) in
    absurd (no_cons m (on n ms) (sym (cond-true (m.bus.at == 65 * n) (m ∷ on n ms) (on n ms) here) ∙ h n a.0.1.0))

pub are_joined : (first : ℕ) (S A : ℕ → Bool) (t : HeardNodes) → AreHeard t → AreLaned first S A t → AreJoined t
are_joined first S A none h l = tt
are_joined first S A (synth v rest) h l = are_joined first S A rest h l.1
are_joined first S A (group None inner rest) h l = ((λ e. refl), (are_joined first S A inner h.1.0 l.0, are_joined first S A rest h.1.1 l.1))
are_joined first S A (group (Some lanes) inner rest) h l =
    let g : ℕ → Bool = λ n. two_mix inner n && not (S n) in (
      (λ e. no_moves first lanes l.0.each (λ n lt. l.0.others n lt (ap (λ b. b && not (S n)) (one_row inner n h.1.0 e)))),
      (are_joined first (λ n. S n || g n) (λ n. A n || g n) inner h.1.0 l.1.0, are_joined first S A rest h.1.1 l.1.1),
    )

-- ---- groups are heard as before

length_alike : (vs ws : List Voice) → Alike vs ws → length vs ≡ length ws
length_alike [] [] a = refl
length_alike [] (w ∷ ws) a = absurd a
length_alike (v ∷ vs) [] a = absurd a
length_alike (v ∷ vs) (w ∷ ws) a = ap (λ n. suc n) (length_alike vs ws a.1)

heard_given : (first k : ℕ) (ns : List ℕ) (t : HeardNodes) → AreHeard t → AreHeard (given first k ns t)
heard_given first k ns none h = tt
heard_given first k ns (synth v rest) h = heard_given first (k + length (mixed_of ns v)) ns rest h
heard_given first k ns (group lanes inner rest) h =
    (omega (arith, h.0, length_alike (voices inner) (voices (given first k ns inner)) (alike_given first k ns inner)), (heard_given first k ns inner h.1.0, heard_given first (k + pairs ns (voices inner)) ns rest h.1.1))

pub heard_laned : (first most : ℕ) (above : List Bool) (taken : ℕ) (t : HeardNodes) → AreHeard t → AreHeard (laned first most above taken t).nodes
heard_laned first most above taken none h = tt
heard_laned first most above taken (synth v rest) h = heard_laned first most above taken rest h
heard_laned first most above taken (group may inner rest) h =
    let ns : List ℕ = shared_by above inner in
    let end : ℕ = taken + pairs ns (voices inner) in
    let a : Laned = laned first most (with_shared above ns) end inner in
    let b : Laned = laned first most above taken inner in
    by_ways first most (λ (l : Laned). AreHeard l.nodes) above taken may inner rest
    (λ s. (
      omega (arith, h.0, length_alike (voices inner) (voices (given first taken ns a.nodes)) (alike_then (voices inner) (voices a.nodes) (voices (given first taken ns a.nodes)) (alike_laned first most (with_shared above ns) end inner) (alike_given first taken ns a.nodes))),
      (heard_given first taken ns a.nodes (heard_laned first most (with_shared above ns) end inner h.1.0), heard_laned first most above a.taken rest h.1.1),
    ))
    (λ s. (
      omega (arith, h.0, length_alike (voices inner) (voices b.nodes) (alike_laned first most above taken inner)),
      (heard_laned first most above taken inner h.1.0, heard_laned first most above b.taken rest h.1.1),
    ))
