-- Nodes that were given lanes hold the same synths in the same groups.
use Rattle.std.proofs.Common.{◌≡◌, ℕ, ◌+◌, ◌*◌, ◌≤◌, ℤ, Bool, true, false, ◌&&◌, ◌||◌, List, [], ◌∷◌, ◌++◌, length, Option, Some, None, sym, refl, ap, ◌∙◌, append_assoc, arith}
use Rattle.std.specs.Prelude.{is_some, nat_le}
use Rattle.std.specs.List.{filter}
use Rattle.std.specs.Ordering.{int_eq}
use Rattle.std.proofs.lemmas.Bool.{and_parts, cond_both, leb-true}
use Rattle.sn_foot.specs.declared.reach.Reach.{Reach}
use Rattle.sn_mem.specs.declared.moves.Moved.{Moved}
use Rattle.sn_mem.specs.Words as words
use Rattle.sn_graph.specs.declared.nodes.Voice.{Voice}
use Rattle.sn_graph.specs.Voices.{HeardNodes, none, synth, group, voices, ids_of, has, Once}
use Rattle.sn_graph.specs.Sharing.{mixes, one_mixes, two_mix}
use Rattle.sn_graph.specs.Lanes.{Laned, given, laned, lanes_from, mixed_of, onto, pairs, shared_by, with_shared}
use Rattle.sn_graph.proofs.Shapes.{weight}

-- ---- synths with the same words

abbrev pub Alike : List Voice → List Voice → Type 0
Alike [] [] = Unit {0}
Alike [] (w ∷ ws) = ⊥
Alike (v ∷ vs) [] = ⊥
Alike (v ∷ vs) (w ∷ ws) = ((v.id ≡ w.id) × (v.reach ≡ w.reach)) × Alike vs ws

pub alike_then : (us vs ws : List Voice) → Alike us vs → Alike vs ws → Alike us ws
alike_then [] [] [] a b = tt
alike_then [] [] (w ∷ ws) a b = absurd b
alike_then [] (v ∷ vs) ws a b = absurd a
alike_then (u ∷ us) [] ws a b = absurd a
alike_then (u ∷ us) (v ∷ vs) [] a b = absurd b
alike_then (u ∷ us) (v ∷ vs) (w ∷ ws) a b = ((a.0.0 ∙ b.0.0, a.0.1 ∙ b.0.1), alike_then us vs ws a.1 b.1)

pub alike_append : (us vs ws xs : List Voice) → Alike us vs → Alike ws xs → Alike (us ++ ws) (vs ++ xs)
alike_append [] [] ws xs a b = b
alike_append [] (v ∷ vs) ws xs a b = absurd a
alike_append (u ∷ us) [] ws xs a b = absurd a
alike_append (u ∷ us) (v ∷ vs) ws xs a b = (a.0, alike_append us vs ws xs a.1 b)

pub ids_alike : (vs ws : List Voice) → Alike vs ws → ids_of vs ≡ ids_of ws
ids_alike [] [] a = refl
ids_alike [] (w ∷ ws) a = absurd a
ids_alike (v ∷ vs) [] a = absurd a
ids_alike (v ∷ vs) (w ∷ ws) a = (λ i. a.0.0 i ∷ ids_alike vs ws a.1 i)

has_alike : (vs ws : List Voice) (a : ℤ) → Alike vs ws → has vs a ≡ has ws a
has_alike [] [] a s = refl
has_alike [] (w ∷ ws) a s = absurd s
has_alike (v ∷ vs) [] a s = absurd s
has_alike (v ∷ vs) (w ∷ ws) a s = (λ i. int_eq (s.0.0 i) a || has_alike vs ws a s.1 i)

pub once_alike : (vs ws : List Voice) → Alike vs ws → Once vs → Once ws
once_alike [] [] s o = tt
once_alike [] (w ∷ ws) s o = absurd s
once_alike (v ∷ vs) [] s o = absurd s
once_alike (v ∷ vs) (w ∷ ws) s o = (ap (λ (a : ℤ). has ws a) (sym s.0.0) ∙ sym (has_alike vs ws v.id s.1) ∙ o.0, once_alike vs ws s.1 o.1)

pub mixed_alike : (ns : List ℕ) (v w : Voice) → v.reach ≡ w.reach → mixed_of ns v ≡ mixed_of ns w
mixed_alike ns v w e = ap (λ (r : Reach). filter (λ n. words.has r.mixes (65 * n)) ns) e

pub pairs_alike : (ns : List ℕ) (vs ws : List Voice) → Alike vs ws → pairs ns vs ≡ pairs ns ws
pairs_alike ns [] [] s = refl
pairs_alike ns [] (w ∷ ws) s = absurd s
pairs_alike ns (v ∷ vs) [] s = absurd s
pairs_alike ns (v ∷ vs) (w ∷ ws) s = (λ i. length (mixed_alike ns v w s.0.1 i) + pairs_alike ns vs ws s.1 i)

pub lanes_alike : (first k : ℕ) (ns : List ℕ) (vs ws : List Voice) → Alike vs ws → lanes_from first k ns vs ≡ lanes_from first k ns ws
lanes_alike first k ns [] [] s = refl
lanes_alike first k ns [] (w ∷ ws) s = absurd s
lanes_alike first k ns (v ∷ vs) [] s = absurd s
lanes_alike first k ns (v ∷ vs) (w ∷ ws) s =
    ap (λ (ms : List ℕ). onto first k ms ++ lanes_from first (k + length ms) ns vs) (mixed_alike ns v w s.0.1)
    ∙ ap (λ (ms : List Moved). onto first k (mixed_of ns w) ++ ms) (lanes_alike first (k + length (mixed_of ns w)) ns vs ws s.1)

pub one_alike : (vs ws : List Voice) (n : ℕ) → Alike vs ws → one_mixes vs n ≡ one_mixes ws n
one_alike [] [] n s = refl
one_alike [] (w ∷ ws) n s = absurd s
one_alike (v ∷ vs) [] n s = absurd s
one_alike (v ∷ vs) (w ∷ ws) n s = (λ i. words.has (s.0.1 i).mixes (65 * n) || one_alike vs ws n s.1 i)

pub pairs-append : (ns : List ℕ) (vs ws : List Voice) → pairs ns (vs ++ ws) ≡ pairs ns vs + pairs ns ws
pairs-append ns [] ws = omega arith
pairs-append ns (v ∷ vs) ws = omega (arith, pairs-append ns vs ws)

pub lanes-append : (first k : ℕ) (ns : List ℕ) (vs ws : List Voice) → lanes_from first k ns (vs ++ ws) ≡ lanes_from first k ns vs ++ lanes_from first (k + pairs ns vs) ns ws
lanes-append first k ns [] ws = let e : k ≡ k + 0 = omega arith in ap (λ j. lanes_from first j ns ws) e
lanes-append first k ns (v ∷ vs) ws =
    let m : ℕ = length (mixed_of ns v) in
    let e : (k + m) + pairs ns vs ≡ k + (m + pairs ns vs) = omega arith in
    let own : List Moved = onto first k (mixed_of ns v) in
    ap (λ (ms : List Moved). own ++ ms) (lanes-append first (k + m) ns vs ws ∙ ap (λ j. lanes_from first (k + m) ns vs ++ lanes_from first j ns ws) e)
    ∙ sym (append_assoc own (lanes_from first (k + m) ns vs) (lanes_from first (k + (m + pairs ns vs)) ns ws))

-- ---- nodes whose synths were given lanes

pub alike_given : (first k : ℕ) (ns : List ℕ) (t : HeardNodes) → Alike (voices t) (voices (given first k ns t))
alike_given first k ns none = tt
alike_given first k ns (synth v rest) = ((refl, refl), alike_given first (k + length (mixed_of ns v)) ns rest)
alike_given first k ns (group lanes inner rest) =
    alike_append (voices inner) (voices (given first k ns inner)) (voices rest) (voices (given first (k + pairs ns (voices inner)) ns rest))
    (alike_given first k ns inner) (alike_given first (k + pairs ns (voices inner)) ns rest)

pub two_given : (first k : ℕ) (ns : List ℕ) (t : HeardNodes) (n : ℕ) → two_mix (given first k ns t) n ≡ two_mix t n
two_given first k ns none n = refl
two_given first k ns (synth v rest) n =
    let j : ℕ = k + length (mixed_of ns v) in
    (λ i. (mixes v n && sym (one_alike (voices rest) (voices (given first j ns rest)) n (alike_given first j ns rest)) i) || two_given first j ns rest n i)
two_given first k ns (group lanes inner rest) n =
    let j : ℕ = k + pairs ns (voices inner) in
    (λ i. (sym (one_alike (voices inner) (voices (given first k ns inner)) n (alike_given first k ns inner)) i && sym (one_alike (voices rest) (voices (given first j ns rest)) n (alike_given first j ns rest)) i) || two_given first j ns rest n i)

pub weight_given : (first k : ℕ) (ns : List ℕ) (t : HeardNodes) → weight (given first k ns t) ≡ weight t
weight_given first k ns none = refl
weight_given first k ns (synth v rest) = ap (λ w. 1 + w) (weight_given first (k + length (mixed_of ns v)) ns rest)
weight_given first k ns (group lanes inner rest) = (λ i. 1 + (weight_given first k ns inner i + weight_given first (k + pairs ns (voices inner)) ns rest i))

-- ---- nodes whose groups were split

module _ (first most : ℕ) where
  -- the two ways of a group
  abbrev pub as_split : List Bool → ℕ → HeardNodes → HeardNodes → Laned
  as_split above taken inner rest =
      let ns = shared_by above inner in
      let a = laned first most (with_shared above ns) (taken + pairs ns (voices inner)) inner in
      let r = laned first most above a.taken rest in
      record { nodes = group (Some (lanes_from first taken ns (voices inner))) (given first taken ns a.nodes) r.nodes; taken = r.taken }

  abbrev pub as_plain : List Bool → ℕ → HeardNodes → HeardNodes → Laned
  as_plain above taken inner rest =
      let a = laned first most above taken inner in
      let r = laned first most above a.taken rest in
      record { nodes = group None a.nodes r.nodes; taken = r.taken }

  -- a group may be split, and there are enough lanes
  abbrev pub is_laned : List Bool → ℕ → Option (List Moved) → HeardNodes → Bool
  is_laned above taken may inner = is_some may && nat_le (taken + pairs (shared_by above inner) (voices inner)) most

  pub by_ways : (P : Laned → Type 0) (above : List Bool) (taken : ℕ) (may : Option (List Moved)) (inner rest : HeardNodes) → (is_laned above taken may inner ≡ true → P (as_split above taken inner rest)) → (is_laned above taken may inner ≡ false → P (as_plain above taken inner rest)) → P (laned first most above taken (group may inner rest))
  by_ways P above taken may inner rest p q = cond_both (is_laned above taken may inner) (as_split above taken inner rest) (as_plain above taken inner rest) P p q

  pub alike_laned : (above : List Bool) (taken : ℕ) (t : HeardNodes) → Alike (voices t) (voices (laned first most above taken t).nodes)
  alike_laned above taken none = tt
  alike_laned above taken (synth v rest) = ((refl, refl), alike_laned above taken rest)
  alike_laned above taken (group may inner rest) =
      let ns : List ℕ = shared_by above inner in
      let end : ℕ = taken + pairs ns (voices inner) in
      let a : Laned = laned first most (with_shared above ns) end inner in
      let b : Laned = laned first most above taken inner in
      by_ways (λ (l : Laned). Alike (voices inner ++ voices rest) (voices l.nodes)) above taken may inner rest
      (λ s. alike_append (voices inner) (voices (given first taken ns a.nodes)) (voices rest) (voices (laned first most above a.taken rest).nodes)
      (alike_then (voices inner) (voices a.nodes) (voices (given first taken ns a.nodes)) (alike_laned (with_shared above ns) end inner) (alike_given first taken ns a.nodes))
      (alike_laned above a.taken rest))
      (λ s. alike_append (voices inner) (voices b.nodes) (voices rest) (voices (laned first most above b.taken rest).nodes) (alike_laned above taken inner) (alike_laned above b.taken rest))

  pub two_laned : (above : List Bool) (taken : ℕ) (t : HeardNodes) (n : ℕ) → two_mix (laned first most above taken t).nodes n ≡ two_mix t n
  two_laned above taken none n = refl
  two_laned above taken (synth v rest) n =
      (λ i. (mixes v n && sym (one_alike (voices rest) (voices (laned first most above taken rest).nodes) n (alike_laned above taken rest)) i) || two_laned above taken rest n i)
  two_laned above taken (group may inner rest) n =
      let ns : List ℕ = shared_by above inner in
      let end : ℕ = taken + pairs ns (voices inner) in
      let a : Laned = laned first most (with_shared above ns) end inner in
      let b : Laned = laned first most above taken inner in
      by_ways (λ (l : Laned). two_mix l.nodes n ≡ ((one_mixes (voices inner) n && one_mixes (voices rest) n) || two_mix rest n)) above taken may inner rest
      (λ s. let p = alike_then (voices inner) (voices a.nodes) (voices (given first taken ns a.nodes)) (alike_laned (with_shared above ns) end inner) (alike_given first taken ns a.nodes) in
      (λ i. (sym (one_alike (voices inner) (voices (given first taken ns a.nodes)) n p) i && sym (one_alike (voices rest) (voices (laned first most above a.taken rest).nodes) n (alike_laned above a.taken rest)) i) || two_laned above a.taken rest n i))
      (λ s. (λ i. (sym (one_alike (voices inner) (voices b.nodes) n (alike_laned above taken inner)) i && sym (one_alike (voices rest) (voices (laned first most above b.taken rest).nodes) n (alike_laned above b.taken rest)) i) || two_laned above b.taken rest n i))

  pub weight_laned : (above : List Bool) (taken : ℕ) (t : HeardNodes) → weight (laned first most above taken t).nodes ≡ weight t
  weight_laned above taken none = refl
  weight_laned above taken (synth v rest) = ap (λ w. 1 + w) (weight_laned above taken rest)
  weight_laned above taken (group may inner rest) =
      let ns : List ℕ = shared_by above inner in
      let end : ℕ = taken + pairs ns (voices inner) in
      let a : Laned = laned first most (with_shared above ns) end inner in
      let b : Laned = laned first most above taken inner in
      by_ways (λ (l : Laned). weight l.nodes ≡ 1 + (weight inner + weight rest)) above taken may inner rest
      (λ s. (λ i. 1 + ((weight_given first taken ns a.nodes ∙ weight_laned (with_shared above ns) end inner) i + weight_laned above a.taken rest i)))
      (λ s. (λ i. 1 + (weight_laned above taken inner i + weight_laned above b.taken rest i)))

  -- no more lanes are taken than there are
  pub few_taken : (above : List Bool) (taken : ℕ) (t : HeardNodes) → taken ≤ most → (laned first most above taken t).taken ≤ most
  few_taken above taken none le = le
  few_taken above taken (synth v rest) le = few_taken above taken rest le
  few_taken above taken (group may inner rest) le =
      let ns : List ℕ = shared_by above inner in
      let end : ℕ = taken + pairs ns (voices inner) in
      by_ways (λ (l : Laned). l.taken ≤ most) above taken may inner rest
      (λ s. few_taken above (laned first most (with_shared above ns) end inner).taken rest (few_taken (with_shared above ns) end inner (leb-true end most (and_parts (is_some may) (nat_le end most) s).1)))
      (λ s. few_taken above (laned first most above taken inner).taken rest (few_taken above taken inner le))
