-- Members of a group whose words do not clash, and that giving lanes changes nothing of it.
use Rattle.std.proofs.Common.{◌≡◌, ℕ, ◌+◌, Bool, true, List, [], ◌∷◌, length, sym, refl, subst, true≢false}
use Rattle.std.specs.Prelude.{is_some, nat_le}
use Rattle.std.proofs.lemmas.Bool.{and_parts}
use Rattle.sn_foot.specs.declared.reach.Reach.{Reach}
use Rattle.sn_foot.specs.Reaches.{ReachesClash}
use Rattle.sn_graph.specs.declared.nodes.Voice.{Voice}
use Rattle.sn_graph.specs.Voices.{HeardNodes, none, synth, group, voices}
use Rattle.sn_graph.specs.Lanes.{Laned, given, laned, mixed_of, pairs, shared_by, with_shared}
use Rattle.sn_graph.proofs.Alike.{Alike, alike_given, alike_laned, alike_then, by_ways}

-- ---- members whose reaches do not clash

abbrev pub MeetsNone : Voice → List Voice → Type 0
MeetsNone s [] = Unit {0}
MeetsNone s (t ∷ ts) = (ReachesClash s.reach t.reach → ⊥) × MeetsNone s ts

abbrev pub NoneMeet : List Voice → List Voice → Type 0
NoneMeet [] ts = Unit {0}
NoneMeet (s ∷ ss) ts = MeetsNone s ts × NoneMeet ss ts

abbrev pub NoMembersMeet : HeardNodes → Type 0
NoMembersMeet none = Unit {0}
NoMembersMeet (synth s rest) = MeetsNone s (voices rest) × NoMembersMeet rest
NoMembersMeet (group lanes inner rest) = NoneMeet (voices inner) (voices rest) × NoMembersMeet rest

-- no two members of a group that is split, or may be, meet
abbrev pub SplitsMeetNone : HeardNodes → Type 0
SplitsMeetNone none = Unit {0}
SplitsMeetNone (synth v rest) = SplitsMeetNone rest
SplitsMeetNone (group lanes inner rest) = (is_some lanes ≡ true → NoMembersMeet inner) × (SplitsMeetNone inner × SplitsMeetNone rest)

meets_alike : (v w : Voice) (vs ws : List Voice) → v.reach ≡ w.reach → Alike vs ws → MeetsNone v vs → MeetsNone w ws
meets_alike v w [] [] e a m = tt
meets_alike v w [] (y ∷ ws) e a m = absurd a
meets_alike v w (x ∷ vs) [] e a m = absurd a
meets_alike v w (x ∷ vs) (y ∷ ws) e a m = ((λ c. m.0 (subst (λ (p : Reach × Reach). ReachesClash p.0 p.1) (λ i. (sym e i, sym a.0.1 i)) c)), meets_alike v w vs ws e a.1 m.1)

none_alike : (us vs ws xs : List Voice) → Alike us vs → Alike ws xs → NoneMeet us ws → NoneMeet vs xs
none_alike [] [] ws xs a b m = tt
none_alike [] (v ∷ vs) ws xs a b m = absurd a
none_alike (u ∷ us) [] ws xs a b m = absurd a
none_alike (u ∷ us) (v ∷ vs) ws xs a b m = (meets_alike u v ws xs a.0.1 b m.0, none_alike us vs ws xs a.1 b m.1)

-- giving lanes changes nothing of it
members_given : (first k : ℕ) (ns : List ℕ) (t : HeardNodes) → NoMembersMeet t → NoMembersMeet (given first k ns t)
members_given first k ns none m = tt
members_given first k ns (synth v rest) m =
    let j : ℕ = k + length (mixed_of ns v) in
    (meets_alike v v (voices rest) (voices (given first j ns rest)) refl (alike_given first j ns rest) m.0, members_given first j ns rest m.1)
members_given first k ns (group lanes inner rest) m =
    let j : ℕ = k + pairs ns (voices inner) in
    (none_alike (voices inner) (voices (given first k ns inner)) (voices rest) (voices (given first j ns rest)) (alike_given first k ns inner) (alike_given first j ns rest) m.0, members_given first j ns rest m.1)

splits_given : (first k : ℕ) (ns : List ℕ) (t : HeardNodes) → SplitsMeetNone t → SplitsMeetNone (given first k ns t)
splits_given first k ns none m = tt
splits_given first k ns (synth v rest) m = splits_given first (k + length (mixed_of ns v)) ns rest m
splits_given first k ns (group lanes inner rest) m =
    ((λ s. members_given first k ns inner (m.0 s)), (splits_given first k ns inner m.1.0, splits_given first (k + pairs ns (voices inner)) ns rest m.1.1))

module _ (first most : ℕ) where
  members_laned : (above : List Bool) (taken : ℕ) (t : HeardNodes) → NoMembersMeet t → NoMembersMeet (laned first most above taken t).nodes
  members_laned above taken none m = tt
  members_laned above taken (synth v rest) m = (meets_alike v v (voices rest) (voices (laned first most above taken rest).nodes) refl (alike_laned first most above taken rest) m.0, members_laned above taken rest m.1)
  members_laned above taken (group may inner rest) m =
      let ns : List ℕ = shared_by above inner in
      let end : ℕ = taken + pairs ns (voices inner) in
      let a : Laned = laned first most (with_shared above ns) end inner in
      let b : Laned = laned first most above taken inner in
      by_ways first most (λ (l : Laned). NoMembersMeet l.nodes) above taken may inner rest
      (λ s. (
        none_alike (voices inner) (voices (given first taken ns a.nodes)) (voices rest) (voices (laned first most above a.taken rest).nodes)
            (alike_then (voices inner) (voices a.nodes) (voices (given first taken ns a.nodes)) (alike_laned first most (with_shared above ns) end inner) (alike_given first taken ns a.nodes))
            (alike_laned first most above a.taken rest) m.0,
        members_laned above a.taken rest m.1,
      ))
      (λ s. (
        none_alike (voices inner) (voices b.nodes) (voices rest) (voices (laned first most above b.taken rest).nodes) (alike_laned first most above taken inner) (alike_laned first most above b.taken rest) m.0,
        members_laned above b.taken rest m.1,
      ))

  pub splits_laned : (above : List Bool) (taken : ℕ) (t : HeardNodes) → SplitsMeetNone t → SplitsMeetNone (laned first most above taken t).nodes
  splits_laned above taken none m = tt
  splits_laned above taken (synth v rest) m = splits_laned above taken rest m
  splits_laned above taken (group may inner rest) m =
      let ns : List ℕ = shared_by above inner in
      let end : ℕ = taken + pairs ns (voices inner) in
      let a : Laned = laned first most (with_shared above ns) end inner in
      let b : Laned = laned first most above taken inner in
      by_ways first most (λ (l : Laned). SplitsMeetNone l.nodes) above taken may inner rest
      (λ s. (
        (λ h. members_given first taken ns a.nodes (members_laned (with_shared above ns) end inner (m.0 (and_parts (is_some may) (nat_le end most) s).0))),
        (splits_given first taken ns a.nodes (splits_laned (with_shared above ns) end inner m.1.0), splits_laned above a.taken rest m.1.1),
      ))
      (λ s. ((λ h. absurd (true≢false (sym h))), (splits_laned above taken inner m.1.0, splits_laned above b.taken rest m.1.1)))
