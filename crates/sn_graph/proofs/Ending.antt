-- The words of synths with lanes have numbers.
use Rattle.std.proofs.Common.{◌≡◌, ◌<◌, ◌≤◌, ⊎_elim, ℕ, ◌+◌, ◌*◌, ◌==◌, Bool, true, false, not, ◌&&◌, ◌||◌, if◌then◌else◌, List, [], ◌∷◌, ◌++◌, map, replicate, Some, None, sym, ap, subst, arith}
use Rattle.std.specs.List.{All, filter}
use Rattle.std.proofs.lemmas.Bool.{cases_Bool, cond-false, cond-true, eq-eqb}
use Rattle.std.proofs.lemmas.List.Elements.{All-append, All-cons, All-head, All-nil, All-tail}
use Rattle.sn_mem.specs.declared.extents.Extent.{Extent}
use Rattle.sn_foot.specs.declared.reach.Reach.{Reach}
use Rattle.sn_mem.specs.declared.moves.Moved.{Moved}
use Rattle.sn_mem.specs.Blocks.{table}
use Rattle.sn_mem.specs.Lanes.{buses_in, lanes_in}
use Rattle.sn_mem.specs.Layout.{audio_place, lane_place}
use Rattle.sn_mem.specs.Words as words
use Rattle.sn_foot.proofs.Judged.{one_if}
use Rattle.sn_foot.proofs.Finding.{all_parts}
use Rattle.sn_foot.specs.Canonical.{Ends}
use Rattle.sn_graph.specs.declared.nodes.Voice.{Voice}
use Rattle.sn_graph.specs.Voices.{HeardNodes, none, synth, group, voices, AreWithin, JointsEnd, buses_left, is_moved, mixed_onto}
use Rattle.sn_graph.specs.Sharing.{two_mix}
use Rattle.sn_graph.specs.Fitting.{on}
use Rattle.sn_graph.specs.Lanes.{with_lanes}
use Rattle.sn_graph.proofs.Alike.{Alike, few_taken}
use Rattle.sn_graph.proofs.Laning.{AreAllMoves, AreLaned, AreLow, ArePlain, all_moves, all-moves-append, low_numbers}
use Rattle.sn_graph.proofs.Lanewise.{given_below, times, times-append}
use Rattle.sn_graph.proofs.Clearance.{each_moves}
use Rattle.sn_graph.proofs.Splitting.{alike, are_laned}

-- the lanes of moves have numbers below a bound
abbrev pub AreBelow : ℕ → List Moved → Type 0
AreBelow first ms = (k : ℕ) → 1 ≤ times first k ms → k < 4096

abbrev pub AllPlain : List Voice → Type 0
AllPlain [] = Unit {0}
AllPlain (v ∷ vs) = (v.moves ≡ []) × AllPlain vs

plain_append : (vs ws : List Voice) → AllPlain vs → AllPlain ws → AllPlain (vs ++ ws)
plain_append [] ws a b = b
plain_append (v ∷ vs) ws a b = (a.0, plain_append vs ws a.1 b)

pub all_plain : (t : HeardNodes) → ArePlain t → AllPlain (voices t)
all_plain none p = tt
all_plain (synth v rest) p = (p.0, all_plain rest p.1)
all_plain (group lanes inner rest) p = plain_append (voices inner) (voices rest) (all_plain inner p.0) (all_plain rest p.1)

moves_parts : (first : ℕ) (ms ks : List Moved) → AreAllMoves first (ms ++ ks) → AreAllMoves first ms × AreAllMoves first ks
moves_parts first [] ks a = (tt, a)
moves_parts first (m ∷ ms) ks a = let p = moves_parts first ms ks a.1 in ((a.0, p.0), p.1)

abbrev words_read : Reach → List Extent
words_read r = r.reads

abbrev words_written : Reach → List Extent
words_written r = r.writes

abbrev words_mixed : Reach → List Extent
words_mixed r = r.mixes

lanes_parts : (ms ks : List Moved) → All Ends (lanes_in (ms ++ ks)) → All Ends (lanes_in ms) × All Ends (lanes_in ks)
lanes_parts [] ks e = (All-nil Ends, e)
lanes_parts (m ∷ ms) ks e =
    let p = lanes_parts ms ks (All-tail Ends m.lane (lanes_in (ms ++ ks)) e) in
    (All-cons Ends m.lane (lanes_in ms) (All-head Ends m.lane (lanes_in (ms ++ ks)) e) p.0, p.1)

lanes_both : (vs ws : List Voice) → All Ends (lanes_in (all_moves (vs ++ ws))) → All Ends (lanes_in (all_moves vs)) × All Ends (lanes_in (all_moves ws))
lanes_both vs ws e = lanes_parts (all_moves vs) (all_moves ws) (subst (λ (ms : List Moved). All Ends (lanes_in ms)) (all-moves-append vs ws) e)

module _ (first : ℕ) (bound : first + 266240 < 4294967296) where
  pub lanes_end : (ms : List Moved) → AreAllMoves first ms → AreBelow first ms → All Ends (lanes_in ms)
  lanes_end [] a b = All-nil Ends
  lanes_end (m ∷ ms) a b =
      let k : ℕ = a.0.1.1.1.0 in
      let is : m.lane ≡ lane_place first k = a.0.1.1.1.1 in
      let one : ◌≡◌ {A = ℕ} (if m.lane.at == first + 65 * k then 1 else 0) 1 = one_if (m.lane.at == first + 65 * k) (eq-eqb m.lane.at (first + 65 * k) (ap (λ (e : Extent). e.at) is)) in
      let low : k < 4096 = b k (omega (arith, one)) in
      All-cons Ends m.lane (lanes_in ms) (subst Ends (sym is) (omega (arith, bound, low))) (lanes_end ms a.1 (λ j l. b j (omega (arith, l))))

  buses_end : (ms : List Moved) → AreAllMoves first ms → All Ends (buses_in ms)
  buses_end [] a = All-nil Ends
  buses_end (m ∷ ms) a = All-cons Ends m.bus (buses_in ms) (subst Ends (sym a.0.1.1.0) (omega (arith, a.0.1.0))) (buses_end ms a.1)

  places_end : (p : ℕ → Bool) (ns : List ℕ) → AreLow ns → All Ends (map audio_place (filter p ns))
  places_end p [] l = All-nil Ends
  places_end p (n ∷ ns) l = ⊎_elim
      (λ (t : p n ≡ true). subst (λ (ks : List ℕ). All Ends (map audio_place ks)) (sym (cond-true (p n) (n ∷ filter p ns) (filter p ns) t)) (All-cons Ends (audio_place n) (map audio_place (filter p ns)) (omega (arith, l.0)) (places_end p ns l.1)))
      (λ (t : p n ≡ false). subst (λ (ks : List ℕ). All Ends (map audio_place ks)) (sym (cond-false (p n) (n ∷ filter p ns) (filter p ns) t)) (places_end p ns l.1))
      (cases_Bool (p n))

  onto_ends : (ms : List Moved) (es : List Extent) → AreAllMoves first ms → AreBelow first ms → All Ends es → All Ends (mixed_onto ms es)
  onto_ends [] es a b e = e
  onto_ends (m ∷ ms) es a b e =
      All-append Ends (buses_left (m ∷ ms) es) (lanes_in (m ∷ ms))
      (places_end (λ n. words.has es (65 * n) && not (is_moved (m ∷ ms) n)) (table (λ n. n) 128) (low_numbers 128 (omega arith)))
      (lanes_end (m ∷ ms) a b)

  -- synths that have the words of others, which move nothing
  pub within_alike : (vs ws : List Voice) → Alike vs ws → AllPlain vs → AreAllMoves first (all_moves ws) → AreBelow first (all_moves ws) → AreWithin vs → AreWithin ws
  within_alike [] [] s p a b w = tt
  within_alike [] (y ∷ ws) s p a b w = absurd s
  within_alike (x ∷ vs) [] s p a b w = absurd s
  within_alike (x ∷ vs) (y ∷ ws) s p a b w =
      let parts = moves_parts first y.moves (all_moves ws) a in
      let own = all_parts Ends x.reach.writes x.reach.mixes (subst (λ (ms : List Moved). All Ends (x.reach.writes ++ mixed_onto ms x.reach.mixes)) p.0 w.0.1) in (
        (
          subst (λ (r : Reach). All Ends (words_read r)) s.0.1 w.0.0,
          All-append Ends y.reach.writes (mixed_onto y.moves y.reach.mixes) (subst (λ (r : Reach). All Ends (words_written r)) s.0.1 own.0)
              (onto_ends y.moves y.reach.mixes parts.0 (λ k l. b k (omega (arith, l, times-append first k y.moves (all_moves ws)))) (subst (λ (r : Reach). All Ends (words_mixed r)) s.0.1 own.1)),
        ),
        within_alike vs ws s.1 p.1 parts.1 (λ k l. b k (omega (arith, l, times-append first k y.moves (all_moves ws)))) w.1,
      )

  -- ---- joints

  on_end : (ms : List Moved) (n : ℕ) → All Ends (lanes_in ms) → All Ends (lanes_in (on n ms))
  on_end [] n e = e
  on_end (m ∷ ms) n e =
      let test : Bool = m.bus.at == 65 * n in
      let rest : All Ends (lanes_in (on n ms)) = on_end ms n (All-tail Ends m.lane (lanes_in ms) e) in
      ⊎_elim
      (λ (t : test ≡ true). subst (λ (ks : List Moved). All Ends (lanes_in ks)) (sym (cond-true test (m ∷ on n ms) (on n ms) t)) (All-cons Ends m.lane (lanes_in (on n ms)) (All-head Ends m.lane (lanes_in ms) e) rest))
      (λ (t : test ≡ false). subst (λ (ks : List Moved). All Ends (lanes_in ks)) (sym (cond-false test (m ∷ on n ms) (on n ms) t)) rest)
      (cases_Bool test)

  by_buses : (ms : List Moved) → AreAllMoves first ms → ((n : ℕ) → n < 128 → All Ends (lanes_in (on n ms))) → All Ends (lanes_in ms)
  by_buses [] a f = All-nil Ends
  by_buses (m ∷ ms) a f =
      let n : ℕ = a.0.0 in
      let here : (m.bus.at == 65 * n) ≡ true = eq-eqb m.bus.at (65 * n) (ap (λ (e : Extent). e.at) a.0.1.1.0) in
      let first_is : on n (m ∷ ms) ≡ m ∷ on n ms = cond-true (m.bus.at == 65 * n) (m ∷ on n ms) (on n ms) here in
      All-cons Ends m.lane (lanes_in ms) (All-head Ends m.lane (lanes_in (on n ms)) (subst (λ (ks : List Moved). All Ends (lanes_in ks)) first_is (f n a.0.1.0)))
      (by_buses ms a.1 (λ k lt.
      let test : Bool = m.bus.at == 65 * k in
      ⊎_elim
      (λ (t : test ≡ true). All-tail Ends m.lane (lanes_in (on k ms)) (subst (λ (ks : List Moved). All Ends (lanes_in ks)) (cond-true test (m ∷ on k ms) (on k ms) t) (f k lt)))
      (λ (t : test ≡ false). subst (λ (ks : List Moved). All Ends (lanes_in ks)) (cond-false test (m ∷ on k ms) (on k ms) t) (f k lt))
      (cases_Bool test)))

  pub joints_end : (S A : ℕ → Bool) (t : HeardNodes) → AreLaned first S A t → All Ends (lanes_in (all_moves (voices t))) → JointsEnd t
  joints_end S A none l e = tt
  joints_end S A (synth v rest) l e = joints_end S A rest l.1 (lanes_parts v.moves (all_moves (voices rest)) e).1
  joints_end S A (group None inner rest) l e =
      let p = lanes_both (voices inner) (voices rest) e in
      ((All-nil Ends, All-nil Ends), (joints_end S A inner l.0 p.0, joints_end S A rest l.1 p.1))
  joints_end S A (group (Some lanes) inner rest) l e =
      let p = lanes_both (voices inner) (voices rest) e in
      let g : ℕ → Bool = λ n. two_mix inner n && not (S n) in (
        (
          by_buses lanes l.0.each (λ n lt. ⊎_elim
              (λ (t : g n ≡ true). subst (λ (ks : List Moved). All Ends (lanes_in ks)) (sym (l.0.joined n lt t)) (on_end (all_moves (voices inner)) n p.0))
              (λ (t : g n ≡ false). subst (λ (ks : List Moved). All Ends (lanes_in ks)) (sym (l.0.others n lt t)) (All-nil Ends))
              (cases_Bool (g n))),
          buses_end lanes l.0.each,
        ),
        (joints_end (λ n. S n || g n) (λ n. A n || g n) inner l.1.0 p.0, joints_end S A rest l.1.1 p.1),
      )

-- ---- the nodes of a plan

module _ (first most : ℕ) (bound : first + 266240 < 4294967296) (few : most ≤ 4096) (t : HeardNodes) (plain : ArePlain t) where
  abbrev with_them : HeardNodes
  with_them = with_lanes first most t

  moves_are : AreAllMoves first (all_moves (voices with_them))
  moves_are = each_moves first (λ n. false) (λ n. false) with_them (are_laned first most t plain)

  moves_below : AreBelow first (all_moves (voices with_them))
  moves_below k l =
      let low = given_below first most k (replicate 128 false) 0 t plain l in
      let most_taken = few_taken first most (replicate 128 false) 0 t (omega arith) in
      omega (arith, low, most_taken, few)

  pub nodes_within : AreWithin (voices t) → AreWithin (voices with_them)
  nodes_within w = within_alike first bound (voices t) (voices with_them) (alike first most t plain) (all_plain t plain) moves_are moves_below w

  pub nodes_joints : JointsEnd with_them
  nodes_joints = joints_end first bound (λ n. false) (λ n. false) with_them (are_laned first most t plain) (lanes_end first bound (all_moves (voices with_them)) moves_are moves_below)
