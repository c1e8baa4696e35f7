-- With lanes, nothing below a member of a split group clashes with what is below another.
use Rattle.std.proofs.Common.{◌≡◌, ◌<◌, ◌≤◌, ◌⊎◌, inl, inr, ⊎_elim, ℕ, ◌+◌, ◌*◌, ◌==◌, Bool, true, false, not, ◌&&◌, ◌||◌, if◌then◌else◌, List, [], ◌∷◌, ◌++◌, map, Some, None, sym, refl, ap, ◌∙◌, subst, arith, true≢false}
use Rattle.std.specs.Prelude.{nat_le, nat_lt}
use Rattle.std.specs.List.{filter}
use Rattle.std.proofs.lemmas.Bool.{and_from, and_parts, cases_Bool, cond-false, cond-true, eq-eqb, leb-true, ltb-true, or_cases, or_left, or_parts, or_right}
use Rattle.sn_mem.specs.declared.extents.Extent.{Extent}
use Rattle.sn_mem.specs.declared.extents.Foot.{Foot}
use Rattle.sn_mem.specs.declared.moves.Moved.{Moved}
use Rattle.sn_mem.specs.Blocks.{table}
use Rattle.sn_mem.specs.Lanes.{buses_in, lanes_in}
use Rattle.sn_mem.specs.Layout.{audio_place, lane_place}
use Rattle.sn_mem.specs.Words as words
use Rattle.sn_mem.specs.Words.{Clash, covers, touches, writes}
use Rattle.sn_foot.specs.Reaches.{MeetsAt, ReachesClash, unmoved}
use Rattle.sn_foot.proofs.Runs.{has_append, has_canonical}
use Rattle.sn_graph.specs.declared.nodes.Voice.{Voice}
use Rattle.sn_graph.specs.Voices.{HeardNodes, none, synth, group, voices, foot_of, is_moved, buses_left, mixed_onto, own_foot}
use Rattle.sn_graph.specs.Plans.{IsAmong, MembersAreClear, SplitsAreClear, feet_below, joint_feet}
use Rattle.sn_graph.specs.Sharing.{mixes, one_mixes, two_mix}
use Rattle.sn_graph.specs.Fitting.{on}
use Rattle.sn_graph.proofs.Shapes.{Among}
use Rattle.sn_graph.proofs.Racing.{among_cases}
use Rattle.sn_graph.proofs.Meeting.{MeetsNone, NoMembersMeet, NoneMeet, SplitsMeetNone}
use Rattle.sn_graph.proofs.Fitting.{moved_found, two_is_one}
use Rattle.sn_graph.proofs.Laning.{AreAllMoves, AreLaned, AreLow, JoinsThose, MovesThose, all_moves, all-moves-append, left_above, low_numbers, moves-append}
use Rattle.sn_graph.proofs.Lanewise.{times, times-append}
use Rattle.std.proofs.Math.Bool.{or-false}
use Rattle.sn_foot.proofs.Judged.{one_if}

-- ---- some synth among others

abbrev Some_of : (Voice → Type 0) → List Voice → Type 0
Some_of P vs = (v : Voice) × (Among vs v × P v)

left_of : (vs ws : List Voice) (v : Voice) → Among vs v → Among (vs ++ ws) v
left_of [] ws v h = absurd h
left_of (u ∷ us) ws v h = ⊎_elim (λ (e : u ≡ v). inl e) (λ (k : Among us v). inr (left_of us ws v k)) h

right_of : (vs ws : List Voice) (v : Voice) → Among ws v → Among (vs ++ ws) v
right_of [] ws v h = h
right_of (u ∷ us) ws v h = inr (right_of us ws v h)

-- ---- words

-- a synth mixes whole buses, and its words lie below a number
pub record IsWhole (first : ℕ) (v : Voice) : Type 0 where
  pub mixed : (x : ℕ) → words.has v.reach.mixes x ≡ true → (n : ℕ) × ((n < 128) × ((covers (audio_place n) x ≡ true) × (mixes v n ≡ true)))
  pub whole : (n x : ℕ) → n < 128 → mixes v n ≡ true → covers (audio_place n) x ≡ true → words.has v.reach.mixes x ≡ true
  pub below : (x : ℕ) → touches (unmoved v.reach) x ≡ true → x < first

abbrev pub AreWhole : ℕ → List Voice → Type 0
AreWhole first [] = Unit {0}
AreWhole first (v ∷ vs) = IsWhole first v × AreWhole first vs

whole_parts : (first : ℕ) (vs ws : List Voice) → AreWhole first (vs ++ ws) → AreWhole first vs × AreWhole first ws
whole_parts first [] ws a = (tt, a)
whole_parts first (v ∷ vs) ws a = let p = whole_parts first vs ws a.1 in ((a.0, p.0), p.1)

whole_at : (first : ℕ) (vs : List Voice) (v : Voice) → AreWhole first vs → Among vs v → IsWhole first v
whole_at first [] v a h = absurd h
whole_at first (u ∷ us) v a h = ⊎_elim (λ (e : u ≡ v). subst (IsWhole first) e a.0) (λ (k : Among us v). whole_at first us v a.1 k) h

-- audio bus n, which is not shared, has the word, and the synth mixes it
abbrev MixesHere : (ℕ → Bool) → ℕ → Voice → Type 0
MixesHere S x v = (words.has v.reach.mixes x ≡ true) × ((n : ℕ) × ((n < 128) × ((covers (audio_place n) x ≡ true) × ((mixes v n ≡ true) × (S n ≡ false)))))

abbrev IsLane : List Voice → ℕ → Type 0
IsLane vs x = words.has (lanes_in (all_moves vs)) x ≡ true

-- what writes a word: a synth that writes it, one that mixes it, or one whose lane it is
abbrev IsWritten : (ℕ → Bool) → List Voice → ℕ → Type 0
IsWritten S vs x = Some_of (λ v. words.has v.reach.writes x ≡ true) vs ⊎ (Some_of (MixesHere S x) vs ⊎ IsLane vs x)

abbrev IsTouched : (ℕ → Bool) → List Voice → ℕ → Type 0
IsTouched S vs x = Some_of (λ v. words.has v.reach.reads x ≡ true) vs ⊎ IsWritten S vs x

lanes-append : (ms ks : List Moved) → lanes_in (ms ++ ks) ≡ lanes_in ms ++ lanes_in ks
lanes-append [] ks = refl
lanes-append (m ∷ ms) ks = ap (λ (es : List Extent). m.lane ∷ es) (lanes-append ms ks)

lane_parts : (vs ws : List Voice) (x : ℕ) → words.has (lanes_in (all_moves (vs ++ ws))) x ≡ (words.has (lanes_in (all_moves vs)) x || words.has (lanes_in (all_moves ws)) x)
lane_parts vs ws x =
    ap (λ (ms : List Moved). words.has (lanes_in ms) x) (all-moves-append vs ws)
    ∙ ap (λ (es : List Extent). words.has es x) (lanes-append (all_moves vs) (all_moves ws))
    ∙ has_append (lanes_in (all_moves vs)) (lanes_in (all_moves ws)) x

module _ (S : ℕ → Bool) (vs ws : List Voice) (x : ℕ) where
  written_left : IsWritten S vs x → IsWritten S (vs ++ ws) x
  written_left w = ⊎_elim
      (λ (h : Some_of (λ v. words.has v.reach.writes x ≡ true) vs). inl (h.0, (left_of vs ws h.0 h.1.0, h.1.1)))
      (λ (r : Some_of (MixesHere S x) vs ⊎ IsLane vs x). ⊎_elim
      (λ (h : Some_of (MixesHere S x) vs). inr (inl (h.0, (left_of vs ws h.0 h.1.0, h.1.1))))
      (λ (h : IsLane vs x). inr (inr (lane_parts vs ws x ∙ or_left (words.has (lanes_in (all_moves vs)) x) (words.has (lanes_in (all_moves ws)) x) h)))
      r)
      w

  written_right : IsWritten S ws x → IsWritten S (vs ++ ws) x
  written_right w = ⊎_elim
      (λ (h : Some_of (λ v. words.has v.reach.writes x ≡ true) ws). inl (h.0, (right_of vs ws h.0 h.1.0, h.1.1)))
      (λ (r : Some_of (MixesHere S x) ws ⊎ IsLane ws x). ⊎_elim
      (λ (h : Some_of (MixesHere S x) ws). inr (inl (h.0, (right_of vs ws h.0 h.1.0, h.1.1))))
      (λ (h : IsLane ws x). inr (inr (lane_parts vs ws x ∙ or_right (words.has (lanes_in (all_moves vs)) x) (words.has (lanes_in (all_moves ws)) x) h)))
      r)
      w

  touched_left : IsTouched S vs x → IsTouched S (vs ++ ws) x
  touched_left t = ⊎_elim
      (λ (h : Some_of (λ v. words.has v.reach.reads x ≡ true) vs). inl (h.0, (left_of vs ws h.0 h.1.0, h.1.1)))
      (λ (w : IsWritten S vs x). inr (written_left w))
      t

  touched_right : IsTouched S ws x → IsTouched S (vs ++ ws) x
  touched_right t = ⊎_elim
      (λ (h : Some_of (λ v. words.has v.reach.reads x ≡ true) ws). inl (h.0, (right_of vs ws h.0 h.1.0, h.1.1)))
      (λ (w : IsWritten S ws x). inr (written_right w))
      t

-- fewer buses are shared above
module _ (S T : ℕ → Bool) (few : (n : ℕ) → n < 128 → T n ≡ false → S n ≡ false) (vs : List Voice) (x : ℕ) where
  written_fewer : IsWritten T vs x → IsWritten S vs x
  written_fewer w = ⊎_elim
      (λ (h : Some_of (λ v. words.has v.reach.writes x ≡ true) vs). inl h)
      (λ (r : Some_of (MixesHere T x) vs ⊎ IsLane vs x). ⊎_elim
      (λ (h : Some_of (MixesHere T x) vs). let q = h.1.1 in inr (inl (h.0, (h.1.0, (q.0, (q.1.0, (q.1.1.0, (q.1.1.1.0, (q.1.1.1.1.0, few q.1.0 q.1.1.0 q.1.1.1.1.1)))))))))
      (λ (h : IsLane vs x). inr (inr h))
      r)
      w

  touched_fewer : IsTouched T vs x → IsTouched S vs x
  touched_fewer t = ⊎_elim
      (λ (h : Some_of (λ v. words.has v.reach.reads x ≡ true) vs). inl h)
      (λ (w : IsWritten T vs x). inr (written_fewer w))
      t

-- ---- the foot of one synth

has_filter : (p : ℕ → Bool) (ns : List ℕ) (x : ℕ) → AreLow ns → words.has (map audio_place (filter p ns)) x ≡ true → (n : ℕ) × ((n < 128) × ((p n ≡ true) × (covers (audio_place n) x ≡ true)))
has_filter p [] x low h = absurd (true≢false (sym h))
has_filter p (m ∷ ns) x low h = ⊎_elim
    (λ (e : p m ≡ true).
    let all : words.has (audio_place m ∷ map audio_place (filter p ns)) x ≡ true = sym (ap (λ (ks : List ℕ). words.has (map audio_place ks) x) (cond-true (p m) (m ∷ filter p ns) (filter p ns) e)) ∙ h in
    ⊎_elim
    (λ (c : covers (audio_place m) x ≡ true). (m, (low.0, (e, c))))
    (λ (c : words.has (map audio_place (filter p ns)) x ≡ true). has_filter p ns x low.1 c)
    (or_cases (covers (audio_place m) x) (words.has (map audio_place (filter p ns)) x) all))
    (λ (e : p m ≡ false). has_filter p ns x low.1 (sym (ap (λ (ks : List ℕ). words.has (map audio_place ks) x) (cond-false (p m) (m ∷ filter p ns) (filter p ns) e)) ∙ h))
    (cases_Bool (p m))

-- a bus that is not moved is not shared
not_shared : (first : ℕ) (S : ℕ → Bool) (v : Voice) (n : ℕ) → n < 128 → MovesThose first S v → mixes v n ≡ true → is_moved v.moves n ≡ false → S n ≡ false
not_shared first S v n lt m x h = ⊎_elim
    (λ (s : S n ≡ true). let q = m.moved n lt s x in absurd (true≢false (sym (moved_found v.moves n q.0 [] q.1) ∙ h)))
    (λ (s : S n ≡ false). s)
    (cases_Bool (S n))

own_mixed : (first : ℕ) (S : ℕ → Bool) (v : Voice) (x : ℕ) → MovesThose first S v → IsWhole first v → (ms : List Moved) → v.moves ≡ ms → words.has (mixed_onto ms v.reach.mixes) x ≡ true → MixesHere S x v ⊎ (words.has (lanes_in v.moves) x ≡ true)
own_mixed first S v x m w [] e h =
    let q = w.mixed x h in
    inl (h, (q.0, (q.1.0, (q.1.1.0, (q.1.1.1, not_shared first S v q.0 q.1.0 m q.1.1.1 (ap (λ (ks : List Moved). is_moved ks q.0) e))))))
own_mixed first S v x m w (k ∷ ms) e h = ⊎_elim
    (λ (b : words.has (buses_left (k ∷ ms) v.reach.mixes) x ≡ true).
    let q = has_filter (λ n. words.has v.reach.mixes (65 * n) && not (is_moved (k ∷ ms) n)) (table (λ n. n) 128) x (low_numbers 128 (omega arith)) b in
    let p = and_parts (words.has v.reach.mixes (65 * q.0)) (not (is_moved (k ∷ ms) q.0)) q.1.1.0 in
    let free : is_moved v.moves q.0 ≡ false = ap (λ (ks : List Moved). is_moved ks q.0) e ∙ not_true (is_moved (k ∷ ms) q.0) p.1 in
    inl (w.whole q.0 x q.1.0 p.0 q.1.1.1, (q.0, (q.1.0, (q.1.1.1, (p.0, not_shared first S v q.0 q.1.0 m p.0 free))))))
    (λ (b : words.has (lanes_in (k ∷ ms)) x ≡ true). inr (ap (λ (ks : List Moved). words.has (lanes_in ks) x) e ∙ b))
    (or_cases (words.has (buses_left (k ∷ ms) v.reach.mixes) x) (words.has (lanes_in (k ∷ ms)) x) (sym (has_append (buses_left (k ∷ ms) v.reach.mixes) (lanes_in (k ∷ ms)) x) ∙ h))
  where
    not_true : (b : Bool) → not b ≡ true → b ≡ false
    not_true true h = sym h
    not_true false h = refl

-- what a foot touches is of these synths
record IsOf (S : ℕ → Bool) (vs : List Voice) (f : Foot) : Type 0 where
  pub written : (x : ℕ) → writes f x ≡ true → IsWritten S vs x
  pub touched : (x : ℕ) → touches f x ≡ true → IsTouched S vs x

own_is_of : (first : ℕ) (S : ℕ → Bool) (v : Voice) (vs : List Voice) → MovesThose first S v → IsWhole first v → IsOf S (v ∷ vs) (own_foot v)
own_is_of first S v vs m w =
    let put : (x : ℕ) → writes (own_foot v) x ≡ true → IsWritten S (v ∷ vs) x = λ x h. ⊎_elim
    (λ (k : words.has v.reach.writes x ≡ true). inl (v, (inl refl, k)))
    (λ (k : words.has (mixed_onto v.moves v.reach.mixes) x ≡ true). ⊎_elim
    (λ (l : MixesHere S x v). inr (inl (v, (inl refl, l))))
    (λ (l : words.has (lanes_in v.moves) x ≡ true). inr (inr (
    ap (λ (es : List Extent). words.has es x) (lanes-append v.moves (all_moves vs))
    ∙ has_append (lanes_in v.moves) (lanes_in (all_moves vs)) x
    ∙ or_left (words.has (lanes_in v.moves) x) (words.has (lanes_in (all_moves vs)) x) l)))
    (own_mixed first S v x m w v.moves refl k))
    (or_cases (words.has v.reach.writes x) (words.has (mixed_onto v.moves v.reach.mixes) x) (sym (has_append v.reach.writes (mixed_onto v.moves v.reach.mixes) x) ∙ h)) in
    record {
      written = put;
      touched = λ x h. ⊎_elim
          (λ (k : writes (own_foot v) x ≡ true). inr (put x k))
          (λ (k : words.has v.reach.reads x ≡ true). inl (v, (inl refl, k)))
          (or_cases (writes (own_foot v) x) (words.has v.reach.reads x) h);
    }

-- ---- the foot of a joint

pub no_cons : (m : Moved) (ms : List Moved) → m ∷ ms ≡ [] → ⊥
no_cons m ms e = true≢false (ap filled e)
  where
    filled : List Moved → Bool
    filled [] = false
    filled (k ∷ ks) = true

-- a word of a bus of such lanes
bus_of : (first : ℕ) (lanes : List Moved) (x : ℕ) → AreAllMoves first lanes → words.has (buses_in lanes) x ≡ true → (n : ℕ) × ((n < 128) × ((covers (audio_place n) x ≡ true) × (on n lanes ≡ [] → ⊥)))
bus_of first [] x a h = absurd (true≢false (sym h))
bus_of first (m ∷ ms) x a h = ⊎_elim
    (λ (c : covers m.bus x ≡ true).
    let n : ℕ = a.0.0 in
    let here : (m.bus.at == 65 * n) ≡ true = eq-eqb m.bus.at (65 * n) (ap (λ (e : Extent). e.at) a.0.1.1.0) in
    (n, (a.0.1.0, (subst (λ (e : Extent). covers e x ≡ true) a.0.1.1.0 c, λ e. no_cons m (on n ms) (sym (cond-true (m.bus.at == 65 * n) (m ∷ on n ms) (on n ms) here) ∙ e)))))
    (λ (c : words.has (buses_in ms) x ≡ true).
    let q = bus_of first ms x a.1 c in
    let test : Bool = m.bus.at == 65 * q.0 in (
      q.0,
      (
        q.1.0,
        (
          q.1.1.0,
          λ e. ⊎_elim
              (λ (t : test ≡ true). no_cons m (on q.0 ms) (sym (cond-true test (m ∷ on q.0 ms) (on q.0 ms) t) ∙ e))
              (λ (t : test ≡ false). q.1.1.1 (sym (cond-false test (m ∷ on q.0 ms) (on q.0 ms) t) ∙ e))
              (cases_Bool test),
        ),
      ),
    ))
    (or_cases (covers m.bus x) (words.has (buses_in ms) x) h)

-- a word of a lane is one of a lane of its bus
lane_of : (first : ℕ) (lanes : List Moved) (x : ℕ) → AreAllMoves first lanes → words.has (lanes_in lanes) x ≡ true → (n : ℕ) × ((n < 128) × (words.has (lanes_in (on n lanes)) x ≡ true))
lane_of first [] x a h = absurd (true≢false (sym h))
lane_of first (m ∷ ms) x a h = ⊎_elim
    (λ (c : covers m.lane x ≡ true).
    let n : ℕ = a.0.0 in
    let here : (m.bus.at == 65 * n) ≡ true = eq-eqb m.bus.at (65 * n) (ap (λ (e : Extent). e.at) a.0.1.1.0) in
    (n, (a.0.1.0, ap (λ (ks : List Moved). words.has (lanes_in ks) x) (cond-true (m.bus.at == 65 * n) (m ∷ on n ms) (on n ms) here) ∙ or_left (covers m.lane x) (words.has (lanes_in (on n ms)) x) c)))
    (λ (c : words.has (lanes_in ms) x ≡ true).
    let q = lane_of first ms x a.1 c in
    let test : Bool = m.bus.at == 65 * q.0 in (
      q.0,
      (
        q.1.0,
        ⊎_elim
            (λ (t : test ≡ true). ap (λ (ks : List Moved). words.has (lanes_in ks) x) (cond-true test (m ∷ on q.0 ms) (on q.0 ms) t) ∙ or_right (covers m.lane x) (words.has (lanes_in (on q.0 ms)) x) q.1.1)
            (λ (t : test ≡ false). ap (λ (ks : List Moved). words.has (lanes_in ks) x) (cond-false test (m ∷ on q.0 ms) (on q.0 ms) t) ∙ q.1.1)
            (cases_Bool test),
      ),
    ))
    (or_cases (covers m.lane x) (words.has (lanes_in ms) x) h)

-- those of one bus are among all
lane_among : (ms : List Moved) (n x : ℕ) → words.has (lanes_in (on n ms)) x ≡ true → words.has (lanes_in ms) x ≡ true
lane_among [] n x h = h
lane_among (m ∷ ms) n x h =
    let test : Bool = m.bus.at == 65 * n in
    ⊎_elim
    (λ (t : test ≡ true). ⊎_elim
    (λ (c : covers m.lane x ≡ true). or_left (covers m.lane x) (words.has (lanes_in ms) x) c)
    (λ (c : words.has (lanes_in (on n ms)) x ≡ true). or_right (covers m.lane x) (words.has (lanes_in ms) x) (lane_among ms n x c))
    (or_cases (covers m.lane x) (words.has (lanes_in (on n ms)) x) (sym (ap (λ (ks : List Moved). words.has (lanes_in ks) x) (cond-true test (m ∷ on n ms) (on n ms) t)) ∙ h)))
    (λ (t : test ≡ false). or_right (covers m.lane x) (words.has (lanes_in ms) x) (lane_among ms n x (sym (ap (λ (ks : List Moved). words.has (lanes_in ks) x) (cond-false test (m ∷ on n ms) (on n ms) t)) ∙ h)))
    (cases_Bool test)

a_mixer : (vs : List Voice) (n : ℕ) → one_mixes vs n ≡ true → (v : Voice) × (Among vs v × (mixes v n ≡ true))
a_mixer [] n h = absurd (true≢false (sym h))
a_mixer (v ∷ vs) n h = ⊎_elim
    (λ (k : mixes v n ≡ true). (v, (inl refl, k)))
    (λ (k : one_mixes vs n ≡ true). let q = a_mixer vs n k in (q.0, (inr q.1.0, q.1.1)))
    (or_cases (mixes v n) (one_mixes vs n) h)

joint_is_of : (first : ℕ) (S : ℕ → Bool) (lanes : List Moved) (inner : HeardNodes) → JoinsThose first (λ n. two_mix inner n && not (S n)) lanes inner → AreWhole first (voices inner) → IsOf S (voices inner) (foot_of [] lanes)
joint_is_of first S lanes inner j w =
    let g : ℕ → Bool = λ n. two_mix inner n && not (S n) in
    let put : (x : ℕ) → writes (foot_of [] lanes) x ≡ true → IsWritten S (voices inner) x = λ x h. ⊎_elim
    (λ (k : words.has (buses_in lanes) x ≡ true).
    let q = bus_of first lanes x j.each k in
    ⊎_elim
    (λ (t : g q.0 ≡ true).
    let p = and_parts (two_mix inner q.0) (not (S q.0)) t in
    let m = a_mixer (voices inner) q.0 (two_is_one inner q.0 p.0) in
    inr (inl (m.0, (m.1.0, ((whole_at first (voices inner) m.0 w m.1.0).whole q.0 x q.1.0 m.1.1 q.1.1.0, (q.0, (q.1.0, (q.1.1.0, (m.1.1, left_above (two_mix inner q.0) (S q.0) t)))))))))
    (λ (t : g q.0 ≡ false). absurd (q.1.1.1 (j.others q.0 q.1.0 t)))
    (cases_Bool (g q.0)))
    (λ (k : false ≡ true). absurd (true≢false (sym k)))
    (or_cases (words.has (buses_in lanes) x) false (sym (has_append (buses_in lanes) [] x) ∙ (sym (has_canonical (buses_in lanes ++ []) x) ∙ h))) in
    let read : (x : ℕ) → words.has (foot_of [] lanes).reads x ≡ true → IsLane (voices inner) x = λ x h. ⊎_elim
    (λ (k : words.has (lanes_in lanes) x ≡ true).
    let q = lane_of first lanes x j.each k in
    ⊎_elim
    (λ (t : g q.0 ≡ true). lane_among (all_moves (voices inner)) q.0 x (sym (ap (λ (ks : List Moved). words.has (lanes_in ks) x) (j.joined q.0 q.1.0 t)) ∙ q.1.1))
    (λ (t : g q.0 ≡ false). absurd (true≢false (sym (sym (ap (λ (ks : List Moved). words.has (lanes_in ks) x) (j.others q.0 q.1.0 t)) ∙ q.1.1))))
    (cases_Bool (g q.0)))
    (λ (k : false ≡ true). absurd (true≢false (sym k)))
    (or_cases (words.has (lanes_in lanes) x) false (sym (has_append (lanes_in lanes) [] x) ∙ (sym (has_canonical (lanes_in lanes ++ []) x) ∙ h))) in
    record {
      written = put;
      touched = λ x h. ⊎_elim
          (λ (k : writes (foot_of [] lanes) x ≡ true). inr (put x k))
          (λ (k : words.has (foot_of [] lanes).reads x ≡ true). inr (inr (inr (read x k))))
          (or_cases (writes (foot_of [] lanes) x) (words.has (foot_of [] lanes).reads x) h);
    }

-- ---- all feet below nodes

of_left : (S : ℕ → Bool) (vs ws : List Voice) (f : Foot) → IsOf S vs f → IsOf S (vs ++ ws) f
of_left S vs ws f o = record { written = λ x h. written_left S vs ws x (o.written x h); touched = λ x h. touched_left S vs ws x (o.touched x h) }

of_right : (S : ℕ → Bool) (vs ws : List Voice) (f : Foot) → IsOf S ws f → IsOf S (vs ++ ws) f
of_right S vs ws f o = record { written = λ x h. written_right S vs ws x (o.written x h); touched = λ x h. touched_right S vs ws x (o.touched x h) }

of_fewer : (S T : ℕ → Bool) (vs : List Voice) (f : Foot) → ((n : ℕ) → n < 128 → T n ≡ false → S n ≡ false) → IsOf T vs f → IsOf S vs f
of_fewer S T vs f few o = record { written = λ x h. written_fewer S T few vs x (o.written x h); touched = λ x h. touched_fewer S T few vs x (o.touched x h) }

below_is_of : (first : ℕ) (S : ℕ → Bool) (t : HeardNodes) (f : Foot) → AreLaned first S S t → AreWhole first (voices t) → IsAmong (feet_below t) f → IsOf S (voices t) f
below_is_of first S none f l w h = absurd h
below_is_of first S (synth v rest) f l w h = ⊎_elim
    (λ (e : own_foot v ≡ f). subst (IsOf S (v ∷ voices rest)) e (own_is_of first S v (voices rest) l.0 w.0))
    (λ (k : IsAmong (feet_below rest) f). of_right S (v ∷ []) (voices rest) f (below_is_of first S rest f l.1 w.1 k))
    h
below_is_of first S (group None inner rest) f l w h =
    let p = whole_parts first (voices inner) (voices rest) w in
    ⊎_elim
    (λ (k : IsAmong (feet_below inner ++ []) f). ⊎_elim
    (λ (i : IsAmong (feet_below inner) f). of_left S (voices inner) (voices rest) f (below_is_of first S inner f l.0 p.0 i))
    (λ (i : IsAmong [] f). absurd i)
    (among_cases (feet_below inner) [] f k))
    (λ (k : IsAmong (feet_below rest) f). of_right S (voices inner) (voices rest) f (below_is_of first S rest f l.1 p.1 k))
    (among_cases (feet_below inner ++ []) (feet_below rest) f h)
below_is_of first S (group (Some lanes) inner rest) f l w h =
    let g : ℕ → Bool = λ n. two_mix inner n && not (S n) in
    let p = whole_parts first (voices inner) (voices rest) w in
    let own : List Foot = feet_below inner ++ joint_feet (Some lanes) in
    ⊎_elim
    (λ (k : IsAmong own f). of_left S (voices inner) (voices rest) f (⊎_elim
    (λ (i : IsAmong (feet_below inner) f). of_fewer S (λ n. S n || g n) (voices inner) f (λ n lt e. (or_parts (S n) (g n) e).0) (below_is_of first (λ n. S n || g n) inner f l.1.0 p.0 i))
    (λ (i : IsAmong (joint_feet (Some lanes)) f). ⊎_elim
    (λ (e : foot_of [] lanes ≡ f). subst (IsOf S (voices inner)) e (joint_is_of first S lanes inner l.0 p.0))
    (λ (e : ⊥). absurd e)
    i)
    (among_cases (feet_below inner) (joint_feet (Some lanes)) f k)))
    (λ (k : IsAmong (feet_below rest) f). of_right S (voices inner) (voices rest) f (below_is_of first S rest f l.1.1 p.1 k))
    (among_cases own (feet_below rest) f h)

-- ---- members

-- synths of two members: none of their words clash, they mix no bus together that is not shared, and they have other
-- lanes
record AreParted (first : ℕ) (S : ℕ → Bool) (vs ws : List Voice) : Type 0 where
  pub meet : (v w : Voice) → Among vs v → Among ws w → ReachesClash v.reach w.reach → ⊥
  pub share : (n : ℕ) (v w : Voice) → n < 128 → Among vs v → Among ws w → mixes v n ≡ true → mixes w n ≡ true → S n ≡ true
  pub lanes : (x : ℕ) → IsLane vs x → IsLane ws x → ⊥
  pub left : AreWhole first vs
  pub right : AreWhole first ws
  pub high_left : (x : ℕ) → IsLane vs x → first ≤ x
  pub high_right : (x : ℕ) → IsLane ws x → first ≤ x

-- a word of a synth's own is no lane's
own_low : (first : ℕ) (vs : List Voice) (v : Voice) (x : ℕ) → AreWhole first vs → Among vs v → touches (unmoved v.reach) x ≡ true → first ≤ x → ⊥
own_low first vs v x w a t le = let lt = (whole_at first vs v w a).below x t in omega (arith, lt, le)

reads_touch : (v : Voice) (x : ℕ) → words.has v.reach.reads x ≡ true → touches (unmoved v.reach) x ≡ true
reads_touch v x h = or_right (words.has (v.reach.writes ++ v.reach.mixes) x) (words.has v.reach.reads x) h

writes_touch : (v : Voice) (x : ℕ) → words.has v.reach.writes x ≡ true → touches (unmoved v.reach) x ≡ true
writes_touch v x h = or_left (words.has (v.reach.writes ++ v.reach.mixes) x) (words.has v.reach.reads x) (has_append v.reach.writes v.reach.mixes x ∙ or_left (words.has v.reach.writes x) (words.has v.reach.mixes x) h)

mixes_touch : (v : Voice) (x : ℕ) → words.has v.reach.mixes x ≡ true → touches (unmoved v.reach) x ≡ true
mixes_touch v x h = or_left (words.has (v.reach.writes ++ v.reach.mixes) x) (words.has v.reach.reads x) (has_append v.reach.writes v.reach.mixes x ∙ or_right (words.has v.reach.writes x) (words.has v.reach.mixes x) h)

module _ (first : ℕ) (S : ℕ → Bool) (vs ws : List Voice) (p : AreParted first S vs ws) (x : ℕ) where
  -- one writes the word of its own, and the other touches it
  writes_meet : Some_of (λ v. words.has v.reach.writes x ≡ true) vs → IsTouched S ws x → ⊥
  writes_meet h t =
      let clash : (w : Voice) → Among ws w → touches (unmoved w.reach) x ≡ true → ⊥ = λ w a u. p.meet h.0 w h.1.0 a (x, inl (inl (h.1.1, u))) in
      ⊎_elim
      (λ (k : Some_of (λ v. words.has v.reach.reads x ≡ true) ws). clash k.0 k.1.0 (reads_touch k.0 x k.1.1))
      (λ (k : IsWritten S ws x). ⊎_elim
      (λ (i : Some_of (λ v. words.has v.reach.writes x ≡ true) ws). clash i.0 i.1.0 (writes_touch i.0 x i.1.1))
      (λ (i : Some_of (MixesHere S x) ws ⊎ IsLane ws x). ⊎_elim
      (λ (o : Some_of (MixesHere S x) ws). clash o.0 o.1.0 (mixes_touch o.0 x o.1.1.0))
      (λ (o : IsLane ws x). own_low first vs h.0 x p.left h.1.0 (writes_touch h.0 x h.1.1) (p.high_right x o))
      i)
      k)
      t

  -- one mixes a bus that is not shared, and the other touches its word
  mixes_meet : Some_of (MixesHere S x) vs → IsTouched S ws x → ⊥
  mixes_meet h t =
      let clash : (w : Voice) → Among ws w → (words.has w.reach.writes x || words.has w.reach.reads x) ≡ true → ⊥ = λ w a u. p.meet h.0 w h.1.0 a (x, inl (inr (h.1.1.0, u))) in
      ⊎_elim
      (λ (k : Some_of (λ v. words.has v.reach.reads x ≡ true) ws). clash k.0 k.1.0 (or_right (words.has k.0.reach.writes x) (words.has k.0.reach.reads x) k.1.1))
      (λ (k : IsWritten S ws x). ⊎_elim
      (λ (i : Some_of (λ v. words.has v.reach.writes x ≡ true) ws). clash i.0 i.1.0 (or_left (words.has i.0.reach.writes x) (words.has i.0.reach.reads x) i.1.1))
      (λ (i : Some_of (MixesHere S x) ws ⊎ IsLane ws x). ⊎_elim
      (λ (o : Some_of (MixesHere S x) ws).
      let a = h.1.1.1 in
      let b = o.1.1.1 in
      let same : b.0 ≡ a.0 = one_bus a.0 b.0 a.1.1.0 b.1.1.0 in
      true≢false (sym (p.share a.0 h.0 o.0 a.1.0 h.1.0 o.1.0 a.1.1.1.0 (ap (λ n. mixes o.0 n) (sym same) ∙ b.1.1.1.0)) ∙ a.1.1.1.1))
      (λ (o : IsLane ws x). own_low first vs h.0 x p.left h.1.0 (mixes_touch h.0 x h.1.1.0) (p.high_right x o))
      i)
      k)
      t
    where
      one_bus : (m n : ℕ) → covers (audio_place m) x ≡ true → covers (audio_place n) x ≡ true → n ≡ m
      one_bus m n a b =
          let c = and_parts (nat_le (65 * m) x) (nat_lt x (65 * m + 65)) a in
          let d = and_parts (nat_le (65 * n) x) (nat_lt x (65 * n + 65)) b in
          omega (arith, leb-true (65 * m) x c.0, ltb-true x (65 * m + 65) c.1, leb-true (65 * n) x d.0, ltb-true x (65 * n + 65) d.1)

  -- one has it on a lane, and the other touches it
  lane_meets : IsLane vs x → IsTouched S ws x → ⊥
  lane_meets h t = ⊎_elim
      (λ (k : Some_of (λ v. words.has v.reach.reads x ≡ true) ws). own_low first ws k.0 x p.right k.1.0 (reads_touch k.0 x k.1.1) (p.high_left x h))
      (λ (k : IsWritten S ws x). ⊎_elim
      (λ (i : Some_of (λ v. words.has v.reach.writes x ≡ true) ws). own_low first ws i.0 x p.right i.1.0 (writes_touch i.0 x i.1.1) (p.high_left x h))
      (λ (i : Some_of (MixesHere S x) ws ⊎ IsLane ws x). ⊎_elim
      (λ (o : Some_of (MixesHere S x) ws). own_low first ws o.0 x p.right o.1.0 (mixes_touch o.0 x o.1.1.0) (p.high_left x h))
      (λ (o : IsLane ws x). p.lanes x h o)
      i)
      k)
      t

  parted_meet : IsWritten S vs x → IsTouched S ws x → ⊥
  parted_meet w t = ⊎_elim
      (λ (h : Some_of (λ v. words.has v.reach.writes x ≡ true) vs). writes_meet h t)
      (λ (r : Some_of (MixesHere S x) vs ⊎ IsLane vs x). ⊎_elim (λ (h : Some_of (MixesHere S x) vs). mixes_meet h t) (λ (h : IsLane vs x). lane_meets h t) r)
      w

turned_clash : (v w : Voice) → ReachesClash v.reach w.reach → ReachesClash w.reach v.reach
turned_clash v w (x, c) = (x, ⊎_elim (λ (h : MeetsAt v.reach w.reach x). inr h) (λ (h : MeetsAt w.reach v.reach x). inl h) c)

parted_turned : (first : ℕ) (S : ℕ → Bool) (vs ws : List Voice) → AreParted first S vs ws → AreParted first S ws vs
parted_turned first S vs ws p = record {
  meet = λ w v b a c. p.meet v w a b (turned_clash w v c);
  share = λ n w v lt b a m k. p.share n v w lt a b k m;
  lanes = λ x h k. p.lanes x k h;
  left = p.right;
  right = p.left;
  high_left = p.high_right;
  high_right = p.high_left;
}

parted_clear : (first : ℕ) (S : ℕ → Bool) (vs ws : List Voice) (f g : Foot) → AreParted first S vs ws → IsOf S vs f → IsOf S ws g → Clash f g → ⊥
parted_clear first S vs ws f g p a b (x, c) = ⊎_elim
    (λ (d : (writes f x ≡ true) × (touches g x ≡ true)). parted_meet first S vs ws p x (a.written x d.0) (b.touched x d.1))
    (λ (d : (writes g x ≡ true) × (touches f x ≡ true)). parted_meet first S ws vs (parted_turned first S vs ws p) x (b.written x d.0) (a.touched x d.1))
    c

-- ---- lanes by their numbers

pub each_moves : (first : ℕ) (S A : ℕ → Bool) (t : HeardNodes) → AreLaned first S A t → AreAllMoves first (all_moves (voices t))
each_moves first S A none l = tt
each_moves first S A (synth v rest) l = moves-append first v.moves (all_moves (voices rest)) l.0.each (each_moves first S A rest l.1)
each_moves first S A (group None inner rest) l =
    subst (AreAllMoves first) (sym (all-moves-append (voices inner) (voices rest)))
    (moves-append first (all_moves (voices inner)) (all_moves (voices rest)) (each_moves first S A inner l.0) (each_moves first S A rest l.1))
each_moves first S A (group (Some lanes) inner rest) l =
    let g : ℕ → Bool = λ n. two_mix inner n && not (S n) in
    subst (AreAllMoves first) (sym (all-moves-append (voices inner) (voices rest)))
    (moves-append first (all_moves (voices inner)) (all_moves (voices rest)) (each_moves first (λ n. S n || g n) (λ n. A n || g n) inner l.1.0) (each_moves first S A rest l.1.1))

-- the lane of a word, which is among these
lane_number : (first : ℕ) (ms : List Moved) (x : ℕ) → AreAllMoves first ms → words.has (lanes_in ms) x ≡ true → (k : ℕ) × ((first + 65 * k ≤ x) × ((x < first + 65 * k + 65) × (1 ≤ times first k ms)))
lane_number first [] x a h = absurd (true≢false (sym h))
lane_number first (m ∷ ms) x a h = ⊎_elim
    (λ (c : covers m.lane x ≡ true).
    let k : ℕ = a.0.1.1.1.0 in
    let is : m.lane ≡ lane_place first k = a.0.1.1.1.1 in
    let p = and_parts (nat_le (first + 65 * k) x) (nat_lt x (first + 65 * k + 65)) (subst (λ (e : Extent). covers e x ≡ true) is c) in
    let here : (m.lane.at == first + 65 * k) ≡ true = eq-eqb m.lane.at (first + 65 * k) (ap (λ (e : Extent). e.at) is) in
    let one : ◌≡◌ {A = ℕ} (if m.lane.at == first + 65 * k then 1 else 0) 1 = one_if (m.lane.at == first + 65 * k) here in
    (k, (leb-true (first + 65 * k) x p.0, (ltb-true x (first + 65 * k + 65) p.1, omega (arith, one)))))
    (λ (c : words.has (lanes_in ms) x ≡ true).
    let q = lane_number first ms x a.1 c in
    (q.0, (q.1.0, (q.1.1.0, omega (arith, q.1.1.1)))))
    (or_cases (covers m.lane x) (words.has (lanes_in ms) x) h)

lanes_high : (first : ℕ) (ms : List Moved) (x : ℕ) → AreAllMoves first ms → words.has (lanes_in ms) x ≡ true → first ≤ x
lanes_high first ms x a h = let q = lane_number first ms x a h in omega (arith, q.1.0)

lanes_apart : (first : ℕ) (ms ks : List Moved) (x : ℕ) → AreAllMoves first ms → AreAllMoves first ks → ((k : ℕ) → times first k (ms ++ ks) ≤ 1) → words.has (lanes_in ms) x ≡ true → words.has (lanes_in ks) x ≡ true → ⊥
lanes_apart first ms ks x a b once h k =
    let p = lane_number first ms x a h in
    let q = lane_number first ks x b k in
    let same : q.0 ≡ p.0 = omega (arith, p.1.0, p.1.1.0, q.1.0, q.1.1.0) in
    let two : 1 ≤ times first p.0 ks = subst (λ n. 1 ≤ times first n ks) same q.1.1.1 in
    omega (arith, p.1.1.1, two, times-append first p.0 ms ks, once p.0)

-- ---- members of split groups

meets_at : (v : Voice) (ws : List Voice) (w : Voice) → MeetsNone v ws → Among ws w → ReachesClash v.reach w.reach → ⊥
meets_at v [] w m a c = absurd a
meets_at v (u ∷ us) w m a c = ⊎_elim (λ (e : u ≡ w). m.0 (subst (λ (y : Voice). ReachesClash v.reach y.reach) (sym e) c)) (λ (k : Among us w). meets_at v us w m.1 k c) a

none_meet_at : (vs ws : List Voice) (v w : Voice) → NoneMeet vs ws → Among vs v → Among ws w → ReachesClash v.reach w.reach → ⊥
none_meet_at [] ws v w m a b c = absurd a
none_meet_at (u ∷ us) ws v w m a b c = ⊎_elim (λ (e : u ≡ v). meets_at u ws w m.0 b (subst (λ (y : Voice). ReachesClash y.reach w.reach) (sym e) c)) (λ (k : Among us v). none_meet_at us ws v w m.1 k b c) a

mixes_one : (vs : List Voice) (v : Voice) (n : ℕ) → Among vs v → mixes v n ≡ true → one_mixes vs n ≡ true
mixes_one [] v n a h = absurd a
mixes_one (u ∷ us) v n a h = ⊎_elim
    (λ (e : u ≡ v). or_left (mixes u n) (one_mixes us n) (ap (λ (y : Voice). mixes y n) e ∙ h))
    (λ (k : Among us v). or_right (mixes u n) (one_mixes us n) (mixes_one us v n k h))
    a

module _ (first : ℕ) (S : ℕ → Bool) where
  group_is_of : (lanes : List Moved) (inner : HeardNodes) (f : Foot) → JoinsThose first (λ n. two_mix inner n && not (S n)) lanes inner → AreLaned first (λ n. S n || (two_mix inner n && not (S n))) (λ n. S n || (two_mix inner n && not (S n))) inner → AreWhole first (voices inner)
      → IsAmong (feet_below inner ++ joint_feet (Some lanes)) f → IsOf S (voices inner) f
  group_is_of lanes inner f j l w h =
      let g : ℕ → Bool = λ n. two_mix inner n && not (S n) in
      ⊎_elim
      (λ (i : IsAmong (feet_below inner) f). of_fewer S (λ n. S n || g n) (voices inner) f (λ n lt e. (or_parts (S n) (g n) e).0) (below_is_of first (λ n. S n || g n) inner f l w i))
      (λ (i : IsAmong (joint_feet (Some lanes)) f). ⊎_elim (λ (e : foot_of [] lanes ≡ f). subst (IsOf S (voices inner)) e (joint_is_of first S lanes inner j w)) (λ (e : ⊥). absurd e) i)
      (among_cases (feet_below inner) (joint_feet (Some lanes)) f h)

  parted : (vs ws : List Voice) → NoneMeet vs ws → ((n : ℕ) → n < 128 → one_mixes vs n ≡ true → one_mixes ws n ≡ true → S n ≡ true) → AreWhole first vs → AreWhole first ws
      → AreAllMoves first (all_moves vs) → AreAllMoves first (all_moves ws) → ((k : ℕ) → times first k (all_moves (vs ++ ws)) ≤ 1) → AreParted first S vs ws
  parted vs ws m s a b c d once = record {
    meet = λ v w i j k. none_meet_at vs ws v w m i j k;
    share = λ n v w lt i j h k. s n lt (mixes_one vs v n i h) (mixes_one ws w n j k);
    lanes = λ x h k. lanes_apart first (all_moves vs) (all_moves ws) x c d (λ j. subst (λ (ms : List Moved). times first j ms ≤ 1) (all-moves-append vs ws) (once j)) h k;
    left = a;
    right = b;
    high_left = λ x h. lanes_high first (all_moves vs) x c h;
    high_right = λ x h. lanes_high first (all_moves ws) x d h;
  }

  later_once : (k : ℕ) (vs ws : List Voice) → times first k (all_moves (vs ++ ws)) ≤ 1 → times first k (all_moves ws) ≤ 1
  later_once k vs ws h = omega (arith, h, ap (times first k) (all-moves-append vs ws), times-append first k (all_moves vs) (all_moves ws))

  earlier_once : (k : ℕ) (vs ws : List Voice) → times first k (all_moves (vs ++ ws)) ≤ 1 → times first k (all_moves vs) ≤ 1
  earlier_once k vs ws h = omega (arith, h, ap (times first k) (all-moves-append vs ws), times-append first k (all_moves vs) (all_moves ws))

  members_clear : (t : HeardNodes) → AreLaned first S S t → AreWhole first (voices t) → NoMembersMeet t → ((n : ℕ) → n < 128 → two_mix t n ≡ true → S n ≡ true) → ((k : ℕ) → times first k (all_moves (voices t)) ≤ 1) → MembersAreClear t
  members_clear none l w m s once = tt
  members_clear (synth v rest) l w m s once =
      let f : ℕ → Bool = λ n. mixes v n && one_mixes (voices rest) n in
      let p : AreParted first S (v ∷ []) (voices rest) = parted (v ∷ []) (voices rest) (m.0, tt)
      (λ n lt h k. s n lt (or_left (f n) (two_mix rest n) (and_from (mixes v n) (one_mixes (voices rest) n) (sym (or-false (mixes v n)) ∙ h) k)))
      (w.0, tt) w.1 (moves-append first v.moves [] l.0.each tt) (each_moves first S S rest l.1) once in (
        λ e g a b. ⊎_elim
            (λ (q : own_foot v ≡ e). parted_clear first S (v ∷ []) (voices rest) e g p (subst (IsOf S (v ∷ [])) q (own_is_of first S v [] l.0 w.0)) (below_is_of first S rest g l.1 w.1 b))
            (λ (q : ⊥). absurd q)
            a,
        members_clear rest l.1 w.1 m.1 (λ n lt h. s n lt (or_right (f n) (two_mix rest n) h)) (λ k. omega (arith, once k, times-append first k v.moves (all_moves (voices rest)))),
      )
  members_clear (group None inner rest) l w m s once =
      let f : ℕ → Bool = λ n. one_mixes (voices inner) n && one_mixes (voices rest) n in
      let h = whole_parts first (voices inner) (voices rest) w in
      let p : AreParted first S (voices inner) (voices rest) = parted (voices inner) (voices rest) m.0
      (λ n lt i k. s n lt (or_left (f n) (two_mix rest n) (and_from (one_mixes (voices inner) n) (one_mixes (voices rest) n) i k)))
      h.0 h.1 (each_moves first S S inner l.0) (each_moves first S S rest l.1) once in (
        λ e g a b. ⊎_elim
            (λ (i : IsAmong (feet_below inner) e). parted_clear first S (voices inner) (voices rest) e g p (below_is_of first S inner e l.0 h.0 i) (below_is_of first S rest g l.1 h.1 b))
            (λ (i : IsAmong [] e). absurd i)
            (among_cases (feet_below inner) [] e a),
        members_clear rest l.1 h.1 m.1 (λ n lt i. s n lt (or_right (f n) (two_mix rest n) i)) (λ k. later_once k (voices inner) (voices rest) (once k)),
      )
  members_clear (group (Some lanes) inner rest) l w m s once =
      let f : ℕ → Bool = λ n. one_mixes (voices inner) n && one_mixes (voices rest) n in
      let T : ℕ → Bool = λ n. S n || (two_mix inner n && not (S n)) in
      let h = whole_parts first (voices inner) (voices rest) w in
      let p : AreParted first S (voices inner) (voices rest) = parted (voices inner) (voices rest) m.0
      (λ n lt i k. s n lt (or_left (f n) (two_mix rest n) (and_from (one_mixes (voices inner) n) (one_mixes (voices rest) n) i k)))
      h.0 h.1 (each_moves first T T inner l.1.0) (each_moves first S S rest l.1.1) once in (
        λ e g a b. parted_clear first S (voices inner) (voices rest) e g p (group_is_of lanes inner e l.0 l.1.0 h.0 a) (below_is_of first S rest g l.1.1 h.1 b),
        members_clear rest l.1.1 h.1 m.1 (λ n lt i. s n lt (or_right (f n) (two_mix rest n) i)) (λ k. later_once k (voices inner) (voices rest) (once k)),
      )

pub splits_clear : (first : ℕ) (S : ℕ → Bool) (t : HeardNodes) → AreLaned first S S t → AreWhole first (voices t) → SplitsMeetNone t → ((k : ℕ) → times first k (all_moves (voices t)) ≤ 1) → SplitsAreClear t
splits_clear first S none l w m once = tt
splits_clear first S (synth v rest) l w m once = splits_clear first S rest l.1 w.1 m (λ k. omega (arith, once k, times-append first k v.moves (all_moves (voices rest))))
splits_clear first S (group None inner rest) l w m once =
    let h = whole_parts first (voices inner) (voices rest) w in (
      (λ e. absurd (true≢false (sym e))),
      (splits_clear first S inner l.0 h.0 m.1.0 (λ k. earlier_once first S k (voices inner) (voices rest) (once k)), splits_clear first S rest l.1 h.1 m.1.1 (λ k. later_once first S k (voices inner) (voices rest) (once k))),
    )
splits_clear first S (group (Some lanes) inner rest) l w m once =
    let g : ℕ → Bool = λ n. two_mix inner n && not (S n) in
    let T : ℕ → Bool = λ n. S n || g n in
    let h = whole_parts first (voices inner) (voices rest) w in
    let own : (k : ℕ) → times first k (all_moves (voices inner)) ≤ 1 = λ k. earlier_once first S k (voices inner) (voices rest) (once k) in (
      (λ e. members_clear first T inner l.1.0 h.0 (m.0 refl)
          (λ n lt t. ⊎_elim
          (λ (s : S n ≡ true). or_left (S n) (g n) s)
          (λ (s : S n ≡ false). or_right (S n) (g n) (and_from (two_mix inner n) (not (S n)) t (ap not s)))
          (cases_Bool (S n)))
          own),
      (splits_clear first T inner l.1.0 h.0 m.1.0 own, splits_clear first S rest l.1.1 h.1 m.1.1 (λ k. later_once first S k (voices inner) (voices rest) (once k))),
    )
