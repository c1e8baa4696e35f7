-- Lanes fit: none waits for a bus that a synth touches, and joints add them in their turn.
use Rattle.std.proofs.Common.{◌≡◌, ◌<◌, ◌⊎◌, inl, inr, ⊎_elim, ℕ, ◌+◌, ◌*◌, ◌==◌, Bool, true, false, not, ◌&&◌, ◌||◌, if◌then◌else◌, List, [], ◌∷◌, ◌++◌, map, Some, None, sym, refl, ap, ◌∙◌, subst, true≢false, append-nil, append_assoc}
use Rattle.std.proofs.lemmas.Bool.{and_parts, cases_Bool, cond-false, cond-true, or_cases, or_from, or_left, or_parts, or_right}
use Rattle.sn_mem.specs.declared.extents.Extent.{Extent}
use Rattle.sn_mem.specs.declared.moves.Moved.{Moved}
use Rattle.sn_mem.specs.Words as words
use Rattle.sn_mem.specs.Words.{touches}
use Rattle.sn_foot.specs.Reaches.{ReachesClash, unmoved}
use Rattle.sn_foot.proofs.Runs.{has_append}
use Rattle.sn_graph.specs.declared.nodes.Voice.{Voice}
use Rattle.sn_graph.specs.Voices.{HeardNodes, none, synth, group, voices, is_moved}
use Rattle.sn_graph.specs.Plans.{Step, adds_lane, steps_of}
use Rattle.sn_graph.specs.Sharing.{mixes, one_mixes, two_mix}
use Rattle.sn_graph.specs.Fitting.{Fits, IsIn, at_end, rendered, added, on, touches_bus}
use Rattle.sn_graph.proofs.Meeting.{MeetsNone, NoMembersMeet, NoneMeet, SplitsMeetNone}
use Rattle.sn_graph.proofs.Laning.{AreAllMoves, AreLaned, MovesThose, all_moves, all-moves-append, on-append, taken_above}

-- ---- synths that neither read nor write a bus

abbrev pub uses_bus : Voice → ℕ → Bool
uses_bus v n = words.has v.reach.writes (65 * n) || words.has v.reach.reads (65 * n)

abbrev pub NoneUses : ℕ → List Voice → Type 0
NoneUses n [] = Unit {0}
NoneUses n (v ∷ vs) = (uses_bus v n ≡ false) × NoneUses n vs

none-uses-append : (n : ℕ) (vs ws : List Voice) → NoneUses n vs → NoneUses n ws → NoneUses n (vs ++ ws)
none-uses-append n [] ws a b = b
none-uses-append n (v ∷ vs) ws a b = (a.0, none-uses-append n vs ws a.1 b)

not_used : (b : Bool) → (b ≡ true → ⊥) → b ≡ false
not_used true h = absurd (h refl)
not_used false h = refl

-- one that mixes it, and one that does not meet it
mixer_first : (v w : Voice) (n : ℕ) → (ReachesClash v.reach w.reach → ⊥) → mixes v n ≡ true → uses_bus w n ≡ false
mixer_first v w n clear m = not_used (uses_bus w n) (λ u. clear (65 * n, inl (inr (m, u))))

mixer_second : (v w : Voice) (n : ℕ) → (ReachesClash v.reach w.reach → ⊥) → mixes w n ≡ true → uses_bus v n ≡ false
mixer_second v w n clear m = not_used (uses_bus v n) (λ u. clear (65 * n, inr (inr (m, u))))

others_keep : (v : Voice) (ws : List Voice) (n : ℕ) → MeetsNone v ws → mixes v n ≡ true → NoneUses n ws
others_keep v [] n c m = tt
others_keep v (w ∷ ws) n c m = (mixer_first v w n c.0 m, others_keep v ws n c.1 m)

it_keeps : (v : Voice) (ws : List Voice) (n : ℕ) → MeetsNone v ws → one_mixes ws n ≡ true → uses_bus v n ≡ false
it_keeps v [] n c m = absurd (true≢false (sym m))
it_keeps v (w ∷ ws) n c m = ⊎_elim
    (λ (h : mixes w n ≡ true). mixer_second v w n c.0 h)
    (λ (h : one_mixes ws n ≡ true). it_keeps v ws n c.1 h)
    (or_cases (mixes w n) (one_mixes ws n) m)

first_keep : (vs ws : List Voice) (n : ℕ) → NoneMeet vs ws → one_mixes ws n ≡ true → NoneUses n vs
first_keep [] ws n c m = tt
first_keep (v ∷ vs) ws n c m = (it_keeps v ws n c.0 m, first_keep vs ws n c.1 m)

second_keep : (vs ws : List Voice) (n : ℕ) → NoneMeet vs ws → one_mixes vs n ≡ true → NoneUses n ws
second_keep [] ws n c m = absurd (true≢false (sym m))
second_keep (v ∷ vs) ws n c m = ⊎_elim
    (λ (h : mixes v n ≡ true). others_keep v ws n c.0 h)
    (λ (h : one_mixes vs n ≡ true). second_keep vs ws n c.1 h)
    (or_cases (mixes v n) (one_mixes vs n) m)

one_append : (vs ws : List Voice) (n : ℕ) → one_mixes (vs ++ ws) n ≡ (one_mixes vs n || one_mixes ws n)
one_append [] ws n = refl
one_append (v ∷ vs) ws n = ap (λ b. mixes v n || b) (one_append vs ws n) ∙ grouped (mixes v n) (one_mixes vs n) (one_mixes ws n)
  where
    grouped : (a b c : Bool) → (a || (b || c)) ≡ ((a || b) || c)
    grouped true b c = refl
    grouped false b c = refl

-- if two members mix it, one does
pub two_is_one : (t : HeardNodes) (n : ℕ) → two_mix t n ≡ true → one_mixes (voices t) n ≡ true
two_is_one none n h = absurd (true≢false (sym h))
two_is_one (synth v rest) n h = ⊎_elim
    (λ (k : (mixes v n && one_mixes (voices rest) n) ≡ true). or_left (mixes v n) (one_mixes (voices rest) n) (and_parts (mixes v n) (one_mixes (voices rest) n) k).0)
    (λ (k : two_mix rest n ≡ true). or_right (mixes v n) (one_mixes (voices rest) n) (two_is_one rest n k))
    (or_cases (mixes v n && one_mixes (voices rest) n) (two_mix rest n) h)
two_is_one (group lanes inner rest) n h =
    one_append (voices inner) (voices rest) n
    ∙ ⊎_elim
    (λ (k : (one_mixes (voices inner) n && one_mixes (voices rest) n) ≡ true). or_left (one_mixes (voices inner) n) (one_mixes (voices rest) n) (and_parts (one_mixes (voices inner) n) (one_mixes (voices rest) n) k).0)
    (λ (k : two_mix rest n ≡ true). or_right (one_mixes (voices inner) n) (one_mixes (voices rest) n) (two_is_one rest n k))
    (or_cases (one_mixes (voices inner) n && one_mixes (voices rest) n) (two_mix rest n) h)

-- a bus that two members mix is read and written by none, if no two of them clash
pub shared_kept : (t : HeardNodes) (n : ℕ) → NoMembersMeet t → two_mix t n ≡ true → NoneUses n (voices t)
shared_kept none n c h = tt
shared_kept (synth v rest) n c h = ⊎_elim
    (λ (k : (mixes v n && one_mixes (voices rest) n) ≡ true).
    let p = and_parts (mixes v n) (one_mixes (voices rest) n) k in (it_keeps v (voices rest) n c.0 p.1, others_keep v (voices rest) n c.0 p.0))
    (λ (k : two_mix rest n ≡ true). (it_keeps v (voices rest) n c.0 (two_is_one rest n k), shared_kept rest n c.1 k))
    (or_cases (mixes v n && one_mixes (voices rest) n) (two_mix rest n) h)
shared_kept (group lanes inner rest) n c h = ⊎_elim
    (λ (k : (one_mixes (voices inner) n && one_mixes (voices rest) n) ≡ true).
    let p = and_parts (one_mixes (voices inner) n) (one_mixes (voices rest) n) k in
    none-uses-append n (voices inner) (voices rest) (first_keep (voices inner) (voices rest) n c.0 p.1) (second_keep (voices inner) (voices rest) n c.0 p.0))
    (λ (k : two_mix rest n ≡ true).
    none-uses-append n (voices inner) (voices rest) (first_keep (voices inner) (voices rest) n c.0 (two_is_one rest n k)) (shared_kept rest n c.1 k))
    (or_cases (one_mixes (voices inner) n && one_mixes (voices rest) n) (two_mix rest n) h)

-- synths use none of the buses of a test
abbrev pub KeepOff : (ℕ → Bool) → List Voice → Type 0
KeepOff S vs = (n : ℕ) → n < 128 → S n ≡ true → NoneUses n vs

none-uses-parts : (n : ℕ) (vs ws : List Voice) → NoneUses n (vs ++ ws) → NoneUses n vs × NoneUses n ws
none-uses-parts n [] ws a = (tt, a)
none-uses-parts n (v ∷ vs) ws a = let p = none-uses-parts n vs ws a.1 in ((a.0, p.0), p.1)

-- ---- queues

in_first : (vs ws : List Voice) (v : Voice) → IsIn vs v → IsIn (vs ++ ws) v
in_first [] ws v h = absurd h
in_first (u ∷ vs) ws v h = ⊎_elim (λ (e : u ≡ v). inl e) (λ (k : IsIn vs v). inr (in_first vs ws v k)) h

in_second : (vs ws : List Voice) (v : Voice) → IsIn ws v → IsIn (vs ++ ws) v
in_second [] ws v h = h
in_second (u ∷ vs) ws v h = inr (in_second vs ws v h)

fits_same : {all : List Voice} {p r : ℕ → List Moved} {steps : List Step} (q : ℕ → List Moved) → Fits all p steps r → ((n : ℕ) → n < 128 → q n ≡ p n) → Fits all q steps r
fits_same q (at_end e) s = at_end (λ n lt. e n lt ∙ sym (s n lt))
fits_same q (rendered v i e f rest) s = rendered v i (λ n lt t. s n lt ∙ e n lt t) (λ n lt. f n lt ∙ ap (λ (ms : List Moved). ms ++ on n v.moves) (sym (s n lt))) rest
fits_same q (added m i low at e rest) s = added m i low at (λ n lt. s n lt ∙ e n lt) rest

-- lanes that come first are added one after the other
adds_fit : {all : List Voice} (first : ℕ) (lanes : List Moved) {p r : ℕ → List Moved} {rest : List Step} → AreAllMoves first lanes → Fits all p rest r → Fits all (λ n. on n lanes ++ p n) (map adds_lane lanes ++ rest) r
adds_fit first [] a f = f
adds_fit {all} first (m ∷ lanes) {p} a f =
    added m a.0.0 a.0.1.0 (ap (λ (e : Extent). e.at) a.0.1.1.0)
    (λ n lt. ap (λ (ms : List Moved). ms ++ p n) (on-append n (m ∷ []) lanes) ∙ append_assoc (on n (m ∷ [])) (on n lanes) (p n))
    (adds_fit first lanes a.1 f)

is_empty : List Moved → Bool
is_empty [] = true
is_empty (m ∷ ms) = false

-- what is moved is found
pub moved_found : (ms : List Moved) (n : ℕ) (m : Moved) (rest : List Moved) → on n ms ≡ m ∷ rest → is_moved ms n ≡ true
unfolding is_empty
moved_found [] n m rest h = absurd (true≢false (ap is_empty h))
moved_found (k ∷ ms) n m rest h =
    let here : Bool = k.bus.at == 65 * n in
    ⊎_elim
    (λ (e : here ≡ true). or_left here (is_moved ms n) e)
    (λ (e : here ≡ false). or_right here (is_moved ms n) (moved_found ms n m rest (sym (cond-false here (k ∷ on n ms) (on n ms) e) ∙ h)))
    (cases_Bool here)

-- a synth below groups that share a bus does not touch it, except for what it moves
untouched : (first : ℕ) (S : ℕ → Bool) (v : Voice) (n : ℕ) → n < 128 → MovesThose first S v → S n ≡ true → uses_bus v n ≡ false → touches_bus v n ≡ true → ⊥
untouched first S v n lt m s u t =
    let p = and_parts (touches (unmoved v.reach) (65 * n)) (not (is_moved v.moves n)) t in
    let w = or_parts (words.has v.reach.writes (65 * n)) (words.has v.reach.reads (65 * n)) u in
    let mixed : mixes v n ≡ true = ⊎_elim
    (λ (h : words.has (v.reach.writes ++ v.reach.mixes) (65 * n) ≡ true). ⊎_elim
    (λ (k : words.has v.reach.writes (65 * n) ≡ true). absurd (true≢false (sym k ∙ w.0)))
    (λ (k : words.has v.reach.mixes (65 * n) ≡ true). k)
    (or_cases (words.has v.reach.writes (65 * n)) (words.has v.reach.mixes (65 * n)) (sym (has_append v.reach.writes v.reach.mixes (65 * n)) ∙ h)))
    (λ (h : words.has v.reach.reads (65 * n) ≡ true). absurd (true≢false (sym h ∙ w.1)))
    (or_cases (words.has (v.reach.writes ++ v.reach.mixes) (65 * n)) (words.has v.reach.reads (65 * n)) p.0) in
    let q = m.moved n lt s mixed in
    true≢false (sym p.1 ∙ ap not (moved_found v.moves n q.0 [] q.1))

-- ---- the steps of nodes

-- the lanes that wait after nodes: those that waited, and those of the nodes, on buses that groups above share
abbrev waiting : (ℕ → Bool) → (ℕ → List Moved) → List Voice → ℕ → List Moved
waiting S q vs n = if S n then q n ++ on n (all_moves vs) else []

waiting_more : (S : ℕ → Bool) (q : ℕ → List Moved) (vs ws : List Voice) (n : ℕ) → waiting S q (vs ++ ws) n ≡ waiting S (waiting S q vs) ws n
waiting_more S q vs ws n = ⊎_elim
    (λ (s : S n ≡ true).
    cond-true (S n) (q n ++ on n (all_moves (vs ++ ws))) [] s
    ∙ ap (λ (ms : List Moved). q n ++ on n ms) (all-moves-append vs ws) ∙ ap (λ (ms : List Moved). q n ++ ms) (on-append n (all_moves vs) (all_moves ws))
    ∙ sym (append_assoc (q n) (on n (all_moves vs)) (on n (all_moves ws)))
    ∙ ap (λ (ms : List Moved). ms ++ on n (all_moves ws)) (sym (cond-true (S n) (q n ++ on n (all_moves vs)) [] s))
    ∙ sym (cond-true (S n) (waiting S q vs n ++ on n (all_moves ws)) [] s))
    (λ (s : S n ≡ false). cond-false (S n) (q n ++ on n (all_moves (vs ++ ws))) [] s ∙ sym (cond-false (S n) (waiting S q vs n ++ on n (all_moves ws)) [] s))
    (cases_Bool (S n))

module _ (first : ℕ) where
  pub nodes_fit : {all : List Voice} (S : ℕ → Bool) (q : ℕ → List Moved) (t : HeardNodes) {rest : List Step} {r : ℕ → List Moved} → AreLaned first S S t → KeepOff S (voices t) → SplitsMeetNone t → ((v : Voice) → IsIn (voices t) v → IsIn all v) → ((n : ℕ) → n < 128 → S n ≡ false → q n ≡ [])
      → Fits all (waiting S q (voices t)) rest r → Fits all q (steps_of t ++ rest) r
  nodes_fit S q none l k c i e f =
      fits_same q f (λ n lt. ⊎_elim
      (λ (s : S n ≡ true). sym (cond-true (S n) (q n ++ []) [] s ∙ append-nil (q n)))
      (λ (s : S n ≡ false). e n lt s ∙ sym (cond-false (S n) (q n ++ []) [] s))
      (cases_Bool (S n)))
  nodes_fit S q (synth v rest) l k c i e f =
      let p : ℕ → List Moved = λ n. q n ++ on n v.moves in
      rendered v (i v (inl refl))
      (λ n lt t. ⊎_elim
      (λ (s : S n ≡ true). absurd (untouched first S v n lt l.0 s (k n lt s).0 t))
      (λ (s : S n ≡ false). e n lt s)
      (cases_Bool (S n)))
      (λ n lt. refl)
      (nodes_fit S p rest l.1 (λ n lt s. (k n lt s).1) c (λ w h. i w (inr h))
      (λ n lt s. (λ i. e n lt s i ++ l.0.unmoved n lt (ap (λ b. b && mixes v n) s) i))
      (fits_same (waiting S p (voices rest)) f (λ n lt. ⊎_elim
      (λ (s : S n ≡ true).
      cond-true (S n) ((q n ++ on n v.moves) ++ on n (all_moves (voices rest))) [] s
      ∙ append_assoc (q n) (on n v.moves) (on n (all_moves (voices rest)))
      ∙ ap (λ (ms : List Moved). q n ++ ms) (sym (on-append n v.moves (all_moves (voices rest))))
      ∙ sym (cond-true (S n) (q n ++ on n (v.moves ++ all_moves (voices rest))) [] s))
      (λ (s : S n ≡ false). cond-false (S n) ((q n ++ on n v.moves) ++ on n (all_moves (voices rest))) [] s ∙ sym (cond-false (S n) (q n ++ on n (v.moves ++ all_moves (voices rest))) [] s))
      (cases_Bool (S n)))))
  nodes_fit {all} S q (group None inner rest) {rest = more} {r} l k c i e f =
      let mid : ℕ → List Moved = waiting S q (voices inner) in
      subst (λ (steps : List Step). Fits all q steps r) (sym (append_assoc (steps_of inner) (steps_of rest) more))
      (nodes_fit S q inner l.0 (λ n lt s. (none-uses-parts n (voices inner) (voices rest) (k n lt s)).0) c.1.0 (λ w h. i w (in_first (voices inner) (voices rest) w h)) e
      (nodes_fit S mid rest l.1 (λ n lt s. (none-uses-parts n (voices inner) (voices rest) (k n lt s)).1) c.1.1 (λ w h. i w (in_second (voices inner) (voices rest) w h))
      (λ n lt s. cond-false (S n) (q n ++ on n (all_moves (voices inner))) [] s)
      (fits_same (waiting S mid (voices rest)) f (λ n lt. sym (waiting_more S q (voices inner) (voices rest) n)))))
  nodes_fit {all} S q (group (Some lanes) inner rest) {rest = more} {r} l k c i e f =
      let g : ℕ → Bool = λ n. two_mix inner n && not (S n) in
      let T : ℕ → Bool = λ n. S n || g n in
      let mid : ℕ → List Moved = waiting S q (voices inner) in
      let adds : List Step = map adds_lane lanes in
      let at_joint : (n : ℕ) → n < 128 → waiting T q (voices inner) n ≡ on n lanes ++ mid n = λ n lt. ⊎_elim
      (λ (s : S n ≡ true).
      let no_lane : on n lanes ≡ [] = l.0.others n lt (taken_above (two_mix inner n) (S n) s) in
      cond-true (T n) (q n ++ on n (all_moves (voices inner))) [] (or_left (S n) (g n) s)
      ∙ sym (ap (λ (ms : List Moved). ms ++ mid n) no_lane ∙ cond-true (S n) (q n ++ on n (all_moves (voices inner))) [] s))
      (λ (s : S n ≡ false).
      let none_left : mid n ≡ [] = cond-false (S n) (q n ++ on n (all_moves (voices inner))) [] s in
      ⊎_elim
      (λ (h : g n ≡ true).
      cond-true (T n) (q n ++ on n (all_moves (voices inner))) [] (or_right (S n) (g n) h)
      ∙ ap (λ (ms : List Moved). ms ++ on n (all_moves (voices inner))) (e n lt s)
      ∙ sym (l.0.joined n lt h)
      ∙ sym (ap (λ (ms : List Moved). on n lanes ++ ms) none_left ∙ append-nil (on n lanes)))
      (λ (h : g n ≡ false).
      cond-false (T n) (q n ++ on n (all_moves (voices inner))) [] (or_from (S n) (g n) s h)
      ∙ sym ((λ i. l.0.others n lt h i ++ none_left i)))
      (cases_Bool (g n)))
      (cases_Bool (S n)) in
      subst (λ (steps : List Step). Fits all q steps r) (sym (append_assoc (steps_of inner) (adds ++ steps_of rest) more))
      (nodes_fit T q inner l.1.0
      (λ n lt s. ⊎_elim
      (λ (h : S n ≡ true). (none-uses-parts n (voices inner) (voices rest) (k n lt h)).0)
      (λ (h : g n ≡ true). shared_kept inner n (c.0 refl) (and_parts (two_mix inner n) (not (S n)) h).0)
      (or_cases (S n) (g n) s))
      c.1.0
      (λ w h. i w (in_first (voices inner) (voices rest) w h))
      (λ n lt s. e n lt (or_parts (S n) (g n) s).0)
      (fits_same (waiting T q (voices inner))
      (subst (λ (steps : List Step). Fits all (λ n. on n lanes ++ mid n) steps r) (sym (append_assoc adds (steps_of rest) more))
      (adds_fit first lanes l.0.each
      (nodes_fit S mid rest l.1.1 (λ n lt s. (none-uses-parts n (voices inner) (voices rest) (k n lt s)).1) c.1.1 (λ w h. i w (in_second (voices inner) (voices rest) w h))
      (λ n lt s. cond-false (S n) (q n ++ on n (all_moves (voices inner))) [] s)
      (fits_same (waiting S mid (voices rest)) f (λ n lt. sym (waiting_more S q (voices inner) (voices rest) n))))))
      at_joint))

  -- with no groups above, no lane waits before the nodes, and none after them
  pub all_fit : (t : HeardNodes) → AreLaned first (λ n. false) (λ n. false) t → SplitsMeetNone t → Fits (voices t) (λ n. []) (steps_of t) (λ n. [])
  all_fit t l c =
      subst (λ (steps : List Step). Fits (voices t) (λ n. []) steps (λ n. [])) (append-nil (steps_of t))
      (nodes_fit (λ n. false) (λ n. []) t l (λ n lt s. absurd (true≢false (sym s))) c (λ w h. h) (λ n lt s. refl) (at_end (λ n lt. refl)))
