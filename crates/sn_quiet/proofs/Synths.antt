-- A synth's block does not see whether the done words of its units were settled.
use Rattle.std.proofs.Common.{◌≡◌, ◌≢◌, ◌≤◌, ◌<◌, ⊎_elim, true≢false, ℕ, zero, suc, ◌+◌, ◌==◌, Bool, true, false, ◌||◌, ◌&&◌, List, [], ◌∷◌, ◌++◌, ℤ, Option, Some, None, length, get_or, set, drop, refl, sym, ap, subst, ◌∙◌, arith, length-set, get_or-set_same, get_or-set_other}
use Rattle.std.specs.Prelude.{is_some}
use Rattle.std.proofs.lemmas.Bool.{cases_eq, cases_lt, ne_eqb, eq-eqb}
use Rattle.std.proofs.lemmas.List.{ext_get_or, get_or_past}
use Rattle.sn_mem.specs.Blocks.{window, put}
use Rattle.sn_mem.specs.Buffers.{Buffer, Resources}
use Rattle.sn_mem.proofs.Steps.{length-window}
use Rattle.sn_mem.proofs.Windows.{window_at, window_same}
use Rattle.sn_def.specs.declared.kind.Kind.{Kind}
use Rattle.sn_def.specs.declared.kind.Kind.TheVariants as kinds
use Rattle.sn_def.specs.declared.control.Control.{Control as SynthControl}
use Rattle.sn_def.specs.declared.control.Now.{Now}
use Rattle.sn_def.specs.declared.unit.Input.{Input}
use Rattle.sn_def.specs.declared.unit.Unit.{Unit as UnitLine}
use Rattle.sn_def.specs.Definition.{Definition}
use Rattle.sn_def.specs.Units.{row_of}
use Rattle.sn_def.specs.Facts.{done_action}
use Rattle.sn_def.specs.StateWords.{unit_words}
use Rattle.sn_def.proofs.RowLaws.{ender_words}
use Rattle.sn_gen.specs.Generators.{generator}
use Rattle.sn_gen.proofs.Unseen.{line_unseen, linen_unseen}
use Rattle.sn_io.specs.Triggers.{trigger_block}
use Rattle.sn_io.specs.BusUnits.{bus_unit}
use Rattle.sn_io.specs.BufferUnits.{buffer_unit}
use Rattle.sn_io.proofs.Unseen.{silence_unseen, free_unseen, pause_unseen, playing_unseen, placing_unseen, recording_unseen}
use Rattle.sn_synth.specs.UnitBlocks.{inner, unit_block}
use Rattle.sn_done.specs.Done.{settled_word, settled_first, IsUnseen}
use Rattle.sn_done.proofs.Settling.{unseen_then}
use Rattle.sn_synth.specs.Synths.{Playing, before_units, control_values, input_blocks, now_of, play_unit, play_units, synth_block}

-- ---- one unit

abbrev run_of : Kind → Now → ℕ → List (List ℤ) → Resources → List ℕ → List ℕ × (List (List ℤ) × Resources)
run_of kind now n inputs r ws = let e = unit_block kind now n ws inputs r in (e.state, (e.outputs, e.resources))

abbrev with_buffers : Resources → List (List ℤ) → List (List ℤ) × Resources
with_buffers r outputs = (outputs, record { buses = r.buses; buffers = r.buffers })

pub unit_unseen : (kind : Kind) (inputs : List Input) (action : ℤ) → done_action kind inputs ≡ Some action → (now : Now) (n : ℕ) (blocks : List (List ℤ)) (r : Resources) → IsUnseen (run_of kind now n blocks r)
unfolding row_of inner bus_unit
unit_unseen kinds.Line inputs action is now n blocks r = unseen_then (λ ws. generator kinds.Line now ws blocks) (with_buffers r) (line_unseen now blocks)
unit_unseen kinds.Linen inputs action is now n blocks r = unseen_then (λ ws. generator kinds.Linen now ws blocks) (with_buffers r) (linen_unseen now blocks)
unit_unseen kinds.DetectSilence inputs action is now n blocks r = unseen_then (λ ws. trigger_block kinds.DetectSilence now ws blocks) (with_buffers r) (silence_unseen now blocks)
unit_unseen kinds.FreeSelf inputs action is now n blocks r = unseen_then (λ ws. trigger_block kinds.FreeSelf now ws blocks) (with_buffers r) (free_unseen now blocks)
unit_unseen kinds.PauseSelf inputs action is now n blocks r = unseen_then (λ ws. trigger_block kinds.PauseSelf now ws blocks) (with_buffers r) (pause_unseen now blocks)
unit_unseen kinds.PlayBuf inputs action is now n blocks r =
    unseen_then {A = List (List ℤ) × List (Option Buffer)} {B = List (List ℤ) × Resources} (λ ws. let e = buffer_unit kinds.PlayBuf now n ws blocks r.buffers in (e.state, (e.outputs, e.buffers))) (λ (o : List (List ℤ) × List (Option Buffer)). (o.0, record { buses = r.buses; buffers = o.1 })) (playing_unseen now n blocks r.buffers)
unit_unseen kinds.PlayBufL inputs action is now n blocks r =
    unseen_then {A = List (List ℤ) × List (Option Buffer)} {B = List (List ℤ) × Resources} (λ ws. let e = buffer_unit kinds.PlayBufL now n ws blocks r.buffers in (e.state, (e.outputs, e.buffers))) (λ (o : List (List ℤ) × List (Option Buffer)). (o.0, record { buses = r.buses; buffers = o.1 })) (placing_unseen now n blocks r.buffers)
unit_unseen kinds.RecordBuf inputs action is now n blocks r =
    unseen_then {A = List (List ℤ) × List (Option Buffer)} {B = List (List ℤ) × Resources} (λ ws. let e = buffer_unit kinds.RecordBuf now n ws blocks r.buffers in (e.state, (e.outputs, e.buffers))) (λ (o : List (List ℤ) × List (Option Buffer)). (o.0, record { buses = r.buses; buffers = o.1 })) (recording_unseen now n blocks r.buffers)
unit_unseen _ inputs action is now n blocks r = absurd cc

-- ---- done words among the state words

-- whether a word is the done word of a unit, if the first unit's words begin at a place
abbrev pub is_done : ℕ → List UnitLine → ℕ → ℕ → Bool
is_done rate [] place x = false
is_done rate (u ∷ us) place x = (is_some (done_action u.kind u.inputs) && x == place) || is_done rate us (place + unit_words rate u) x

-- words that are the same except for done words, and the same after they are settled
pub record Alike (done : ℕ → Bool) (us ws : List ℕ) : Type 0 where
  pub long : length us ≡ length ws
  pub same : (x : ℕ) → done x ≡ false → get_or us x 0 ≡ get_or ws x 0
  pub settled : (x : ℕ) → settled_word (get_or us x 0) ≡ settled_word (get_or ws x 0)

-- what holds of a word after one was set holds of 0, of the word that was set, and of the others
at_place : (us ws : List ℕ) (at v w x : ℕ) (P : ℕ → ℕ → Type 0) → length us ≡ length ws → P 0 0 → (x ≡ at → P v w) → (x ≢ at → P (get_or us x 0) (get_or ws x 0)) → P (get_or (set us at v) x 0) (get_or (set ws at w) x 0)
at_place us ws at v w x P long none here other = ⊎_elim
    (λ (q : x ≡ at). ⊎_elim
    (λ (l : at < length us).
    let left : get_or (set us at v) x 0 ≡ v = ap (λ i. get_or (set us at v) i 0) q ∙ get_or-set_same us at v 0 l in
    let right : get_or (set ws at w) x 0 ≡ w = ap (λ i. get_or (set ws at w) i 0) q ∙ get_or-set_same ws at w 0 (omega (arith, long, l)) in
    subst (λ m. P m (get_or (set ws at w) x 0)) (sym left) (subst (λ n. P v n) (sym right) (here q)))
    (λ (g : length us ≤ at).
    let left : get_or (set us at v) x 0 ≡ 0 = get_or_past (set us at v) x 0 (omega (arith, length-set us at v, g, q)) in
    let right : get_or (set ws at w) x 0 ≡ 0 = get_or_past (set ws at w) x 0 (omega (arith, length-set ws at w, long, g, q)) in
    subst (λ m. P m (get_or (set ws at w) x 0)) (sym left) (subst (λ n. P 0 n) (sym right) none))
    (cases_lt at (length us)))
    (λ (ne : x ≢ at).
    subst (λ m. P m (get_or (set ws at w) x 0)) (sym (get_or-set_other us at x v 0 ne)) (subst (λ n. P (get_or us x 0) n) (sym (get_or-set_other ws at x w 0 ne)) (other ne)))
    (cases_eq x at)

alike_set : (done : ℕ → Bool) (us ws : List ℕ) (at v w : ℕ) → settled_word v ≡ settled_word w → (done at ≡ false → v ≡ w) → Alike done us ws → Alike done (set us at v) (set ws at w)
alike_set done us ws at v w e equal a = record {
  long = length-set us at v ∙ (a.long ∙ sym (length-set ws at w));
  same = λ x no. at_place us ws at v w x (λ m n. m ≡ n) a.long refl (λ q. equal (ap done (sym q) ∙ no)) (λ ne. a.same x no);
  settled = λ x. at_place us ws at v w x (λ m n. settled_word m ≡ settled_word n) a.long refl (λ q. e) (λ ne. a.settled x);
}

alike_put : (done : ℕ → Bool) (us ws : List ℕ) (at : ℕ) (xs : List ℕ) → Alike done us ws → Alike done (put us at xs) (put ws at xs)
unfolding put
alike_put done us ws at [] a = a
alike_put done us ws at (x ∷ xs) a = alike_put done (set us at x) (set ws at x) (at + 1) xs (alike_set done us ws at x x refl (λ no. refl) a)

-- the words of a unit that ends are put at its done word
alike_ended : (done : ℕ → Bool) (us ws : List ℕ) (at : ℕ) (xs ys : List ℕ) → done at ≡ true → settled_first xs ≡ settled_first ys → Alike done us ws → Alike done (put us at xs) (put ws at ys)
unfolding put
alike_ended done us ws at [] [] is e a = a
alike_ended done us ws at [] (y ∷ ys) is e a = let long : length {A = ℕ} [] ≡ suc (length ys) = ap length e in absurd (omega (arith, long))
alike_ended done us ws at (x ∷ xs) [] is e a = let long : suc (length xs) ≡ length {A = ℕ} [] = ap length e in absurd (omega (arith, long))
alike_ended done us ws at (x ∷ xs) (y ∷ ys) is e a =
    let first : settled_word x ≡ settled_word y = ap (λ (zs : List ℕ). get_or zs 0 0) e in
    let rest : xs ≡ ys = ap (drop 1) e in
    subst (λ (zs : List ℕ). Alike done (put (set us at x) (at + 1) xs) (put (set ws at y) (at + 1) zs)) rest
    (alike_put done (set us at x) (set ws at y) (at + 1) xs (alike_set done us ws at x y first (λ no. absurd (true≢false (sym is ∙ no))) a))

first_settled : (xs : List ℕ) → get_or (settled_first xs) 0 0 ≡ settled_word (get_or xs 0 0)
first_settled [] = refl
first_settled (x ∷ xs) = refl

others_settled : (xs : List ℕ) (k : ℕ) → get_or (settled_first xs) (suc k) 0 ≡ get_or xs (suc k) 0
others_settled [] k = refl
others_settled (x ∷ xs) k = refl

length-settled : (xs : List ℕ) → length (settled_first xs) ≡ length xs
length-settled [] = refl
length-settled (x ∷ xs) = refl

-- the words of a unit, if its first alone may be a done word
window_settled : (done : ℕ → Bool) (us ws : List ℕ) (at n : ℕ) → ((x : ℕ) → at < x → x < at + n → done x ≡ false) → Alike done us ws → settled_first (window us at n) ≡ settled_first (window ws at n)
window_settled done us ws at n others a = ext_get_or 0 (settled_first (window us at n)) (settled_first (window ws at n))
    (length-settled (window us at n) ∙ (length-window us at n ∙ sym (length-settled (window ws at n) ∙ length-window ws at n)))
    (λ k lt. each k (omega (arith, lt, length-settled (window us at n), length-window us at n)))
  where
    each : (k : ℕ) → k < n → get_or (settled_first (window us at n)) k 0 ≡ get_or (settled_first (window ws at n)) k 0
    each zero l = first_settled (window us at n) ∙ (ap settled_word (window_at us at n 0 l) ∙ (a.settled (at + 0) ∙ sym (first_settled (window ws at n) ∙ ap settled_word (window_at ws at n 0 l))))
    each (suc k) l = others_settled (window us at n) k ∙ (window_at us at n (suc k) l ∙ (a.same (at + suc k) (others (at + suc k) (omega arith) (omega (arith, l))) ∙ sym (others_settled (window ws at n) k ∙ window_at ws at n (suc k) l)))

-- ---- which words are done words

neither : (e b c : Bool) → b ≡ false → c ≡ false → ((e && b) || c) ≡ false
neither true b c p q = ap (λ b. b || c) p ∙ q
neither false b c p q = q

pub later : (rate : ℕ) (us : List UnitLine) (place x : ℕ) → x < place → is_done rate us place x ≡ false
later rate [] place x l = refl
later rate (u ∷ us) place x l =
    neither (is_some (done_action u.kind u.inputs)) (x == place) (is_done rate us (place + unit_words rate u) x) (ne_eqb x place (λ (e : x ≡ place). absurd (omega (arith, e, l)))) (later rate us (place + unit_words rate u) x (omega (arith, l)))

own_other : (rate : ℕ) (u : UnitLine) (us : List UnitLine) (place x : ℕ) → place < x → x < place + unit_words rate u → is_done rate (u ∷ us) place x ≡ false
own_other rate u us place x low high =
    neither (is_some (done_action u.kind u.inputs)) (x == place) (is_done rate us (place + unit_words rate u) x) (ne_eqb x place (λ (e : x ≡ place). absurd (omega (arith, e, low)))) (later rate us (place + unit_words rate u) x high)

own_none : (rate : ℕ) (u : UnitLine) (us : List UnitLine) (place x : ℕ) → done_action u.kind u.inputs ≡ None → x < place + unit_words rate u → is_done rate (u ∷ us) place x ≡ false
own_none rate u us place x is high =
    ap {B = Bool} (λ (o : Option ℤ). (is_some o && x == place) || is_done rate us (place + unit_words rate u) x) is ∙ later rate us (place + unit_words rate u) x high

pub own_done : (rate : ℕ) (u : UnitLine) (us : List UnitLine) (place : ℕ) (action : ℤ) → done_action u.kind u.inputs ≡ Some action → is_done rate (u ∷ us) place place ≡ true
own_done rate u us place action is =
    ap {B = Bool} (λ (o : Option ℤ). (is_some o && place == place) || is_done rate us (place + unit_words rate u) place) is
    ∙ ap {B = Bool} (λ b. b || is_done rate us (place + unit_words rate u) place) (eq-eqb place place refl)

passed_by : (o : Option ℤ) (b c : Bool) → ((action : ℤ) → o ≡ Some action → b ≡ false) → ((is_some o && b) || c) ≡ c
passed_by None b c h = refl
passed_by (Some action) b c h = ap (λ b. b || c) (h action refl)

-- past a unit's words the done words are those of the units after it
pub past : (rate : ℕ) (u : UnitLine) (us : List UnitLine) (place x : ℕ) → x ≢ place → is_done rate (u ∷ us) place x ≡ is_done rate us (place + unit_words rate u) x
past rate u us place x ne = passed_by (done_action u.kind u.inputs) (x == place) (is_done rate us (place + unit_words rate u) x) (λ action is. ne_eqb x place ne)

past_end : (rate : ℕ) (u : UnitLine) (us : List UnitLine) (place x : ℕ) → place + unit_words rate u ≤ x → is_done rate (u ∷ us) place x ≡ is_done rate us (place + unit_words rate u) x
past_end rate u us place x l = passed_by (done_action u.kind u.inputs) (x == place) (is_done rate us (place + unit_words rate u) x)
    (λ action is. ne_eqb x place (λ (e : x ≡ place). absurd (omega (arith, e, l, ender_words rate u action is))))

-- ---- units in order

with_state : List ℕ → Playing → Playing
with_state s p = record { resources = p.resources; state = s; wires = p.wires; place = p.place; number = p.number }

module _ (rate b : ℕ) (node : ℤ) (values : List ℤ) (all : List UnitLine) where
  abbrev done : ℕ → Bool
  done = is_done rate all 0

  -- from a place on the done words are those of the units that are left
  abbrev LeftFrom : List UnitLine → ℕ → Type 0
  LeftFrom us place = (x : ℕ) → place ≤ x → done x ≡ is_done rate us place x

  abbrev run : UnitLine → Playing → List ℕ → List ℕ × (List (List ℤ) × Resources)
  run u p = run_of u.kind (now_of rate b node p.number) u.outputs (input_blocks values p.wires u.inputs) p.resources

  -- where a synth stands after a unit's block
  after_run : UnitLine → Playing → List ℕ → List (List ℤ) × Resources → Playing
  after_run u p state given = record { resources = given.1; state = state; wires = p.wires ++ given.0; place = p.place + unit_words rate u; number = p.number + 1 }

  abbrev Result : Playing → Playing → Type 0
  Result p q = (t : List ℕ) × (p ≡ with_state t q) × Alike done t q.state

  unit_alike : (u : UnitLine) (us : List UnitLine) (p : Playing) (s : List ℕ) (o : Option ℤ) → done_action u.kind u.inputs ≡ o → LeftFrom (u ∷ us) p.place → Alike done s p.state
      → Result (play_unit rate b node values (with_state s p) u) (play_unit rate b node values p u)
  unfolding play_unit with_state after_run
  unit_alike u us p s None is left a =
      let n : ℕ = unit_words rate u in
      let same : window s p.place n ≡ window p.state p.place n = window_same s p.state p.place n (λ k lt. a.same (p.place + k) (left (p.place + k) (omega arith) ∙ own_none rate u us p.place (p.place + k) is (omega (arith, lt)))) in
      let mine : List ℕ = (run u p (window p.state p.place n)).0 in (
        put s p.place mine,
        ap {B = Playing} (λ (ws : List ℕ). after_run u p (put s p.place (run u p ws).0) (run u p ws).1) same,
        alike_put done s p.state p.place mine a,
      )
  unit_alike u us p s (Some action) is left a =
      let n : ℕ = unit_words rate u in
      let h = unit_unseen u.kind u.inputs action is (now_of rate b node p.number) u.outputs (input_blocks values p.wires u.inputs) p.resources in
      let theirs : List ℕ = window s p.place n in
      let mine : List ℕ = window p.state p.place n in
      let same : settled_first theirs ≡ settled_first mine = window_settled done s p.state p.place n (λ x low high. left x (omega (arith, low)) ∙ own_other rate u us p.place x low high) a in (
        put s p.place (run u p theirs).0,
        ap {B = Playing} (λ (given : List (List ℤ) × Resources). after_run u p (put s p.place (run u p theirs).0) given) (sym (h.given theirs) ∙ (ap (λ (ws : List ℕ). (run u p ws).1) same ∙ h.given mine)),
        alike_ended done s p.state p.place (run u p theirs).0 (run u p mine).0 (left p.place (omega arith) ∙ own_done rate u us p.place action is)
            (sym (h.words theirs) ∙ (ap (λ (ws : List ℕ). settled_first (run u p ws).0) same ∙ h.words mine)) a,
      )

  next_left : (u : UnitLine) (us : List UnitLine) (p : Playing) → LeftFrom (u ∷ us) p.place → LeftFrom us (play_unit rate b node values p u).place
  unfolding play_unit
  next_left u us p left = λ x l. left x (omega (arith, l)) ∙ past_end rate u us p.place x l

  units_alike : (us : List UnitLine) (p : Playing) (s : List ℕ) → LeftFrom us p.place → Alike done s p.state → Result (play_units rate b node values us (with_state s p)) (play_units rate b node values us p)
  units_alike [] p s left a = (s, refl, a)
  units_alike (u ∷ us) p s left a =
      let (t, e, alike) = unit_alike u us p s (done_action u.kind u.inputs) refl left a in
      let (v, f, more) = units_alike us (play_unit rate b node values p u) t (next_left u us p left) alike in
      (v, ap (λ (q : Playing). play_units rate b node values us q) e ∙ f, more)

-- A synth's block makes of states that are alike ones that are alike, and it gives the same.
pub record SynthsAlike (done : ℕ → Bool) (p q : Playing) : Type 0 where
  pub states : Alike done p.state q.state
  pub resources : p.resources ≡ q.resources

pub synth_alike : (rate b : ℕ) (node : ℤ) (d : Definition) (controls : List SynthControl) (resources : Resources) (s state : List ℕ) → Alike (is_done rate d.units 0) s state
    → SynthsAlike (is_done rate d.units 0) (synth_block rate b node d controls resources s) (synth_block rate b node d controls resources state)
unfolding with_state
synth_alike rate b node d controls resources s state a =
    let values : List ℤ = control_values resources.buses.control controls in
    let (t, e, alike) = units_alike rate b node values d.units d.units (before_units resources state) s (λ x l. refl) a in record {
      states = subst (λ (p : Playing). Alike (is_done rate d.units 0) p.state (synth_block rate b node d controls resources state).state) (sym e) alike;
      resources = ap (λ (p : Playing). p.resources) e;
    }
