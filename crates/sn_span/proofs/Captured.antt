-- A capture keeps to its foot, and its copy holds the sound of the block.
use Rattle.std.proofs.Common.{◌≡◌, ◌≢◌, ◌⊎◌, inl, inr, ⊎_elim, true≢false, ℕ, zero, suc, ◌+◌, ◌*◌, ◌<◌, ◌≤◌, ◌==◌, Bool, true, false, ◌||◌, cond, List, [], ◌∷◌, ◌++◌, ℤ, pos, length, get_or, set, refl, sym, ap, ◌∙◌, arith, length-append, length-set, get_or-set_same, get_or-set_other}
use Rattle.std.specs.List.{All}
use Rattle.std.proofs.lemmas.Bool.{cases_eq, cases_lt, or_left, or_right}
use Rattle.std.proofs.lemmas.List.{get_or_past, get_or_append_left, get_or-append-add}
use Rattle.sn_mem.specs.declared.extents.Extent.{Extent}
use Rattle.sn_mem.specs.Words.{covers, has, writes}
use Rattle.sn_mem.specs.Blocks.{put, sample_in, table}
use Rattle.sn_mem.specs.Buses.{heard}
use Rattle.sn_mem.proofs.Masks.{touched}
use Rattle.sn_mem.proofs.Meetings.{covered}
use Rattle.sn_mem.proofs.Steps.{length-put}
use Rattle.sn_mem.proofs.Tables.{length-table}
use Rattle.sn_mem.proofs.Windows.{apart_put, table_at, table_same}
use Rattle.sn_span.specs.Unrolling.{capture_foot, copy_at}
use Rattle.sn_span.specs.Captures.{AreOutputs, bus_at, captured, heard_word, heard_words, output_at}
use Rattle.sn_span.specs.Rounds.{KeepsToFoot}

-- ---- the same words put

set_same : (us ws : List ℕ) (at v x : ℕ) → length us ≡ length ws → get_or us x 0 ≡ get_or ws x 0 → get_or (set us at v) x 0 ≡ get_or (set ws at v) x 0
set_same us ws at v x long same = ⊎_elim
    (λ (e : x ≡ at). ⊎_elim
    (λ (l : at < length us).
    ap (λ i. get_or (set us at v) i 0) e
    ∙ (get_or-set_same us at v 0 l
    ∙ (sym (get_or-set_same ws at v 0 (omega (arith, l, long)))
    ∙ ap (λ i. get_or (set ws at v) i 0) (sym e))))
    (λ (g : length us ≤ at). get_or_past (set us at v) x 0 (omega (arith, length-set us at v, g, e)) ∙ sym (get_or_past (set ws at v) x 0 (omega (arith, length-set ws at v, g, e, long))))
    (cases_lt at (length us)))
    (λ (d : x ≢ at). get_or-set_other us at x v 0 d ∙ (same ∙ sym (get_or-set_other ws at x v 0 d)))
    (cases_eq x at)

put_same : (us ws : List ℕ) (at x : ℕ) (xs : List ℕ) → length us ≡ length ws → get_or us x 0 ≡ get_or ws x 0 → get_or (put us at xs) x 0 ≡ get_or (put ws at xs) x 0
unfolding put
put_same us ws at x [] long same = same
put_same us ws at x (v ∷ xs) long same = put_same (set us at v) (set ws at v) (at + 1) x xs (length-set us at v ∙ (long ∙ sym (length-set ws at v))) (set_same us ws at v x long same)

-- ---- the words of the sound

pub length-heard : (b : ℕ) (ws : List ℕ) (es : List Extent) → length (heard_words b ws es) ≡ 64 * length es
length-heard b ws [] = omega arith
length-heard b ws (e ∷ es) = omega (arith, length-append (table (heard_word b ws e) 64) (heard_words b ws es), length-table (heard_word b ws e) 64, length-heard b ws es)

pub heard_at : (b : ℕ) (ws : List ℕ) (es : List Extent) (c frame : ℕ) → c < length es → frame < 64 → get_or (heard_words b ws es) (64 * c + frame) 0 ≡ heard_word b ws (output_at es c) frame
heard_at b ws [] c frame l f = absurd (omega arith)
heard_at b ws (e ∷ es) zero frame l f =
    let here : 64 * 0 + frame ≡ frame = omega arith in
    ap (λ i. get_or (table (heard_word b ws e) 64 ++ heard_words b ws es) i 0) here
    ∙ (get_or_append_left (table (heard_word b ws e) 64) (heard_words b ws es) 0 frame (omega (arith, length-table (heard_word b ws e) 64, f))
    ∙ table_at (heard_word b ws e) 64 frame 0 f)
heard_at b ws (e ∷ es) (suc c) frame l f =
    let later : 64 * suc c + frame ≡ length (table (heard_word b ws e) 64) + (64 * c + frame) = omega (arith, length-table (heard_word b ws e) 64) in
    ap (λ i. get_or (table (heard_word b ws e) 64 ++ heard_words b ws es) i 0) later
    ∙ (get_or-append-add (table (heard_word b ws e) 64) (heard_words b ws es) (64 * c + frame) 0
    ∙ heard_at b ws es c frame (omega (arith, l)) f)

pub word_same : (b : ℕ) (us ws : List ℕ) (e : Extent) (frame : ℕ) → get_or us e.at 0 ≡ get_or ws e.at 0 → get_or us (e.at + 1 + frame) 0 ≡ get_or ws (e.at + 1 + frame) 0 → heard_word b us e frame ≡ heard_word b ws e frame
word_same b us ws e frame number sample = ap (λ w. cond (w == b + 1) (get_or us (e.at + 1 + frame) 0) 0) number ∙ ap (λ w. cond (get_or ws e.at 0 == b + 1) w 0) sample

heard_same : (b : ℕ) (us ws : List ℕ) (es : List Extent) → All (λ e. e.len ≡ 65) es → ((x : ℕ) → has es x ≡ true → get_or us x 0 ≡ get_or ws x 0) → heard_words b us es ≡ heard_words b ws es
heard_same b us ws [] buses same = refl
heard_same b us ws (e ∷ es) buses same =
    let long : e.len ≡ 65 = buses 0 e (omega arith) in
    let here : (x : ℕ) → e.at ≤ x → x < e.at + 65 → get_or us x 0 ≡ get_or ws x 0 = λ x low high. same x (or_left (covers e x) (has es x) (covered e x low (omega (arith, high, long)))) in
    ap (λ (xs : List ℕ). xs ++ heard_words b us es) (table_same (heard_word b us e) (heard_word b ws e) 64 (λ k l. word_same b us ws e k (here e.at (omega arith) (omega arith)) (here (e.at + 1 + k) (omega arith) (omega (arith, l)))))
    ∙ ap (λ (xs : List ℕ). table (heard_word b ws e) 64 ++ xs) (heard_same b us ws es (λ k d m. buses (suc k) d (omega (arith, m))) (λ x h. same x (or_right (covers e x) (has es x) h)))

-- ---- as samples

heard_if : (c : Bool) (w : ℕ) (x : ℤ) → sample_in w ≡ x → sample_in (cond c w 0) ≡ cond c x (pos 0)
heard_if true w x e = e
heard_if false w x e = refl

pub sample_heard : (b : ℕ) (ws : List ℕ) (e : Extent) (frame : ℕ) → frame < 64 → sample_in (heard_word b ws e frame) ≡ heard b (bus_at ws e) frame
sample_heard b ws e frame l = heard_if (get_or ws e.at 0 == b + 1) (get_or ws (e.at + 1 + frame) 0) (get_or (bus_at ws e).samples frame (pos 0)) (sym (table_at (λ k. sample_in (get_or ws (e.at + 1 + k) 0)) 64 frame (pos 0) l))

-- ---- the foot

beside : (outputs : List Extent) (at k x : ℕ) → writes (capture_foot outputs at k) x ≡ false → (x < at + 512 * k) ⊎ (at + 512 * k + 512 ≤ x)
beside outputs at k x off = ⊎_elim
    (λ (l : x < at + 512 * k). inl l)
    (λ (g : at + 512 * k ≤ x). ⊎_elim
    (λ (l : x < at + 512 * k + 512). absurd (true≢false (sym (ap (λ (b : Bool). b || false) (covered (copy_at at k) x g l)) ∙ off)))
    (λ (r : at + 512 * k + 512 ≤ x). inr r)
    (cases_lt x (at + 512 * k + 512)))
    (cases_lt x (at + 512 * k))

pub capture_keeps : (outputs : List Extent) (at k b : ℕ) → AreOutputs outputs → KeepsToFoot (capture_foot outputs at k) (captured outputs (at + 512 * k) b)
capture_keeps outputs at k b are = record {
  long = λ ws. length-put ws (at + 512 * k) (heard_words b ws outputs);
  keeps = λ x ws off. apart_put ws (at + 512 * k) x (heard_words b ws outputs) (⊎_elim
      (λ (l : x < at + 512 * k). inl l)
      (λ (r : at + 512 * k + 512 ≤ x). inr (omega (arith, r, length-heard b ws outputs, are.few)))
      (beside outputs at k x off));
  by_foot = λ us ws long same x on.
      ap (λ (xs : List ℕ). get_or (put us (at + 512 * k) xs) x 0) (heard_same b us ws outputs are.buses (λ y h. same y (or_right (has (copy_at at k ∷ []) y) (has outputs y) h)))
      ∙ put_same us ws (at + 512 * k) x (heard_words b ws outputs) long (same x (touched (capture_foot outputs at k) x on));
}
