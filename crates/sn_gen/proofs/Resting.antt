-- Blocks in which Linen neither begins nor releases.
use Rattle.std.proofs.Common.{◌≡◌, ◌≤◌, ◌<◌, ℕ, zero, suc, ◌+◌, ◌-◌, Bool, true, false, List, ℤ, pos, int_lt, int_le, cond, replicate, get_or, refl, ap, sym, subst, ◌∙◌, arith}
use Rattle.std.proofs.lemmas.Bool.{le-ltb, lt-ltb}
use Rattle.sn_fixed.specs.Fixed.{frames_of}
use Rattle.sn_fixed.specs.Lines.{line_at}
use Rattle.sn_mem.specs.Blocks.{block, sample, scan, table}
use Rattle.sn_mem.specs.Done.{ended}
use Rattle.sn_mem.proofs.Windows.{table_at}
use Rattle.sn_gen.specs.declared.linen.Segment.{Segment}
use Rattle.sn_gen.specs.declared.linen.Segment.TheVariants.{Waiting, Open, Released}
use Rattle.sn_gen.specs.declared.linen.Envelope.{Envelope}
use Rattle.sn_gen.specs.Linen.{gated, height, passed, done_at, linen}
use Rattle.sn_gen.specs.Resting.{Leaves}
use Rattle.sn_gen.proofs.Passing.{ended_twice, equal_samples}
use Rattle.sn_gen.proofs.Sweeping.{follows}
use Rattle.sn_gen.proofs.Turning.{equal_at}

abbrev pub envelope : ℕ → Segment → ℕ → ℕ → ℤ → ℤ → ℤ → Envelope
envelope d g f n l t y = record { done = d; segment = g; frame = f; frames = n; level = l; top = t; last = y }

-- the output and the done word after the segment's last frame
abbrev resting : Segment → ℤ → ℤ
resting Waiting l = pos 0
resting Open l = l
resting Released l = pos 0

abbrev done_after : Segment → ℕ → ℕ
done_after Released d = ended d
done_after _ d = d

-- a frame's envelope and sample, by what the gate leaves
made : (rate : ℕ) (ins : List (List ℤ)) (k : ℕ) (e : Envelope) → gated rate e ins k ≡ e → ◌≡◌ {A = Envelope × ℤ} (linen rate e ins k) (passed e (height e), height e)
made rate ins k e is = ap (λ (g : Envelope). let r : Envelope × ℤ = (passed g (height g), height g) in r) is

frame : (g : Segment) (rate : ℕ) (ins : List (List ℤ)) (k d f n : ℕ) (l t y : ℤ) → n ≤ f → Leaves g ins → k < 64
    → ◌≡◌ {A = Envelope × ℤ} (linen rate (envelope d g f n l t y) ins k) (envelope (done_after g d) g f n l t (resting g l), resting g l)
frame Waiting rate ins k d f n l t y le leaves lt =
    let e : Envelope = envelope d Waiting f n l t y in
    let opened : Envelope = envelope d Open 0 (frames_of (sample ins 1 k) rate) (sample ins 2 k) t y in
    made rate ins k e (ap (λ c. cond c opened e) (leaves k lt))
    ∙ ap (λ (b : Bool). let r : Envelope × ℤ = (envelope d Waiting (cond b (f + 1) f) n l t (pos 0), pos 0) in r) (le-ltb f n le)
frame Open rate ins k d f n l t y le leaves lt =
    let e : Envelope = envelope d Open f n l t y in
    let released : Envelope = envelope d Released 0 (frames_of (sample ins 3 k) rate) l y y in
    made rate ins k e (ap (λ c. cond c e released) (leaves k lt))
    ∙ ap (λ (b : Bool). let r : Envelope × ℤ = (envelope d Open (cond b (f + 1) f) n l t (cond b (line_at (pos 0) l f n) l), cond b (line_at (pos 0) l f n) l) in r) (le-ltb f n le)
frame Released rate ins k d f n l t y le leaves lt =
    let e : Envelope = envelope d Released f n l t y in
    made rate ins k e refl
    ∙ ap (λ (b : Bool). let r : Envelope × ℤ = (envelope (cond b d (ended d)) Released (cond b (f + 1) f) n l t (cond b (line_at (pos 0) t (n - f) n) (pos 0)), cond b (line_at (pos 0) t (n - f) n) (pos 0)) in r) (le-ltb f n le)

-- the envelope before frame k of the block
abbrev rested : Segment → ℕ → ℕ → ℕ → ℤ → ℤ → ℤ → ℕ → Envelope
rested g d f n l t y zero = envelope d g f n l t y
rested g d f n l t y (suc k) = envelope (done_after g d) g f n l t (resting g l)

done_twice : (g : Segment) (d : ℕ) → done_after g (done_after g d) ≡ done_after g d
done_twice Waiting d = refl
done_twice Open d = refl
done_twice Released d = ended_twice d

rests_on : (g : Segment) (rate : ℕ) (ins : List (List ℤ)) (d f n : ℕ) (l t y : ℤ) → n ≤ f → Leaves g ins
    → ◌≡◌ {A = Envelope × List ℤ} (scan (linen rate) (envelope d g f n l t y) ins 64) (envelope (done_after g d) g f n l t (resting g l), replicate 64 (resting g l))
rests_on g rate ins d f n l t y le leaves =
    follows (linen rate) (rested g d f n l t y) (λ _. resting g l) ins 64 step
    ∙ ap (λ (ys : List ℤ). let r : Envelope × List ℤ = (envelope (done_after g d) g f n l t (resting g l), ys) in r) (equal_samples (resting g l) 64)
  where
    step : (k : ℕ) → k < 64 → ◌≡◌ {A = Envelope × ℤ} (linen rate (rested g d f n l t y k) ins k) (rested g d f n l t y (suc k), resting g l)
    step zero lt = frame g rate ins 0 d f n l t y le leaves lt
    step (suc k) lt = frame g rate ins (suc k) (done_after g d) f n l t (resting g l) le leaves lt ∙ ap (λ (d : ℕ). let r : Envelope × ℤ = (envelope d g f n l t (resting g l), resting g l) in r) (done_twice g d)

done_over : (g : Segment) (d f n : ℕ) (l t y : ℤ) → n ≤ f → done_at g (envelope d g f n l t y) ≡ done_after g d
done_over Waiting d f n l t y le = refl
done_over Open d f n l t y le = refl
done_over Released d f n l t y le = ap (λ (b : Bool). cond b d (ended d)) (le-ltb f n le)

height_over : (g : Segment) (d f n : ℕ) (l t y : ℤ) → n ≤ f → height (envelope d g f n l t y) ≡ resting g l
height_over Waiting d f n l t y le = refl
height_over Open d f n l t y le = ap (λ (b : Bool). cond b (line_at (pos 0) l f n) l) (le-ltb f n le)
height_over Released d f n l t y le = ap (λ (b : Bool). cond b (line_at (pos 0) t (n - f) n) (pos 0)) (le-ltb f n le)

pub rests : (rate : ℕ) (ins : List (List ℤ)) (e : Envelope) → e.frames ≤ e.frame → Leaves e.segment ins
    → ◌≡◌ {A = Envelope × List ℤ} (scan (linen rate) e ins 64) (record e { done = done_at e.segment e; last = height e }, replicate 64 (height e))
rests rate ins e le leaves =
    let g = e.segment in
    rests_on g rate ins e.done e.frame e.frames e.level e.top e.last le leaves
    ∙ (ap (λ (d : ℕ). let r : Envelope × List ℤ = (envelope d g e.frame e.frames e.level e.top (resting g e.level), replicate 64 (resting g e.level)) in r) (sym (done_over g e.done e.frame e.frames e.level e.top e.last le))
    ∙ ap (λ (x : ℤ). let r : Envelope × List ℤ = (envelope (done_at g e) g e.frame e.frames e.level e.top x, replicate 64 x) in r) (sym (height_over g e.done e.frame e.frames e.level e.top e.last le)))

pub open_gate : (ins : List (List ℤ)) (x : ℤ) → block ins 0 ≡ replicate 64 x → int_lt (pos 0) x ≡ true → Leaves Open ins
open_gate ins x same is k lt = ap (λ x. int_lt (pos 0) x) (equal_at ins 0 k x same lt) ∙ is

pub closed_gate : (ins : List (List ℤ)) (x : ℤ) → block ins 0 ≡ replicate 64 x → int_lt (pos 0) x ≡ false → Leaves Waiting ins
closed_gate ins x same is k lt = ap (λ x. int_lt (pos 0) x) (equal_at ins 0 k x same lt) ∙ is

pub at_most : (x : ℤ) → int_le x (pos 0) ≡ true → int_lt (pos 0) x ≡ false
at_most x h = grind arith

pub same_envelope : (g : Segment) (f n : ℕ) (d d' : ℕ) (l l' t t' y y' : ℤ) → d ≡ d' → l ≡ l' → t ≡ t' → y ≡ y' → envelope d g f n l t y ≡ envelope d' g f n l' t' y'
same_envelope g f n d d' l l' t t' y y' p q r s = cc

-- ---- an attack that goes on

rise : (rate : ℕ) (ins : List (List ℤ)) (k d f n : ℕ) (l t y : ℤ) → f < n → Leaves Open ins → k < 64
    → ◌≡◌ {A = Envelope × ℤ} (linen rate (envelope d Open f n l t y) ins k) (envelope d Open (f + 1) n l t (line_at (pos 0) l f n), line_at (pos 0) l f n)
rise rate ins k d f n l t y below leaves lt =
    let e : Envelope = envelope d Open f n l t y in
    let released : Envelope = envelope d Released 0 (frames_of (sample ins 3 k) rate) l y y in
    made rate ins k e (ap (λ c. cond c e released) (leaves k lt))
    ∙ ap (λ (b : Bool). let r : Envelope × ℤ = (envelope d Open (cond b (f + 1) f) n l t (cond b (line_at (pos 0) l f n) l), cond b (line_at (pos 0) l f n) l) in r) (lt-ltb f n below)

-- the output before frame k of the block
abbrev before : ℤ → (ℕ → ℤ) → ℕ → ℤ
before y at zero = y
before y at (suc k) = at k

pub rises_on : (rate : ℕ) (ins : List (List ℤ)) (d f n : ℕ) (l t y : ℤ) → f + 64 ≤ n → Leaves Open ins
    → ◌≡◌ {A = Envelope × List ℤ} (scan (linen rate) (envelope d Open f n l t y) ins 64) (envelope d Open (f + 64) n l t (line_at (pos 0) l (f + 63) n), table (λ k. line_at (pos 0) l (f + k) n) 64)
rises_on rate ins d f n l t y within leaves =
    let here : f ≡ f + 0 = omega arith in
    ap (λ (m : ℕ). scan (linen rate) (envelope d Open m n l t y) ins 64) here
    ∙ follows (linen rate) (λ k. envelope d Open (f + k) n l t (before y (λ k. line_at (pos 0) l (f + k) n) k)) (λ k. line_at (pos 0) l (f + k) n) ins 64 step
  where
    step : (k : ℕ) → k < 64 → ◌≡◌ {A = Envelope × ℤ} (linen rate (envelope d Open (f + k) n l t (before y (λ k. line_at (pos 0) l (f + k) n) k)) ins k) (envelope d Open (f + suc k) n l t (line_at (pos 0) l (f + k) n), line_at (pos 0) l (f + k) n)
    step k lt =
        let next : f + k + 1 ≡ f + suc k = omega arith in
        rise rate ins k d (f + k) n l t (before y (λ k. line_at (pos 0) l (f + k) n) k) (omega (arith, within, lt)) leaves lt
        ∙ ap (λ (m : ℕ). let r : Envelope × ℤ = (envelope d Open m n l t (line_at (pos 0) l (f + k) n), line_at (pos 0) l (f + k) n) in r) next

-- the same, from an envelope whose segment is known to be open
pub rises : (rate : ℕ) (ins : List (List ℤ)) (e : Envelope) → e.segment ≡ Open → e.frame + 64 ≤ e.frames → Leaves e.segment ins
    → ◌≡◌ {A = Envelope × List ℤ} (scan (linen rate) e ins 64) (record e { frame = e.frame + 64; last = line_at (pos 0) e.level (e.frame + 63) e.frames }, table (λ k. line_at (pos 0) e.level (e.frame + k) e.frames) 64)
rises rate ins e is within leaves =
    let open_now : Leaves Open ins = subst (λ g. Leaves g ins) is leaves in
    ap (λ (g : Segment). scan (linen rate) (envelope e.done g e.frame e.frames e.level e.top e.last) ins 64) is
    ∙ (rises_on rate ins e.done e.frame e.frames e.level e.top e.last within open_now
    ∙ ap (λ (g : Segment). let r : Envelope × List ℤ = (envelope e.done g (e.frame + 64) e.frames e.level e.top (line_at (pos 0) e.level (e.frame + 63) e.frames), table (λ k. line_at (pos 0) e.level (e.frame + k) e.frames) 64) in r) (sym is))

pub last_sample : (f : ℕ → ℤ) (ys : List ℤ) → ys ≡ table f 64 → get_or ys 63 (pos 0) ≡ f 63
last_sample f ys e = ap (λ (ys : List ℤ). get_or ys 63 (pos 0)) e ∙ table_at f 64 63 (pos 0) (omega arith)

pub same_rise : (g : Segment) (n d : ℕ) (f f' : ℕ) (l l' t t' y y' : ℤ) → f ≡ f' → l ≡ l' → t ≡ t' → y ≡ y' → envelope d g f n l t y ≡ envelope d g f' n l' t' y'
same_rise g n d f f' l l' t t' y y' p q r s = cc
