-- Changes that see and change a foot alone.
use Rattle.std.proofs.Common.{true≢false, ◌≡◌, ◌≤◌, ◌<◌, ℕ, Bool, true, false, cond, List, length, get_or, refl, ap, sym, ◌∙◌, ⊎_elim, arith}
use Rattle.std.proofs.lemmas.Bool.{cases_lt, cases_Bool}
use Rattle.std.proofs.lemmas.List.{ext_get_or, get_or_past}
use Rattle.sn_mem.specs.declared.extents.Foot.{Foot}
use Rattle.sn_mem.specs.Words.{writes, touches}
use Rattle.sn_mem.specs.Blocks.{table}
use Rattle.sn_mem.specs.ThroughFoot.{masked, overlaid, kept_to}
use Rattle.sn_mem.proofs.Masks.{length-masked, length-overlaid, masked_at, touched, get_or-table}
use Rattle.sn_mem.proofs.Windows.{table_same}
use Rattle.sn_io.specs.ByFoot.{Agree, IsByFoot, IsPart}

-- ---- kept to a foot

kept_long : (f : Foot) (change : List ℕ → List ℕ) (ws : List ℕ) → length (kept_to f change ws) ≡ length ws
kept_long f change ws = length-overlaid f (change (masked f ws)) ws

-- what may be written is that of one list, the rest that of the other
overlaid_at : (f : Foot) (us ws : List ℕ) (x : ℕ) (b : Bool) → x < length ws → writes f x ≡ b → get_or (overlaid f us ws) x 0 ≡ cond b (get_or us x 0) (get_or ws x 0)
unfolding overlaid
overlaid_at f us ws x b lt w = get_or-table (λ x. cond (writes f x) (get_or us x 0) (get_or ws x 0)) (length ws) x lt ∙ ap (λ b. cond b (get_or us x 0) (get_or ws x 0)) w

kept_keeps : (f : Foot) (change : List ℕ → List ℕ) (ws : List ℕ) (x : ℕ) → writes f x ≡ false → get_or (kept_to f change ws) x 0 ≡ get_or ws x 0
kept_keeps f change ws x off = ⊎_elim
    (λ (l : x < length ws). overlaid_at f (change (masked f ws)) ws x false l off)
    (λ (g : length ws ≤ x). get_or_past (kept_to f change ws) x 0 (omega (arith, kept_long f change ws, g)) ∙ sym (get_or_past ws x 0 g))
    (cases_lt x (length ws))

masked_agree : (f : Foot) (ws : List ℕ) → Agree (touches f) (masked f ws) ws
masked_agree f ws = record {
  long = length-masked f ws;
  same = λ x on. ⊎_elim
      (λ (l : x < length ws). sym (masked_at f ws x l on))
      (λ (g : length ws ≤ x). get_or_past (masked f ws) x 0 (omega (arith, length-masked f ws, g)) ∙ sym (get_or_past ws x 0 g))
      (cases_lt x (length ws));
}

-- such a change is the same if it is kept to its foot
pub kept_same : (f : Foot) (change : List ℕ → List ℕ) (ws : List ℕ) → IsByFoot f change → kept_to f change ws ≡ change ws
kept_same f change ws by =
    let long : length (kept_to f change ws) ≡ length ws = kept_long f change ws in
    ext_get_or 0 (kept_to f change ws) (change ws) (long ∙ sym (by.long ws))
    (λ i lt.
    let l : i < length ws = omega (arith, long, lt) in
    ⊎_elim
    (λ (t : writes f i ≡ true). overlaid_at f (change (masked f ws)) ws i true l t ∙ (by.agree (masked f ws) ws (masked_agree f ws)).same i (touched f i t))
    (λ (t : writes f i ≡ false). kept_keeps f change ws i t ∙ sym (by.keeps ws i t))
    (cases_Bool (writes f i)))

seen_same : (t : Bool) (u w : ℕ) → (t ≡ true → u ≡ w) → cond t u 0 ≡ cond t w 0
seen_same true u w h = h refl
seen_same false u w h = refl

-- words that agree on a foot look the same through it
masked_same : (f : Foot) (us ws : List ℕ) → Agree (touches f) us ws → masked f us ≡ masked f ws
unfolding masked
masked_same f us ws a =
    ap (table (λ x. cond (touches f x) (get_or us x 0) 0)) a.long
    ∙ table_same (λ x. cond (touches f x) (get_or us x 0) 0) (λ x. cond (touches f x) (get_or ws x 0) 0) (length ws) (λ x lt. seen_same (touches f x) (get_or us x 0) (get_or ws x 0) (a.same x))

kept_at : (f : Foot) (change : List ℕ → List ℕ) (us ws : List ℕ) (x : ℕ) → Agree (touches f) us ws → x < length ws → touches f x ≡ true → get_or (kept_to f change us) x 0 ≡ get_or (kept_to f change ws) x 0
kept_at f change us ws x a lt on = ⊎_elim
    (λ (t : writes f x ≡ true). overlaid_at f (change (masked f us)) us x true (omega (arith, a.long, lt)) t ∙ (ap (λ (vs : List ℕ). get_or (change vs) x 0) (masked_same f us ws a) ∙ sym (overlaid_at f (change (masked f ws)) ws x true lt t)))
    (λ (t : writes f x ≡ false). kept_keeps f change us x t ∙ (a.same x on ∙ sym (kept_keeps f change ws x t)))
    (cases_Bool (writes f x))

-- what is kept to a foot sees and changes it alone
pub kept_is_by_foot : (f : Foot) (change : List ℕ → List ℕ) → IsByFoot f (kept_to f change)
kept_is_by_foot f change = record {
  long = λ ws. kept_long f change ws;
  keeps = λ ws x off. kept_keeps f change ws x off;
  agree = λ us ws a. record {
    long = kept_long f change us ∙ (a.long ∙ sym (kept_long f change ws));
    same = λ x on. ⊎_elim
        (λ (l : x < length ws). kept_at f change us ws x a l on)
        (λ (g : length ws ≤ x). get_or_past (kept_to f change us) x 0 (omega (arith, kept_long f change us, a.long, g)) ∙ sym (get_or_past (kept_to f change ws) x 0 (omega (arith, kept_long f change ws, g))))
        (cases_lt x (length ws));
  };
}

-- ---- together

-- none, and one after the other
pub by_foot_none : (f : Foot) → IsByFoot f (λ ws. ws)
by_foot_none f = record { long = λ ws. refl; keeps = λ ws x off. refl; agree = λ us ws a. a }

pub by_foot_then : (f : Foot) (first second : List ℕ → List ℕ) → IsByFoot f first → IsByFoot f second → IsByFoot f (λ ws. second (first ws))
by_foot_then f first second a b = record {
  long = λ ws. b.long (first ws) ∙ a.long ws;
  keeps = λ ws x off. b.keeps (first ws) x off ∙ a.keeps ws x off;
  agree = λ us ws h. b.agree (first us) (first ws) (a.agree us ws h);
}

narrow : (f g : Foot) (x : ℕ) → IsPart f g → writes g x ≡ false → writes f x ≡ false
narrow f g x part off = ⊎_elim
    (λ (t : writes f x ≡ true). absurd (true≢false (sym (part.written x t) ∙ off)))
    (λ (t : writes f x ≡ false). t)
    (cases_Bool (writes f x))

-- with a wider foot
pub by_wider_foot : (f g : Foot) (change : List ℕ → List ℕ) → IsPart f g → IsByFoot f change → IsByFoot g change
by_wider_foot f g change part by = record {
  long = by.long;
  keeps = λ ws x off. by.keeps ws x (narrow f g x part off);
  agree = λ us ws a.
      let less : Agree (touches f) us ws = record { long = a.long; same = λ x on. a.same x (part.touched x on) } in record {
        long = by.long us ∙ (a.long ∙ sym (by.long ws));
        same = λ x on. ⊎_elim
            (λ (t : writes f x ≡ true). (by.agree us ws less).same x (touched f x t))
            (λ (t : writes f x ≡ false). by.keeps us x t ∙ (a.same x on ∙ sym (by.keeps ws x t)))
            (cases_Bool (writes f x));
      };
}
