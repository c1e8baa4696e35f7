-- What is sent to client after client.
use Rattle.std.proofs.Common.{◌≡◌, ◌≢◌, ◌⊎◌, ℕ, zero, suc, ◌+◌, ◌<◌, ◌≤◌, Bool, true, false, List, [], ◌∷◌, length, length-set, replicate, set, Option, refl, sym, ap, subst, ◌∙◌, inl, inr, ⊎_elim, le_refl, lt_of_not-le, arith}
use Rattle.std.specs.Prelude.{slice_index_or, slice_set}
use Rattle.std.proofs.lemmas.List.{get_or_default, get_or-set_other, get_or-set_same}
use native.Mathlib.Decide.{dec_le}
use mathlib.Core.Logic.{dite}
use Rattle.sn_engine.specs.Running.{Running}
use Rattle.sn_clients.specs.Written.{AllSend, Sends}

-- nothing is left to be sent to the first clients
abbrev pub cleared : ℕ → List (List ℕ) → List (List ℕ)
cleared zero rs = rs
cleared (suc k) [] = []
cleared (suc k) (r ∷ rs) = [] ∷ cleared k rs

cleared_next : (k : ℕ) (rs : List (List ℕ)) → k < length rs → slice_set (cleared k rs) k [] ≡ cleared (suc k) rs
cleared_next k [] within = absurd (omega (arith, within))
cleared_next zero (r ∷ rs) within = refl
cleared_next (suc k) (r ∷ rs) within = ap (λ (l : List (List ℕ)). [] ∷ l) (cleared_next k rs (omega (arith, within)))

pub cleared_at : (k : ℕ) (rs : List (List ℕ)) → slice_index_or (cleared k rs) k [] ≡ slice_index_or rs k []
cleared_at zero rs = refl
cleared_at (suc k) [] = refl
cleared_at (suc k) (r ∷ rs) = cleared_at k rs

pub cleared_all : (k : ℕ) (rs : List (List ℕ)) → k ≡ length rs → cleared k rs ≡ replicate (length rs) []
cleared_all zero [] e = refl
cleared_all (suc k) [] e = absurd (omega (arith, e))
cleared_all zero (r ∷ rs) e = absurd (omega (arith, e))
cleared_all (suc k) (r ∷ rs) e = ap (λ (l : List (List ℕ)). [] ∷ l) (cleared_all k rs (omega (arith, e)))

pub cleared_length : (k : ℕ) (rs : List (List ℕ)) → length (cleared k rs) ≡ length rs
cleared_length zero rs = refl
cleared_length (suc k) [] = refl
cleared_length (suc k) (r ∷ rs) = ap suc (cleared_length k rs)

-- one more
pub clears_next : (old mid new : Running) (k : ℕ) → mid ≡ record old { replies = cleared k old.replies } → new ≡ record mid { replies = slice_set mid.replies k [] } → k < length old.replies → new ≡ record old { replies = cleared (k + 1) old.replies }
clears_next old mid new k is next within =
    next ∙ ap (λ (r : Running). record r { replies = slice_set r.replies k [] }) is ∙ ap (λ (l : List (List ℕ)). record old { replies = l }) (cleared_next k old.replies within ∙ ap (λ (n : ℕ). cleared n old.replies) step)
  where
    step : suc k ≡ k + 1
    step = omega arith

pub either_below : (c k : ℕ) → c < k + 1 → (c < k) ⊎ (c ≡ k)
either_below c k lt = dite (dec_le k c) (λ le. inr (omega (arith, le, lt))) (λ n. inl (lt_of_not-le n))

module _ {R : Type 0} (taken : R → Option (List ℕ)) (faults : R → ℕ) where
  -- the first clients were sent what they were to be sent
  pub record IsSending (first now : List R) (failed_first failed_now : List Bool) (replies : List (List ℕ)) (k : ℕ) : Type 0 where
    pub sinks : length now ≡ length first
    pub flags : length failed_now ≡ length failed_first
    pub sent : (c : ℕ) (d : R) → c < k
        → Sends (slice_index_or failed_first c false) (slice_index_or failed_now c false) (taken (slice_index_or first c d)) (taken (slice_index_or now c d)) (faults (slice_index_or first c d)) (faults (slice_index_or now c d)) (slice_index_or replies c [])
    pub rest : (c : ℕ) (d : R) → k ≤ c → slice_index_or now c d ≡ slice_index_or first c d
    pub still : (c : ℕ) → k ≤ c → slice_index_or failed_now c false ≡ slice_index_or failed_first c false

  pub sends_none : (first : List R) (failed : List Bool) (replies : List (List ℕ)) → IsSending first first failed failed replies 0
  sends_none first failed replies = record { sinks = refl; flags = refl; sent = λ c d none. absurd (omega (arith, none)); rest = λ c d le. refl; still = λ c le. refl }

  pub sends_next : (first now next : List R) (failed_first failed_now failed_next : List Bool) (replies : List (List ℕ)) (k : ℕ) (d0 s : R) (f0 b : Bool) → IsSending first now failed_first failed_now replies k → k < length first → length failed_first ≡ length first
      → next ≡ set now k s → failed_next ≡ set failed_now k b → Sends (slice_index_or failed_now k f0) b (taken (slice_index_or now k d0)) (taken s) (faults (slice_index_or now k d0)) (faults s) (slice_index_or replies k [])
      → IsSending first next failed_first failed_next replies (k + 1)
  sends_next first now next failed_first failed_now failed_next replies k d0 s f0 b h within flags is failed_is sends = record {
    sinks = ap length is ∙ length-set now k s ∙ h.sinks;
    flags = ap length failed_is ∙ length-set failed_now k b ∙ h.flags;
    sent = λ c d lt. ⊎_elim (below c d) (λ (e : c ≡ k). subst (Sent d) (sym e) (here d)) (either_below c k lt);
    rest = λ c d le. ap (λ (l : List R). slice_index_or l c d) is ∙ get_or-set_other now k c s d (λ e. omega (arith, le, e)) ∙ h.rest c d (omega (arith, le));
    still = λ c le. ap (λ (l : List Bool). slice_index_or l c false) failed_is ∙ get_or-set_other failed_now k c b false (λ e. omega (arith, le, e)) ∙ h.still c (omega (arith, le));
  }
    where
      Sent : R → ℕ → Type 0
      Sent d c = Sends (slice_index_or failed_first c false) (slice_index_or failed_next c false) (taken (slice_index_or first c d)) (taken (slice_index_or next c d)) (faults (slice_index_or first c d)) (faults (slice_index_or next c d)) (slice_index_or replies c [])

      below : (c : ℕ) (d : R) → c < k → Sent d c
      below c d lt =
          let one : slice_index_or now c d ≡ slice_index_or next c d = sym (ap (λ (l : List R). slice_index_or l c d) is ∙ get_or-set_other now k c s d (λ e. omega (arith, lt, e))) in
          let flag : slice_index_or failed_now c false ≡ slice_index_or failed_next c false = sym (ap (λ (l : List Bool). slice_index_or l c false) failed_is ∙ get_or-set_other failed_now k c b false (λ e. omega (arith, lt, e))) in
          subst (λ (p : R × Bool). Sends (slice_index_or failed_first c false) p.1 (taken (slice_index_or first c d)) (taken p.0) (faults (slice_index_or first c d)) (faults p.0) (slice_index_or replies c [])) (λ i. (one i, flag i)) (h.sent c d lt)

      here : (d : R) → Sent d k
      here d =
          let inside : k < length now = subst (λ (n : ℕ). k < n) (sym h.sinks) within in
          let noted : k < length failed_now = subst (λ (n : ℕ). k < n) (sym (h.flags ∙ flags)) within in
          let was : slice_index_or now k d0 ≡ slice_index_or first k d = get_or_default now k d0 d inside ∙ h.rest k d (le_refl k) in
          let now_is : s ≡ slice_index_or next k d = sym (ap (λ (l : List R). slice_index_or l k d) is ∙ get_or-set_same now k s d inside) in
          let flag : slice_index_or failed_now k f0 ≡ slice_index_or failed_first k false = get_or_default failed_now k f0 false noted ∙ h.still k (le_refl k) in
          let flag_is : b ≡ slice_index_or failed_next k false = sym (ap (λ (l : List Bool). slice_index_or l k false) failed_is ∙ get_or-set_same failed_now k b false noted) in
          subst (λ (p : Bool × Bool × R × R). Sends p.0 p.1 (taken p.2) (taken p.3) (faults p.2) (faults p.3) (slice_index_or replies k [])) (λ i. (flag i, flag_is i, was i, now_is i)) sends

  pub all_sent : (first now : List R) (failed_first failed_now : List Bool) (replies : List (List ℕ)) (k : ℕ) → IsSending first now failed_first failed_now replies k → k ≡ length replies → length first ≡ length replies → length failed_first ≡ length replies
      → AllSend taken faults first now failed_first failed_now replies
  all_sent first now failed_first failed_now replies k h all sinks flags = record {
    sinks = h.sinks;
    flags = h.flags ∙ flags ∙ sym sinks;
    clients = sym sinks;
    sends = λ c d inside. h.sent c d (subst (λ (n : ℕ). c < n) (sinks ∙ sym all) inside);
  }
