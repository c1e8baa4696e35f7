-- Clients that are changed one after the other.
use Rattle.std.proofs.Common.{◌≡◌, ◌++◌, ◌+◌, ◌<◌, ◌≤◌, ℕ, zero, suc, Bool, List, [], ◌∷◌, drop, length, length-append, length-set, set, refl, sym, ap, subst, ◌∙◌, inl, inr, ⊎_elim, le_refl, arith}
use Rattle.std.specs.Prelude.{Some, slice_get, slice_index_or}
use Rattle.std.proofs.lemmas.List.{get_or_default, get_or-set_other, get_or-set_same}
use Rattle.sn_clients.specs.declared.clients.Client.{Client}
use Rattle.sn_clients.specs.declared.ends.Sender.{Sender}
use Rattle.sn_clients.specs.declared.clients.ClientEnd.TheVariants.{Stopped}
use Rattle.sn_clients.specs.declared.seats.Inlet.{Inlet}
use Rattle.sn_clients.specs.declared.seats.Relay.{Relay}
use Rattle.sn_clients.specs.Answers.{AreNewInlets}
use Rattle.sn_clients.specs.Seating.{IsGathered, IsSeated}
use Rattle.sn_clients.proofs.SendLemmas.{either_below}

module _ {X : Type 0} (P : ℕ → X → X → Type 0) where
  -- the first k were changed in this way, and the others were not
  pub record AreChanged (first now : List X) (k : ℕ) : Type 0 where
    pub count : length now ≡ length first
    pub changed : (c : ℕ) (d : X) → c < k → P c (slice_index_or first c d) (slice_index_or now c d)
    pub rest : (c : ℕ) (d : X) → k ≤ c → slice_index_or now c d ≡ slice_index_or first c d

  pub none_changed : (first : List X) → AreChanged first first 0
  none_changed first = record { count = refl; changed = λ c d none. absurd (omega (arith, none)); rest = λ c d le. refl }

  pub next_changed : (first now next : List X) (k : ℕ) (d0 y : X) → AreChanged first now k → k < length first → next ≡ set now k y → P k (slice_index_or now k d0) y → AreChanged first next (k + 1)
  next_changed first now next k d0 y h within is p = record {
    count = ap length is ∙ length-set now k y ∙ h.count;
    changed = λ c d lt. ⊎_elim
        (λ below. subst (P c (slice_index_or first c d)) (sym (ap (λ (l : List X). slice_index_or l c d) is ∙ get_or-set_other now k c y d (λ e. omega (arith, below, e)))) (h.changed c d below))
        (λ (e : c ≡ k). subst (λ (j : ℕ). P j (slice_index_or first j d) (slice_index_or next j d)) (sym e) (here d))
        (either_below c k lt);
    rest = λ c d le. ap (λ (l : List X). slice_index_or l c d) is ∙ get_or-set_other now k c y d (λ e. omega (arith, le, e)) ∙ h.rest c d (omega (arith, le));
  }
    where
      here : (d : X) → P k (slice_index_or first k d) (slice_index_or next k d)
      here d =
          let inside : k < length now = subst (λ (n : ℕ). k < n) (sym h.count) within in
          let was : slice_index_or now k d0 ≡ slice_index_or first k d = get_or_default now k d0 d inside ∙ h.rest k d (le_refl k) in
          let now_is : y ≡ slice_index_or next k d = sym (ap (λ (l : List X). slice_index_or l k d) is ∙ get_or-set_same now k y d inside) in
          subst (λ (z : X). P k z (slice_index_or next k d)) was (subst (P k (slice_index_or now k d0)) now_is p)

-- a client was given the inlet that stands at its number
pub record IsGiven {S : Type 0} (inlets : List Inlet) (c : ℕ) (old new : Client S) : Type 0 where
  pub inlet : Inlet
  pub stands : slice_get inlets c ≡ Some inlet
  pub given : new ≡ record old { end = Stopped; read = Stopped; inlet = Some inlet }

-- what stands first after k elements
pub at_front : {X : Type 0} (xs : List X) (k : ℕ) (x : X) (rest : List X) → drop k xs ≡ x ∷ rest → (slice_get xs k ≡ Some x) × (drop (k + 1) xs ≡ rest)
at_front [] zero x rest e = absurd (omega (arith, ap length e))
at_front [] (suc k) x rest e = absurd (omega (arith, ap length e))
at_front (y ∷ ys) zero x rest e = (ap (λ (l : List _). slice_get l 0) e, ap (drop 1) e)
at_front (y ∷ ys) (suc k) x rest e =
    let h = at_front ys k x rest e in
    let step : suc k + 1 ≡ suc (k + 1) = omega arith in
    (h.0, ap (λ (n : ℕ). drop n (y ∷ ys)) step ∙ h.1)

pub is_seated : {S : Type 0} (relay : Relay) (inlets : List Inlet) (c : ℕ) (old new : Client S) → AreNewInlets relay inlets → IsGiven inlets c old new → IsSeated relay c old new
is_seated relay inlets c old new fresh g = record { inlet = g.inlet; fresh = fresh c g.inlet g.stands; seated = g.given }

-- ---- inlets that are gathered

at_append : {X : Type 0} (xs : List X) (x : X) (c : ℕ) (d : X) → c < length xs → slice_index_or (xs ++ x ∷ []) c d ≡ slice_index_or xs c d
at_append [] x c d lt = absurd (omega (arith, lt))
at_append (y ∷ xs) x zero d lt = refl
at_append (y ∷ xs) x (suc c) d lt = at_append xs x c d (omega (arith, lt))

at_last : {X : Type 0} (xs : List X) (x : X) (c : ℕ) (d : X) → c ≡ length xs → slice_index_or (xs ++ x ∷ []) c d ≡ x
at_last [] x zero d e = refl
at_last [] x (suc c) d e = absurd (omega (arith, e))
at_last (y ∷ xs) x zero d e = absurd (omega (arith, e))
at_last (y ∷ xs) x (suc c) d e = at_last xs x c d (omega (arith, e))

module _ {S : Type 0} (stopped : Bool) where
  pub record AreGathered (first now : List (Client S)) (senders : List Sender) (k : ℕ) : Type 0 where
    pub count : length now ≡ length first
    pub many : length senders ≡ k
    pub gathered : (c : ℕ) (d : Client S) (s : Sender) → c < k → IsGathered stopped c (slice_index_or first c d) (slice_index_or now c d) (slice_index_or senders c s)
    pub rest : (c : ℕ) (d : Client S) → k ≤ c → slice_index_or now c d ≡ slice_index_or first c d

  pub none_gathered : (first : List (Client S)) (senders : List Sender) → senders ≡ [] → AreGathered first first senders 0
  none_gathered first senders none = record { count = refl; many = ap length none; gathered = λ c d s less. absurd (omega (arith, less)); rest = λ c d le. refl }

  pub next_gathered : (first now next : List (Client S)) (senders more : List Sender) (k : ℕ) (d0 y : Client S) (sender : Sender) → AreGathered first now senders k → k < length first → next ≡ set now k y → more ≡ senders ++ sender ∷ []
      → IsGathered stopped k (slice_index_or now k d0) y sender → AreGathered first next more (k + 1)
  next_gathered first now next senders more k d0 y sender h within is more_is g = record {
    count = ap length is ∙ length-set now k y ∙ h.count;
    many = ap length more_is ∙ length-append senders (sender ∷ []) ∙ ap (λ (n : ℕ). n + 1) h.many;
    gathered = λ c d s lt. ⊎_elim (λ below. old c d s below) (λ (e : c ≡ k). subst (λ (j : ℕ). IsGathered stopped j (slice_index_or first j d) (slice_index_or next j d) (slice_index_or more j s)) (sym e) (here d s)) (either_below c k lt);
    rest = λ c d le. ap (λ (l : List (Client S)). slice_index_or l c d) is ∙ get_or-set_other now k c y d (λ e. omega (arith, le, e)) ∙ h.rest c d (omega (arith, le));
  }
    where
      old : (c : ℕ) (d : Client S) (s : Sender) → c < k → IsGathered stopped c (slice_index_or first c d) (slice_index_or next c d) (slice_index_or more c s)
      old c d s below =
          let one : slice_index_or now c d ≡ slice_index_or next c d = sym (ap (λ (l : List (Client S)). slice_index_or l c d) is ∙ get_or-set_other now k c y d (λ e. omega (arith, below, e))) in
          let two : slice_index_or senders c s ≡ slice_index_or more c s = sym (ap (λ (l : List Sender). slice_index_or l c s) more_is ∙ at_append senders sender c s (subst (λ (n : ℕ). c < n) (sym h.many) below)) in
          subst (λ (p : Client S × Sender). IsGathered stopped c (slice_index_or first c d) p.0 p.1) (λ i. (one i, two i)) (h.gathered c d s below)

      here : (d : Client S) (s : Sender) → IsGathered stopped k (slice_index_or first k d) (slice_index_or next k d) (slice_index_or more k s)
      here d s =
          let inside : k < length now = subst (λ (n : ℕ). k < n) (sym h.count) within in
          let was : slice_index_or now k d0 ≡ slice_index_or first k d = get_or_default now k d0 d inside ∙ h.rest k d (le_refl k) in
          let now_is : y ≡ slice_index_or next k d = sym (ap (λ (l : List (Client S)). slice_index_or l k d) is ∙ get_or-set_same now k y d inside) in
          let sent : sender ≡ slice_index_or more k s = sym (ap (λ (l : List Sender). slice_index_or l k s) more_is ∙ at_last senders sender k s (sym h.many)) in
          subst (λ (p : Client S × Client S × Sender). IsGathered stopped k p.0 p.1 p.2) (λ i. (was i, now_is i, sent i)) g
