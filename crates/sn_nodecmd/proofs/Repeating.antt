-- Repetitions, one after the other.
use Rattle.std.proofs.Common.{◌≡◌, ◌≤◌, ◌<◌, ◌-◌, ◌+◌, ℕ, suc, List, [], ◌∷◌, drop, length, get_or, drop-cons, Option, Some, None, Result, Ok, Err, refl, ap, sym, subst, ◌∙◌, arith}
use Rattle.std.specs.Prelude.{◌*◌, ◌^◌, IfSome}
use Rattle.std.proofs.lemmas.List.{drop_all}
use Rattle.sn_ports.specs.declared.failed.NoMemory.{NoMemory}
use Rattle.sn_osc.specs.Shape.{Argument}
use Rattle.sn_pool.specs.declared.pool.Mark.{Mark}
use Rattle.sn_reply.specs.declared.reason.Reason.{Reason}
use Rattle.sn_world.specs.declared.stage.Stage.{Stage}
use Rattle.sn_world.specs.World.{World, Turn}
use Rattle.sn_world.specs.Rows.{another, singles, pairs, unless, steps, row, some_of}
use Rattle.sn_world.specs.Answers.{Follows, UnlessFollowed}
use Rattle.sn_nodecmd.specs.Alone.{single, pair}
use Rattle.sn_nodecmd.specs.Folding.{Steps, Keeps, IsUnderway}
use Rattle.sn_nodecmd.proofs.Underway.{underway_more}

drop_next : {A : Type 0} (xs : List A) (i : ℕ) (x : A) → i < length xs → x ≡ get_or xs i x → drop i xs ≡ x ∷ drop (i + 1) xs
drop_next xs i x lt is =
    let one : suc i ≡ i + 1 = omega arith in
    drop-cons xs i x lt ∙ ap (λ y. y ∷ drop (suc i) xs) (sym is) ∙ ap (λ n. x ∷ drop n xs) one

module _ {R : Type 0} (judge : World → R → Option Reason) (act : R → Turn → Turn) where
  -- one that was done
  pub step_done : (rs : List R) (i : ℕ) (r : R) (t t' : Turn) (o : Result (Option Reason) NoMemory) → i < length rs → r ≡ get_or rs i r → Steps o (judge t.world r) (act r t) t' → o ≡ Ok None
      → steps judge act (drop (i + 1) rs) t' ≡ steps judge act (drop i rs) t
  step_done rs i r t t' o lt item is done =
      let s = subst (λ (q : Result (Option Reason) NoMemory). Steps q (judge t.world r) (act r t) t') done is in
      sym (ap (λ (qs : List R). steps judge act qs t) (drop_next rs i r lt item)
      ∙ ap (λ (q : Option Reason). unless q (steps judge act (drop (i + 1) rs) (act r t))) s.0
      ∙ ap (steps judge act (drop (i + 1) rs)) s.1)

  -- all of them
  pub steps_all : (rs : List R) (i : ℕ) (t : Turn) → length rs ≤ i → steps judge act (drop i rs) t ≡ Ok t
  steps_all rs i t past = ap (λ (qs : List R). steps judge act qs t) (drop_all i rs past)

pub unless_any : (o : Result (Option Reason) NoMemory) (P : Type 0) → P → UnlessFollowed o P
unless_any (Ok None) P p = tt
unless_any (Ok (Some reason)) P p = p
unless_any (Err e) P p = p

pub underway_next : {R : Type 0} (rs : List R) (i : ℕ) {mark : Mark} {old now new : Stage} → i < length rs → IsUnderway (length rs - i) mark old now → Keeps now new → IsUnderway (length rs - (i + 1)) mark old new
underway_next rs i {mark} {old} {now} {new} lt is keeps =
    underway_more (length rs - (i + 1)) mark old now new (subst (λ n. IsUnderway n mark old now) (let e : length rs - i ≡ 1 + (length rs - (i + 1)) = omega (arith, lt) in e) is) keeps

pub row_read : {R : Type 0} (judge : World → R → Option Reason) (act : R → Turn → Turn) (o : Option (List R)) (rs : List R) (result : Result (Option Reason) NoMemory) (t after : Turn) → Some rs ≡ o
    → Follows result (steps judge act rs t) after → Follows result (row judge act o t) after
row_read {R} judge act o rs result t after is follows = subst (λ (q : Option (List R)). Follows result (row judge act q t) after) is follows

-- ---- one repetition alone

pub single_read : {R : Type 0} (p : Argument → Option R) (xs : List Argument) (one : R) → Some one ≡ single p xs → Some (one ∷ []) ≡ some_of (singles p xs)
single_read p [] one is = absurd cc
single_read {R} p (x ∷ []) one is = ap (λ (o : Option R). some_of (another o (Some []))) is
single_read p (x ∷ y ∷ rest) one is = absurd cc

pub pair_read : {R : Type 0} (p : Argument → Argument → Option R) (xs : List Argument) (one : R) → Some one ≡ pair p xs → Some (one ∷ []) ≡ some_of (pairs p xs)
pair_read p [] one is = absurd cc
pair_read p (x ∷ []) one is = absurd cc
pair_read {R} p (x ∷ y ∷ []) one is = ap (λ (o : Option R). some_of (another o (Some []))) is
pair_read p (x ∷ y ∷ z ∷ rest) one is = absurd cc

-- ---- repetitions as they are read

pub row_by : {R : Type 0} (judge : World → R → Option Reason) (act : R → Turn → Turn) (found read : Option (List R)) (result : Result (Option Reason) NoMemory) (t after : Turn) → found ≡ read
    → Follows result (row judge act (some_of found) t) after → Follows result (row judge act (some_of read) t) after
row_by {R} judge act found read result t after is follows = subst (λ (o : Option (List R)). Follows result (row judge act (some_of o) t) after) is follows

pub few_some : {R : Type 0} (o : Option (List R)) (rs : List R) → Some rs ≡ o → IfSome o (λ all. length all < 2 ^ 31) → length rs < 2 ^ 31
few_some {R} o rs is few = subst (λ (q : Option (List R)). IfSome q (λ all. length all < 2 ^ 31)) (sym is) few

-- no more than arguments
pub few_read : {R : Type 0} (found read : Option (List R)) (n : ℕ) → found ≡ read → ((rs : List R) → Some rs ≡ some_of read → length rs ≤ n) → 16 * n + 2 ^ 20 < 2 ^ 31 → IfSome (some_of found) (λ all. length all < 2 ^ 31)
few_read {R} found read n is no_more few = at (some_of found) (λ rs h. no_more rs (h ∙ ap some_of is))
  where
    at : (o : Option (List R)) → ((rs : List R) → Some rs ≡ o → length rs ≤ n) → IfSome o (λ all. length all < 2 ^ 31)
    at None h = tt
    at (Some rs) h = omega (arith, h rs refl, few)
