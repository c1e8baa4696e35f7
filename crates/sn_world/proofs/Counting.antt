-- The extents of nodes, counted by weights, and by the words that they have.
use Rattle.std.proofs.Common.{◌≡◌, ◌≤◌, ◌<◌, ◌+◌, ◌||◌, ⊎_elim, ℕ, ℤ, Bool, true, false, List, [], ◌∷◌, ◌++◌, refl, ap, sym, ◌∙◌, arith}
use Rattle.std.specs.Prelude.{if◌then◌else◌, nat_le, nat_lt}
use Rattle.std.specs.Ordering.{int_eq}
use Rattle.std.proofs.lemmas.Bool.{cond_both, and_parts, or_cases, or_left, or_right, leb-true, ltb-true}
use Rattle.sn_mem.specs.declared.extents.Extent.{Extent}
use Rattle.sn_mem.specs.Words.{covers, has}
use Rattle.sn_pool.specs.Pools.{same_extent, times}
use Rattle.sn_pool.proofs.Counts.{same_itself, same_is}
use Rattle.sn_tree.specs.declared.node.NodeKind.{NodeKind}
use Rattle.sn_tree.specs.declared.node.AddAction.{AddAction}
use Rattle.sn_tree.specs.declared.node.AddAction.TheVariants.{Head, Tail, Before, After}
use Rattle.sn_tree.specs.Trees.{Label, Nodes, none, node, count, holds, joined, beside, put, leaf, subtree, without}
use Rattle.sn_world.specs.declared.stage.Held.{Held}
use Rattle.sn_world.specs.declared.stage.Held.TheVariants as held
use Rattle.sn_mem.specs.Buffers.{overlaps}
use Rattle.sn_world.specs.Pictures.{held_extents, live_held, amount}

third : (p q r : Bool) → (p || (q || r)) ≡ true → p ≡ false → q ≡ false → r ≡ true
third false false r h e f = h
third false true r h e f = absurd cc
third true q r h e f = absurd cc

module _ (weight : Extent → ℕ) where
  pub amount-append : (es fs : List Extent) → amount weight (es ++ fs) ≡ amount weight es + amount weight fs
  unfolding amount
  amount-append [] fs = omega arith
  amount-append (e ∷ es) fs = omega (arith, amount-append es fs)

  pub amount-parts : (l : Label Held) (below after : Nodes Held) → amount weight (live_held (node l below after)) ≡ amount weight (held_extents l.payload) + (amount weight (live_held below) + amount weight (live_held after))
  amount-parts l below after =
      amount-append (held_extents l.payload) (live_held below ++ live_held after)
      ∙ ap (λ n. amount weight (held_extents l.payload) + n) (amount-append (live_held below) (live_held after))

  pub amount-none : amount weight (live_held none) ≡ 0
  unfolding amount
  amount-none = refl

  pub amount-joined : (s t : Nodes Held) → amount weight (live_held (joined s t)) ≡ amount weight (live_held s) + amount weight (live_held t)
  amount-joined none t = omega (arith, amount-none)
  amount-joined (node l below after) t = omega (arith, amount-parts l below (joined after t), amount-joined after t, amount-parts l below after)

  pub amount-leaf : (id : ℤ) (kind : NodeKind) (h : Held) → amount weight (live_held (leaf id kind h)) ≡ amount weight (held_extents h)
  amount-leaf id kind h = omega (arith, amount-parts (record { id = id; kind = kind; running = true; payload = h }) none none, amount-none)

  amount-beside : (action : AddAction) (new : Nodes Held) (l : Label Held) (below after : Nodes Held) → amount weight (live_held (beside action new l below after)) ≡ amount weight (live_held new) + amount weight (live_held (node l below after))
  amount-beside Head new l below after = omega (arith, amount-parts l (joined new below) after, amount-joined new below, amount-parts l below after)
  amount-beside Tail new l below after = omega (arith, amount-parts l (joined below new) after, amount-joined below new, amount-parts l below after)
  amount-beside Before new l below after = amount-joined new (node l below after)
  amount-beside After new l below after = omega (arith, amount-parts l below (joined new after), amount-joined new after, amount-parts l below after)

  -- a node that is put
  pub amount-put : (action : AddAction) (target : ℤ) (new t : Nodes Held) → holds target t ≡ true → amount weight (live_held (put action target new t)) ≡ amount weight (live_held new) + amount weight (live_held t)
  amount-put action target new none there = absurd cc
  amount-put action target new (node l below after) there =
      let parts = amount-parts l below after in
      cond_both (int_eq l.id target) (beside action new l below after) (if holds target below then node l (put action target new below) after else node l below (put action target new after))
      (λ (s : Nodes Held). amount weight (live_held s) ≡ amount weight (live_held new) + amount weight (live_held (node l below after)))
      (λ _. amount-beside action new l below after)
      (λ other. cond_both (holds target below) (node l (put action target new below) after) (node l below (put action target new after))
      (λ (s : Nodes Held). amount weight (live_held s) ≡ amount weight (live_held new) + amount weight (live_held (node l below after)))
      (λ inner. omega (arith, parts, amount-parts l (put action target new below) after, amount-put action target new below inner))
      (λ outer. omega (arith, parts, amount-parts l below (put action target new after), amount-put action target new after (third (int_eq l.id target) (holds target below) (holds target after) there other outer))))

  -- a subtree that is taken out
  pub amount-without : (id : ℤ) (t : Nodes Held) → amount weight (live_held (without id t)) + amount weight (live_held (subtree id t)) ≡ amount weight (live_held t)
  amount-without id none = omega (arith, amount-none)
  amount-without id (node l below after) =
      at (int_eq l.id id) (holds id below) (amount-without id below) (amount-without id after)
    where
      at : (here inner : Bool) → amount weight (live_held (without id below)) + amount weight (live_held (subtree id below)) ≡ amount weight (live_held below) → amount weight (live_held (without id after)) + amount weight (live_held (subtree id after)) ≡ amount weight (live_held after)
          → amount weight (live_held (if here then after else if inner then node l (without id below) after else node l below (without id after))) + amount weight (live_held (if here then node l below none else if inner then subtree id below else subtree id after)) ≡ amount weight (live_held (node l below after))
      at true inner b a = omega (arith, amount-parts l below none, amount-parts l below after, amount-none)
      at false true b a = omega (arith, amount-parts l (without id below) after, amount-parts l below after, b)
      at false false b a = omega (arith, amount-parts l below (without id after), amount-parts l below after, a)

-- ---- the weights that are counted

pub overlaps-amount : (x : ℕ) (es : List Extent) → overlaps x es ≡ amount (λ e. if covers e x then 1 else 0) es
unfolding amount
overlaps-amount x [] = refl
overlaps-amount x (e ∷ es) = omega (arith, overlaps-amount x es)

pub times-amount : (e : Extent) (es : List Extent) → times e es ≡ amount (λ y. if same_extent e y then 1 else 0) es
unfolding times amount
times-amount e [] = refl
times-amount e (y ∷ ys) = omega (arith, times-amount e ys)

few_own : (h : Held) → amount (λ e. 1) (held_extents h) ≤ 1
unfolding amount
few_own held.Group = omega arith
few_own (held.Synth def controls state) = omega arith

-- there are no more extents than nodes
pub few_extents : (t : Nodes Held) → amount (λ e. 1) (live_held t) ≤ count t
few_extents none = omega (arith, amount-none (λ e. 1))
few_extents (node l below after) = omega (arith, amount-parts (λ e. 1) l below after, few_extents below, few_extents after, few_own l.payload)

-- ---- the words in extents that are counted alike

counted : (b : Bool) → b ≡ true → ◌≡◌ {A = ℕ} (if b then 1 else 0) 1
counted b e = ap (λ (c : Bool). let n : ℕ = if c then 1 else 0 in n) e

-- a word lies in one of the extents
pub record IsIn (es : List Extent) (x : ℕ) : Type 0 where
  pub extent : Extent
  pub covers_it : covers extent x ≡ true
  pub some : 0 < times extent es

is_in : (es : List Extent) (x : ℕ) → has es x ≡ true → IsIn es x
unfolding times
is_in [] x h = absurd cc
is_in (e ∷ es) x h = ⊎_elim
    (λ (here : covers e x ≡ true). record { extent = e; covers_it = here; some = omega (arith, counted (same_extent e e) (same_itself e)) })
    (λ (later : has es x ≡ true). let there = is_in es x later in record { extent = there.extent; covers_it = there.covers_it; some = omega (arith, there.some) })
    (or_cases (covers e x) (has es x) h)

has-in : (es : List Extent) (e : Extent) (x : ℕ) → 0 < times e es → covers e x ≡ true → has es x ≡ true
unfolding times
has-in [] e x some c = absurd (omega (arith, some))
has-in (y ∷ ys) e x some c = at (same_extent e y) refl (λ more. has-in ys e x more c) some
  where
    at : (b : Bool) → same_extent e y ≡ b → (0 < times e ys → has ys x ≡ true) → 0 < (if b then 1 else 0) + times e ys → (covers y x || has ys x) ≡ true
    at true same later more = or_left (covers y x) (has ys x) (ap (λ z. covers z x) (sym (same_is e y same)) ∙ c)
    at false other later more = or_right (covers y x) (has ys x) (later (omega (arith, more)))

pub has_word : (e : Extent) (x : ℕ) → covers e x ≡ true → 1 ≤ e.len
has_word e x c = let p = and_parts (nat_le e.at x) (nat_lt x (e.at + e.len)) c in omega (arith, leb-true e.at x p.0, ltb-true x (e.at + e.len) p.1)

has-counted : (es fs : List Extent) → ((e : Extent) → 1 ≤ e.len → times e es ≡ times e fs) → (x : ℕ) → has es x ≡ true → has fs x ≡ true
has-counted es fs same x h = let there = is_in es x h in
    has-in fs there.extent x (omega (arith, there.some, same there.extent (has_word there.extent x there.covers_it))) there.covers_it

-- extents that are counted alike have the same words
pub has-same : (es fs : List Extent) → ((e : Extent) → 1 ≤ e.len → times e es ≡ times e fs) → (x : ℕ) → has es x ≡ has fs x
has-same es fs same x = at (has es x) (has fs x) (has-counted es fs same x) (has-counted fs es (λ e some. sym (same e some)) x)
  where
    at : (a b : Bool) → (a ≡ true → b ≡ true) → (b ≡ true → a ≡ true) → a ≡ b
    at true b to from = sym (to refl)
    at false true to from = from refl
    at false false to from = refl

pub times-append : (e : Extent) (es fs : List Extent) → times e (es ++ fs) ≡ times e es + times e fs
unfolding times
times-append e [] fs = omega arith
times-append e (y ∷ ys) fs = omega (arith, times-append e ys fs)
