-- A node that takes the place of another: the words that are given back, and the journals.
use Rattle.std.proofs.Common.{◌≡◌, ◌≤◌, ◌+◌, ℕ, ℤ, Bool, false, List, [], ◌∷◌, ◌++◌, Some, None, refl, ap, sym, ◌∙◌, arith, append_assoc}
use Rattle.std.specs.Prelude.{if◌then◌else◌, nat_eq}
use Rattle.std.proofs.lemmas.Bool.{cond_both}
use Rattle.sn_mem.specs.declared.extents.Extent.{Extent}
use Rattle.sn_pool.specs.Pools.{PoolState, same_extent, times, saved_of, with_extent}
use Rattle.sn_pool.specs.declared.pool.Mark.{Mark}
use Rattle.sn_tree.specs.Trees.{Label, Nodes, none, node, count}
use Rattle.sn_tree.specs.Members.{members}
use Rattle.sn_world.specs.declared.stage.Held.{Held}
use Rattle.sn_world.specs.declared.repetition.NewNode.{NewNode}
use Rattle.sn_world.specs.declared.stage.Stage.{Stage}
use Rattle.sn_world.specs.NewNodes.{replaces, gone_by}
use Rattle.sn_world.specs.Pictures.{held_extents, live_held, amount}
use Rattle.sn_world.proofs.Counting.{amount-append, times-amount, few_extents}
use Rattle.sn_world.proofs.Replacing.{amount-left, times-left}
use Rattle.sn_nodecmd.specs.Placing.{taken, IsGiven}

-- ---- the extents of a node and of all below it, as they are walked

abbrev pub member_extents : List (Label Held × ℕ) → List Extent
member_extents [] = []
member_extents (m ∷ ms) = held_extents m.0.payload ++ member_extents ms

members-append : (ms ns : List (Label Held × ℕ)) → member_extents (ms ++ ns) ≡ member_extents ms ++ member_extents ns
members-append [] ns = refl
members-append (m ∷ ms) ns = ap (λ (es : List Extent). held_extents m.0.payload ++ es) (members-append ms ns) ∙ sym (append_assoc (held_extents m.0.payload) (member_extents ms) (member_extents ns))

pub members-live : (t : Nodes Held) → member_extents (members t) ≡ live_held t
members-live none = refl
members-live (node l below after) = ap (λ (es : List Extent). held_extents l.payload ++ es) (members-append (members below) (members after) ∙ (λ i. members-live below i ++ members-live after i))

pub next-amount : (weight : Extent → ℕ) (ms rest : List (Label Held × ℕ)) (m : Label Held × ℕ) → ms ≡ m ∷ rest → amount weight (member_extents ms) ≡ amount weight (held_extents m.0.payload) + amount weight (member_extents rest)
next-amount weight ms rest m is = ap (λ (ns : List (Label Held × ℕ)). amount weight (member_extents ns)) is ∙ amount-append weight (held_extents m.0.payload) (member_extents rest)

pub next-times : (e : Extent) (ms rest : List (Label Held × ℕ)) (m : Label Held × ℕ) → ms ≡ m ∷ rest → times e (member_extents ms) ≡ times e (held_extents m.0.payload) + times e (member_extents rest)
next-times e ms rest m is = omega (arith, next-amount (λ y. if same_extent e y then 1 else 0) ms rest m is, times-amount e (member_extents ms), times-amount e (held_extents m.0.payload), times-amount e (member_extents rest))

pub none-times : (e : Extent) (ms : List (Label Held × ℕ)) → ms ≡ [] → times e (member_extents ms) ≡ 0
unfolding times
none-times e ms is = ap (λ (ns : List (Label Held × ℕ)). times e (member_extents ns)) is

pub gone-times : (e : Extent) (b : Bool) (target : ℤ) (t : Nodes Held) → b ≡ false → times e (live_held (gone_by b target t)) ≡ 0
unfolding times
gone-times e b target t stays = ap (λ (c : Bool). times e (live_held (gone_by c target t))) stays

-- ---- the pool

pub gone_within : (r : NewNode) (old : Stage) (begun : PoolState) (e : Extent) → times e (live_held old.tree.attached) ≤ times e old.pool.live → begun.live ≡ old.pool.live
    → times e (live_held (gone_by (replaces r.action) r.target old.tree.attached)) ≤ times e begun.live
gone_within r old begun e live same = omega (arith, live, times-left e (replaces r.action) r.target old.tree.attached, ap (times e) same)

pub gone_few : (r : NewNode) (old : Stage) (n : ℕ) → n ≡ count old.tree.attached → amount (λ e. 1) (live_held (gone_by (replaces r.action) r.target old.tree.attached)) ≤ n
gone_few r old n is = omega (arith, is, amount-left (λ e. 1) (replaces r.action) r.target old.tree.attached, few_extents old.tree.attached)

module _ (old begun given : PoolState) (mark : Mark) (n : ℕ) (begun_is : begun ≡ record old { journal = Some (record { mark = mark; saved = old.live; room = n }) }) (region : given.region ≡ begun.region) where
  -- a pool whose journal is closed again
  pub undone_pool : (now back : PoolState) → old.journal ≡ None → saved_of given.journal ≡ saved_of begun.journal → now ≡ given → back ≡ record now { live = saved_of now.journal; journal = None } → back ≡ old
  undone_pool now back closed saved now_is back_is =
      back_is
      ∙ ap (λ (p : PoolState). let q : PoolState = record p { live = saved_of p.journal; journal = None } in q) now_is
      ∙ (λ i. record { region = (region ∙ ap (λ (p : PoolState). p.region) begun_is) i; live = (saved ∙ ap (λ (p : PoolState). saved_of p.journal) begun_is) i; journal = sym closed i })

  pub given_is : (gone : List Extent) → ((e : Extent) → 1 ≤ e.len → times e begun.live ≡ times e gone + times e given.live) → IsGiven gone old (record given { journal = None })
  given_is gone live = record {
    live = λ e some. omega (arith, live e some, ap (λ (p : PoolState). times e p.live) begun_is);
    region = region ∙ ap (λ (p : PoolState). p.region) begun_is;
    closed = refl;
  }

taken-closed : (e : Extent) (pool : PoolState) → (let p : PoolState = record (taken e pool) { journal = None } in p) ≡ taken e (record pool { journal = None })
taken-closed e pool =
    cond_both (nat_eq e.len 0) pool (record pool { live = with_extent e pool.live })
    (λ (p : PoolState). (let q : PoolState = record p { journal = None } in q) ≡ taken e (record pool { journal = None }))
    (λ is. sym (ap (λ (b : Bool). if b then (record pool { journal = None }) else record pool { live = with_extent e pool.live; journal = None }) is))
    (λ is. sym (ap (λ (b : Bool). if b then (record pool { journal = None }) else record pool { live = with_extent e pool.live; journal = None }) is))

pub committed_pool : (e : Extent) (given now closed : PoolState) → now ≡ taken e given → closed ≡ record now { journal = None } → closed ≡ taken e (record given { journal = None })
committed_pool e given now closed now_is closed_is = closed_is ∙ ap (λ (p : PoolState). let q : PoolState = record p { journal = None } in q) now_is ∙ taken-closed e given
