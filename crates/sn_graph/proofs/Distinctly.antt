-- If ids are distinct, what the walk reaches by an id is one node.
use Rattle.std.proofs.Common.{◌≡◌, ◌≤◌, ◌⊎◌, inl, inr, ⊎_elim, ℕ, ◌+◌, ℤ, true, false, ◌||◌, refl, if◌then◌else◌, List, ◌∷◌, ◌++◌, Option, Some, sym, ap, ◌∙◌, subst, arith, true≢false}
use Rattle.std.specs.Prelude.{◌↔◌, map}
use Rattle.std.specs.List.{list_any}
use Rattle.std.specs.Ordering.{int_eq}
use Rattle.std.proofs.lemmas.Bool.{cases_Bool, cond-true, cond-false, or_cases, or_left, or_right}
use Rattle.std.proofs.lemmas.Bool.Decides.{Decides-int_eq}
use Rattle.std.proofs.lemmas.List.Folds.{list_any-append}
use Rattle.sn_mem.specs.declared.buffers.BufferPlace.{BufferPlace}
use Rattle.sn_tree.specs.declared.node.NodeKind.TheVariants as kinds
use Rattle.sn_tree.specs.Steps.{AllDistinct, occurrences}
use Rattle.sn_tree.proofs.Distinct.{occurs-node}
use Rattle.sn_tree.specs.Trees.{Label, Nodes, none, node, holds, ids, running_labels}
use Rattle.sn_world.specs.declared.stage.Held.{Held}
use Rattle.sn_foot.specs.Footprints.{is_reached, is_there}
use Rattle.sn_foot.specs.Uses.{held_uses}
use Rattle.sn_clash.specs.Clashing.{clashes}
use Rattle.sn_graph.specs.Plans.{is_listed}
use Rattle.sn_graph.specs.Clear.{IsClashing, TwoClash}
use Rattle.sn_graph.proofs.Labels.{children_after, children_below, children_here, kind_after, kind_below, kind_here, some_is}
use Rattle.sn_graph.proofs.Naming.{Named, found_named, named_found}

-- ---- ids once

abbrev pub Distinct : Nodes Held → Type 0
Distinct t = (x : ℤ) → occurrences int_eq x (ids t) ≤ 1

pub held_some : (x : ℤ) (t : Nodes Held) → holds x t ≡ true → 1 ≤ occurrences int_eq x (ids t)
held_some x none h = absurd (cc)
held_some x (node label below after) h =
    ⊎_elim
    (λ (a : int_eq label.id x ≡ true). let one : ◌≡◌ {A = ℕ} (if int_eq label.id x then 1 else 0) 1 = rw a refl in omega (arith, occurs-node x label below after))
    (λ (b : (holds x below || holds x after) ≡ true). ⊎_elim
    (λ (a : holds x below ≡ true). omega (arith, occurs-node x label below after, held_some x below a))
    (λ (a : holds x after ≡ true). omega (arith, occurs-node x label below after, held_some x after a))
    (or_cases (holds x below) (holds x after) b))
    (or_cases (int_eq label.id x) (holds x below || holds x after) h)

pub not_here : (label : Label Held) (below after : Nodes Held) (x : ℤ) → Distinct (node label below after) → 1 ≤ occurrences int_eq x (ids below) + occurrences int_eq x (ids after) → int_eq label.id x ≡ false
not_here label below after x one some =
    ⊎_elim
    (λ (a : int_eq label.id x ≡ true). let here : ◌≡◌ {A = ℕ} (if int_eq label.id x then 1 else 0) 1 = rw a refl in absurd (omega (arith, occurs-node x label below after, one x)))
    (λ (a : int_eq label.id x ≡ false). a)
    (cases_Bool (int_eq label.id x))

pub not_below : (label : Label Held) (below after : Nodes Held) (x : ℤ) → Distinct (node label below after) → holds x after ≡ true → holds x below ≡ false
not_below label below after x one h =
    ⊎_elim
    (λ (a : holds x below ≡ true). absurd (omega (arith, occurs-node x label below after, one x, held_some x below a, held_some x after h)))
    (λ (a : holds x below ≡ false). a)
    (cases_Bool (holds x below))

pub distinct_below : (label : Label Held) (below after : Nodes Held) → Distinct (node label below after) → Distinct below
distinct_below label below after one = λ x. omega (arith, occurs-node x label below after, one x)

pub distinct_after : (label : Label Held) (below after : Nodes Held) → Distinct (node label below after) → Distinct after
distinct_after label below after one = λ x. omega (arith, occurs-node x label below after, one x)

-- ---- what is reached

reached_append : (id : ℤ) (xs ys : List (Label Held)) → list_any (λ l. int_eq l.id id) (xs ++ ys) ≡ (list_any (λ l. int_eq l.id id) xs || list_any (λ l. int_eq l.id id) ys)
reached_append id xs ys = list_any-append (λ l. int_eq l.id id) xs ys

reached_running : (id : ℤ) (label : Label Held) (below after : Nodes Held) → label.running ≡ true → is_reached id (node label below after) ≡ (int_eq label.id id || (is_reached id below || is_reached id after))
reached_running id label below after run =
    ap (λ ls. list_any (λ (l : Label Held). int_eq l.id id) ls) (cond-true label.running (label ∷ (running_labels below ++ running_labels after)) (running_labels after) run)
    ∙ ap (λ b. int_eq label.id id || b) (reached_append id (running_labels below) (running_labels after))

reached_paused : (id : ℤ) (label : Label Held) (below after : Nodes Held) → label.running ≡ false → is_reached id (node label below after) ≡ is_reached id after
reached_paused id label below after paused =
    ap (λ ls. list_any (λ (l : Label Held). int_eq l.id id) ls) (cond-false label.running (label ∷ (running_labels below ++ running_labels after)) (running_labels after) paused)

-- it is reached at the node, below it or after it
reached_cases : (id : ℤ) (label : Label Held) (below after : Nodes Held) → is_reached id (node label below after) ≡ true → ((label.running ≡ true) × ((int_eq label.id id ≡ true) ⊎ (is_reached id below ≡ true))) ⊎ (is_reached id after ≡ true)
reached_cases id label below after h = ⊎_elim
    (λ (run : label.running ≡ true). ⊎_elim
    (λ (a : int_eq label.id id ≡ true). inl (run, inl a))
    (λ (b : (is_reached id below || is_reached id after) ≡ true). ⊎_elim
    (λ (a : is_reached id below ≡ true). inl (run, inr a))
    (λ (a : is_reached id after ≡ true). inr a)
    (or_cases (is_reached id below) (is_reached id after) b))
    (or_cases (int_eq label.id id) (is_reached id below || is_reached id after) (sym (reached_running id label below after run) ∙ h)))
    (λ (paused : label.running ≡ false). inr (sym (reached_paused id label below after paused) ∙ h))
    (cases_Bool label.running)

reached_after : (id : ℤ) (label : Label Held) (below after : Nodes Held) → is_reached id after ≡ true → is_reached id (node label below after) ≡ true
reached_after id label below after h = ⊎_elim
    (λ (run : label.running ≡ true). reached_running id label below after run ∙ or_right (int_eq label.id id) (is_reached id below || is_reached id after) (or_right (is_reached id below) (is_reached id after) h))
    (λ (paused : label.running ≡ false). reached_paused id label below after paused ∙ h)
    (cases_Bool label.running)

reached_held : (id : ℤ) (t : Nodes Held) → is_reached id t ≡ true → holds id t ≡ true
reached_held id none h = absurd (true≢false (sym h))
reached_held id (node label below after) h = ⊎_elim
    (λ (r : (label.running ≡ true) × ((int_eq label.id id ≡ true) ⊎ (is_reached id below ≡ true))). ⊎_elim
    (λ (a : int_eq label.id id ≡ true). or_left (int_eq label.id id) (holds id below || holds id after) a)
    (λ (a : is_reached id below ≡ true). or_right (int_eq label.id id) (holds id below || holds id after) (or_left (holds id below) (holds id after) (reached_held id below a)))
    r.1)
    (λ (a : is_reached id after ≡ true). or_right (int_eq label.id id) (holds id below || holds id after) (or_right (holds id below) (holds id after) (reached_held id after a)))
    (reached_cases id label below after h)

module _ (buffers : List (Option BufferPlace)) where
  named_clashing : (id : ℤ) (t : Nodes Held) → Distinct t → Named buffers id t → IsClashing buffers t id
  named_clashing id none one n = absurd n
  named_clashing id (node label below after) one n =
      let whole : Nodes Held = node label below after in
      ⊎_elim
      (λ (m : (label.running ≡ true) × (((label.id ≡ id) × ((label.kind ≡ kinds.Parallel) × TwoClash buffers below)) ⊎ Named buffers id below)). ⊎_elim
      (λ (k : (label.id ≡ id) × ((label.kind ≡ kinds.Parallel) × TwoClash buffers below)).
      let same = (Decides-int_eq label.id id).1 k.0 in
      record {
        reached = reached_running id label below after m.0 ∙ or_left (int_eq label.id id) (is_reached id below || is_reached id after) same;
        parallel = kind_here id label below after same ∙ ap Some k.1.0;
        two = subst (TwoClash buffers) (sym (children_here id label below after same)) k.1.1;
      })
      (λ (k : Named buffers id below).
      let inner = named_clashing id below (distinct_below label below after one) k in
      let held = reached_held id below inner.reached in
      let other = not_here label below after id one (let s = held_some id below held in omega arith) in
      record {
        reached = reached_running id label below after m.0 ∙ or_right (int_eq label.id id) (is_reached id below || is_reached id after) (or_left (is_reached id below) (is_reached id after) inner.reached);
        parallel = kind_below id label below after other held ∙ inner.parallel;
        two = subst (TwoClash buffers) (sym (children_below id label below after other held)) inner.two;
      })
      m.1)
      (λ (m : Named buffers id after).
      let later = named_clashing id after (distinct_after label below after one) m in
      let held = reached_held id after later.reached in
      let other = not_here label below after id one (let s = held_some id after held in omega arith) in
      let apart = not_below label below after id one held in
      record {
        reached = reached_after id label below after later.reached;
        parallel = kind_after id label below after other apart ∙ later.parallel;
        two = subst (TwoClash buffers) (sym (children_after id label below after other apart)) later.two;
      })
      n

  clashing_named : (id : ℤ) (t : Nodes Held) → Distinct t → IsClashing buffers t id → Named buffers id t
  clashing_named id none one c = absurd (true≢false (sym c.reached))
  clashing_named id (node label below after) one c = ⊎_elim
      (λ (r : (label.running ≡ true) × ((int_eq label.id id ≡ true) ⊎ (is_reached id below ≡ true))). ⊎_elim
      (λ (same : int_eq label.id id ≡ true).
      inl (r.0, inl ((Decides-int_eq label.id id).0 same, (some_is label.kind kinds.Parallel (sym (kind_here id label below after same) ∙ c.parallel), subst (TwoClash buffers) (children_here id label below after same) c.two))))
      (λ (a : is_reached id below ≡ true).
      let held = reached_held id below a in
      let other = not_here label below after id one (let s = held_some id below held in omega arith) in
      inl (
        r.0,
        inr (clashing_named id below (distinct_below label below after one) (record {
          reached = a;
          parallel = sym (kind_below id label below after other held) ∙ c.parallel;
          two = subst (TwoClash buffers) (children_below id label below after other held) c.two;
        })),
      ))
      r.1)
      (λ (a : is_reached id after ≡ true).
      let held = reached_held id after a in
      let other = not_here label below after id one (let s = held_some id after held in omega arith) in
      let apart = not_below label below after id one held in
      inr (clashing_named id after (distinct_after label below after one) (record {
        reached = a;
        parallel = sym (kind_after id label below after other apart) ∙ c.parallel;
        two = subst (TwoClash buffers) (children_after id label below after other apart) c.two;
      })))
      (reached_cases id label below after c.reached)

  pub names_are : (id : ℤ) (t : Nodes Held) → AllDistinct int_eq (ids t) → (is_listed (map (λ c. c.group) (clashes (is_there buffers) held_uses t)) id ≡ true) ↔ IsClashing buffers t id
  names_are id t one = (λ h. named_clashing id t one (named_found buffers id t h), λ c. found_named buffers id t (clashing_named id t one c))
