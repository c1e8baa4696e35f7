-- Once the synths below a group are freed, none are left there, whatever else is freed.
use Rattle.std.proofs.Common.{◌≡◌, ℕ, zero, suc, ◌+◌, ◌≤◌, ◌<◌, ℤ, Bool, true, false, not, ◌||◌, cond, List, [], ◌∷◌, ◌++◌, take, drop, length, get_or, drop-cons, append_assoc, sym, refl, ap, subst, ◌∙◌, ⊎_elim, arith, true≢false}
use Rattle.std.specs.Prelude.{if◌then◌else◌}
use Rattle.std.specs.BTreeMap.{is_at}
use Rattle.std.specs.BTreeSet.{BTreeSet, contains, Updates}
use Rattle.std.specs.Ordering.{int_cmp, int_eq}
use Rattle.std.proofs.lemmas.Bool.{cases_Bool, or_cases}
use Rattle.std.proofs.lemmas.Bool.Decides.{Decides-int_eq}
use Rattle.std.proofs.lemmas.List.{take_more, append-nil, drop_all}
use Rattle.std.proofs.lemmas.List.Folds.{list_any-append, list_any_more}
use Rattle.sn_tree.specs.Trees.{Label, Nodes, none, node, holds, ids, children, subtree, without}
use Rattle.sn_tree.specs.Below.{synth_ids}
use Rattle.sn_tree.specs.Faults.{is_synth}
use Rattle.sn_tree.specs.Steps.{occurrences, AllDistinct}
use Rattle.sn_tree.proofs.Distinct.{occurrences-append, occurs-node, occurs-parts, not_held}
use Rattle.sn_world.specs.declared.emptying.DeepFree.{DeepFree}
use Rattle.sn_world.specs.Emptying.{freed_each, group_refusal, judge_deep_free, act_deep_free}
use Rattle.sn_world.specs.Freeing.{freed}
use Rattle.sn_world.specs.Nodes.{Content}
use Rattle.sn_world.specs.Rows.{steps, unless}
use Rattle.sn_world.specs.World.{Turn}
use Rattle.sn_nodecmd.specs.declared.emptying.RepeatedGroup.{RepeatedGroup}
use Rattle.sn_nodecmd.specs.Again.{stands_in, repeated_group, repeated, judge_repeated, act_repeated}

-- ---- lists

none_in : (xs : List ℤ) → ((x : ℤ) → occurrences int_eq x xs ≡ 0) → xs ≡ []
none_in [] h = refl
none_in (y ∷ ys) h =
    let one : ◌≡◌ {A = ℕ} (if int_eq y y then 1 else 0) 1 = rw ((Decides-int_eq y y).1 refl) refl in
    absurd (omega (arith, h y, one))

none_or_some : (n : ℕ) (C : Type 0) → (n ≡ 0 → C) → (1 ≤ n → C) → C
none_or_some zero C f g = f refl
none_or_some (suc n) C f g = g (omega arith)

last_of_three : (a b c : Bool) → a ≡ false → b ≡ false → (a || (b || c)) ≡ true → c ≡ true
last_of_three false false c n i h = h
last_of_three true b c n i h = absurd (true≢false n)
last_of_three false true c n i h = absurd (true≢false i)

chosen_left : (b : Bool) (p q r s : ℕ) → p ≤ r → q ≤ s → (if b then p else q) ≤ (if b then r else s)
chosen_left true p q r s h k = h
chosen_left false p q r s h k = k

-- ---- the synths below a node, by how often an id is among theirs

module _ {P : Type 0} where
  -- those below each node with an id
  abbrev pub under : ℤ → Nodes P → List ℤ
  under id none = []
  under id (node label below after) = (if int_eq label.id id then synth_ids below else under id below) ++ under id after

  abbrev pub all_without : List ℤ → Nodes P → Nodes P
  all_without [] t = t
  all_without (s ∷ xs) t = all_without xs (without s t)

  -- none are below it
  abbrev pub IsEmptied : ℤ → Nodes P → Type 0
  IsEmptied id t = (x : ℤ) → occurrences int_eq x (under id t) ≡ 0

  synths-node : (x : ℤ) (label : Label P) (below after : Nodes P)
      → occurrences int_eq x (synth_ids (node label below after)) ≡ (if is_synth label.kind then (if int_eq label.id x then 1 else 0) else 0) + (occurrences int_eq x (synth_ids below) + occurrences int_eq x (synth_ids after))
  synths-node x label below after =
      ⊎_elim
      (λ (k : is_synth label.kind ≡ true). rw k (omega (arith, occurrences-append int_eq x (synth_ids below) (synth_ids after))))
      (λ (k : is_synth label.kind ≡ false). rw k (omega (arith, occurrences-append int_eq x (synth_ids below) (synth_ids after))))
      (cases_Bool (is_synth label.kind))

  under-node : (x id : ℤ) (label : Label P) (below after : Nodes P)
      → occurrences int_eq x (under id (node label below after)) ≡ (if int_eq label.id id then occurrences int_eq x (synth_ids below) else occurrences int_eq x (under id below)) + occurrences int_eq x (under id after)
  under-node x id label below after =
      ⊎_elim
      (λ (n : int_eq label.id id ≡ true). rw n (occurrences-append int_eq x (synth_ids below) (under id after)))
      (λ (n : int_eq label.id id ≡ false). rw n (occurrences-append int_eq x (under id below) (under id after)))
      (cases_Bool (int_eq label.id id))

  few_synths : (x : ℤ) (t : Nodes P) → occurrences int_eq x (synth_ids t) ≤ occurrences int_eq x (ids t)
  few_synths x none = omega arith
  few_synths x (node label below after) =
      ⊎_elim
      (λ (k : is_synth label.kind ≡ true). rw k (omega (arith, occurrences-append int_eq x (synth_ids below) (synth_ids after), occurs-node x label below after, few_synths x below, few_synths x after)))
      (λ (k : is_synth label.kind ≡ false). rw k (omega (arith, occurrences-append int_eq x (synth_ids below) (synth_ids after), occurs-node x label below after, few_synths x below, few_synths x after)))
      (cases_Bool (is_synth label.kind))

  few_under : (x id : ℤ) (t : Nodes P) → occurrences int_eq x (under id t) ≤ occurrences int_eq x (ids t)
  few_under x id none = omega arith
  few_under x id (node label below after) =
      ⊎_elim
      (λ (n : int_eq label.id id ≡ true). rw n (omega (arith, occurrences-append int_eq x (synth_ids below) (under id after), occurs-node x label below after, few_synths x below, few_under x id after)))
      (λ (n : int_eq label.id id ≡ false). rw n (omega (arith, occurrences-append int_eq x (under id below) (under id after), occurs-node x label below after, few_under x id below, few_under x id after)))
      (cases_Bool (int_eq label.id id))

  -- a node that is taken out leaves no more

  synths_left : (x s : ℤ) (t : Nodes P) → occurrences int_eq x (synth_ids (without s t)) ≤ occurrences int_eq x (synth_ids t)
  synths_left x s none = omega arith
  synths_left x s (node label below after) =
      ⊎_elim
      (λ (n : int_eq label.id s ≡ true). rw n (omega (arith, synths-node x label below after)))
      (λ (n : int_eq label.id s ≡ false). ⊎_elim
      (λ (i : holds s below ≡ true). rw (n, i) (omega (arith, synths-node x label (without s below) after, synths-node x label below after, synths_left x s below)))
      (λ (i : holds s below ≡ false). rw (n, i) (omega (arith, synths-node x label below (without s after), synths-node x label below after, synths_left x s after)))
      (cases_Bool (holds s below)))
      (cases_Bool (int_eq label.id s))

  under_left : (x id s : ℤ) (t : Nodes P) → occurrences int_eq x (under id (without s t)) ≤ occurrences int_eq x (under id t)
  under_left x id s none = omega arith
  under_left x id s (node label below after) =
      ⊎_elim
      (λ (n : int_eq label.id s ≡ true). rw n (omega (arith, under-node x id label below after)))
      (λ (n : int_eq label.id s ≡ false). ⊎_elim
      (λ (i : holds s below ≡ true). rw (n, i) (omega (
        arith,
        under-node x id label (without s below) after,
        under-node x id label below after,
        chosen_left (int_eq label.id id) (occurrences int_eq x (synth_ids (without s below))) (occurrences int_eq x (under id (without s below))) (occurrences int_eq x (synth_ids below)) (occurrences int_eq x (under id below)) (synths_left x s below) (under_left x id s below),
      )))
      (λ (i : holds s below ≡ false). rw (n, i) (omega (arith, under-node x id label below (without s after), under-node x id label below after, under_left x id s after)))
      (cases_Bool (holds s below)))
      (cases_Bool (int_eq label.id s))

  all_left : (x id : ℤ) (xs : List ℤ) (t : Nodes P) → occurrences int_eq x (under id (all_without xs t)) ≤ occurrences int_eq x (under id t)
  all_left x id [] t = omega arith
  all_left x id (s ∷ xs) t = omega (arith, all_left x id xs (without s t), under_left x id s t)

  ids_left : (x : ℤ) (xs : List ℤ) (t : Nodes P) → occurrences int_eq x (ids (all_without xs t)) ≤ occurrences int_eq x (ids t)
  ids_left x [] t = omega arith
  ids_left x (s ∷ xs) t = omega (arith, ids_left x xs (without s t), occurs-parts x s t)

  pub distinct_left : (xs : List ℤ) (t : Nodes P) → AllDistinct int_eq (ids t) → AllDistinct int_eq (ids (all_without xs t))
  distinct_left xs t d = λ x. omega (arith, ids_left x xs t, d x)

  pub emptied_left : (id : ℤ) (xs : List ℤ) (t : Nodes P) → IsEmptied id t → IsEmptied id (all_without xs t)
  emptied_left id xs t h = λ x. omega (arith, all_left x id xs t, h x)

  -- it is taken out itself

  on_top : (s : ℤ) (t : Nodes P) → holds s t ≡ true → 1 ≤ occurrences int_eq s (ids (subtree s t))
  on_top s none h = absurd cc
  on_top s (node label below after) h =
      ⊎_elim
      (λ (n : int_eq label.id s ≡ true).
      let one : ◌≡◌ {A = ℕ} (if int_eq label.id s then 1 else 0) 1 = rw n refl in
      let is : subtree s (node label below after) ≡ node label below none = rw n refl in
      omega (arith, ap (λ (u : Nodes P). occurrences int_eq s (ids u)) is, occurs-node s label below none, one))
      (λ (n : int_eq label.id s ≡ false). ⊎_elim
      (λ (i : holds s below ≡ true).
      let is : subtree s (node label below after) ≡ subtree s below = rw (n, i) refl in
      omega (arith, ap (λ (u : Nodes P). occurrences int_eq s (ids u)) is, on_top s below i))
      (λ (i : holds s below ≡ false).
      let is : subtree s (node label below after) ≡ subtree s after = rw (n, i) refl in
      omega (arith, ap (λ (u : Nodes P). occurrences int_eq s (ids u)) is, on_top s after (last_of_three (int_eq label.id s) (holds s below) (holds s after) n i h)))
      (cases_Bool (holds s below)))
      (cases_Bool (int_eq label.id s))

  held : (s : ℤ) (t : Nodes P) → holds s t ≡ true → 1 ≤ occurrences int_eq s (ids t)
  held s t h = omega (arith, on_top s t h, occurs-parts s s t)

  gone : (s : ℤ) (t : Nodes P) → AllDistinct int_eq (ids t) → occurrences int_eq s (ids (without s t)) ≡ 0
  gone s t d =
      ⊎_elim
      (λ (h : holds s t ≡ true). omega (arith, occurs-parts s s t, on_top s t h, d s))
      (λ (h : holds s t ≡ false). omega (arith, occurs-parts s s t, not_held s t h))
      (cases_Bool (holds s t))

  taken_out : (id x : ℤ) (xs : List ℤ) (t : Nodes P) → AllDistinct int_eq (ids t) → 1 ≤ occurrences int_eq x xs → occurrences int_eq x (under id (all_without xs t)) ≡ 0
  taken_out id x [] t d h = absurd (omega (arith, h))
  taken_out id x (s ∷ xs) t d h =
      ⊎_elim
      (λ (n : int_eq s x ≡ true).
      let none_more : occurrences int_eq x (ids (without s t)) ≡ 0 = subst (λ (y : ℤ). occurrences int_eq y (ids (without s t)) ≡ 0) ((Decides-int_eq s x).0 n) (gone s t d) in
      omega (arith, few_under x id (all_without xs (without s t)), ids_left x xs (without s t), none_more))
      (λ (n : int_eq s x ≡ false).
      let other : ◌≡◌ {A = ℕ} (if int_eq s x then 1 else 0) 0 = rw n refl in
      taken_out id x xs (without s t) (λ y. omega (arith, occurs-parts y s t, d y)) (omega (arith, h, other)))
      (cases_Bool (int_eq s x))

  -- what is below the only node with an id

  none_under : (x id : ℤ) (t : Nodes P) → occurrences int_eq id (ids t) ≡ 0 → occurrences int_eq x (under id t) ≡ 0
  none_under x id none h = refl
  none_under x id (node label below after) h =
      ⊎_elim
      (λ (n : int_eq label.id id ≡ true).
      let one : ◌≡◌ {A = ℕ} (if int_eq label.id id then 1 else 0) 1 = rw n refl in
      absurd (omega (arith, h, occurs-node id label below after, one)))
      (λ (n : int_eq label.id id ≡ false).
      let first : occurrences int_eq x (under id below) ≡ 0 = none_under x id below (omega (arith, h, occurs-node id label below after)) in
      let rest : occurrences int_eq x (under id after) ≡ 0 = none_under x id after (omega (arith, h, occurs-node id label below after)) in
      rw n (omega (arith, occurrences-append int_eq x (under id below) (under id after), first, rest)))
      (cases_Bool (int_eq label.id id))

  among_children : (x id : ℤ) (t : Nodes P) → AllDistinct int_eq (ids t) → occurrences int_eq x (under id t) ≤ occurrences int_eq x (synth_ids (children id t))
  among_children x id none d = omega arith
  among_children x id (node label below after) d =
      ⊎_elim
      (λ (n : int_eq label.id id ≡ true).
      let one : ◌≡◌ {A = ℕ} (if int_eq label.id id then 1 else 0) 1 = rw n refl in
      let rest : occurrences int_eq x (under id after) ≡ 0 = none_under x id after (omega (arith, d id, occurs-node id label below after, one)) in
      rw n (omega (arith, occurrences-append int_eq x (synth_ids below) (under id after), rest)))
      (λ (n : int_eq label.id id ≡ false). ⊎_elim
      (λ (i : holds id below ≡ true).
      let rest : occurrences int_eq x (under id after) ≡ 0 = none_under x id after (omega (arith, d id, occurs-node id label below after, held id below i)) in
      let here = among_children x id below (λ y. omega (arith, d y, occurs-node y label below after)) in
      rw (n, i) (omega (arith, occurrences-append int_eq x (under id below) (under id after), rest, here)))
      (λ (i : holds id below ≡ false).
      let first : occurrences int_eq x (under id below) ≡ 0 = none_under x id below (not_held id below i) in
      let there = among_children x id after (λ y. omega (arith, d y, occurs-node y label below after)) in
      rw (n, i) (omega (arith, occurrences-append int_eq x (under id below) (under id after), first, there)))
      (cases_Bool (holds id below)))
      (cases_Bool (int_eq label.id id))

  children_among : (x id : ℤ) (t : Nodes P) → occurrences int_eq x (synth_ids (children id t)) ≤ occurrences int_eq x (under id t)
  children_among x id none = omega arith
  children_among x id (node label below after) =
      ⊎_elim
      (λ (n : int_eq label.id id ≡ true). rw n (omega (arith, occurrences-append int_eq x (synth_ids below) (under id after))))
      (λ (n : int_eq label.id id ≡ false). ⊎_elim
      (λ (i : holds id below ≡ true). rw (n, i) (omega (arith, occurrences-append int_eq x (under id below) (under id after), children_among x id below)))
      (λ (i : holds id below ≡ false). rw (n, i) (omega (arith, occurrences-append int_eq x (under id below) (under id after), children_among x id after)))
      (cases_Bool (holds id below)))
      (cases_Bool (int_eq label.id id))

  pub no_children : (id : ℤ) (t : Nodes P) → IsEmptied id t → synth_ids (children id t) ≡ []
  no_children id t h = none_in (synth_ids (children id t)) (λ x. omega (arith, children_among x id t, h x))

  pub emptied_now : (id : ℤ) (t : Nodes P) → AllDistinct int_eq (ids t) → IsEmptied id (all_without (synth_ids (children id t)) t)
  emptied_now id t d = λ x.
      none_or_some (occurrences int_eq x (synth_ids (children id t))) (occurrences int_eq x (under id (all_without (synth_ids (children id t)) t)) ≡ 0)
      (λ (n : occurrences int_eq x (synth_ids (children id t)) ≡ 0). omega (arith, n, all_left x id (synth_ids (children id t)) t, among_children x id t d))
      (λ (n : 1 ≤ occurrences int_eq x (synth_ids (children id t))). taken_out id x (synth_ids (children id t)) t d n)

-- ---- the groups of a message

nodes_left : (xs : List ℤ) (t : Turn) → (freed_each xs t).world.nodes ≡ all_without xs t.world.nodes
nodes_left [] t = refl
nodes_left (s ∷ xs) t = nodes_left xs (freed s t)

stands_later : (earlier : List DeepFree) (r : DeepFree) (g : ℤ) (C : Type 0) → stands_in (earlier ++ r ∷ []) g ≡ true → (stands_in earlier g ≡ true → C) → (r.group ≡ g → C) → C
stands_later earlier r g C h f k =
    ⊎_elim
    (λ (e : stands_in earlier g ≡ true). f e)
    (λ (e : int_eq r.group g || false ≡ true). ⊎_elim
    (λ (n : int_eq r.group g ≡ true). k ((Decides-int_eq r.group g).0 n))
    (λ (n : false ≡ true). absurd (true≢false (sym n)))
    (or_cases (int_eq r.group g) false e))
    (or_cases (stands_in earlier g) (int_eq r.group g || false) (sym (list_any-append (λ (q : DeepFree). int_eq q.group g) earlier (r ∷ [])) ∙ h))

abbrev AreEmptied : List DeepFree → Turn → Type 0
AreEmptied earlier t = (g : ℤ) → stands_in earlier g ≡ true → IsEmptied g t.world.nodes

one_step : (earlier : List DeepFree) (r : DeepFree) (rs : List DeepFree) (t : Turn) (again : Bool) → stands_in earlier r.group ≡ again → AllDistinct int_eq (ids t.world.nodes) → AreEmptied earlier t
    → ((u : Turn) → AllDistinct int_eq (ids u.world.nodes) → AreEmptied (earlier ++ r ∷ []) u → steps judge_repeated act_repeated (repeated (earlier ++ r ∷ []) rs) u ≡ steps judge_deep_free act_deep_free rs u)
    → steps judge_repeated act_repeated (repeated (earlier ++ r ∷ []) rs) (act_repeated (record { group = r.group; again = again }) t) ≡ steps judge_deep_free act_deep_free rs (act_deep_free r t)
one_step earlier r rs t true stood d h more =
    more t d (λ g e. stands_later earlier r g (IsEmptied g t.world.nodes) e (h g) (λ (same : r.group ≡ g). subst (λ (n : ℤ). IsEmptied n t.world.nodes) same (h r.group stood)))
    ∙ ap (λ (xs : List ℤ). steps judge_deep_free act_deep_free rs (freed_each xs t)) (sym (no_children r.group t.world.nodes (h r.group stood)))
one_step earlier r rs t false stood d h more =
    let xs = synth_ids (children r.group t.world.nodes) in
    let left : (freed_each xs t).world.nodes ≡ all_without xs t.world.nodes = nodes_left xs t in
    more (freed_each xs t)
    (subst (λ (n : Nodes Content). AllDistinct int_eq (ids n)) (sym left) (distinct_left xs t.world.nodes d))
    (λ g e. subst (λ (n : Nodes Content). IsEmptied g n) (sym left)
    (stands_later earlier r g (IsEmptied g (all_without xs t.world.nodes)) e
    (λ (s : stands_in earlier g ≡ true). emptied_left g xs t.world.nodes (h g s))
    (λ (same : r.group ≡ g). subst (λ (n : ℤ). IsEmptied n (all_without xs t.world.nodes)) same (emptied_now r.group t.world.nodes d))))

all_steps : (earlier rs : List DeepFree) (t : Turn) → AllDistinct int_eq (ids t.world.nodes) → AreEmptied earlier t → steps judge_repeated act_repeated (repeated earlier rs) t ≡ steps judge_deep_free act_deep_free rs t
all_steps earlier [] t d h = refl
all_steps earlier (r ∷ rs) t d h = ap (unless (group_refusal r.group t.world.nodes)) (one_step earlier r rs t (stands_in earlier r.group) refl d h (all_steps (earlier ++ r ∷ []) rs))

pub repeated_steps : (rs : List DeepFree) (t : Turn) → AllDistinct int_eq (ids t.world.nodes) → steps judge_repeated act_repeated (repeated [] rs) t ≡ steps judge_deep_free act_deep_free rs t
repeated_steps rs t d = all_steps [] rs t d (λ g e. absurd (true≢false (sym e)))

-- ---- how they are listed

pub long_repeated : (earlier rs : List DeepFree) → length (repeated earlier rs) ≡ length rs
long_repeated earlier [] = refl
long_repeated earlier (r ∷ rs) = ap suc (long_repeated (earlier ++ r ∷ []) rs)

twice : (b : Bool) → not (not b) ≡ b
twice true = refl
twice false = refl

either : (s t : Bool) → cond s true t ≡ (t || s)
either true true = refl
either true false = refl
either false true = refl
either false false = refl

pub one_more : (old new : BTreeSet ℤ) (k : ℤ) (groups : List DeepFree) (i : ℕ) (d : DeepFree) → i < length groups → k ≡ (get_or groups i d).group → Updates int_cmp old new k true
    → ((g : ℤ) → contains int_cmp old g ≡ stands_in (take i groups) g) → (g : ℤ) → contains int_cmp new g ≡ stands_in (take (i + 1) groups) g
one_more old new k groups i d low is updates before g =
    updates.0 g
    ∙ ap (λ (h : ℤ). cond (is_at (int_cmp h) g) true (contains int_cmp old g)) is
    ∙ ap (λ (t : Bool). cond (int_eq (get_or groups i d).group g) true t) (before g)
    ∙ either (int_eq (get_or groups i d).group g) (stands_in (take i groups) g)
    ∙ sym (list_any_more (λ (q : DeepFree). int_eq q.group g) groups i d low)

-- a key that is new stood nowhere before
pub same_group : (earlier : List DeepFree) (set : BTreeSet ℤ) (k group : ℤ) (r : DeepFree) (added : Bool) → k ≡ r.group → group ≡ r.group → added ≡ not (contains int_cmp set k)
    → ((g : ℤ) → contains int_cmp set g ≡ stands_in earlier g) → (let x : RepeatedGroup = record { group = group; again = not added } in x) ≡ repeated_group earlier r
same_group earlier set k group r added is same new before =
    let stood : not added ≡ stands_in earlier r.group = ap not (new ∙ ap not (before k ∙ ap (stands_in earlier) is)) ∙ twice (stands_in earlier r.group) in
    λ i. record { group = same i; again = stood i }

pub next_repeated : (groups : List DeepFree) (i : ℕ) (d : DeepFree) → i < length groups
    → repeated (take i groups) (drop i groups) ≡ repeated_group (take i groups) (get_or groups i d) ∷ repeated (take (i + 1) groups) (drop (i + 1) groups)
next_repeated groups i d low =
    let next : suc i ≡ i + 1 = omega arith in
    let q = get_or groups i d in
    ap (repeated (take i groups)) (drop-cons groups i d low ∙ ap (λ n. q ∷ drop n groups) next)
    ∙ ap (λ (e : List DeepFree). repeated_group (take i groups) q ∷ repeated e (drop (i + 1) groups)) (sym (take_more groups i d low))

pub made_more : (groups : List DeepFree) (i : ℕ) (d : DeepFree) (found after : List RepeatedGroup) (x : RepeatedGroup) → i < length groups → after ≡ found ++ x ∷ []
    → x ≡ repeated_group (take i groups) (get_or groups i d)
    → found ++ repeated (take i groups) (drop i groups) ≡ repeated [] groups → after ++ repeated (take (i + 1) groups) (drop (i + 1) groups) ≡ repeated [] groups
made_more groups i d found after x low put is so_far =
    let rest = repeated (take (i + 1) groups) (drop (i + 1) groups) in
    ap (λ (l : List RepeatedGroup). l ++ rest) put
    ∙ (append_assoc found (x ∷ []) rest
    ∙ (ap (λ (y : RepeatedGroup). found ++ y ∷ rest) is
    ∙ (ap (λ (l : List RepeatedGroup). found ++ l) (sym (next_repeated groups i d low))
    ∙ so_far)))

pub made_all : (groups : List DeepFree) (i : ℕ) (found : List RepeatedGroup) → length groups ≤ i → found ++ repeated (take i groups) (drop i groups) ≡ repeated [] groups → found ≡ repeated [] groups
made_all groups i found past so_far =
    sym (append-nil found)
    ∙ (sym (ap (λ (l : List DeepFree). found ++ repeated (take i groups) l) (drop_all i groups past))
    ∙ so_far)
