-- What the rows of a walk tell is what the nodes tell.
use Rattle.std.proofs.Common.{◌≡◌, ◌≢◌, ℕ, ◌≤◌, ℤ, negsuc, Bool, true, false, suc, List, [], ◌∷◌, ◌++◌, Option, Some, None, sym, refl, ap, ◌∙◌, subst, ⊎_elim, append_assoc, arith}
use Rattle.std.proofs.lemmas.Bool.{cases_Bool}
use Rattle.std.proofs.lemmas.List.{append-nil}
use Rattle.std.specs.Prelude.{if◌then◌else◌, ◌==◌}
use Rattle.std.proofs.lemmas.Bool.Decides.{eqb_tells}
use Rattle.std.specs.Ordering.{int_eq}
use Rattle.sn_forest.specs.Trees.{Trees, none, tree, uses, first_key, last_key, subtree as subtree_of, value_of, links_of}
use Rattle.sn_forest.specs.declared.links.Links.{Links}
use Rattle.sn_forest.proofs.Keys.{some_or_none, one_same, apart, other_key}
use Rattle.sn_forest.proofs.Paths.{Path, top, under, beside, plug, parent_of, previous_of, path_uses, uses-plug}
use Rattle.sn_forest.proofs.Passing.{value_found, links_found, subtree_found}
use Rattle.sn_forest.proofs.Climbing.{over, plug-over}
use Rattle.sn_tree.specs.declared.node.NodeView.{NodeView}
use Rattle.sn_tree.specs.Trees.{holds, payloads, with_payloads, view_of}
use Rattle.sn_tree.specs.Faults.{is_synth}
use Rattle.sn_tree.specs.Order.{Key}
use Rattle.sn_tree.specs.Kept.{same_key, uses as key_uses, payload_of, filled}
use Rattle.sn_tree.specs.Below.{synth_ids}
use Rattle.sn_tree.specs.Reworking.{repeated, IsChangedAt}
use Rattle.sn_tree.specs.Tallies.{gathered, in_front}
use Rattle.sn_tree.specs.Views.{seen, views_from, views_at, views_below}
use Rattle.sn_tree.specs.Walking.{payload_at}
use Rattle.sn_tree.proofs.Keeping.{same_key-refl}
use Rattle.sn_tree.proofs.Reworking.{same_key_is}
use Rattle.sn_tree.proofs.Walking.{held_at}
use Rattle.sn_tree.specs.declared.item.Item.{Item}
use Rattle.sn_tree.specs.Keyed.{label_by, labels, front, named, names, rows_of, is_first, view_by, view_in_row, view_of_key}
use Rattle.sn_tree.specs.Reading.{KeyedItems, held_by, synths_by, view_row, views_by, hits_by, AreChangedBy}
use Rattle.sn_tree.proofs.KeyedPaths.{plug_labels, labels-plug, path_names, names-plug, counted_none, counted_one, is_held, not_held}
use Rattle.sn_tree.proofs.KeyedLaws.{Named, found_named, both_true}
use Rattle.sn_tree.proofs.ViewLaws.{parent_id, previous_id, view_at, view_seen, parent_is, previous_is, first_is, last_is}

in_front-append : {P : Type 0} (o : Option P) (ps qs : List P) → in_front o (ps ++ qs) ≡ in_front o ps ++ qs
in_front-append None ps qs = refl
in_front-append (Some p) ps qs = refl

-- payloads
module _ {P : Type 0} (root : P) (slots : List (Option P)) where
  held-append : (xs ys : KeyedItems) → held_by root slots (xs ++ ys) ≡ held_by root slots xs ++ held_by root slots ys
  held-append [] ys = refl
  held-append ((key, item) ∷ xs) ys =
      ap (in_front (payload_at root slots item.key)) (held-append xs ys) ∙ in_front-append (payload_at root slots item.key) (held_by root slots xs) (held_by root slots ys)

  pub held-rows : (t : Trees Item) → ((key : Key) → key_uses key (labels t) ≤ filled slots key) → held_by root slots (rows_of t) ≡ payloads (with_payloads (payload_of root slots) (labels t))
  held-rows none kept = refl
  held-rows (tree k item below after) kept =
      let used : 1 ≤ (if same_key item.key item.key then 1 else 0) = rw (same_key-refl item.key) (omega arith) in
      let here : payload_at root slots item.key ≡ Some (payload_of root slots item.key) = held_at root slots item.key (omega (arith, used, kept item.key)) in
      ap (λ o. in_front o (held_by root slots (rows_of below ++ rows_of after))) here
      ∙ ap (λ ps. payload_of root slots item.key ∷ ps)
      (held-append (rows_of below) (rows_of after) ∙ (λ i. held-rows below (λ key. omega (arith, kept key)) i ++ held-rows after (λ key. omega (arith, kept key)) i))

-- synths
synths-append : (xs ys : KeyedItems) → synths_by (xs ++ ys) ≡ synths_by xs ++ synths_by ys
synths-append [] ys = refl
synths-append ((key, item) ∷ xs) ys = at (is_synth item.kind) (synths-append xs ys)
  where
    at : (b : Bool) → synths_by (xs ++ ys) ≡ synths_by xs ++ synths_by ys → (if b then item.id ∷ synths_by (xs ++ ys) else synths_by (xs ++ ys)) ≡ (if b then item.id ∷ synths_by xs else synths_by xs) ++ synths_by ys
    at true h = ap (λ l. item.id ∷ l) h
    at false h = h

pub synths-rows : (t : Trees Item) → synths_by (rows_of t) ≡ synth_ids (labels t)
synths-rows none = refl
synths-rows (tree key item below after) =
    at (is_synth item.kind) (synths-append (rows_of below) (rows_of after) ∙ (λ i. synths-rows below i ++ synths-rows after i))
  where
    at : (b : Bool) → synths_by (rows_of below ++ rows_of after) ≡ synth_ids (labels below) ++ synth_ids (labels after)
        → (if b then item.id ∷ synths_by (rows_of below ++ rows_of after) else synths_by (rows_of below ++ rows_of after))
        ≡ (if b then item.id ∷ (synth_ids (labels below) ++ synth_ids (labels after)) else synth_ids (labels below) ++ synth_ids (labels after))
    at true h = ap (λ l. item.id ∷ l) h
    at false h = h

-- how nodes are seen
views-append : (trees : Trees Item) (xs ys : KeyedItems) → views_by trees (xs ++ ys) ≡ views_by trees xs ++ views_by trees ys
views-append trees [] ys = refl
views-append trees ((key, item) ∷ xs) ys =
    ap (in_front (view_row item.id (view_of_key key trees))) (views-append trees xs ys) ∙ in_front-append (view_row item.id (view_of_key key trees)) (views_by trees xs) (views_by trees ys)

module _ (trees : Trees Item) (once : (j : ℕ) → uses j trees ≤ 1) where
  -- a node that isn't the root
  seen_at : (p : Path Item) (key : ℕ) (item : Item) (below after : Trees Item) → trees ≡ plug p (tree key item below after) → is_first trees key ≡ false
      → view_of_key key trees ≡ Some (seen (parent_id p) (previous_id p) (label_by item) (labels below) (labels after))
  seen_at p key item below after is off =
      let u : path_uses key p ≡ 0 = omega (arith, once key, ap (λ x. uses key x) is, uses-plug key p (tree key item below after), one_same key) in
      let links : Links = record { parent = parent_of p; previous = previous_of p; next = first_key after; first = first_key below; last = last_key None below } in
      let told : view_of_key key trees ≡ Some (view_by trees false item links) =
      (λ i. view_in_row trees (off i) ((ap (value_of key) is ∙ value_found p key item below after u) i) ((ap (links_of key) is ∙ links_found p key item below after u) i)) in
      told
      ∙ (λ i. let v : NodeView = record {
        kind = item.kind;
        running = item.running;
        parent = parent_is trees once p (tree key item below after) is i;
        previous = previous_is trees once p (tree key item below after) is i;
        next = first_is trees once (beside key item below p) after is i;
        head = first_is trees once (under key item after p) below is i;
        tail = last_is trees once (under key item after p) below None is i;
      } in Some v)

  -- all nodes of a hole below the root
  views_in : (p : Path Item) (t : Trees Item) → trees ≡ plug p t → ((j : ℕ) → 1 ≤ uses j t → is_first trees j ≡ false) → views_by trees (rows_of t) ≡ views_from (parent_id p) (previous_id p) (labels t)
  views_in p none is off = refl
  views_in p (tree key item below after) is off =
      ap (λ v. in_front (view_row item.id v) (views_by trees (rows_of below ++ rows_of after))) (seen_at p key item below after is (off key (omega (arith, one_same key))))
      ∙ ap (λ l. (item.id, seen (parent_id p) (previous_id p) (label_by item) (labels below) (labels after)) ∷ l)
      (views-append trees (rows_of below) (rows_of after)
      ∙ (λ i. views_in (under key item after p) below is (λ j u. off j (omega (arith, u))) i ++ views_in (beside key item below p) after is (λ j u. off j (omega (arith, u))) i))

-- the nodes of a level are seen as in all
views_plug : (id : ℤ) (p : Path Item) (t : Trees Item) → 1 ≤ names id t → path_names id p ≡ 0 → views_below id (plug_labels p (labels t)) ≡ views_at (parent_id p) (previous_id p) id (labels t)
views_plug id top t h z = refl
views_plug id (under key item after p) t h z =
    views_plug id p (tree key item t after) (omega (arith, h)) (omega (arith, z))
    ∙ (λ i. if counted_none (int_eq item.id id) (omega (arith, z)) i then (item.id, seen (parent_id p) (previous_id p) (label_by item) (labels t) (labels after)) ∷ views_from item.id (negsuc 0) (labels t)
    else if is_held id t h i then views_at item.id (negsuc 0) id (labels t) else views_at (parent_id p) item.id id (labels after))
views_plug id (beside key item below p) t h z =
    views_plug id p (tree key item below t) (omega (arith, h)) (omega (arith, z))
    ∙ (λ i. if counted_none (int_eq item.id id) (omega (arith, z)) i then (item.id, seen (parent_id p) (previous_id p) (label_by item) (labels below) (labels t)) ∷ views_from item.id (negsuc 0) (labels below)
    else if not_held id below (omega (arith, z)) i then views_at item.id (negsuc 0) id (labels below) else views_at (parent_id p) item.id id (labels t))

views_here : (id : ℤ) (p : Path Item) (key : ℕ) (item : Item) (below after : Trees Item) → int_eq item.id id ≡ true → path_names id p ≡ 0
    → views_below id (labels (plug p (tree key item below after))) ≡ (item.id, seen (parent_id p) (previous_id p) (label_by item) (labels below) (labels after)) ∷ views_from item.id (negsuc 0) (labels below)
views_here id p key item below after is z =
    ap (views_below id) (labels-plug p (tree key item below after))
    ∙ (views_plug id p (tree key item below after) (omega (arith, counted_one (int_eq item.id id) is)) z
    ∙ ap (λ b. if b then (item.id, seen (parent_id p) (previous_id p) (label_by item) (labels below) (labels after)) ∷ views_from item.id (negsuc 0) (labels below)
    else if holds id (labels below) then views_at item.id (negsuc 0) id (labels below) else views_at (parent_id p) item.id id (labels after)) is)

-- an attached node and all below it
pub views_seen : (trees : Trees Item) → ((j : ℕ) → uses j trees ≤ 1) → (id : ℤ) (key : ℕ) (item : Item) (near far : Path Item) (inner later left : Trees Item) → front trees ≡ plug near (tree key item inner later) → trees ≡ plug far (tree key item inner left)
    → int_eq item.id id ≡ true → path_names id near ≡ 0 → view_of id (labels (front trees)) ≡ view_of_key key trees → ((j : ℕ) → 1 ≤ uses j inner → is_first trees j ≡ false)
    → views_by trees (rows_of (subtree_of key trees)) ≡ views_below id (labels (front trees))
views_seen trees once id key item near far inner later left front_is is same z told off =
    let u : path_uses key far ≡ 0 = omega (arith, once key, ap (λ x. uses key x) is, uses-plug key far (tree key item inner left), one_same key) in
    let branch : subtree_of key trees ≡ tree key item inner none = ap (subtree_of key) is ∙ subtree_found far key item inner left u in
    let view : view_of_key key trees ≡ Some (seen (parent_id near) (previous_id near) (label_by item) (labels inner) (labels later)) =
    sym told ∙ (ap (λ t. view_of id (labels t)) front_is ∙ view_at id near key item inner later same z) in
    ap (λ t. views_by trees (rows_of t)) branch
    ∙ (ap (λ v. in_front (view_row item.id v) (views_by trees (rows_of inner ++ []))) view
    ∙ (ap (λ l. (item.id, seen (parent_id near) (previous_id near) (label_by item) (labels inner) (labels later)) ∷ views_by trees l) (append-nil (rows_of inner))
    ∙ (ap (λ l. (item.id, seen (parent_id near) (previous_id near) (label_by item) (labels inner) (labels later)) ∷ l) (views_in trees once (under key item left far) inner is off)
    ∙ sym (ap (λ t. views_below id (labels t)) front_is ∙ views_here id near key item inner later same z))))

pub views_any : (t : Trees Item) (id : ℤ) (key : ℕ) → ((j : ℕ) → uses j t ≤ 1) → names id (front t) ≤ 1 → 1 ≤ named id key (front t) → views_by t (rows_of (subtree_of key t)) ≡ views_below id (labels (front t))
views_any none id key once distinct u = absurd (omega (arith, u))
views_any (tree r root below after) id key once distinct u =
    ⊎_elim
    (λ (v : 1 ≤ named id key below).
    let f : Named id key below = found_named id key top below v in
    let near : Path Item = over f.path (under r root none top) in
    let far : Path Item = over f.path (under r root after top) in
    let front_is : tree r root below none ≡ plug near (tree key f.item f.below f.after) = ap (λ x. tree r root x none) f.is ∙ sym (plug-over f.path (under r root none top) (tree key f.item f.below f.after)) in
    let is : tree r root below after ≡ plug far (tree key f.item f.below f.after) = ap (λ x. tree r root x after) f.is ∙ sym (plug-over f.path (under r root after top) (tree key f.item f.below f.after)) in
    views_seen (tree r root below after) once id key f.item near far f.below f.after f.after front_is is f.same
    (omega (arith, distinct, ap (λ x. names id x) front_is, names-plug id near (tree key f.item f.below f.after), counted_one (int_eq f.item.id id) f.same))
    told (λ j w. other_key r j (apart r j (omega (arith, once j, w, ap (λ x. uses j x) f.is, uses-plug j f.path (tree key f.item f.below f.after))))))
    (λ (v : named id key below ≤ 0).
    let own : (int_eq root.id id ≡ true) × ((r == key) ≡ true) = both_true (int_eq root.id id) (r == key) (omega (arith, u, v)) in
    at_root (key_is own.1) own.0)
    (some_or_none (named id key below))
  where
    told : view_of id (labels (tree r root below none)) ≡ view_of_key key (tree r root below after)
    told = view_seen (tree r root below after) id key once distinct u

    key_is : (r == key) ≡ true → r ≡ key
    key_is e = ⊎_elim (λ (q : ((r == key) ≡ true) × (r ≡ key)). q.1) (λ (q : ((r == key) ≡ false) × (r ≢ key)). absurd (let c : true ≡ false = sym e ∙ q.0 in cc)) (eqb_tells r key)

    by_root : int_eq root.id id ≡ true → view_of id (labels (tree r root below none)) ≡ view_of_key r (tree r root below after) → views_by (tree r root below after) (rows_of (subtree_of r (tree r root below after))) ≡ views_below id (labels (tree r root below none))
    by_root same seen_is =
        views_seen (tree r root below after) once id r root top top below none after refl refl same refl seen_is
        (λ j w. other_key r j (apart r j (omega (arith, once j, w))))

    at_root : r ≡ key → int_eq root.id id ≡ true → views_by (tree r root below after) (rows_of (subtree_of key (tree r root below after))) ≡ views_below id (labels (tree r root below none))
    at_root e same =
        subst (λ k. views_by (tree r root below after) (rows_of (subtree_of k (tree r root below after))) ≡ views_below id (labels (tree r root below none))) e
        (by_root same (subst (λ k. view_of id (labels (tree r root below none)) ≡ view_of_key k (tree r root below after)) (sym e) told))

-- a loop over rows has come to one
pub synths_step : (all found more : List ℤ) (rows rest : KeyedItems) (key : ℕ) (item : Item) → rows ≡ (key, item) ∷ rest → found ++ synths_by rows ≡ all → more ≡ found ++ synths_by ((key, item) ∷ []) → more ++ synths_by rest ≡ all
synths_step all found more rows rest key item e h m =
    ap (λ l. l ++ synths_by rest) m
    ∙ (append_assoc found (synths_by ((key, item) ∷ [])) (synths_by rest)
    ∙ (ap (λ l. found ++ l) (sym (synths-append ((key, item) ∷ []) rest)) ∙ (ap (λ r. found ++ synths_by r) (sym e) ∙ h)))

pub views_step : (trees : Trees Item) (all found more : List (ℤ × NodeView)) (rows rest : KeyedItems) (key : ℕ) (item : Item) → rows ≡ (key, item) ∷ rest → found ++ views_by trees rows ≡ all → more ≡ found ++ views_by trees ((key, item) ∷ [])
    → more ++ views_by trees rest ≡ all
views_step trees all found more rows rest key item e h m =
    ap (λ l. l ++ views_by trees rest) m
    ∙ (append_assoc found (views_by trees ((key, item) ∷ [])) (views_by trees rest)
    ∙ (ap (λ l. found ++ l) (sym (views-append trees ((key, item) ∷ []) rest)) ∙ (ap (λ r. found ++ views_by trees r) (sym e) ∙ h)))

module _ {A P : Type 0} (add : A → P → A) (root : P) (slots : List (Option P)) (all old : A) (rows rest : KeyedItems) (key : ℕ) (item : Item) (e : rows ≡ (key, item) ∷ rest) (h : gathered add old (held_by root slots rows) ≡ all) where
  tally_one : (o : Option P) → o ≡ payload_at root slots item.key → gathered add old (in_front o (held_by root slots rest)) ≡ all
  tally_one o p = ap (λ x. gathered add old (in_front x (held_by root slots rest))) p ∙ (ap (λ r. gathered add old (held_by root slots r)) (sym e) ∙ h)

  pub tally_some : (now : A) (payload : P) → Some payload ≡ payload_at root slots item.key → now ≡ add old payload → gathered add now (held_by root slots rest) ≡ all
  tally_some now payload p n = ap (λ a. gathered add a (held_by root slots rest)) n ∙ tally_one (Some payload) p

  pub tally_none : None ≡ payload_at root slots item.key → gathered add old (held_by root slots rest) ≡ all
  tally_none p = tally_one None p

-- payloads are changed, row by row
pub record IsChangingBy {P : Type 0} (change : P → P) (root : P) (slots : List (Option P)) (rows : KeyedItems) (root' : P) (slots' : List (Option P)) (rest : KeyedItems) : Type 0 where
  pub keeps : (key : Key) → filled slots' key ≡ filled slots key
  pub each : (key : Key) → 1 ≤ filled slots key → repeated change (hits_by key rest) (payload_of root' slots' key) ≡ repeated change (hits_by key rows) (payload_of root slots key)

pub change_start : {P : Type 0} (change : P → P) (root : P) (slots : List (Option P)) (rows : KeyedItems) → IsChangingBy change root slots rows root slots rows
change_start change root slots rows = record { keeps = λ key. refl; each = λ key full. refl }

pub change_next : {P : Type 0} (change : P → P) (root : P) (slots : List (Option P)) (rows : KeyedItems) (root1 root2 : P) (slots1 slots2 : List (Option P)) (left rest : KeyedItems) (k : ℕ) (item : Item)
    → IsChangingBy change root slots rows root1 slots1 left → left ≡ (k, item) ∷ rest → IsChangedAt change root1 slots1 root2 slots2 item.key → IsChangingBy change root slots rows root2 slots2 rest
change_next change root slots rows root1 root2 slots1 slots2 left rest k item h e s = record {
  keeps = λ key. s.keeps key ∙ h.keeps key;
  each = λ key full.
      let full1 : 1 ≤ filled slots1 key = subst (λ n. 1 ≤ n) (sym (h.keeps key)) full in
      let before : repeated change (hits_by key ((k, item) ∷ rest)) (payload_of root1 slots1 key) ≡ repeated change (hits_by key rows) (payload_of root slots key) =
      ap (λ l. repeated change (hits_by key l) (payload_of root1 slots1 key)) (sym e) ∙ h.each key full in
      ⊎_elim
      (λ (t : same_key item.key key ≡ true).
      let same : item.key ≡ key = same_key_is item.key key t in
      let now : payload_of root2 slots2 key ≡ change (payload_of root1 slots1 key) =
      subst (λ (x : Key). payload_of root2 slots2 x ≡ change (payload_of root1 slots1 x)) same (s.this (subst (λ (x : Key). 1 ≤ filled slots1 x) (sym same) full1)) in
      let more : hits_by key ((k, item) ∷ rest) ≡ suc (hits_by key rest) = rw t (omega arith) in
      ap (repeated change (hits_by key rest)) now ∙ (ap (λ n. repeated change n (payload_of root1 slots1 key)) (sym more) ∙ before))
      (λ (t : same_key item.key key ≡ false).
      let more : hits_by key ((k, item) ∷ rest) ≡ hits_by key rest = rw t (omega arith) in
      ap (repeated change (hits_by key rest)) (s.others key t full1) ∙ (ap (λ n. repeated change n (payload_of root1 slots1 key)) (sym more) ∙ before))
      (cases_Bool (same_key item.key key));
}

pub change_end : {P : Type 0} (change : P → P) (root : P) (slots : List (Option P)) (rows : KeyedItems) (root' : P) (slots' : List (Option P)) (rest : KeyedItems) → IsChangingBy change root slots rows root' slots' rest → rest ≡ [] → AreChangedBy change root slots root' slots' rows
change_end change root slots rows root' slots' rest h e = record {
  keeps = h.keeps;
  each = λ key full. sym (ap (λ l. repeated change (hits_by key l) (payload_of root' slots' key)) e) ∙ h.each key full;
}
