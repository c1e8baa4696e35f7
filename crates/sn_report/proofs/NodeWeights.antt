-- The weight of the nodes that are heard is that of their row, and that of the nodes of a stage.
use Rattle.std.proofs.Common.{◌≡◌, ℕ, ◌+◌, ◌≤◌, ℤ, Bool, true, false, ◌&&◌, ◌||◌, List, [], ◌∷◌, ◌++◌, map, Option, Some, None, sym, refl, ap, ◌∙◌, subst, if◌then◌else◌, arith, add-zero, append_assoc, length, length-append}
use Rattle.std.specs.Prelude.{is_some, nat_le, nat_lt, pos, replicate}
use Rattle.std.specs.Option.{option_map}
use Rattle.std.specs.Ordering.{int_eq}
use Rattle.std.proofs.lemmas.Bool.{cond-true, cond-false, le-ltb, or_left, or_right}
use Rattle.std.proofs.lemmas.Bool.Decides.{Decides-int_eq}
use Rattle.std.proofs.lemmas.List.{append-nil}
use Rattle.sn_mem.specs.declared.buffers.BufferPlace.{BufferPlace}
use Rattle.sn_mem.specs.declared.moves.Moved.{Moved}
use Rattle.sn_tree.specs.declared.node.NodeKind.{NodeKind}
use Rattle.sn_tree.specs.declared.node.NodeKind.TheVariants as kinds
use Rattle.sn_tree.specs.Trees as trees
use Rattle.sn_tree.specs.Trees.{Label, Nodes, holds, label_of, subtree, with_payloads}
use Rattle.sn_world.specs.declared.stage.Held.{Held}
use Rattle.sn_world.specs.declared.stage.Stage.{Stage}
use Rattle.sn_graph.specs.declared.nodes.Voice.{Voice}
use Rattle.sn_graph.specs.Voices.{AreHeard, HeardNodes, none, synth, group, ids_of, lanes_if, voices}
use Rattle.sn_graph.specs.Rows.{Row, done, job, split, size}
use Rattle.sn_graph.specs.Plans.{close, followed, joined, keep, members, row_of, rows_of}
use Rattle.sn_graph.specs.Lanes.{Laned, given, laned, mixed_of, with_shared}
use Rattle.sn_graph.specs.Lanes.{pairs as bus_pairs, shared_by as lanes_shared}
use Rattle.sn_graph.specs.Stages.{clashing_in, may_split, nodes_with, running_of, with_group, with_node}
use Rattle.sn_graph.proofs.Alike.{is_laned}
use Rattle.sn_graph.proofs.Laning.{shared_low}
use Rattle.sn_graph.proofs.Laying.{then_plain, then_split}
use Rattle.sn_graph.proofs.Splitting.{heard_laned}
use Rattle.sn_graph.proofs.Shapes.{heard}
use Rattle.sn_graph.proofs.Parting.{heard-row}
use Rattle.sn_graph.proofs.Planning.{ids-append}
use Rattle.sn_graph.proofs.Hearing.{all_heard}
use Rattle.sn_graph.proofs.Filling.{AllFull, full-rows}
use Rattle.sn_graph.proofs.Distinctly.{Distinct, distinct_after, distinct_below, held_some, not_below, not_here}
use Rattle.sn_world.specs.Pictures.{units_of}
use Rattle.sn_report.specs.Costs.{cost_of, units_at, units_in, units_or_none}
use Rattle.sn_report.specs.Mixing.{pairs, shared_by}
use Rattle.sn_report.specs.Reports.{Sight, held_sight, seen_mixes, seen_units, stage_weight}
use Rattle.sn_report.specs.Weights.{Weighed, Weight, both, group_weight, group_weighed, heavier, heaviest, in_order, is_split, node_weighed, nothing, weighed}
use Rattle.sn_report.proofs.RowWeights.{members_weight, row_weight, run_weight}
use Rattle.sn_report.proofs.Mixed.{same_pairs, same_shared, seen}
use Rattle.sn_report.proofs.Used.{seen_units_is}

-- ---- weights together

weight_is : (c d : ℕ) (xs ys : List ℤ) → c ≡ d → xs ≡ ys → ◌≡◌ {A = Weight} (record { cost = c; chain = xs }) (record { cost = d; chain = ys })
weight_is c d xs ys e f = λ i. record { cost = e i; chain = f i }

both_assoc : (u v w : Weight) → both (both u v) w ≡ both u (both v w)
both_assoc u v w = weight_is (u.cost + v.cost + w.cost) (u.cost + (v.cost + w.cost)) (u.chain ++ v.chain ++ w.chain) (u.chain ++ (v.chain ++ w.chain)) (omega arith) (append_assoc u.chain v.chain w.chain)

both_none : (w : Weight) → both w nothing ≡ w
both_none w = weight_is (w.cost + 0) w.cost (w.chain ++ []) w.chain (omega arith) (append-nil w.chain)

none_both : (w : Weight) → both nothing w ≡ w
none_both w = weight_is (0 + w.cost) w.cost w.chain w.chain (omega arith) refl

in_order-append : (vs ws : List Weight) → in_order (vs ++ ws) ≡ both (in_order vs) (in_order ws)
in_order-append [] ws = sym (none_both (in_order ws))
in_order-append (v ∷ vs) ws = ap (both v) (in_order-append vs ws) ∙ sym (both_assoc v (in_order vs) (in_order ws))

pub cost-append : (units : ℤ → ℕ) (xs ys : List ℤ) → cost_of units (xs ++ ys) ≡ cost_of units xs + cost_of units ys
cost-append units [] ys = omega arith
cost-append units (x ∷ xs) ys = omega (arith, cost-append units xs ys)

-- ---- of rows

module _ (units : ℤ → ℕ) where
  -- those of nodes that are heard
  abbrev pub heard_weights : HeardNodes → List Weight
  heard_weights none = []
  heard_weights (synth v rest) = (record { cost = units v.id; chain = v.id ∷ [] }) ∷ heard_weights rest
  heard_weights (group lanes inner rest) = group_weight (is_some lanes) (heard_weights inner) ++ heard_weights rest

  heaviest_one : (w : Weight) → heaviest (w ∷ []) ≡ w
  heaviest_one w = cond-false (nat_lt w.cost 0) nothing w (le-ltb w.cost 0 (omega arith))

  weight_close : (run : List Voice) (r : Row) → row_weight units (close run r) ≡ both (run_weight units run) (row_weight units r)
  weight_close [] r = sym (none_both (row_weight units r))
  weight_close (v ∷ vs) r = refl

  weight_followed : (x y : Row) → row_weight units (followed x y) ≡ both (row_weight units x) (row_weight units y)
  weight_followed done y = sym (none_both (row_weight units y))
  weight_followed (job vs x) y = ap (both (run_weight units vs)) (weight_followed x y) ∙ sym (both_assoc (run_weight units vs) (row_weight units x) (row_weight units y))
  weight_followed (split lanes ms x) y = ap (both (members_weight units ms)) (weight_followed x y) ∙ sym (both_assoc (members_weight units ms) (row_weight units x) (row_weight units y))

  weight_run : (run : List Voice) (v : Voice) → run_weight units (run ++ v ∷ []) ≡ both (run_weight units run) (record { cost = units v.id; chain = v.id ∷ [] })
  weight_run run v =
      weight_is (cost_of units (ids_of (run ++ v ∷ []))) (cost_of units (ids_of run) + units v.id) (ids_of (run ++ v ∷ [])) (ids_of run ++ v.id ∷ [])
      (ap (cost_of units) (ids-append run (v ∷ [])) ∙ (cost-append units (ids_of run) (v.id ∷ []) ∙ ap (λ n. cost_of units (ids_of run) + n) (add-zero (units v.id))))
      (ids-append run (v ∷ []))

  weight_members : (r : Row) (rs : List Row) → members_weight units (members r rs) ≡ heaviest (row_weight units r ∷ map (row_weight units) rs)
  weight_members r [] = sym (heaviest_one (row_weight units r))
  weight_members r (q ∷ rs) = ap (heavier (row_weight units r)) (weight_members q rs)

  weight_joined : (lanes : List Moved) (rs : List Row) → row_weight units (joined lanes rs) ≡ heaviest (map (row_weight units) rs)
  weight_joined lanes [] = refl
  weight_joined lanes (r ∷ []) = sym (heaviest_one (row_weight units r))
  weight_joined lanes (r ∷ q ∷ rs) = both_none (heavier (row_weight units r) (members_weight units (members q rs))) ∙ ap (heavier (row_weight units r)) (weight_members q rs)

  -- a row's weight in a list, in which an empty row has none
  abbrev listed_weight : Row → List Weight
  listed_weight done = []
  listed_weight (job vs r) = row_weight units (job vs r) ∷ []
  listed_weight (split lanes ms r) = row_weight units (split lanes ms r) ∷ []

  weight_keep : (r : Row) (rs : List Row) → map (row_weight units) (keep r rs) ≡ listed_weight r ++ map (row_weight units) rs
  weight_keep done rs = refl
  weight_keep (job vs r) rs = refl
  weight_keep (split lanes ms r) rs = refl

  some_listed : (r : Row) → 1 ≤ size r → listed_weight r ≡ row_weight units r ∷ []
  some_listed done l = absurd (omega arith)
  some_listed (job vs r) l = refl
  some_listed (split lanes ms r) l = refl

  -- that of members, of which none is empty
  listed_joined : (lanes : List Moved) (rs : List Row) → AllFull rs → listed_weight (joined lanes rs) ≡ group_weight true (map (row_weight units) rs)
  listed_joined lanes [] f = refl
  listed_joined lanes (r ∷ []) f = some_listed r f.0 ∙ ap (λ w. w ∷ []) (sym (heaviest_one (row_weight units r)))
  listed_joined lanes (r ∷ q ∷ rs) f = ap (λ w. w ∷ []) (weight_joined lanes (r ∷ q ∷ rs))

  order_group : (ws : List Weight) → in_order (group_weight false ws) ≡ in_order ws
  order_group [] = refl
  order_group (w ∷ ws) = both_none (in_order (w ∷ ws))

  heaviest_group : (ws : List Weight) → in_order (group_weight true ws) ≡ heaviest ws
  heaviest_group [] = refl
  heaviest_group (w ∷ ws) = both_none (heaviest (w ∷ ws))

  one_weight : (v : Voice) → row_weight units (job (v ∷ []) done) ≡ record { cost = units v.id; chain = v.id ∷ [] }
  one_weight v = weight_is (units v.id + 0 + 0) (units v.id) (v.id ∷ []) (v.id ∷ []) (omega arith) refl

  -- nodes that are heard have a weight, and their row is not empty
  length_group : (flag : Bool) (ws : List Weight) → 1 ≤ length ws → length (group_weight flag ws) ≡ 1
  length_group flag [] l = absurd (omega arith)
  length_group flag (w ∷ ws) l = refl

  some_weight : (nodes : HeardNodes) → AreHeard nodes → 1 ≤ length (voices nodes) → 1 ≤ length (heard_weights nodes)
  some_weight none h l = l
  some_weight (synth v rest) h l = omega arith
  some_weight (group lanes inner rest) h l = omega (arith, length-append (group_weight (is_some lanes) (heard_weights inner)) (heard_weights rest), length_group (is_some lanes) (heard_weights inner) (some_weight inner h.1.0 h.0))

  some_group : (ws : List Weight) → 1 ≤ length ws → group_weight false ws ≡ in_order ws ∷ []
  some_group [] l = absurd (omega arith)
  some_group (w ∷ ws) l = refl

  heard_listed : (r : Row) → 1 ≤ length (heard r) → listed_weight r ≡ row_weight units r ∷ []
  heard_listed done l = absurd (omega arith)
  heard_listed (job vs r) l = refl
  heard_listed (split lanes ms r) l = refl

  weight_after : (run : List Voice) (r : Row) (rest : HeardNodes) (ws : List Weight) → row_weight units (row_of [] rest) ≡ both (run_weight units []) (in_order (heard_weights rest)) → row_weight units r ≡ in_order ws → row_weight units (close run (followed r (row_of [] rest))) ≡ both (run_weight units run) (in_order (ws ++ heard_weights rest))
  weight_after run r rest ws own e =
      let later : row_weight units (row_of [] rest) ≡ in_order (heard_weights rest) = own ∙ none_both (in_order (heard_weights rest)) in
      weight_close run (followed r (row_of [] rest))
      ∙ ap (both (run_weight units run)) (weight_followed r (row_of [] rest) ∙ ((λ i. both (e i) (later i)) ∙ sym (in_order-append ws (heard_weights rest))))

  mutual
    pub weight_row : (run : List Voice) (nodes : HeardNodes) → AreHeard nodes → row_weight units (row_of run nodes) ≡ both (run_weight units run) (in_order (heard_weights nodes))
    weight_row run none h = weight_close run done
    weight_row run (synth v rest) h =
        weight_row (run ++ v ∷ []) rest h
        ∙ (ap (λ w. both w (in_order (heard_weights rest))) (weight_run run v)
        ∙ both_assoc (run_weight units run) (record { cost = units v.id; chain = v.id ∷ [] }) (in_order (heard_weights rest)))
    weight_row run (group (Some lanes) inner rest) h =
        weight_after run (joined lanes (rows_of inner)) rest (group_weight true (heard_weights inner)) (weight_row [] rest h.1.1)
        (weight_joined lanes (rows_of inner) ∙ (ap heaviest (weight_rows inner h.1.0) ∙ sym (heaviest_group (heard_weights inner))))
    weight_row run (group None inner rest) h =
        weight_after run (row_of [] inner) rest (group_weight false (heard_weights inner)) (weight_row [] rest h.1.1)
        (weight_row [] inner h.1.0 ∙ (none_both (in_order (heard_weights inner)) ∙ sym (order_group (heard_weights inner))))

    pub weight_rows : (nodes : HeardNodes) → AreHeard nodes → map (row_weight units) (rows_of nodes) ≡ heard_weights nodes
    weight_rows none h = refl
    weight_rows (synth v rest) h = λ i. one_weight v i ∷ weight_rows rest h i
    weight_rows (group (Some lanes) inner rest) h =
        let first : listed_weight (joined lanes (rows_of inner)) ≡ group_weight true (heard_weights inner) = listed_joined lanes (rows_of inner) (full-rows inner) ∙ ap (group_weight true) (weight_rows inner h.1.0) in
        weight_keep (joined lanes (rows_of inner)) (rows_of rest) ∙ (λ i. first i ++ weight_rows rest h.1.1 i)
    weight_rows (group None inner rest) h =
        let some : 1 ≤ length (heard (row_of [] inner)) = subst (λ (vs : List Voice). 1 ≤ length vs) (sym (heard-row [] inner)) h.0 in
        let row : row_weight units (row_of [] inner) ≡ in_order (heard_weights inner) = weight_row [] inner h.1.0 ∙ none_both (in_order (heard_weights inner)) in
        let first : listed_weight (row_of [] inner) ≡ group_weight false (heard_weights inner) = heard_listed (row_of [] inner) some ∙ (ap (λ w. w ∷ []) row ∙ sym (some_group (heard_weights inner) (some_weight inner h.1.0 h.0))) in
        weight_keep (row_of [] inner) (rows_of rest) ∙ (λ i. first i ++ weight_rows rest h.1.1 i)

-- ---- of the nodes of a tree

-- a function of ids that tells the units of each node
abbrev pub Tells : (ℤ → ℕ) → Nodes Held → Type 0
Tells units trees.none = Unit {0}
Tells units (trees.node label below after) = (units label.id ≡ units_of label.payload) × (Tells units below × Tells units after)

tells_same : (u v : ℤ → ℕ) (t : Nodes Held) → ((id : ℤ) → holds id t ≡ true → u id ≡ v id) → Tells u t → Tells v t
tells_same u v trees.none same tells = tt
tells_same u v (trees.node label below after) same tells = (
  sym (same label.id (or_left (int_eq label.id label.id) (holds label.id below || holds label.id after) ((Decides-int_eq label.id label.id).1 refl))) ∙ tells.0,
  (
    tells_same u v below (λ id h. same id (or_right (int_eq label.id id) (holds id below || holds id after) (or_left (holds id below) (holds id after) h))) tells.1.0,
    tells_same u v after (λ id h. same id (or_right (int_eq label.id id) (holds id below || holds id after) (or_right (holds id below) (holds id after) h))) tells.1.1,
  ),
)

abbrev units_by : Option (Label Held) → ℕ
units_by o = units_or_none (option_map (λ l. l.payload) o)

-- if ids are distinct, the function that finds a node by its id tells its units
pub tells_by_id : (t : Nodes Held) → Distinct t → Tells (units_at t) t
tells_by_id trees.none one = tt
tells_by_id (trees.node label below after) one = (
  ap units_by (cond-true (int_eq label.id label.id) (Some label) (if holds label.id below then label_of label.id below else label_of label.id after) ((Decides-int_eq label.id label.id).1 refl)),
  (
    tells_same (units_at below) (units_at (trees.node label below after)) below
        (λ id h. let other = not_here label below after id one (let s = held_some id below h in omega arith) in
        sym (ap units_by (cond-false (int_eq label.id id) (Some label) (if holds id below then label_of id below else label_of id after) other ∙ cond-true (holds id below) (label_of id below) (label_of id after) h)))
        (tells_by_id below (distinct_below label below after one)),
    tells_same (units_at after) (units_at (trees.node label below after)) after
        (λ id h. let other = not_here label below after id one (let s = held_some id after h in omega arith) in
        sym (ap units_by (cond-false (int_eq label.id id) (Some label) (if holds id below then label_of id below else label_of id after) other ∙ cond-false (holds id below) (label_of id below) (label_of id after) (not_below label below after id one h))))
        (tells_by_id after (distinct_after label below after one)),
  ),
)

-- those of nodes whose synths were given lanes
weights_given : (units : ℤ → ℕ) (first k : ℕ) (ns : List ℕ) (t : HeardNodes) → heard_weights units (given first k ns t) ≡ heard_weights units t
weights_given units first k ns none = refl
weights_given units first k ns (synth v rest) = λ i. (record { cost = units v.id; chain = v.id ∷ [] }) ∷ weights_given units first (k + length (mixed_of ns v)) ns rest i
weights_given units first k ns (group lanes inner rest) = λ i. group_weight (is_some lanes) (weights_given units first k ns inner i) ++ weights_given units first (k + bus_pairs ns (voices inner)) ns rest i

module _ (units : ℤ → ℕ) (buffers : List (Option BufferPlace)) (clashing : List ℤ) (first : ℕ) where
  abbrev heard_of : Nodes Held → HeardNodes
  heard_of t = running_of buffers clashing t

  abbrev told : List Bool → ℕ → Nodes Held → Weighed
  told above taken t = weighed seen_units seen_mixes clashing above taken (with_payloads held_sight t)

  abbrev laid : List Bool → ℕ → HeardNodes → Laned
  laid above taken nodes = laned first 4096 above taken nodes

  -- the weights of nodes with their lanes are told, and how many lanes are taken
  abbrev IsTold : Weighed → Laned → Type 0
  IsTold w l = (w.weights ≡ heard_weights units l.nodes) × (w.taken ≡ l.taken)

  abbrev AllTold : List Bool → Nodes Held → Type 0
  AllTold above t = (taken : ℕ) → IsTold (told above taken t) (laid above taken (heard_of t))

  -- nodes after others
  abbrev then_told : List Bool → Weighed → Nodes Held → Weighed
  then_told above w after = record { weights = w.weights ++ (told above w.taken after).weights; taken = (told above w.taken after).taken }

  none_told : (above : List Bool) (taken : ℕ) (w : Weighed) (after : Nodes Held) → w.weights ≡ [] → w.taken ≡ taken → AllTold above after → IsTold (then_told above w after) (laid above taken (heard_of after))
  none_told above taken w after e f tail = ((λ i. e i ++ (told above (f i) after).weights) ∙ (tail taken).0, (λ i. (told above (f i) after).taken) ∙ (tail taken).1)

  plain_told : (above : List Bool) (taken : ℕ) (may : Option (List Moved)) (below : HeardNodes) (w : Weighed) (after : Nodes Held) → is_laned first 4096 above taken may below ≡ false → IsTold w (laid above taken below) → AllTold above after
      → IsTold (then_told above (record { weights = group_weight false w.weights; taken = w.taken }) after) (laid above taken (group may below (heard_of after)))
  plain_told above taken may below w after h p tail =
      let a : Laned = laid above taken below in
      subst (IsTold (then_told above (record { weights = group_weight false w.weights; taken = w.taken }) after)) (sym (then_plain first 4096 above taken may below (heard_of after) h)) (
        (λ i. group_weight false (p.0 i) ++ (told above (p.1 i) after).weights) ∙ ap (λ ws. group_weight false (heard_weights units a.nodes) ++ ws) (tail a.taken).0,
        (λ i. (told above (p.1 i) after).taken) ∙ (tail a.taken).1,
      )

  split_told : (above : List Bool) (taken : ℕ) (may : Option (List Moved)) (below : HeardNodes) (w : Weighed) (after : Nodes Held) → is_laned first 4096 above taken may below ≡ true → IsTold w (laid (with_shared above (lanes_shared above below)) (taken + bus_pairs (lanes_shared above below) (voices below)) below) → AllTold above after
      → IsTold (then_told above (record { weights = group_weight true w.weights; taken = w.taken }) after) (laid above taken (group may below (heard_of after)))
  split_told above taken may below w after h p tail =
      let ns : List ℕ = lanes_shared above below in
      let a : Laned = laid (with_shared above ns) (taken + bus_pairs ns (voices below)) below in
      let q : w.weights ≡ heard_weights units (given first taken ns a.nodes) = p.0 ∙ sym (weights_given units first taken ns a.nodes) in
      subst (IsTold (then_told above (record { weights = group_weight true w.weights; taken = w.taken }) after)) (sym (then_split first 4096 above taken may below (heard_of after) h)) (
        (λ i. group_weight true (q i) ++ (told above (p.1 i) after).weights) ∙ ap (λ ws. group_weight true (heard_weights units (given first taken ns a.nodes)) ++ ws) (tail a.taken).0,
        (λ i. (told above (p.1 i) after).taken) ∙ (tail a.taken).1,
      )

  may_if : (flag : Bool) → is_some (lanes_if flag) ≡ flag
  may_if true = refl
  may_if false = refl

  -- a group that is kept
  kept_told : (flag parted : Bool) (above : List Bool) (taken : ℕ) (below : HeardNodes) (plain apart : Weighed) (after : Nodes Held) → parted ≡ (flag && nat_le (taken + bus_pairs (lanes_shared above below) (voices below)) 4096)
      → IsTold plain (laid above taken below) → IsTold apart (laid (with_shared above (lanes_shared above below)) (taken + bus_pairs (lanes_shared above below) (voices below)) below) → AllTold above after
      → IsTold (then_told above (group_weighed parted plain apart) after) (laid above taken (group (lanes_if flag) below (heard_of after)))
  kept_told flag true above taken below plain apart after h p q tail =
      let end : ℕ = taken + bus_pairs (lanes_shared above below) (voices below) in
      split_told above taken (lanes_if flag) below apart after (ap (λ b. b && nat_le end 4096) (may_if flag) ∙ sym h) q tail
  kept_told flag false above taken below plain apart after h p q tail =
      let end : ℕ = taken + bus_pairs (lanes_shared above below) (voices below) in
      plain_told above taken (lanes_if flag) below plain after (ap (λ b. b && nat_le end 4096) (may_if flag) ∙ sym h) p tail

  -- one in which no synth runs is left out
  left_told : (parted : Bool) (above : List Bool) (taken : ℕ) (plain apart : Weighed) (after : Nodes Held) → IsTold plain (laid above taken none) → (end : ℕ) → end ≡ taken → IsTold apart (laid (with_shared above (lanes_shared above none)) end none) → AllTold above after
      → IsTold (then_told above (group_weighed parted plain apart) after) (laid above taken (heard_of after))
  left_told true above taken plain apart after p end e q tail = none_told above taken (group_weighed true plain apart) after (ap (group_weight true) q.0) (q.1 ∙ e) tail
  left_told false above taken plain apart after p end e q tail = none_told above taken (group_weighed false plain apart) after (ap (group_weight false) p.0) p.1 tail

  group_told : (flag parted : Bool) (above : List Bool) (taken : ℕ) (below : HeardNodes) (plain apart : Weighed) (after : Nodes Held) → parted ≡ (flag && nat_le (taken + bus_pairs (lanes_shared above below) (voices below)) 4096)
      → IsTold plain (laid above taken below) → IsTold apart (laid (with_shared above (lanes_shared above below)) (taken + bus_pairs (lanes_shared above below) (voices below)) below) → AllTold above after
      → IsTold (then_told above (group_weighed parted plain apart) after) (laid above taken (with_group flag below (heard_of after)))
  group_told flag parted above taken none plain apart after h p q tail = left_told parted above taken plain apart after p (taken + 0) (omega arith) q tail
  group_told flag parted above taken (synth v rest) plain apart after h p q tail = kept_told flag parted above taken (synth v rest) plain apart after h p q tail
  group_told flag parted above taken (group lanes inner rest) plain apart after h p q tail = kept_told flag parted above taken (group lanes inner rest) plain apart after h p q tail

  node_told : (kind : NodeKind) (label : Label Held) (below : HeardNodes) (after : Nodes Held) (above : List Bool) (taken : ℕ) (parted : Bool) (plain apart : Weighed) → units label.id ≡ units_of label.payload
      → parted ≡ (may_split clashing label.id && nat_le (taken + bus_pairs (lanes_shared above below) (voices below)) 4096)
      → IsTold plain (laid above taken below) → IsTold apart (laid (with_shared above (lanes_shared above below)) (taken + bus_pairs (lanes_shared above below) (voices below)) below) → AllTold above after
      → IsTold (then_told above (node_weighed seen_units seen_mixes clashing kind (seen label) parted taken plain apart) after) (laid above taken (with_node buffers clashing kind label below (heard_of after)))
  node_told kinds.Synth label below after above taken parted plain apart u h p q tail =
      let same : seen_units (held_sight label.payload) ≡ units label.id = seen_units_is label.payload ∙ sym u in
      ((λ i. (record { cost = same i; chain = label.id ∷ [] }) ∷ (tail taken).0 i), (tail taken).1)
  node_told kinds.Group label below after above taken parted plain apart u h p q tail = group_told false false above taken below plain apart after refl p q tail
  node_told kinds.Parallel label below after above taken parted plain apart u h p q tail = group_told (may_split clashing label.id) parted above taken below plain apart after h p q tail

  told_if : (run : Bool) (x y : HeardNodes) (v w : Weighed) (above : List Bool) (taken : ℕ) → IsTold v (laid above taken x) → IsTold w (laid above taken y) → IsTold (if run then v else w) (laid above taken (if run then x else y))
  told_if true x y v w above taken p q = p
  told_if false x y v w above taken p q = q

  pub all_told : (t : Nodes Held) → Tells units t → (above : List Bool) (taken : ℕ) → IsTold (told above taken t) (laid above taken (heard_of t))
  all_told trees.none tells above taken = (refl, refl)
  all_told (trees.node label below after) tells above taken =
      let sights : Nodes Sight = with_payloads held_sight below in
      let under : HeardNodes = heard_of below in
      let ns : List ℕ = shared_by seen_mixes above sights in
      let end : ℕ = taken + pairs seen_mixes ns sights in
      let ms : List ℕ = lanes_shared above under in
      let stop : ℕ = taken + bus_pairs ms (voices under) in
      let e : ns ≡ ms = same_shared buffers clashing above below in
      let f : end ≡ stop = ap (λ n. taken + n) (ap (λ (ks : List ℕ). pairs seen_mixes ks sights) e ∙ sym (same_pairs buffers clashing ms (shared_low above under) below)) in
      let parted : Bool = is_split clashing label.id end in
      let plain : Weighed = told above taken below in
      let apart : Weighed = told (with_shared above ns) end below in
      let lain : IsTold apart (laid (with_shared above ms) stop under) =
      subst (λ (x : List ℕ × ℕ). IsTold apart (laid (with_shared above x.0) x.1 under)) (λ i. (e i, f i)) (all_told below tells.1.0 (with_shared above ns) end) in
      let tail : AllTold above after = λ n. all_told after tells.1.1 above n in
      told_if label.running
      (with_node buffers clashing label.kind label under (heard_of after))
      (heard_of after)
      (then_told above (node_weighed seen_units seen_mixes clashing label.kind (seen label) parted taken plain apart) after)
      (told above taken after)
      above taken
      (node_told label.kind label under after above taken parted plain apart tells.0 (ap (λ n. may_split clashing label.id && nat_le n 4096) f) (all_told below tells.1.0 above taken) lain tail)
      (tail taken)

-- the weight of a stage is that of the row of its nodes, wherever the lanes begin
pub stage_row : (stage : Stage) (first : ℕ) → subtree (pos 0) stage.tree.attached ≡ stage.tree.attached → Distinct stage.tree.attached → stage_weight stage ≡ row_weight (units_in stage) (row_of [] (nodes_with first 4096 stage))
stage_row stage first root one =
    let units : ℤ → ℕ = units_in stage in
    let above : List Bool = replicate 128 false in
    let heard_here : HeardNodes = running_of stage.buffers (clashing_in stage) stage.tree.attached in
    let nodes : HeardNodes = (laned first 4096 above 0 heard_here).nodes in
    let same : nodes_with first 4096 stage ≡ nodes = ap (λ (t : Nodes Held). (laned first 4096 above 0 (running_of stage.buffers (clashing_in stage) t)).nodes) root in
    ap in_order (all_told units stage.buffers (clashing_in stage) first stage.tree.attached (tells_by_id stage.tree.attached one) above 0).0
    ∙ (sym (none_both (in_order (heard_weights units nodes)))
    ∙ (sym (weight_row units [] nodes (heard_laned first 4096 above 0 heard_here (all_heard stage.buffers (clashing_in stage) stage.tree.attached)))
    ∙ ap (λ (r : HeardNodes). row_weight units (row_of [] r)) (sym same)))
