-- What running synths cost in a row, and the chain of them that costs as much.
use Rattle.std.specs.Prelude.{ℕ, ◌+◌, nat_le, nat_lt, ℤ, Bool, true, false, not, ◌&&◌, if◌then◌else◌, List, [], ◌∷◌, ◌++◌}
use Rattle.sn_mem.specs.Layout.{most_lanes}
use Rattle.sn_tree.specs.declared.node.NodeKind.{NodeKind}
use Rattle.sn_tree.specs.declared.node.NodeKind.TheVariants as kinds
use Rattle.sn_tree.specs.Trees.{Label, Nodes, none, node}
use Rattle.sn_graph.specs.Lanes.{with_shared}
use Rattle.sn_graph.specs.Plans.{is_listed}
use Rattle.sn_report.specs.Mixing.{pairs, shared_by}

-- a cost, and the ids of the synths of a chain
pub record Weight : Type 0 where
  pub cost : ℕ
  pub chain : List ℤ

abbrev pub nothing : Weight
nothing = record { cost = 0; chain = [] }

abbrev pub both : Weight → Weight → Weight
both v w = record { cost = v.cost + w.cost; chain = v.chain ++ w.chain }

-- all, one after the other
abbrev pub in_order : List Weight → Weight
in_order [] = nothing
in_order (w ∷ ws) = both w (in_order ws)

abbrev pub heavier : Weight → Weight → Weight
heavier v w = if nat_lt v.cost w.cost then w else v

-- the first of those with the greatest cost
abbrev pub heaviest : List Weight → Weight
heaviest [] = nothing
heaviest (w ∷ ws) = heavier w (heaviest ws)

-- The weight of a group whose members run beside each other or in order. A group without a running synth has none.
abbrev pub group_weight : Bool → List Weight → List Weight
group_weight split [] = []
group_weight split (w ∷ ws) = (if split then heaviest (w ∷ ws) else in_order (w ∷ ws)) ∷ []

-- ---- nodes in the order of the walk

-- the weights of nodes, and how many lanes are taken after them
pub record Weighed : Type 0 where
  pub weights : List Weight
  pub taken : ℕ

-- A parallel group is split unless it is one of these, whose members clash, or there are too few lanes.
abbrev pub is_split : List ℤ → ℤ → ℕ → Bool
is_split clashing id end = not (is_listed clashing id) && nat_le end most_lanes

-- a group that is split or not, given what is below it if it is not and if it is
abbrev pub group_weighed : Bool → Weighed → Weighed → Weighed
group_weighed split plain apart =
    if split then record { weights = group_weight true apart.weights; taken = apart.taken }
    else record { weights = group_weight false plain.weights; taken = plain.taken }

-- the units of a payload, which audio buses it mixes, and the parallel groups whose members clash
module _ {P : Type 0} (units : P → ℕ) (mixes : P → ℕ → Bool) (clashing : List ℤ) where
  -- a node which runs
  abbrev pub node_weighed : NodeKind → Label P → Bool → ℕ → Weighed → Weighed → Weighed
  node_weighed kinds.Synth label split taken plain apart = record { weights = (record { cost = units label.payload; chain = label.id ∷ [] }) ∷ []; taken = taken }
  node_weighed kinds.Group label split taken plain apart = group_weighed false plain apart
  node_weighed kinds.Parallel label split taken plain apart = group_weighed split plain apart

  -- Nodes beside each other, of which a paused one is left out with all below it. Flags tell which buses split groups
  -- above share, and a number tells how many lanes are taken. A parallel group takes one lane for each pair of a synth
  -- below it and a bus that its members share and this synth mixes.
  abbrev pub weighed : List Bool → ℕ → Nodes P → Weighed
  weighed above taken none = record { weights = []; taken = taken }
  weighed above taken (node label below after) =
      if label.running
      then (let ns = shared_by mixes above below in
      let end = taken + pairs mixes ns below in
      let w = node_weighed label.kind label (is_split clashing label.id end) taken (weighed above taken below) (weighed (with_shared above ns) end below) in
      let r = weighed above w.taken after in
      record { weights = w.weights ++ r.weights; taken = r.taken })
      else weighed above taken after
