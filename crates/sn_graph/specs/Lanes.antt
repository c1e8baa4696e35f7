-- Which groups are split, and onto which lanes their members mix.
use Rattle.std.specs.Prelude.{ℕ, ◌+◌, ◌==◌, Bool, false, not, ◌&&◌, ◌||◌, nat_le, if◌then◌else◌, List, [], ◌∷◌, ◌++◌, length, replicate, slice_index_or, Some, None, is_some}
use Rattle.std.specs.List.{filter, list_any}
use Rattle.sn_ports.specs.Limits.{audio_bus_count}
use Rattle.sn_mem.specs.declared.moves.Moved.{Moved}
use Rattle.sn_mem.specs.Blocks.{table}
use Rattle.sn_mem.specs.Layout.{audio_place, lane_place}
use Rattle.sn_graph.specs.declared.nodes.Voice.{Voice}
use Rattle.sn_graph.specs.Voices.{HeardNodes, none, synth, group, voices}
use Rattle.sn_graph.specs.Sharing.{mixes, two_mix}

-- ---- shared buses

-- The members of a group share a bus if two of them mix it, and no split group above shares it. A flag of each bus says
-- whether one does.
abbrev pub shared_by : List Bool → HeardNodes → List ℕ
shared_by above inner = filter (λ n. two_mix inner n && not (slice_index_or above n false)) (table (λ n. n) audio_bus_count)

abbrev pub is_in : ℕ → List ℕ → Bool
is_in n ns = list_any (λ m. m == n) ns

-- the flags of the members' own groups
abbrev pub with_shared : List Bool → List ℕ → List Bool
with_shared above ns = table (λ n. slice_index_or above n false || is_in n ns) audio_bus_count

-- ---- pairs of a synth and a bus

-- of some buses those that a synth mixes
abbrev pub mixed_of : List ℕ → Voice → List ℕ
mixed_of ns v = filter (mixes v) ns

-- how many pairs there are of a synth and one of these buses that it mixes
abbrev pub pairs : List ℕ → List Voice → ℕ
pairs ns [] = 0
pairs ns (v ∷ vs) = length (mixed_of ns v) + pairs ns vs

-- buses onto lanes, of which the first is lane k of those that begin at a word
abbrev pub onto : ℕ → ℕ → List ℕ → List Moved
onto first k [] = []
onto first k (n ∷ ns) = (record { bus = audio_place n; lane = lane_place first k }) ∷ onto first (k + 1) ns

-- the lanes of all pairs from lane k on: by the synths in the order of the walk, and for each by bus
abbrev pub lanes_from : ℕ → ℕ → List ℕ → List Voice → List Moved
lanes_from first k ns [] = []
lanes_from first k ns (v ∷ vs) = onto first k (mixed_of ns v) ++ lanes_from first (k + length (mixed_of ns v)) ns vs

-- a synth that moves further buses
abbrev pub moving : Voice → List Moved → Voice
moving v moves = record { id = v.id; reach = v.reach; moves = v.moves ++ moves }

-- nodes whose synths move the buses among these that they mix, each onto a lane of its own, from lane k on
abbrev pub given : ℕ → ℕ → List ℕ → HeardNodes → HeardNodes
given first k ns none = none
given first k ns (synth v rest) = synth (moving v (onto first k (mixed_of ns v))) (given first (k + length (mixed_of ns v)) ns rest)
given first k ns (group lanes inner rest) = group lanes (given first k ns inner) (given first (k + pairs ns (voices inner)) ns rest)

-- ---- groups in the order of the walk

-- nodes with their lanes, and how many lanes are taken then
pub record Laned : Type 0 where
  pub nodes : HeardNodes
  pub taken : ℕ

-- A group that may be split is split if enough lanes are left. It takes one for each pair of a synth below it and a bus
-- that its members share and this synth mixes.
abbrev pub laned : ℕ → ℕ → List Bool → ℕ → HeardNodes → Laned
laned first most above taken none = record { nodes = none; taken = taken }
laned first most above taken (synth v rest) =
    let r = laned first most above taken rest in
    record { nodes = synth v r.nodes; taken = r.taken }
laned first most above taken (group may inner rest) =
    let ns = shared_by above inner in
    let end = taken + pairs ns (voices inner) in
    if is_some may && nat_le end most
    then (let a = laned first most (with_shared above ns) end inner in
    let r = laned first most above a.taken rest in
    record { nodes = group (Some (lanes_from first taken ns (voices inner))) (given first taken ns a.nodes) r.nodes; taken = r.taken })
    else (let a = laned first most above taken inner in
    let r = laned first most above a.taken rest in
    record { nodes = group None a.nodes r.nodes; taken = r.taken })

-- with so many lanes, which begin at a word
abbrev pub with_lanes : ℕ → ℕ → HeardNodes → HeardNodes
with_lanes first most nodes = (laned first most (replicate audio_bus_count false) 0 nodes).nodes
