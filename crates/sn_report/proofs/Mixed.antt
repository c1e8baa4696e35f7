-- The nodes of a stage that are heard mix the buses that are told of its nodes.
use Rattle.std.proofs.Common.{◌≡◌, ◌<◌, ℕ, ◌+◌, ℤ, Bool, true, false, not, ◌&&◌, ◌||◌, List, length, Option, sym, refl, ap, ◌∙◌, if◌then◌else◌, arith}
use Rattle.std.specs.Prelude.{slice_index_or}
use Rattle.std.specs.List.{filter}
use Rattle.std.proofs.lemmas.List.Folds.{list_any-append}
use Rattle.sn_mem.specs.declared.buffers.BufferPlace.{BufferPlace}
use Rattle.sn_mem.specs.Blocks.{table}
use Rattle.sn_tree.specs.declared.node.NodeKind.{NodeKind}
use Rattle.sn_tree.specs.declared.node.NodeKind.TheVariants as kinds
use Rattle.sn_tree.specs.Trees as trees
use Rattle.sn_tree.specs.Trees.{Label, Nodes, with_payloads}
use Rattle.sn_world.specs.declared.stage.Held.{Held}
use Rattle.sn_world.specs.declared.stage.Held.TheVariants as held
use Rattle.sn_foot.specs.declared.resource.Resource.TheVariants.{Audio}
use Rattle.sn_foot.specs.Footprints.{held_mixes}
use Rattle.sn_graph.specs.declared.nodes.Voice.{Voice}
use Rattle.sn_graph.specs.Voices.{HeardNodes, none, synth, group, voices}
use Rattle.sn_graph.specs.Sharing as sharing
use Rattle.sn_graph.specs.Sharing.{mixes, one_mixes}
use Rattle.sn_graph.specs.Lanes as lanes
use Rattle.sn_graph.specs.Lanes.{mixed_of}
use Rattle.sn_graph.specs.Stages.{may_split, running_of, voice_of, with_group, with_node}
use Rattle.sn_graph.proofs.Alike.{pairs-append}
use Rattle.sn_graph.proofs.Hearing.{voices_group}
use Rattle.sn_graph.proofs.Laning.{AreLow, filter_low, low_numbers}
use Rattle.sn_graph.proofs.Resources.{mixes_bus}
use Rattle.sn_report.specs.Mixing.{node_mixes, node_pairs, pairs, shared_by, some_mix, two_mix}
use Rattle.sn_report.specs.Reports.{Sight, held_sight, seen_mixes}

abbrev pub seen : Label Held → Label Sight
seen label = record { id = label.id; kind = label.kind; running = label.running; payload = held_sight label.payload }

abbrev sights : Nodes Held → Nodes Sight
sights t = with_payloads held_sight t

module _ (buffers : List (Option BufferPlace)) (clashing : List ℤ) (n : ℕ) (lt : n < 128) where
  abbrev heard : Nodes Held → HeardNodes
  heard t = running_of buffers clashing t

  -- one of the nodes that are heard mixes the bus
  abbrev some_of : HeardNodes → Bool
  some_of nodes = one_mixes (voices nodes) n

  abbrev some_in : Nodes Held → Bool
  some_in t = some_mix seen_mixes (sights t) n

  abbrev two_in : Nodes Held → Bool
  two_in t = two_mix seen_mixes (sights t) n

  sight_mixes : (h : Held) → seen_mixes (held_sight h) n ≡ held_mixes h (Audio n)
  sight_mixes held.Group = refl
  sight_mixes (held.Synth def controls state) = refl

  voice_mixes : (id : ℤ) (h : Held) → mixes (voice_of buffers id h) n ≡ seen_mixes (held_sight h) n
  voice_mixes id h = mixes_bus buffers h n lt ∙ sym (sight_mixes h)

  -- ---- one of them

  some_group : (flag : Bool) (b a : HeardNodes) → some_of (with_group flag b a) ≡ (some_of b || some_of a)
  some_group flag b a = ap (λ (vs : List Voice). one_mixes vs n) (voices_group flag b a) ∙ list_any-append (λ v. mixes v n) (voices b) (voices a)

  some_node : (kind : NodeKind) (label : Label Held) (b a : HeardNodes) (below after : Bool) → some_of b ≡ below → some_of a ≡ after
      → some_of (with_node buffers clashing kind label b a) ≡ (node_mixes seen_mixes kind (seen label) below n || after)
  some_node kinds.Synth label b a below after e f = λ i. voice_mixes label.id label.payload i || f i
  some_node kinds.Group label b a below after e f = some_group false b a ∙ (λ i. e i || f i)
  some_node kinds.Parallel label b a below after e f = some_group (may_split clashing label.id) b a ∙ (λ i. e i || f i)

  some_if : (run : Bool) (x y : HeardNodes) (p q : Bool) → some_of x ≡ (p || q) → some_of y ≡ q → some_of (if run then x else y) ≡ ((run && p) || q)
  some_if true x y p q e f = e
  some_if false x y p q e f = f

  some_heard : (t : Nodes Held) → some_of (heard t) ≡ some_in t
  some_heard trees.none = refl
  some_heard (trees.node label below after) =
      some_if label.running (with_node buffers clashing label.kind label (heard below) (heard after)) (heard after) (node_mixes seen_mixes label.kind (seen label) (some_in below) n) (some_in after)
      (some_node label.kind label (heard below) (heard after) (some_in below) (some_in after) (some_heard below) (some_heard after))
      (some_heard after)

  -- ---- two of them

  two_group : (flag : Bool) (b a : HeardNodes) → sharing.two_mix (with_group flag b a) n ≡ ((some_of b && some_of a) || sharing.two_mix a n)
  two_group flag none a = refl
  two_group flag (synth v rest) a = refl
  two_group flag (group g inner rest) a = refl

  two_node : (kind : NodeKind) (label : Label Held) (b a : HeardNodes) (below after later : Bool) → some_of b ≡ below → some_of a ≡ after → sharing.two_mix a n ≡ later
      → sharing.two_mix (with_node buffers clashing kind label b a) n ≡ ((node_mixes seen_mixes kind (seen label) below n && after) || later)
  two_node kinds.Synth label b a below after later e f g = λ i. (voice_mixes label.id label.payload i && f i) || g i
  two_node kinds.Group label b a below after later e f g = two_group false b a ∙ (λ i. (e i && f i) || g i)
  two_node kinds.Parallel label b a below after later e f g = two_group (may_split clashing label.id) b a ∙ (λ i. (e i && f i) || g i)

  two_if : (run : Bool) (x y : HeardNodes) (p q : Bool) → sharing.two_mix x n ≡ (p || q) → sharing.two_mix y n ≡ q → sharing.two_mix (if run then x else y) n ≡ ((run && p) || q)
  two_if true x y p q e f = e
  two_if false x y p q e f = f

  two_heard : (t : Nodes Held) → sharing.two_mix (heard t) n ≡ two_in t
  two_heard trees.none = refl
  two_heard (trees.node label below after) =
      two_if label.running (with_node buffers clashing label.kind label (heard below) (heard after)) (heard after) (node_mixes seen_mixes label.kind (seen label) (some_in below) n && some_in after) (two_in after)
      (two_node label.kind label (heard below) (heard after) (some_in below) (some_in after) (two_in after) (some_heard below) (some_heard after) (two_heard after))
      (two_heard after)

-- ---- all buses

module _ (buffers : List (Option BufferPlace)) (clashing : List ℤ) where
  -- the members of a group share the buses that are told
  pub same_shared : (above : List Bool) (t : Nodes Held) → shared_by seen_mixes above (with_payloads held_sight t) ≡ lanes.shared_by above (running_of buffers clashing t)
  same_shared above t =
      filter_low (λ n. two_mix seen_mixes (with_payloads held_sight t) n && not (slice_index_or above n false)) (λ n. sharing.two_mix (running_of buffers clashing t) n && not (slice_index_or above n false))
      (table (λ n. n) 128) (low_numbers 128 (omega arith)) (λ n lt. ap (λ b. b && not (slice_index_or above n false)) (sym (two_heard buffers clashing n lt t)))

  module _ (ns : List ℕ) (low : AreLow ns) where
    abbrev pairs_of : HeardNodes → ℕ
    pairs_of nodes = lanes.pairs ns (voices nodes)

    pairs_group : (flag : Bool) (b a : HeardNodes) → pairs_of (with_group flag b a) ≡ pairs_of b + pairs_of a
    pairs_group flag b a = ap (lanes.pairs ns) (voices_group flag b a) ∙ pairs-append ns (voices b) (voices a)

    pairs_node : (kind : NodeKind) (label : Label Held) (b a : HeardNodes) (below after : ℕ) → pairs_of b ≡ below → pairs_of a ≡ after
        → pairs_of (with_node buffers clashing kind label b a) ≡ node_pairs seen_mixes kind (seen label) ns below + after
    pairs_node kinds.Synth label b a below after e f =
        let same : mixed_of ns (voice_of buffers label.id label.payload) ≡ filter (seen_mixes (held_sight label.payload)) ns =
        filter_low (mixes (voice_of buffers label.id label.payload)) (seen_mixes (held_sight label.payload)) ns low (λ n lt. voice_mixes buffers clashing n lt label.id label.payload) in
        λ i. length (same i) + f i
    pairs_node kinds.Group label b a below after e f = pairs_group false b a ∙ (λ i. e i + f i)
    pairs_node kinds.Parallel label b a below after e f = pairs_group (may_split clashing label.id) b a ∙ (λ i. e i + f i)

    pairs_if : (run : Bool) (x y : HeardNodes) (p q : ℕ) → pairs_of x ≡ p + q → pairs_of y ≡ q → pairs_of (if run then x else y) ≡ (if run then p else 0) + q
    pairs_if true x y p q e f = e
    pairs_if false x y p q e f = omega (arith, f)

    -- as many pairs are told
    pub same_pairs : (t : Nodes Held) → pairs_of (running_of buffers clashing t) ≡ pairs seen_mixes ns (with_payloads held_sight t)
    same_pairs trees.none = refl
    same_pairs (trees.node label below after) =
        pairs_if label.running (with_node buffers clashing label.kind label (running_of buffers clashing below) (running_of buffers clashing after)) (running_of buffers clashing after)
        (node_pairs seen_mixes label.kind (seen label) ns (pairs seen_mixes ns (with_payloads held_sight below))) (pairs seen_mixes ns (with_payloads held_sight after))
        (pairs_node label.kind label (running_of buffers clashing below) (running_of buffers clashing after) (pairs seen_mixes ns (with_payloads held_sight below)) (pairs seen_mixes ns (with_payloads held_sight after)) (same_pairs below) (same_pairs after))
        (same_pairs after)
