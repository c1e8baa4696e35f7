-- The layout of a world decides its clashes, and which nodes run in a stage that stands for it.
use Rattle.std.proofs.Common.{◌≡◌, ℕ, ℤ, pos, Bool, false, ◌&&◌, ◌||◌, List, [], ◌++◌, Option, Some, None, get_or, map, refl, sym, ap, ◌∙◌}
use Rattle.std.specs.Prelude.{if◌then◌else◌, nat_lt}
use Rattle.std.specs.Option.{option_map}
use Rattle.sn_mem.specs.declared.extents.Extent.{Extent}
use Rattle.sn_mem.specs.declared.buffers.BufferPlace.{BufferPlace}
use Rattle.sn_mem.specs.Buffers.{buffer_of, buffers_of}
use Rattle.sn_mem.specs.Layout.{audio_place, control_place}
use Rattle.sn_tree.specs.declared.node.NodeKind.{NodeKind}
use Rattle.sn_tree.specs.declared.node.NodeKind.TheVariants as kinds
use Rattle.sn_tree.specs.Trees as trees
use Rattle.sn_tree.specs.Trees.{Label, Nodes, subtree, with_payloads}
use Rattle.sn_tree.proofs.PayloadLaws.{subtree-payloads}
use Rattle.sn_world.specs.declared.stage.Held.{Held}
use Rattle.sn_world.specs.declared.stage.Held.TheVariants as held
use Rattle.sn_world.specs.declared.stage.Stage.{Stage}
use Rattle.sn_world.specs.Nodes.{Content, content_of, extents_of}
use Rattle.sn_world.specs.Pictures.{held_extents}
use Rattle.sn_world.specs.World.{World, world_of}
use Rattle.sn_quiet.specs.Quiet.{are_quiet}
use Rattle.sn_quiet.proofs.QuietStages.{nodes_are}
use Rattle.sn_foot.specs.declared.resource.Resource.{Resource}
use Rattle.sn_foot.specs.declared.resource.Resource.TheVariants.{Audio, Control, Buffer}
use Rattle.sn_foot.specs.declared.uses.Role.{Role}
use Rattle.sn_foot.specs.declared.uses.Role.TheVariants.{Read, Write, Mix}
use Rattle.sn_foot.specs.Canonical.{canonical}
use Rattle.sn_foot.specs.Footprints.{buffer_words, is_there, listed, place_of, where_used}
use Rattle.sn_foot.specs.Uses.{held_uses}
use Rattle.sn_clash.specs.declared.clash.Clash.{Clash}
use Rattle.sn_clash.specs.Clashing.{clashes, clashes_of, content_uses}
use Rattle.sn_clash.proofs.Worlds.{same_clashes}
use Rattle.sn_graph.specs.declared.nodes.Voice.{Voice}
use Rattle.sn_graph.specs.Voices.{HeardNodes, none, synth}
use Rattle.sn_graph.specs.Stages.{may_split, voice_of, with_group, with_node, running_of, clashing_in, nodes_in}
use Rattle.sn_layout.specs.Layout.{Layout, extent_of, laid, layout_of}
use Rattle.sn_clash.proofs.Mapped.{at_map, there_map, clashes_mapped}
use Rattle.sn_layout.proofs.Reading.{quiet_laid, uses_same}

-- ---- clashes

abbrev clashes_from : Layout → List Clash
clashes_from l = clashes (is_there l.buffers) content_uses l.nodes

clashes_are : (w : World) → clashes_of w ≡ clashes_from (layout_of w)
clashes_are w =
    sym (clashes_mapped laid (is_there (map (option_map extent_of) w.buffers)) content_uses w.nodes
    ∙ (λ i. clashes (λ r. there_map extent_of w.buffers r i) (λ role c r. uses_same role c r i) w.nodes))

pub clashes_alike : (v w : World) → layout_of v ≡ layout_of w → clashes_of v ≡ clashes_of w
clashes_alike v w e = clashes_are v ∙ ap clashes_from e ∙ sym (clashes_are w)

pub quiet_alike : (v w : World) → layout_of v ≡ layout_of w → are_quiet v.nodes ≡ are_quiet w.nodes
quiet_alike v w e = sym (quiet_laid v.nodes) ∙ ap (λ (l : Layout). are_quiet l.nodes) e ∙ quiet_laid w.nodes

-- ---- synths that run

-- the place of a resource, of which a buffer has the words of its number
abbrev place_in : List (Option Extent) → Resource → Option Extent
place_in buffers (Audio n) = if nat_lt n 128 then Some (audio_place n) else None
place_in buffers (Control n) = if nat_lt n 1024 then Some (control_place n) else None
place_in buffers (Buffer n) = if nat_lt n 1024 then get_or buffers n None else None

abbrev placed : (Resource → Option Extent) → (Resource → Bool) → List Extent
placed place used =
    listed (λ n. where_used (used (Audio n)) (place (Audio n))) 128
    ++ (listed (λ n. where_used (used (Control n)) (place (Control n))) 1024
    ++ listed (λ n. where_used (used (Buffer n)) (place (Buffer n))) 1024)

-- what is read, written and mixed, and where the state is
abbrev voice_with : (Resource → Bool) → (Resource → Option Extent) → ℤ → (Role → Resource → Bool) → List Extent → Voice
voice_with there place id uses state = record {
  id = id;
  reach = record {
    reads = canonical (placed place (λ r. there r && (uses Read r || false)));
    writes = canonical (placed place (λ r. there r && (uses Write r || false)) ++ state);
    mixes = canonical (placed place (λ r. there r && (uses Mix r || false)));
  };
  moves = [];
}

abbrev voice_from : List (Option Extent) → ℤ → Content → Voice
voice_from buffers id c = voice_with (is_there buffers) (place_in buffers) id (λ role r. content_uses role c r) (extents_of c ++ [])

-- as in a stage
module _ (buffers : List (Option Extent)) (clashing : List ℤ) where
  abbrev node_from : NodeKind → ℤ → Content → HeardNodes → HeardNodes → HeardNodes
  node_from kinds.Synth id c below after = synth (voice_from buffers id c) after
  node_from kinds.Group id c below after = with_group false below after
  node_from kinds.Parallel id c below after = with_group (may_split clashing id) below after

  abbrev running_from : Nodes Content → HeardNodes
  running_from trees.none = none
  running_from (trees.node label below after) =
      if label.running then node_from label.kind label.id label.payload (running_from below) (running_from after)
      else running_from after

abbrev nodes_from : Layout → HeardNodes
nodes_from l = running_from l.buffers (map (λ (c : Clash). c.group) (clashes_from l)) (subtree (pos 0) l.nodes)

-- ---- those of a stage

module _ (places : List (Option BufferPlace)) (words : List ℕ) where
  abbrev extents : List (Option Extent)
  extents = map (option_map extent_of) (buffers_of words places)

  there_same : (r : Resource) → is_there places r ≡ is_there extents r
  unfolding buffers_of
  there_same r = sym (there_map extent_of (map (option_map (buffer_of words)) places) r ∙ there_map (buffer_of words) places r)

  words_same : (o : Option BufferPlace) → buffer_words o ≡ option_map extent_of (option_map (buffer_of words) o)
  words_same None = refl
  words_same (Some p) = refl

  words_at : (n : ℕ) → buffer_words (get_or places n None) ≡ get_or extents n None
  unfolding buffers_of
  words_at n =
      words_same (get_or places n None)
      ∙ ap (option_map extent_of) (sym (at_map (buffer_of words) places n))
      ∙ sym (at_map extent_of (map (option_map (buffer_of words)) places) n)

  place_same : (r : Resource) → place_of places r ≡ place_in extents r
  place_same (Audio n) = refl
  place_same (Control n) = refl
  place_same (Buffer n) = ap (λ (o : Option Extent). if nat_lt n 1024 then o else None) (words_at n)

  abbrev seen : Held → Content
  seen h = laid (content_of words h)

  seen_uses : (role : Role) (h : Held) (r : Resource) → held_uses role h r ≡ content_uses role (seen h) r
  seen_uses Read held.Group r = refl
  seen_uses Write held.Group r = refl
  seen_uses Mix held.Group r = refl
  seen_uses Read (held.Synth def controls state) r = sym (uses_same Read (content_of words (held.Synth def controls state)) r)
  seen_uses Write (held.Synth def controls state) r = sym (uses_same Write (content_of words (held.Synth def controls state)) r)
  seen_uses Mix (held.Synth def controls state) r = sym (uses_same Mix (content_of words (held.Synth def controls state)) r)

  seen_state : (h : Held) → held_extents h ++ [] ≡ extents_of (seen h) ++ []
  seen_state held.Group = refl
  seen_state (held.Synth def controls state) = refl

  voice_same : (id : ℤ) (h : Held) → voice_of places id h ≡ voice_from extents id (seen h)
  voice_same id h = λ i. voice_with (λ r. there_same r i) (λ r. place_same r i) id (λ role r. seen_uses role h r i) (seen_state h i)

  module _ (clashing : List ℤ) where
    kind_same : (kind : NodeKind) (label : Label Held) (b b' a a' : HeardNodes) → b ≡ b' → a ≡ a' → with_node places clashing kind label b a ≡ node_from extents clashing kind label.id (seen label.payload) b' a'
    kind_same kinds.Synth label b b' a a' p q = λ i. synth (voice_same label.id label.payload i) (q i)
    kind_same kinds.Group label b b' a a' p q = λ i. with_group false (p i) (q i)
    kind_same kinds.Parallel label b b' a a' p q = λ i. with_group (may_split clashing label.id) (p i) (q i)

    running_same : (t : Nodes Held) → running_of places clashing t ≡ running_from extents clashing (with_payloads laid (with_payloads (content_of words) t))
    running_same trees.none = refl
    running_same (trees.node label below after) =
        λ i. if label.running
        then kind_same label.kind label (running_of places clashing below) (running_from extents clashing (with_payloads laid (with_payloads (content_of words) below))) (running_of places clashing after) (running_from extents clashing (with_payloads laid (with_payloads (content_of words) after))) (running_same below) (running_same after) i
        else running_same after i

nodes_are_from : (stage : Stage) (words : List ℕ) → nodes_in stage ≡ nodes_from (layout_of (world_of stage words))
nodes_are_from stage words =
    let w = world_of stage words in
    let t = stage.tree.attached in
    let found : clashing_in stage ≡ map (λ (c : Clash). c.group) (clashes_from (layout_of w)) = ap (λ (cs : List Clash). map (λ (c : Clash). c.group) cs) (sym (same_clashes stage words) ∙ clashes_are w) in
    ap (λ (ids : List ℤ). running_of stage.buffers ids (subtree (pos 0) t)) found
    ∙ running_same stage.buffers words (map (λ (c : Clash). c.group) (clashes_from (layout_of w))) (subtree (pos 0) t)
    ∙ ap (running_from (extents stage.buffers words) (map (λ (c : Clash). c.group) (clashes_from (layout_of w))))
    (ap (with_payloads laid) (sym (subtree-payloads (content_of words) (pos 0) t)) ∙ sym (subtree-payloads laid (pos 0) (with_payloads (content_of words) t)))

pub nodes_alike : (a b : Stage) (us vs : List ℕ) → layout_of (world_of a us) ≡ layout_of (world_of b vs) → nodes_in a ≡ nodes_in b
nodes_alike a b us vs e = nodes_are_from a us ∙ ap nodes_from e ∙ sym (nodes_are_from b vs)

-- ---- words tell nothing of them

pub clashes_anyhow : (stage : Stage) (us vs : List ℕ) → clashes_of (world_of stage us) ≡ clashes_of (world_of stage vs)
clashes_anyhow stage us vs = same_clashes stage us ∙ sym (same_clashes stage vs)

pub quiet_anyhow : (stage : Stage) (us vs : List ℕ) → are_quiet (world_of stage us).nodes ≡ are_quiet (world_of stage vs).nodes
quiet_anyhow stage us vs = nodes_are us stage.tree.attached ∙ sym (nodes_are vs stage.tree.attached)
