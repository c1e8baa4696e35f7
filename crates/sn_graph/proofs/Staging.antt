-- What the planner asks of the nodes of a stage.
use Rattle.std.proofs.Common.{◌≡◌, ℕ, ◌+◌, ℤ, Bool, false, List, [], ◌∷◌, ◌++◌, map, Option, sym, refl, ap, ◌∙◌, subst, append_assoc, arith}
use Rattle.std.specs.Prelude.{nat_le, nat_lt}
use Rattle.std.specs.List.{All}
use Rattle.std.proofs.lemmas.Bool.{cond_both}
use Rattle.std.proofs.lemmas.List.Elements.{All-nil, All-cons, All-head, All-tail, All-append}
use Rattle.sn_mem.specs.declared.extents.Extent.{Extent}
use Rattle.sn_mem.specs.declared.buffers.BufferPlace.{BufferPlace}
use Rattle.sn_mem.specs.Buffers.{live_places}
use Rattle.sn_tree.specs.declared.node.NodeKind.{NodeKind}
use Rattle.sn_tree.specs.declared.node.NodeKind.TheVariants as kinds
use Rattle.sn_tree.specs.Trees as trees
use Rattle.sn_tree.specs.Trees.{Label, Nodes, subtree}
use Rattle.sn_tree.specs.Members.{members}
use Rattle.sn_world.specs.declared.stage.Held.{Held}
use Rattle.sn_world.specs.Pictures.{held_extents, live_held}
use Rattle.sn_foot.specs.Canonical.{Ends, both, canonical, in_order, merged, nothing, where_some, with_extent}
use Rattle.sn_foot.specs.Footprints.{footprint_of, states_of, used_places}
use Rattle.sn_foot.proofs.Finding.{all_parts, all_below}
use Rattle.sn_foot.proofs.Placing.{used_ends}
use Rattle.sn_graph.specs.Voices.{HeardNodes, voices, AreWithin}
use Rattle.sn_graph.specs.Stages.{may_split, voice_of, with_group, with_node, running_of}
use Rattle.sn_graph.proofs.Drafting.{within_both}
use Rattle.sn_graph.proofs.Hearing.{voices_group}

-- ---- the places of states have numbers

abbrev pub states_at : List (Label Held × ℕ) → List Extent
states_at ms = states_of (map (λ m. m.0.payload) ms)

states_at-append : (xs ys : List (Label Held × ℕ)) → states_at (xs ++ ys) ≡ states_at xs ++ states_at ys
states_at-append [] ys = refl
states_at-append (x ∷ xs) ys = ap (λ es. held_extents x.0.payload ++ es) (states_at-append xs ys) ∙ sym (append_assoc (held_extents x.0.payload) (states_at xs) (states_at ys))

pub states_parts : (xs : List (Label Held × ℕ)) (x : Label Held × ℕ) → All Ends (states_at (xs ++ x ∷ [])) → All Ends (states_at xs) × All Ends (states_of (x.0.payload ∷ []))
states_parts xs x all = all_parts Ends (states_at xs) (states_at (x ∷ [])) (subst (All Ends) (states_at-append xs (x ∷ [])) all)

all_states : (t : Nodes Held) → states_at (members t) ≡ live_held t
all_states trees.none = refl
all_states (trees.node label below after) =
    ap (λ es. held_extents label.payload ++ es) (states_at-append (members below) (members after) ∙ ap (λ es. es ++ states_at (members after)) (all_states below) ∙ ap (λ es. live_held below ++ es) (all_states after))

pub members_end : (id : ℤ) (t : Nodes Held) → All Ends (live_held t) → All Ends (states_at (members (subtree id t)))
members_end id t all = subst (All Ends) (sym (all_states (subtree id t))) (all_below Ends id t all)

-- ---- so have those of a synth's words

all_with : (e : Extent) (es : List Extent) → Ends e → All Ends es → All Ends (with_extent e es)
all_with e [] here all = All-cons Ends e [] here all
all_with e (x ∷ xs) here all =
    cond_both (nat_le e.at x.at) (e ∷ x ∷ xs) (x ∷ with_extent e xs) (All Ends)
    (λ b. All-cons Ends e (x ∷ xs) here all)
    (λ b. All-cons Ends x (with_extent e xs) (All-head Ends x xs all) (all_with e xs here (All-tail Ends x xs all)))

all_in_order : (es : List Extent) → All Ends es → All Ends (in_order es)
all_in_order [] all = All-nil Ends
all_in_order (e ∷ es) all = all_with e (in_order es) (All-head Ends e es all) (all_in_order es (All-tail Ends e es all))

all_some : (e : Extent) → Ends e → All Ends (where_some e)
all_some e here = cond_both (nat_lt 0 e.len) (e ∷ []) [] (All Ends) (λ b. All-cons Ends e [] here (All-nil Ends)) (λ b. All-nil Ends)

both_end : (a b : Extent) → Ends a → Ends b → Ends (both a b)
both_end a b x y = omega arith

all_merged : (a : Extent) (es : List Extent) → Ends a → All Ends es → All Ends (merged a es)
unfolding merged
all_merged a [] here all = all_some a here
all_merged a (e ∷ es) here all =
    cond_both (nat_le e.at (a.at + a.len)) (merged (both a e) es) (where_some a ++ merged e es) (All Ends)
    (λ b. all_merged (both a e) es (both_end a e here (All-head Ends e es all)) (All-tail Ends e es all))
    (λ b. All-append Ends (where_some a) (merged e es) (all_some a here) (all_merged e es (All-head Ends e es all) (All-tail Ends e es all)))

all_canonical : (es : List Extent) → All Ends es → All Ends (canonical es)
all_canonical es all = all_merged nothing (in_order es) (omega arith) (all_in_order es all)

module _ (buffers : List (Option BufferPlace)) (clashing : List ℤ) where
  within_voice : (id : ℤ) (held : Held) → All Ends (live_places buffers) → All Ends (held_extents held) → AreWithin (voice_of buffers id held ∷ [])
  within_voice id held places state =
      let f = footprint_of buffers (held ∷ []) in (
        (
          all_canonical (used_places buffers f.reads) (used_ends buffers f.reads places),
          All-append Ends (canonical (used_places buffers f.writes ++ states_of (held ∷ []))) (canonical (used_places buffers f.mixes))
              (all_canonical (used_places buffers f.writes ++ states_of (held ∷ [])) (All-append Ends (used_places buffers f.writes) (states_of (held ∷ [])) (used_ends buffers f.writes places) (All-append Ends (held_extents held) [] state (All-nil Ends))))
              (all_canonical (used_places buffers f.mixes) (used_ends buffers f.mixes places)),
        ),
        tt,
      )

within_group : (flag : Bool) (below after : HeardNodes) → AreWithin (voices below) → AreWithin (voices after) → AreWithin (voices (with_group flag below after))
within_group flag below after b a = subst AreWithin (sym (voices_group flag below after)) (within_both (voices below) (voices after) b a)

module _ (buffers : List (Option BufferPlace)) (clashing : List ℤ) where
  within_node : (kind : NodeKind) (label : Label Held) (below after : HeardNodes) → AreWithin (voice_of buffers label.id label.payload ∷ []) → AreWithin (voices below) → AreWithin (voices after) → AreWithin (voices (with_node buffers clashing kind label below after))
  within_node kinds.Synth label below after v b a = (v.0, a)
  within_node kinds.Group label below after v b a = within_group false below after b a
  within_node kinds.Parallel label below after v b a = within_group (may_split clashing label.id) below after b a

  within_all : (t : Nodes Held) → All Ends (live_places buffers) → All Ends (live_held t) → AreWithin (voices (running_of buffers clashing t))
  within_all trees.none places all = tt
  within_all (trees.node label below after) places all =
      let parts = all_parts Ends (held_extents label.payload) (live_held below ++ live_held after) all in
      let rest = all_parts Ends (live_held below) (live_held after) parts.1 in
      cond_both label.running (with_node buffers clashing label.kind label (running_of buffers clashing below) (running_of buffers clashing after)) (running_of buffers clashing after) (λ r. AreWithin (voices r))
      (λ b. within_node label.kind label (running_of buffers clashing below) (running_of buffers clashing after) (within_voice buffers clashing label.id label.payload places parts.0) (within_all below places rest.0) (within_all after places rest.1))
      (λ b. within_all after places rest.1)

  pub within_below : (id : ℤ) (t : Nodes Held) → All Ends (live_places buffers) → All Ends (live_held t) → AreWithin (voices (running_of buffers clashing (subtree id t)))
  within_below id t places all = within_all (subtree id t) places (all_below Ends id t all)
