-- `/n_map` maps controls one repetition after the other, each judged in what the earlier ones left.
use Rattle.std.proofs.Common.{◌≡◌, ◌||◌, ℤ, Bool, true, false, not, List, [], ◌∷◌, Option, Some, None, Ok, refl, ap, sym, ◌∙◌}
use Rattle.std.specs.Prelude.{if◌then◌else◌}
use Rattle.std.specs.Ordering.{int_eq}
use Rattle.sn_osc.specs.Shape.{Argument}
use Rattle.sn_def.specs.declared.control.Control.{Control}
use Rattle.sn_def.specs.Definition.{Definition}
use Rattle.sn_reply.specs.declared.reason.Reason.TheVariants as Reasons
use Rattle.sn_tree.specs.Trees.{Nodes, none, node, holds, subtree, with_payload, with_payloads}
use Rattle.sn_tree.specs.Reworking.{reworked}
use Rattle.sn_world.specs.Nodes.{Content, group, synth}
use Rattle.sn_world.specs.World.{Turn}
use Rattle.sn_world.specs.Rows.{first_of, or_else, unless, first_refusal, act_all, pairs, some_of}
use Rattle.sn_world.specs.Runs.{number}
use Rattle.sn_world.specs.NewSynth.{ControlName}
use Rattle.sn_world.specs.ControlRuns.{for_node, asked_of, in_synth, judge_node}
use Rattle.sn_world.specs.Mappings.{Mapping, mapping, with_buses, is_followable, is_index_in, any_node, judge_mapping, map_buses, map_outcome}
use Rattle.sn_world.specs.Folds.{judge_map_of, act_map_of, mapping_each}
use Rattle.sn_world.proofs.StepLaws.{steps-judged_first, unless-each}
use Rattle.sn_world.proofs.HeldIds.{held_reworked}

-- ---- nodes of which the payloads below one are changed

first_chosen : {A : Type 0} (b : Bool) (x y : A) → b ≡ true → (if b then x else y) ≡ x
first_chosen b x y e = ap (λ (c : Bool). if c then x else y) e

last_chosen : {A : Type 0} (b : Bool) (x y : A) → b ≡ false → (if b then x else y) ≡ y
last_chosen b x y e = ap (λ (c : Bool). if c then x else y) e

module _ {P : Type 0} where
  payloads_same : (f : P → P) → ((p : P) → f p ≡ p) → (t : Nodes P) → with_payloads f t ≡ t
  payloads_same f same none = refl
  payloads_same f same (node label below after) = λ i. node (with_payload (same label.payload i) label) (payloads_same f same below i) (payloads_same f same after i)

  payloads_twice : (f g h : P → P) → ((p : P) → g (f p) ≡ h p) → (t : Nodes P) → with_payloads g (with_payloads f t) ≡ with_payloads h t
  payloads_twice f g h both none = refl
  payloads_twice f g h both (node label below after) = λ i. node (with_payload (both label.payload i) label) (payloads_twice f g h both below i) (payloads_twice f g h both after i)

  any_same : (test : P → Bool) (f : P → P) → ((p : P) → test (f p) ≡ test p) → (t : Nodes P) → any_node test (with_payloads f t) ≡ any_node test t
  any_same test f same none = refl
  any_same test f same (node label below after) = λ i. same label.payload i || (any_same test f same below i || any_same test f same after i)

  reworked_same : (f : P → P) → ((p : P) → f p ≡ p) → (id : ℤ) (t : Nodes P) → reworked f id t ≡ t
  reworked_same f same id none = refl
  reworked_same f same id (node label below after) = at (int_eq label.id id) (holds id below) (reworked_same f same id below) (reworked_same f same id after)
    where
      at : (here inner : Bool) → reworked f id below ≡ below → reworked f id after ≡ after
          → (if here then node (with_payload (f label.payload) label) (with_payloads f below) after else if inner then node label (reworked f id below) after else node label below (reworked f id after)) ≡ node label below after
      at true inner p q = λ i. node (with_payload (same label.payload i) label) (payloads_same f same below i) after
      at false true p q = λ i. node label (p i) after
      at false false p q = λ i. node label below (q i)

  reworked_twice : (f g h : P → P) → ((p : P) → g (f p) ≡ h p) → (id : ℤ) (t : Nodes P) → reworked g id (reworked f id t) ≡ reworked h id t
  reworked_twice f g h both id none = refl
  reworked_twice f g h both id (node label below after) = at (int_eq label.id id) (holds id below) refl refl (reworked_twice f g h both id below) (reworked_twice f g h both id after)
    where
      at : (here inner : Bool) → int_eq label.id id ≡ here → holds id below ≡ inner → reworked g id (reworked f id below) ≡ reworked h id below → reworked g id (reworked f id after) ≡ reworked h id after
          → reworked g id (if here then node (with_payload (f label.payload) label) (with_payloads f below) after else if inner then node label (reworked f id below) after else node label below (reworked f id after))
          ≡ (if here then node (with_payload (h label.payload) label) (with_payloads h below) after else if inner then node label (reworked h id below) after else node label below (reworked h id after))
      at true inner e k p q = first_chosen (int_eq label.id id) _ _ e ∙ (λ i. node (with_payload (both label.payload i) label) (payloads_twice f g h both below i) after)
      at false true e k p q = last_chosen (int_eq label.id id) _ _ e ∙ first_chosen (holds id (reworked f id below)) _ _ (held_reworked id f id below ∙ k) ∙ (λ i. node label (p i) after)
      at false false e k p q = last_chosen (int_eq label.id id) _ _ e ∙ last_chosen (holds id below) _ _ k ∙ (λ i. node label below (q i))

  subtree_reworked : (f : P → P) (id : ℤ) (t : Nodes P) → subtree id (reworked f id t) ≡ with_payloads f (subtree id t)
  subtree_reworked f id none = refl
  subtree_reworked f id (node label below after) = at (int_eq label.id id) (holds id below) refl refl (subtree_reworked f id below) (subtree_reworked f id after)
    where
      at : (here inner : Bool) → int_eq label.id id ≡ here → holds id below ≡ inner → subtree id (reworked f id below) ≡ with_payloads f (subtree id below) → subtree id (reworked f id after) ≡ with_payloads f (subtree id after)
          → subtree id (if here then node (with_payload (f label.payload) label) (with_payloads f below) after else if inner then node label (reworked f id below) after else node label below (reworked f id after))
          ≡ with_payloads f (if here then node label below none else if inner then subtree id below else subtree id after)
      at true inner e k p q = first_chosen (int_eq label.id id) _ _ e
      at false true e k p q = last_chosen (int_eq label.id id) _ _ e ∙ first_chosen (holds id (reworked f id below)) _ _ (held_reworked id f id below ∙ k) ∙ p
      at false false e k p q = last_chosen (int_eq label.id id) _ _ e ∙ last_chosen (holds id below) _ _ k ∙ q

-- ---- contents

index_same : (c : ControlName) (change : Definition → List Control → List Control) (p : Content) → is_index_in c (in_synth change p) ≡ is_index_in c p
index_same c change group = refl
index_same c change (synth s) = refl

none_mapped : (p : Content) → in_synth (with_buses []) p ≡ p
none_mapped group = refl
none_mapped (synth s) = refl

more_mapped : (m : Mapping) (ms : List Mapping) (p : Content) → in_synth (with_buses ms) (in_synth (with_buses (m ∷ [])) p) ≡ in_synth (with_buses (m ∷ ms)) p
more_mapped m ms group = refl
more_mapped m ms (synth s) = refl

-- ---- the fold

abbrev with_nodes : Turn → Nodes Content → Turn
with_nodes t nodes = record t { world = record t.world { nodes = nodes } }

judged_alike : (id : ℤ) (m m' : Mapping) (t : Turn) → judge_map_of id (act_map_of id m t).world m' ≡ judge_map_of id t.world m'
judged_alike id m m' t =
    let change : Content → Content = in_synth (with_buses (m ∷ [])) in
    let test : Content → Bool = is_index_in m'.control in
    let below : Nodes Content = subtree id t.world.nodes in
    let index : any_node test (subtree id (reworked change id t.world.nodes)) ≡ any_node test below =
    ap (any_node test) (subtree_reworked change id t.world.nodes) ∙ any_same test change (index_same m'.control (with_buses (m ∷ []))) below in
    ap (λ (b : Bool). or_else (first_of ((not b, Reasons.NoSuchNode) ∷ [])) (judge_mapping (subtree id (reworked change id t.world.nodes)) m')) (held_reworked id change id t.world.nodes)
    ∙ ap (λ (b : Bool). or_else (judge_node t.world id) (first_of ((not (is_followable m'.bus), Reasons.Bus) ∷ (b, Reasons.IndexControl) ∷ []))) index

acted_all : (id : ℤ) (all : List Mapping) (t : Turn) → act_all (act_map_of id) all t ≡ record t { world = map_buses (record { id = id; all = all }) t.world }
acted_all id [] t = ap (with_nodes t) (sym (reworked_same (in_synth (with_buses [])) none_mapped id t.world.nodes))
acted_all id (m ∷ ms) t =
    acted_all id ms (act_map_of id m t)
    ∙ ap (with_nodes t) (reworked_twice (in_synth (with_buses (m ∷ []))) (in_synth (with_buses ms)) (in_synth (with_buses (m ∷ ms))) (more_mapped m ms) id t.world.nodes)

some_mapped : (id : ℤ) (m : Mapping) (ms : List Mapping) (t : Turn) → map_outcome (Some (record { id = id; all = m ∷ ms })) t ≡ mapping_each (Some (record { id = id; all = m ∷ ms })) t
some_mapped id m ms t =
    let after : Turn = record t { world = map_buses (record { id = id; all = m ∷ ms }) t.world } in
    sym (unless-each (judge_node t.world id) (judge_mapping (subtree id t.world.nodes)) m ms (Ok after))
    ∙ ap (λ (u : Turn). unless (first_refusal (judge_map_of id t.world) (m ∷ ms)) (Ok u)) (sym (acted_all id (m ∷ ms) t))
    ∙ sym (steps-judged_first (judge_map_of id) (act_map_of id) (judged_alike id) (m ∷ ms) t)

asked_mapped : (id : Option ℤ) (all : Option (List Mapping)) (t : Turn) → map_outcome (for_node id (some_of all)) t ≡ mapping_each (for_node id (some_of all)) t
asked_mapped None all t = refl
asked_mapped (Some id) None t = refl
asked_mapped (Some id) (Some []) t = refl
asked_mapped (Some id) (Some (m ∷ ms)) t = some_mapped id m ms t

pub each_mapped : (xs : List Argument) (t : Turn) → map_outcome (asked_of (pairs mapping) xs) t ≡ mapping_each (asked_of (pairs mapping) xs) t
each_mapped [] t = refl
each_mapped (x ∷ xs) t = asked_mapped (number x) (pairs mapping xs) t
