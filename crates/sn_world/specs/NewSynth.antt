-- `/s_new`: a synth is made.
use Rattle.std.specs.Prelude.{ℕ, ℤ, pos, negsuc, if◌then◌else◌, nat_lt, nat_eq, List, [], ◌∷◌, map, length, replicate, slice_set, Option, Some, None, Result, Ok, Err}
use Rattle.std.specs.FinMap as finite
use Rattle.sn_osc.specs.Shape.{Argument, int, string, blob}
use Rattle.sn_def.specs.declared.control.Control.{Control}
use Rattle.sn_def.specs.Definition.{Definition}
use Rattle.sn_def.specs.Asked.{control_named}
use Rattle.sn_def.specs.StateWords.{state_words}
use Rattle.sn_pool.specs.Regions.{least_place}
use Rattle.sn_reply.specs.declared.reason.Reason.{Reason}
use Rattle.sn_reply.specs.declared.reason.Reason.TheVariants as Reasons
use Rattle.sn_tree.specs.declared.node.NodeKind.TheVariants as kinds
use Rattle.sn_tree.specs.Trees.{leaf}
use Rattle.sn_world.specs.declared.notices.NodeEvent.TheVariants.{Went}
use Rattle.sn_world.specs.declared.repetition.NewNode.{NewNode}
use Rattle.sn_world.specs.Nodes.{Content, synth}
use Rattle.sn_world.specs.Notices.{told}
use Rattle.sn_world.specs.World.{World, Turn, live_of}
use Rattle.sn_world.specs.NewNodes.{id_for, next_after, replaces, left_by, placed, told_replaced, node_refusal, new_node}
use Rattle.sn_world.specs.Rows.{unless, pairs}

-- a control of a definition, by its number or by its name
pub data ControlName : Type 0 where
  numbered : ℤ → ControlName
  named : List ℕ → ControlName

pub record ControlValue : Type 0 where
  pub control : ControlName
  pub value : ℤ

-- what `/s_new` asks for
pub record NewSynth : Type 0 where
  pub name : List ℕ
  pub node : NewNode
  pub values : List ControlValue

-- ---- its arguments: name id action target (control value)..

abbrev pub control_name : Argument → Option ControlName
control_name (int k) = Some (numbered k)
control_name (string n) = Some (named n)
control_name (blob b) = None

-- a control as it was named
abbrev pub name_argument : ControlName → Argument
name_argument (numbered k) = int k
name_argument (named n) = string n

abbrev pub value_for : Option ControlName → Argument → Option ControlValue
value_for (Some c) (int v) = Some (record { control = c; value = v })
value_for (Some c) (string s) = None
value_for (Some c) (blob b) = None
value_for None y = None

abbrev pub control_value : Argument → Argument → Option ControlValue
control_value x y = value_for (control_name x) y

abbrev pub text_of : Argument → Option (List ℕ)
text_of (string s) = Some s
text_of (int n) = None
text_of (blob b) = None

abbrev pub asked_with : Option (List ℕ) → Option NewNode → Option (List ControlValue) → Option NewSynth
asked_with (Some name) (Some node) (Some values) = Some (record { name = name; node = node; values = values })
asked_with _ _ _ = None

abbrev pub new_synth : List Argument → Option NewSynth
new_synth (name ∷ id ∷ action ∷ target ∷ rest) = asked_with (text_of name) (new_node id action target) (pairs control_value rest)
new_synth _ = None

-- ---- its controls

abbrev pub control_of : Definition → ControlName → Option ℕ
control_of d (numbered (pos k)) = if nat_lt k (length d.controls) then Some k else None
control_of d (numbered (negsuc k)) = None
control_of d (named name) = control_named d name

-- A value that is set is followed; a control that is none of the definition's is ignored.
abbrev pub with_value : Option ℕ → ℤ → List Control → List Control
with_value None v controls = controls
with_value (Some k) v controls = slice_set controls k (record { value = v; bus = None })

abbrev pub with_values : Definition → List ControlValue → List Control → List Control
with_values d [] controls = controls
with_values d (v ∷ vs) controls = with_values d vs (with_value (control_of d v.control) v.value controls)

-- the defaults, and no control follows a bus
abbrev pub defaults : Definition → List Control
defaults d = map (λ p. record { value = p.default; bus = None }) d.controls

-- ---- its words

-- the least place of the pool for so many words, if there is one; no words stand at the beginning of the region
abbrev pub place_for : World → ℕ → Option ℕ
place_for w n = if nat_eq n 0 then Some w.region.at else least_place w.region (live_of w) n

-- the world as it is when a new node takes its words: the nodes that it replaces have given theirs back
abbrev pub made_free : NewNode → World → World
made_free r w = record w { nodes = left_by (replaces r.action) r.target w.nodes }

-- ---- what is against it, and what it does

-- the synth of a definition, its state words all 0 and at a place of the pool
abbrev pub made : World → NewSynth → Definition → ℕ → Content
made w r d at = synth (record {
  definition = d;
  controls = with_values d r.values (defaults d);
  state = replicate (state_words w.rate d) 0;
  extent = record { at = at; len = state_words w.rate d };
})

-- the world with a synth of an id; one that was chosen is used up
abbrev pub with_synth : NewSynth → Definition → ℤ → ℕ → World → World
with_synth r d id at w = record w { nodes = placed r.node (leaf id kinds.Synth (made w r d at)) w.nodes; next_id = next_after w.next_id r.node.id }

abbrev pub new_at : NewSynth → Definition → ℤ → Option ℕ → Turn → Result Turn Reason
new_at r d id None t = Err Reasons.PoolFull
new_at r d id (Some at) t = Ok (told Went id (record (told_replaced r.node t) { world = with_synth r d id at t.world }))

-- with the id that it gets, if one is left
abbrev pub new_with : NewSynth → Definition → Option ℤ → Turn → Result Turn Reason
new_with r d None t = Err Reasons.IdInUse
new_with r d (Some id) t = unless (node_refusal (Some id) r.node.action r.node.target t.world.nodes) (new_at r d id (place_for (made_free r.node t.world) (state_words t.world.rate d)) t)

abbrev pub new_of : NewSynth → Option Definition → Turn → Result Turn Reason
new_of r None t = Err Reasons.NoSuchDefinition
new_of r (Some d) t = new_with r d (id_for t.world.next_id r.node.id) t

abbrev pub new_outcome : Option NewSynth → Turn → Result Turn Reason
new_outcome None t = Err Reasons.Arguments
new_outcome (Some r) t = new_of r (finite.get t.world.definitions r.name) t

-- `/s_new` name id action target (control value)..
abbrev pub new_row : ℕ → List Argument → Turn → Result Turn Reason
new_row from xs t = new_outcome (new_synth xs) t
