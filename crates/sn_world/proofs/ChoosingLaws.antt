-- Each step of a world keeps the chosen ids below those of its nodes.
use Rattle.std.proofs.Common.{◌≡◌, ◌<ℤ◌, ℕ, ℤ, pos, negsuc, Bool, true, false, List, [], ◌∷◌, Option, Some, None, Result, Ok, Err, IfSome, refl, sym, subst, ◌∙◌, arith}
use Rattle.std.specs.Prelude.{if◌then◌else◌, codes}
use Rattle.std.specs.List.{AllByRecursion}
use Rattle.std.specs.FinMap as finite
use Rattle.std.proofs.lemmas.Int.{ints}
use Rattle.sn_osc.specs.Shape.{Argument, int, string, blob, BodyShape, bare, arguments, foreign, MessageShape}
use Rattle.sn_osc.specs.Reading.{read}
use Rattle.sn_def.specs.Definition.{Definition}
use Rattle.sn_def.specs.Reading.{text_at}
use Rattle.sn_def.specs.StateWords.{state_words}
use Rattle.sn_def.specs.declared.fault.DefFault.{DefFault}
use Rattle.sn_reply.specs.declared.reason.Reason.{Reason}
use Rattle.sn_reply.specs.declared.reason.Reason.TheVariants as Reasons
use Rattle.sn_tree.specs.declared.node.NodeKind.TheVariants as kinds
use Rattle.sn_tree.specs.declared.node.NodeView.{NodeView}
use Rattle.sn_tree.specs.Trees.{put, leaf, subtree, without, changed, with_running, children, view_of}
use Rattle.sn_tree.specs.Below.{top_ids, synth_ids}
use Rattle.sn_tree.specs.Reworking.{reworked}
use Rattle.sn_world.specs.declared.command.ServerCommand.{ServerCommand}
use Rattle.sn_world.specs.declared.command.ServerCommand.TheVariants as server
use Rattle.sn_world.specs.declared.command.NodeCommand.{NodeCommand}
use Rattle.sn_world.specs.declared.command.NodeCommand.TheVariants as nodes
use Rattle.sn_world.specs.declared.buffer_repetition.NewBuffer.{NewBuffer}
use Rattle.sn_world.specs.declared.endings.Ending.{Ending}
use Rattle.sn_world.specs.declared.node_repetition.NodeMove.{NodeMove}
use Rattle.sn_world.specs.declared.node_repetition.RunFlag.{RunFlag}
use Rattle.sn_world.specs.declared.notices.NodeEvent.{NodeEvent}
use Rattle.sn_world.specs.declared.notices.NodeEvent.TheVariants.{Went, Moved}
use Rattle.sn_world.specs.declared.repetition.NewGroup.{NewGroup}
use Rattle.sn_world.specs.declared.repetition.NewNode.{NewNode}
use Rattle.sn_world.specs.BufferCommands as buffers
use Rattle.sn_world.specs.BufferNumbers.{number_refusal, buffer_refusal, at_number}
use Rattle.sn_world.specs.BufferSamples as samples
use Rattle.sn_world.specs.Buses.{judge_set, act_set, judge_fill, act_fill, judge_get, answer_get, sync_number, sync_outcome, bus_value, bus_fill, bus_number}
use Rattle.sn_world.specs.Choosing.{AreChosen}
use Rattle.sn_world.specs.Addresses.{server_command_of, node_command_of}
use Rattle.sn_world.specs.Commands.{server_row, node_row, carrying_row, whole_row, with_completion, acceptable, with_arguments, server_outcome, node_outcome, run_bus, run_node, either, or_unknown, answered, command}
use Rattle.sn_world.specs.Completing.{carried, own, one_message}
use Rattle.sn_world.specs.ControlRuns.{ForNode, ControlRun, in_synth, with_runs, judge_node, set_outcome, asked_of, asked_runs, value_run, values_run, fill_run}
use Rattle.sn_world.specs.Emptying.{free_all, deep_free, judge_free_all, act_free_all, judge_deep_free, act_deep_free, freed_each}
use Rattle.sn_world.specs.Forgetting as forgetting
use Rattle.sn_world.specs.Freeing.{node_id, judge_free, act_free, freed}
use Rattle.sn_world.specs.Mappings.{Mapping, mapping, judge_map, map_outcome, with_buses}
use Rattle.sn_world.specs.Moving.{move_from, judge_move, act_move}
use Rattle.sn_world.specs.NewNodes.{id_for, node_refusal, placed, is_asked, new_node, of_kind, group_kind, new_group, judge_group, with_group, act_with, act_group, told_replaced}
use Rattle.sn_world.specs.NewSynth.{NewSynth, ControlValue, ControlName, control_name, control_value, text_of, asked_with, new_synth, made, made_free, place_for, with_synth, new_at, new_with, new_of, new_outcome}
use Rattle.sn_world.specs.NodeOrder.{NodeOrder, node_order, order_outcome, place_refusal, moves_of}
use Rattle.sn_world.specs.Nodes.{Content, group, synth}
use Rattle.sn_world.specs.Notices.{told, told_at}
use Rattle.sn_world.specs.Notifying.{notify_flag, notify_outcome}
use Rattle.sn_world.specs.Opening.{opening}
use Rattle.sn_world.specs.Queries.{node_query, judge_query, info_at, act_query}
use Rattle.sn_world.specs.Recv.{received_text, recv_read, recv_outcome}
use Rattle.sn_world.specs.Rows.{row, steps, question, unless, first_refusal, some_of, another, singles, pairs, triples}
use Rattle.sn_world.specs.RunFlags.{run_flag, judge_run, turning, is_flagged, with_flag, act_run}
use Rattle.sn_world.specs.Runs.{number, value_runs, judge_setn, act_setn, judge_getn, answer_getn, asks_few, place_run}
use Rattle.sn_world.specs.Settling.{frees, pauses, paused_at, freed_at, acted_at, acted, all_acted, endings_in, triggers_in, told_all, with_nodes_settled, settled_nodes, settled}
use Rattle.sn_world.specs.SynthQueries.{values_from, values_outcome, payload_at}
use Rattle.sn_world.specs.TreeQueries.{tree_query, judge_tree, act_tree}
use Rattle.sn_world.specs.BufferReading.{FilledBuffer, filled_buffer, is_path_form, read_outcome, samples_in}
use Rattle.sn_world.specs.Walk.{resources_in, walk_nodes, walk}
use Rattle.sn_world.specs.World.{World, Turn}
use Rattle.sn_world.proofs.ChosenIds.{Chosen, chosen_within, given_new}
use Rattle.sn_world.proofs.HeldIds.{held_placed, held_moved, held_without, held_turned, held_reworked, held_settled, held_walked, held_leaf}

-- ---- the opening world

pub opening_chosen : (rate memory clients : ℕ) → AreChosen (opening rate memory clients)
unfolding opening
opening_chosen rate memory clients = ((omega (arith, ints), λ other held. let at : other ≡ pos 0 = held_leaf other (pos 0) kinds.Group group held in let less : negsuc 1 <ℤ pos 0 = omega (arith, ints) in subst (λ y. negsuc 1 <ℤ y) (sym at) less), refl)

-- ---- outcomes

-- the turn after a command, if it is accepted
abbrev Keeps : Result Turn Reason → Type 0
Keeps (Ok t) = AreChosen t.world
Keeps (Err reason) = Unit {0}

abbrev KeepsIf : Option (Result Turn Reason) → Type 0
KeepsIf None = Unit {0}
KeepsIf (Some r) = Keeps r

unless_keeps : (o : Option Reason) (r : Result Turn Reason) → Keeps r → Keeps (unless o r)
unless_keeps None r k = k
unless_keeps (Some reason) r k = tt

if_chosen : (b : Bool) (t u : Turn) → AreChosen t.world → AreChosen u.world → AreChosen (if b then t else u).world
if_chosen true t u h k = h
if_chosen false t u h k = k

module _ {R : Type 0} (judge : World → R → Option Reason) (act : R → Turn → Turn) (one : (r : R) (t : Turn) → AreChosen t.world → AreChosen (act r t).world) where
  steps_keep : (rs : List R) (t : Turn) → AreChosen t.world → Keeps (steps judge act rs t)
  steps_keep [] t h = h
  steps_keep (r ∷ rs) t h = unless_keeps (judge t.world r) (steps judge act rs (act r t)) (steps_keep rs (act r t) (one r t h))

  row_keeps : (o : Option (List R)) (t : Turn) → AreChosen t.world → Keeps (row judge act o t)
  row_keeps None t h = tt
  row_keeps (Some rs) t h = steps_keep rs t h

question_keeps : {R : Type 0} (judge : World → R → Option Reason) (answer : World → List R → MessageShape) (from : ℕ) (o : Option (List R)) (t : Turn) → AreChosen t.world → Keeps (question judge answer from o t)
question_keeps judge answer from None t h = tt
question_keeps judge answer from (Some rs) t h = unless_keeps (first_refusal (judge t.world) rs) _ h

-- ---- commands on buses, buffers, definitions and the server

module _ {R : Type 0} (from : ℕ) (refusal : ℕ → R → Option Reason) where
  with_asked_keeps : (run : ℤ → List R → Turn → Result Turn Reason) (t : Turn) → ((n : ℤ) (all : List R) → Keeps (run n all t)) → (n : Option ℤ) (all : Option (List R)) → Keeps (samples.with_asked run n all t)
  with_asked_keeps run t each None all = tt
  with_asked_keeps run t each (Some n) None = tt
  with_asked_keeps run t each (Some n) (Some all) = each n all

  of_buffer_keeps : (reads : List Argument → Option (List R)) (run : ℤ → List R → Turn → Result Turn Reason) (t : Turn) → ((n : ℤ) (all : List R) → Keeps (run n all t)) → (xs : List Argument) → Keeps (samples.of_buffer reads run xs t)
  of_buffer_keeps reads run t each [] = tt
  of_buffer_keeps reads run t each (x ∷ xs) = with_asked_keeps run t each (number x) (some_of (reads xs))

  changing_keeps : (reads : List Argument → Option (List R)) (change : R → List ℤ → List ℤ) (xs : List Argument) (t : Turn) → AreChosen t.world → Keeps (samples.of_buffer reads (samples.changing refusal change) xs t)
  changing_keeps reads change xs t h = of_buffer_keeps reads (samples.changing refusal change) t (λ n all.
      unless_keeps (buffer_refusal n t.world) _ (unless_keeps (first_refusal (refusal (samples.size_of (at_number t.world.buffers n))) all) _ h)) xs

  asking_keeps : (reads : List Argument → Option (List R)) (answer : List ℤ → R → List Argument) (address : List ℕ) (xs : List Argument) (t : Turn) → AreChosen t.world → Keeps (samples.of_buffer reads (samples.asking refusal answer address from) xs t)
  asking_keeps reads answer address xs t h = of_buffer_keeps reads (samples.asking refusal answer address from) t (λ n all.
      unless_keeps (buffer_refusal n t.world) _ (unless_keeps (first_refusal (refusal (samples.size_of (at_number t.world.buffers n))) all) _ h)) xs

module _ (from : ℕ) (t : Turn) (h : AreChosen t.world) where
  hold_keeps : (command : List ℕ) (samples : List ℤ) (r : NewBuffer) → Keeps (buffers.hold command samples from r t)
  hold_keeps command samples r = unless_keeps (number_refusal r.number) (buffers.hold_at command samples from r (buffers.place_for t.world r) t) (at (buffers.place_for t.world r))
    where
      at : (place : Option ℕ) → Keeps (buffers.hold_at command samples from r place t)
      at None = tt
      at (Some p) = h

  alloc_keeps : (o : Option NewBuffer) → Keeps (buffers.alloc_outcome from o t)
  alloc_keeps None = tt
  alloc_keeps (Some r) = hold_keeps (codes "/b_alloc") (buffers.zeros_of r) r

  filled_keeps : (o : Option FilledBuffer) → Keeps (read_outcome from o t)
  filled_keeps None = tt
  filled_keeps (Some f) = hold_keeps (codes "/b_allocRead") (samples_in f) f.new

  path_keeps : (b : Bool) (r : Result Turn Reason) → Keeps r → Keeps (if b then Err Reasons.File else r)
  path_keeps true r k = tt
  path_keeps false r k = k

  give_keeps : (o : Option ℤ) → Keeps (buffers.free_outcome from o t)
  give_keeps None = tt
  give_keeps (Some n) = unless_keeps (buffer_refusal n t.world) _ h

  zero_keeps : (o : Option ℤ) → Keeps (buffers.zero_outcome from o t)
  zero_keeps None = tt
  zero_keeps (Some n) = unless_keeps (buffer_refusal n t.world) _ h

  sync_keeps : (o : Option ℤ) → Keeps (sync_outcome from o t)
  sync_keeps None = tt
  sync_keeps (Some n) = h

  read_keeps : (r : Result Definition DefFault) → Keeps (recv_read from r t)
  read_keeps (Ok d) = h
  read_keeps (Err fault) = tt

  recv_keeps : (o : Option (List ℕ)) → Keeps (recv_outcome from o t)
  recv_keeps None = tt
  recv_keeps (Some text) = read_keeps (text_at text)

  status_keeps : (xs : List Argument) → Keeps (server_row server.Status from xs t)
  status_keeps [] = h
  status_keeps (x ∷ xs) = tt

  clear_keeps : (xs : List Argument) → Keeps (server_row server.ClearSched from xs t)
  clear_keeps [] = h
  clear_keeps (x ∷ xs) = tt

  quit_keeps : (xs : List Argument) → Keeps (server_row server.Quit from xs t)
  quit_keeps [] = h
  quit_keeps (x ∷ xs) = tt

  server_row_keeps : (c : ServerCommand) (xs : List Argument) → Keeps (server_row c from xs t)
  server_row_keeps server.Set xs = row_keeps judge_set act_set (λ r u k. k) (some_of (pairs bus_value xs)) t h
  server_row_keeps server.SetRuns xs = row_keeps judge_setn act_setn (λ r u k. k) (some_of (value_runs xs)) t h
  server_row_keeps server.Fill xs = row_keeps judge_fill act_fill (λ r u k. k) (some_of (triples bus_fill xs)) t h
  server_row_keeps server.Get xs = question_keeps judge_get (λ w. answer_get w.control_buses) from (some_of (singles bus_number xs)) t h
  server_row_keeps server.GetRuns xs = question_keeps judge_getn (λ w. answer_getn w.control_buses) from (asks_few (some_of (pairs place_run xs))) t h
  server_row_keeps server.AllocBuffer xs = alloc_keeps (buffers.new_buffer xs)
  server_row_keeps server.ReadBuffer xs = path_keeps (is_path_form xs) (read_outcome from (filled_buffer xs) t) (filled_keeps (filled_buffer xs))
  server_row_keeps server.FreeBuffer xs = give_keeps (buffers.one_number xs)
  server_row_keeps server.ZeroBuffer xs = zero_keeps (buffers.one_number xs)
  server_row_keeps server.QueryBuffers xs = question_keeps buffers.judge_query buffers.answer_query from (some_of (singles buffers.buffer_number xs)) t h
  server_row_keeps server.SetSamples xs = changing_keeps from samples.value_refusal (pairs samples.sample_value) samples.set_value xs t h
  server_row_keeps server.SetSampleRuns xs = changing_keeps from samples.values_refusal (λ ys. samples.right_runs (value_runs ys)) samples.set_values xs t h
  server_row_keeps server.FillSamples xs = changing_keeps from samples.fill_refusal (triples samples.sample_fill) samples.fill_values xs t h
  server_row_keeps server.GetSamples xs = asking_keeps from samples.index_refusal (singles samples.sample_index) samples.index_and_value _ xs t h
  server_row_keeps server.GetSampleRuns xs = asking_keeps from samples.place_refusal (λ ys. samples.few_asked (pairs samples.sample_run ys)) samples.run_and_values _ xs t h
  server_row_keeps server.Sync xs = sync_keeps (sync_number xs)
  server_row_keeps server.Receive xs = recv_keeps (received_text xs)
  server_row_keeps server.Free xs = row_keeps forgetting.judge_forget forgetting.act_forget (λ r u k. k) (some_of (singles forgetting.name_of xs)) t h
  server_row_keeps server.Status xs = status_keeps xs
  server_row_keeps server.ClearSched xs = clear_keeps xs
  server_row_keeps server.Quit xs = quit_keeps xs

  completion_keeps : (m : Option MessageShape) (r : Result Turn Reason) → Keeps r → Keeps (with_completion m r)
  completion_keeps None r k = tt
  completion_keeps (Some m) r k = k

  carrying_keeps : (c : ServerCommand) (b : Option (List ℕ)) (xs : List Argument) → Keeps (carrying_row c b from xs t)
  carrying_keeps c None xs = server_row_keeps c xs
  carrying_keeps c (Some b) xs = completion_keeps (acceptable (one_message (read b))) (server_row c from (own xs) t) (server_row_keeps c (own xs))

-- ---- what is done with nodes

told_chosen : (event : NodeEvent) (id : ℤ) (t : Turn) → AreChosen t.world → AreChosen (told event id t).world
told_chosen event id t h = at (view_of id t.world.nodes)
  where
    at : (o : Option NodeView) → AreChosen (told_at event id o t).world
    at None = h
    at (Some view) = h

run_chosen : (r : RunFlag) (t : Turn) → AreChosen t.world → AreChosen (act_run r t).world
run_chosen r t h =
    if_chosen (is_flagged r.on (view_of r.id t.world.nodes)) t (told (turning r.on) r.id (with_flag r t)) h
    (told_chosen (turning r.on) r.id (with_flag r t) (chosen_within t.world.nodes (changed r.id (with_running r.on) t.world.nodes) (λ x k. held_turned x r.id r.on t.world.nodes k) t.world.next_id h))

freed_chosen : (id : ℤ) (t : Turn) → AreChosen t.world → AreChosen (freed id t).world
freed_chosen id t h = chosen_within t.world.nodes (without id t.world.nodes) (λ x k. held_without x id t.world.nodes k) t.world.next_id h

each_freed : (ids : List ℤ) (t : Turn) → AreChosen t.world → AreChosen (freed_each ids t).world
each_freed [] t h = h
each_freed (id ∷ ids) t h = each_freed ids (freed id t) (freed_chosen id t h)

move_chosen : (m : NodeMove) (t : Turn) → AreChosen t.world → AreChosen (act_move m t).world
move_chosen m t h =
    told_chosen Moved m.id _ (chosen_within t.world.nodes (put m.action m.target (subtree m.id t.world.nodes) (without m.id t.world.nodes)) (λ x k. held_moved x m.action m.target m.id t.world.nodes k) t.world.next_id h)

info_chosen : (from : ℕ) (id : ℤ) (o : Option NodeView) (t : Turn) → AreChosen t.world → AreChosen (info_at from id o t).world
info_chosen from id None t h = h
info_chosen from id (Some view) t h = h

reworked_chosen : (change : Content → Content) (id : ℤ) (w : World) → AreChosen w → Chosen w.next_id (reworked change id w.nodes)
reworked_chosen change id w h = chosen_within w.nodes (reworked change id w.nodes) (λ x k. sym (held_reworked x change id w.nodes) ∙ k) w.next_id h

-- ---- new groups

abbrev IsAsked : NewNode → Type 0
IsAsked r = is_asked r.id ≡ true

abbrev IsAskedGroup : NewGroup → Type 0
IsAskedGroup r = IsAsked r.node

abbrev AreAsked : List NewGroup → Type 0
AreAsked rs = AllByRecursion IsAskedGroup rs

asked_node : (x y z : Argument) → IfSome (new_node x y z) IsAsked
asked_node (int id) (int action) (int target) = at (is_asked id) refl
  where
    asks : NewNode
    asks = record { id = id; action = action; target = target }

    at : (b : Bool) → is_asked id ≡ b → IfSome (if b then Some asks else None) IsAsked
    at true e = e
    at false e = tt
asked_node (int id) (int action) (string s) = tt
asked_node (int id) (int action) (blob b) = tt
asked_node (int id) (string s) z = tt
asked_node (int id) (blob b) z = tt
asked_node (string s) y z = tt
asked_node (blob b) y z = tt

asked_kind : (parallel : Bool) (o : Option NewNode) → IfSome o IsAsked → IfSome (of_kind parallel o) IsAskedGroup
asked_kind parallel None a = tt
asked_kind parallel (Some r) a = a

asked_more : (o : Option NewGroup) (q : Option (List NewGroup)) → IfSome o IsAskedGroup → IfSome q AreAsked → IfSome (another o q) AreAsked
asked_more None q a b = tt
asked_more (Some r) None a b = tt
asked_more (Some r) (Some rs) a b = (a, b)

asked_triples : (parallel : Bool) (xs : List Argument) → IfSome (triples (new_group parallel) xs) AreAsked
asked_triples parallel [] = tt
asked_triples parallel (x ∷ []) = tt
asked_triples parallel (x ∷ y ∷ []) = tt
asked_triples parallel (x ∷ y ∷ z ∷ rest) = asked_more (new_group parallel x y z) (triples (new_group parallel) rest) (asked_kind parallel (new_node x y z) (asked_node x y z)) (asked_triples parallel rest)

asked_some : (q : Option (List NewGroup)) → IfSome q AreAsked → IfSome (some_of q) AreAsked
asked_some None a = tt
asked_some (Some []) a = tt
asked_some (Some (r ∷ rs)) a = a

group_chosen : (r : NewGroup) (t : Turn) → IsAskedGroup r → AreChosen t.world → AreChosen (act_group r t).world
group_chosen r t asked h = at (id_for t.world.next_id r.node.id) refl
  where
    at : (o : Option ℤ) → id_for t.world.next_id r.node.id ≡ o → AreChosen (act_with (group_kind r.parallel) r.node o t).world
    at None e = h
    at (Some id) e =
        told_chosen Went id (record (told_replaced r.node t) { world = with_group (group_kind r.parallel) r.node id t.world })
        (given_new id t.world.nodes (placed r.node (leaf id (group_kind r.parallel) group) t.world.nodes) (λ x k. held_placed x r.node id (group_kind r.parallel) group t.world.nodes k) r.node.id asked t.world.next_id e h)

group_steps : (rs : List NewGroup) (t : Turn) → AreAsked rs → AreChosen t.world → Keeps (steps judge_group act_group rs t)
group_steps [] t a h = h
group_steps (r ∷ rs) t a h = unless_keeps (judge_group t.world r) (steps judge_group act_group rs (act_group r t)) (group_steps rs (act_group r t) a.1 (group_chosen r t a.0 h))

group_keeps : (o : Option (List NewGroup)) (t : Turn) → IfSome o AreAsked → AreChosen t.world → Keeps (row judge_group act_group o t)
group_keeps None t a h = tt
group_keeps (Some rs) t a h = group_steps rs t a h

-- ---- new synths

abbrev IsAskedSynth : NewSynth → Type 0
IsAskedSynth r = IsAsked r.node

asked_whole : (name : Option (List ℕ)) (asks : Option NewNode) (values : Option (List ControlValue)) → IfSome asks IsAsked → IfSome (asked_with name asks values) IsAskedSynth
asked_whole None asks values a = tt
asked_whole (Some name) None values a = tt
asked_whole (Some name) (Some asks) None a = tt
asked_whole (Some name) (Some asks) (Some values) a = a

asked_synth : (xs : List Argument) → IfSome (new_synth xs) IsAskedSynth
asked_synth [] = tt
asked_synth (name ∷ []) = tt
asked_synth (name ∷ id ∷ []) = tt
asked_synth (name ∷ id ∷ action ∷ []) = tt
asked_synth (name ∷ id ∷ action ∷ target ∷ rest) = asked_whole (text_of name) (new_node id action target) (pairs control_value rest) (asked_node id action target)

module _ (r : NewSynth) (t : Turn) (asked : IsAskedSynth r) (h : AreChosen t.world) where
  made_keeps : (d : Definition) (id : ℤ) → id_for t.world.next_id r.node.id ≡ Some id → (place : Option ℕ) → Keeps (new_at r d id place t)
  made_keeps d id e None = tt
  made_keeps d id e (Some at) =
      told_chosen Went id (record (told_replaced r.node t) { world = with_synth r d id at t.world })
      (given_new id t.world.nodes (placed r.node (leaf id kinds.Synth (made t.world r d at)) t.world.nodes) (λ x k. held_placed x r.node id kinds.Synth (made t.world r d at) t.world.nodes k) r.node.id asked t.world.next_id e h)

  with_keeps : (d : Definition) (o : Option ℤ) → id_for t.world.next_id r.node.id ≡ o → Keeps (new_with r d o t)
  with_keeps d None e = tt
  with_keeps d (Some id) e =
      let place : Option ℕ = place_for (made_free r.node t.world) (state_words t.world.rate d) in
      unless_keeps (node_refusal (Some id) r.node.action r.node.target t.world.nodes) (new_at r d id place t) (made_keeps d id e place)

  of_keeps : (d : Option Definition) → Keeps (new_of r d t)
  of_keeps None = tt
  of_keeps (Some d) = with_keeps d (id_for t.world.next_id r.node.id) refl

synth_keeps : (o : Option NewSynth) (t : Turn) → IfSome o IsAskedSynth → AreChosen t.world → Keeps (new_outcome o t)
synth_keeps None t a h = tt
synth_keeps (Some r) t a h = of_keeps r t a h (finite.get t.world.definitions r.name)

-- ---- commands on nodes

module _ (from : ℕ) (t : Turn) (h : AreChosen t.world) where
  notify_keeps : (o : Option Bool) → Keeps (notify_outcome from o t)
  notify_keeps None = tt
  notify_keeps (Some on) = h

  set_keeps : (o : Option (ForNode ControlRun)) → Keeps (set_outcome o t)
  set_keeps None = tt
  set_keeps (Some r) = unless_keeps (judge_node t.world r.id) _ (reworked_chosen (in_synth (with_runs r.all)) r.id t.world h)

  map_keeps : (o : Option (ForNode Mapping)) → Keeps (map_outcome o t)
  map_keeps None = tt
  map_keeps (Some r) = unless_keeps (judge_map t.world r) _ (reworked_chosen (in_synth (with_buses r.all)) r.id t.world h)

  values_kept : (r : ForNode ControlName) (o : Option Content) → Keeps (values_from from r o t)
  values_kept r None = tt
  values_kept r (Some group) = tt
  values_kept r (Some (synth s)) = h

  values_keep : (o : Option (ForNode ControlName)) → Keeps (values_outcome from o t)
  values_keep None = tt
  values_keep (Some r) = values_kept r (payload_at r.id t.world.nodes)

  order_keeps : (o : Option NodeOrder) → Keeps (order_outcome o t)
  order_keeps None = tt
  order_keeps (Some order) = unless_keeps (place_refusal order.place t.world.nodes) (steps judge_move act_move (moves_of order t.world.nodes) t) (steps_keep judge_move act_move move_chosen (moves_of order t.world.nodes) t h)

  node_row_keeps : (c : NodeCommand) (xs : List Argument) → Keeps (node_row c from xs t)
  node_row_keeps nodes.New xs = synth_keeps (new_synth xs) t (asked_synth xs) h
  node_row_keeps nodes.Notify xs = notify_keeps (notify_flag xs)
  node_row_keeps nodes.TurnNodes xs = row_keeps judge_run act_run run_chosen (some_of (pairs run_flag xs)) t h
  node_row_keeps nodes.SetControls xs = set_keeps (asked_runs value_run xs)
  node_row_keeps nodes.SetRuns xs = set_keeps (asked_runs values_run xs)
  node_row_keeps nodes.FillRuns xs = set_keeps (asked_runs fill_run xs)
  node_row_keeps nodes.MapControls xs = map_keeps (asked_of (pairs mapping) xs)
  node_row_keeps nodes.NewGroup xs = group_keeps (some_of (triples (new_group false) xs)) t (asked_some (triples (new_group false) xs) (asked_triples false xs)) h
  node_row_keeps nodes.NewParallel xs = group_keeps (some_of (triples (new_group true) xs)) t (asked_some (triples (new_group true) xs) (asked_triples true xs)) h
  node_row_keeps nodes.Free xs = row_keeps judge_free act_free (λ r u k. freed_chosen r.id u k) (some_of (singles node_id xs)) t h
  node_row_keeps nodes.FreeAll xs = row_keeps judge_free_all act_free_all (λ r u k. each_freed (top_ids (children r.group u.world.nodes)) u k) (some_of (singles free_all xs)) t h
  node_row_keeps nodes.DeepFree xs = row_keeps judge_deep_free act_deep_free (λ r u k. each_freed (synth_ids (children r.group u.world.nodes)) u k) (some_of (singles deep_free xs)) t h
  node_row_keeps nodes.Query xs = row_keeps judge_query (act_query from) (λ r u k. info_chosen from r.id (view_of r.id u.world.nodes) u k) (some_of (singles node_query xs)) t h
  node_row_keeps nodes.QueryTree xs = row_keeps judge_tree (act_tree from) (λ r u k. k) (some_of (pairs tree_query xs)) t h
  node_row_keeps nodes.GetControls xs = values_keep (asked_of (singles control_name) xs)
  node_row_keeps (nodes.Move action) xs = row_keeps judge_move act_move move_chosen (some_of (pairs (move_from action) xs)) t h
  node_row_keeps nodes.Order xs = order_keeps (node_order xs)

-- ---- all commands

arguments_keep : (body : BodyShape) (run : List Argument → Turn → Result Turn Reason) (t : Turn) → ((xs : List Argument) → Keeps (run xs t)) → Keeps (with_arguments body run t)
arguments_keep bare run t each = each []
arguments_keep (arguments xs) run t each = each xs
arguments_keep (foreign tags rest) run t each = tt

node_keeps : (c : Option NodeCommand) (from : ℕ) (body : BodyShape) (t : Turn) → AreChosen t.world → KeepsIf (node_outcome c from body t)
node_keeps None from body t h = tt
node_keeps (Some c) from body t h = arguments_keep body (node_row c from) t (λ xs. node_row_keeps from t h c xs)

bus_keeps : (c : Option ServerCommand) (from : ℕ) (body : BodyShape) (t : Turn) → AreChosen t.world → KeepsIf (server_outcome c from body t)
bus_keeps None from body t h = tt
bus_keeps (Some c) from body t h = arguments_keep body (whole_row c from) t (λ xs. carrying_keeps from t h c (carried c xs) xs)

either_keeps : (o p : Option (Result Turn Reason)) → KeepsIf o → KeepsIf p → Keeps (or_unknown (either o p))
either_keeps None None k l = tt
either_keeps None (Some r) k l = l
either_keeps (Some r) p k l = k

answered_chosen : (from : ℕ) (address : List ℕ) (t : Turn) (r : Result Turn Reason) → AreChosen t.world → Keeps r → AreChosen (answered from address t r).world
answered_chosen from address t (Ok after) h k = k
answered_chosen from address t (Err reason) h k = h

pub command_chosen : (from : ℕ) (m : MessageShape) (t : Turn) → AreChosen t.world → AreChosen (command from m t).world
command_chosen from m t h =
    answered_chosen from m.address t (or_unknown (either (run_node from m t) (run_bus from m t))) h
    (either_keeps (run_node from m t) (run_bus from m t) (node_keeps (node_command_of m.address) from m.body t h) (bus_keeps (server_command_of m.address) from m.body t h))

-- ---- blocks, and what happens after them

pub walk_chosen : (b : ℕ) (w : World) → AreChosen w → AreChosen (walk b w)
walk_chosen b w h = chosen_within w.nodes (walk_nodes w.rate b w.nodes (resources_in w)).nodes (λ x k. sym (held_walked x w.rate b w.nodes (resources_in w)) ∙ k) w.next_id h

paused_chosen : (id : ℤ) (view : NodeView) (t : Turn) → AreChosen t.world → AreChosen (paused_at id view t).world
paused_chosen id view t h =
    if_chosen view.running _ t (chosen_within t.world.nodes (changed id (with_running false) t.world.nodes) (λ x k. held_turned x id false t.world.nodes k) t.world.next_id h) h

gone_chosen : (id : ℤ) (view : NodeView) (t : Turn) → AreChosen t.world → AreChosen (freed_at id view t).world
gone_chosen id view t h = chosen_within t.world.nodes (without id t.world.nodes) (λ x k. held_without x id t.world.nodes k) t.world.next_id h

acted_chosen : (e : Ending) (o : Option NodeView) (t : Turn) → AreChosen t.world → AreChosen (acted_at e o t).world
acted_chosen e None t h = h
acted_chosen e (Some view) t h =
    if_chosen (pauses e.action) (paused_at e.node view t) (if frees e.action then freed_at e.node view t else t) (paused_chosen e.node view t h)
    (if_chosen (frees e.action) (freed_at e.node view t) t (gone_chosen e.node view t h) h)

all_chosen : (es : List Ending) (t : Turn) → AreChosen t.world → AreChosen (all_acted es t).world
all_chosen [] t h = h
all_chosen (e ∷ es) t h = all_chosen es (acted e t) (acted_chosen e (view_of e.node t.world.nodes) t h)

pub settled_chosen : (b : ℕ) (t : Turn) → AreChosen t.world → AreChosen (settled b t).world
settled_chosen b t h =
    all_chosen (endings_in t.world.rate t.world.nodes) (with_nodes_settled (told_all (triggers_in t.world.rate b t.world.nodes) t))
    (chosen_within t.world.nodes (settled_nodes t.world.rate t.world.nodes) (λ x k. sym (held_settled x t.world.rate t.world.nodes) ∙ k) t.world.next_id h)
