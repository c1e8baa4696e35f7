-- Rows that leave the layout of a world.
use Rattle.std.proofs.Common.{◌≡◌, ℕ, ℤ, pos, negsuc, Bool, true, List, [], ◌∷◌, get_or, map, Option, Some, None, Result, Ok, Err, codes, refl, sym, ap, subst, ◌∙◌}
use Rattle.std.specs.Prelude.{if◌then◌else◌}
use Rattle.std.specs.List.{list_all}
use Rattle.std.proofs.lemmas.Bool.{and_parts}
use Rattle.std.specs.Option.{option_map}
use Rattle.std.proofs.Math.Seq.{map-set_same}
use Rattle.sn_osc.specs.Shape.{Argument, MessageShape}
use Rattle.sn_def.specs.Definition.{Definition}
use Rattle.sn_def.specs.declared.fault.DefFault.{DefFault}
use Rattle.sn_def.specs.Reading.{text_at}
use Rattle.sn_mem.specs.Buffers.{Buffer}
use Rattle.sn_reply.specs.declared.reason.Reason.{Reason}
use Rattle.sn_tree.specs.declared.node.NodeView.{NodeView}
use Rattle.sn_tree.specs.Trees.{view_of, with_payloads}
use Rattle.sn_world.specs.declared.command.ServerCommand.{ServerCommand}
use Rattle.sn_world.specs.declared.command.ServerCommand.TheVariants as servers
use Rattle.sn_world.specs.declared.node_repetition.RunFlag.{RunFlag}
use Rattle.sn_world.specs.Nodes.{Content, group, synth}
use Rattle.sn_world.specs.World.{World, Turn, replied}
use Rattle.sn_world.specs.Rows.{unless, steps, row, question, first_refusal, singles, pairs, triples, some_of}
use Rattle.sn_world.specs.Runs.{number, value_runs, place_run, asks_few, judge_setn, act_setn, judge_getn, answer_getn}
use Rattle.sn_world.specs.Buses as bus_rows
use Rattle.sn_world.specs.BufferNumbers.{at_number, put_at, resampled, with_samples, buffer_refusal, done_message}
use Rattle.sn_world.specs.BufferCommands as buffer_rows
use Rattle.sn_world.specs.BufferSamples as sample_rows
use Rattle.sn_world.specs.Recv.{received_text, recv_read, recv_outcome}
use Rattle.sn_world.specs.Forgetting.{name_of, judge_forget, act_forget}
use Rattle.sn_world.specs.Status.{status_row}
use Rattle.sn_world.specs.Ending.{quit_row, clear_row}
use Rattle.sn_world.specs.Notifying.{notify_outcome}
use Rattle.sn_world.specs.Notices.{told}
use Rattle.sn_world.specs.RunFlags.{act_run, is_flagged, judge_run, turning, with_flag}
use Rattle.sn_world.specs.Queries.{node_query, judge_query, info_at, act_query}
use Rattle.sn_world.specs.TreeQueries.{tree_query, judge_tree, act_tree}
use Rattle.sn_world.specs.SynthQueries.{values_from, values_outcome, payload_at}
use Rattle.sn_world.specs.NewSynth.{ControlName}
use Rattle.sn_world.specs.ControlRuns.{ForNode}
use Rattle.sn_world.specs.Commands.{server_row}
use Rattle.sn_layout.specs.Layout.{extent_of, laid, layout_of}
use Rattle.sn_layout.specs.Leaving.{flags_stay, server_leaves}

-- what is accepted has the layout of the turn before
abbrev pub Leaves : Turn → Result Turn Reason → Type 0
Leaves t (Ok after) = layout_of after.world ≡ layout_of t.world
Leaves t (Err reason) = Unit {0}

-- ---- rows of repetitions

pub unless_leaves : (t : Turn) (o : Option Reason) (r : Result Turn Reason) → Leaves t r → Leaves t (unless o r)
unless_leaves t None r h = h
unless_leaves t (Some reason) r h = tt

then_leaves : (t u : Turn) (r : Result Turn Reason) → layout_of u.world ≡ layout_of t.world → Leaves u r → Leaves t r
then_leaves t u (Ok after) e h = h ∙ e
then_leaves t u (Err reason) e h = tt

module _ {R : Type 0} (judge : World → R → Option Reason) (act : R → Turn → Turn) (each : (r : R) (t : Turn) → layout_of (act r t).world ≡ layout_of t.world) where
  steps_leave : (rs : List R) (t : Turn) → Leaves t (steps judge act rs t)
  steps_leave [] t = refl
  steps_leave (r ∷ rs) t = unless_leaves t (judge t.world r) (steps judge act rs (act r t)) (then_leaves t (act r t) (steps judge act rs (act r t)) (each r t) (steps_leave rs (act r t)))

  pub row_leaves : (o : Option (List R)) (t : Turn) → Leaves t (row judge act o t)
  row_leaves None t = tt
  row_leaves (Some rs) t = steps_leave rs t

question_leaves : {R : Type 0} (judge : World → R → Option Reason) (answer : World → List R → MessageShape) (from : ℕ) (o : Option (List R)) (t : Turn) → Leaves t (question judge answer from o t)
question_leaves judge answer from None t = tt
question_leaves judge answer from (Some rs) t = unless_leaves t (first_refusal (judge t.world) rs) (Ok (replied from (answer t.world rs) t)) refl

-- ---- samples

resampled_same : (f : List ℤ → List ℤ) (o : Option Buffer) → option_map extent_of (resampled f o) ≡ option_map extent_of o
resampled_same f None = refl
resampled_same f (Some b) = refl

put_same : (n : ℤ) (f : List ℤ → List ℤ) (bs : List (Option Buffer)) → map (option_map extent_of) (put_at n (resampled f (at_number bs n)) bs) ≡ map (option_map extent_of) bs
put_same (pos n) f bs = map-set_same (option_map extent_of) bs n (resampled f (get_or bs n None)) None (resampled_same f (get_or bs n None))
put_same (negsuc n) f bs = refl

samples_leave : (n : ℤ) (f : List ℤ → List ℤ) (w : World) → layout_of (with_samples n f w) ≡ layout_of w
samples_leave n f w = λ i. record { nodes = with_payloads laid w.nodes; buffers = put_same n f w.buffers i }

module _ {R : Type 0} where
  asked_leaves : (run : ℤ → List R → Turn → Result Turn Reason) → ((n : ℤ) (all : List R) (t : Turn) → Leaves t (run n all t)) → (n : Option ℤ) (all : Option (List R)) (t : Turn) → Leaves t (sample_rows.with_asked run n all t)
  asked_leaves run each None all t = tt
  asked_leaves run each (Some n) None t = tt
  asked_leaves run each (Some n) (Some all) t = each n all t

  buffer_leaves : (read : List Argument → Option (List R)) (run : ℤ → List R → Turn → Result Turn Reason) → ((n : ℤ) (all : List R) (t : Turn) → Leaves t (run n all t)) → (xs : List Argument) (t : Turn) → Leaves t (sample_rows.of_buffer read run xs t)
  buffer_leaves read run each [] t = tt
  buffer_leaves read run each (x ∷ xs) t = asked_leaves run each (number x) (some_of (read xs)) t

  changing_leaves : (refusal : ℕ → R → Option Reason) (change : R → List ℤ → List ℤ) (n : ℤ) (all : List R) (t : Turn) → Leaves t (sample_rows.changing refusal change n all t)
  changing_leaves refusal change n all t =
      let refused = first_refusal (refusal (sample_rows.size_of (at_number t.world.buffers n))) all in
      let changed : Result Turn Reason = Ok (record t { world = with_samples n (sample_rows.change_all change all) t.world }) in
      unless_leaves t (buffer_refusal n t.world) (unless refused changed) (unless_leaves t refused changed (samples_leave n (sample_rows.change_all change all) t.world))

  asking_leaves : (refusal : ℕ → R → Option Reason) (answer : List ℤ → R → List Argument) (address : List ℕ) (from : ℕ) (n : ℤ) (all : List R) (t : Turn) → Leaves t (sample_rows.asking refusal answer address from n all t)
  asking_leaves refusal answer address from n all t =
      let refused = first_refusal (refusal (sample_rows.size_of (at_number t.world.buffers n))) all in
      let told : Result Turn Reason = Ok (replied from (sample_rows.answered_with address n (sample_rows.answers answer (sample_rows.samples_in (at_number t.world.buffers n)) all)) t) in
      unless_leaves t (buffer_refusal n t.world) (unless refused told) (unless_leaves t refused told refl)

zero_leaves : (from : ℕ) (o : Option ℤ) (t : Turn) → Leaves t (buffer_rows.zero_outcome from o t)
zero_leaves from None t = tt
zero_leaves from (Some n) t = unless_leaves t (buffer_refusal n t.world) (Ok (replied from (done_message (codes "/b_zero") n) (record t { world = with_samples n buffer_rows.zeros t.world }))) (samples_leave n buffer_rows.zeros t.world)

-- ---- single commands

sync_leaves : (from : ℕ) (o : Option ℤ) (t : Turn) → Leaves t (bus_rows.sync_outcome from o t)
sync_leaves from None t = tt
sync_leaves from (Some n) t = refl

read_leaves : (from : ℕ) (r : Result Definition DefFault) (t : Turn) → Leaves t (recv_read from r t)
read_leaves from (Ok d) t = refl
read_leaves from (Err fault) t = tt

recv_leaves : (from : ℕ) (o : Option (List ℕ)) (t : Turn) → Leaves t (recv_outcome from o t)
recv_leaves from None t = tt
recv_leaves from (Some text) t = read_leaves from (text_at text) t

status_leaves : (from : ℕ) (xs : List Argument) (t : Turn) → Leaves t (status_row from xs t)
status_leaves from [] t = refl
status_leaves from (x ∷ xs) t = tt

clear_leaves : (from : ℕ) (xs : List Argument) (t : Turn) → Leaves t (clear_row from xs t)
clear_leaves from [] t = refl
clear_leaves from (x ∷ xs) t = tt

quit_leaves : (from : ℕ) (xs : List Argument) (t : Turn) → Leaves t (quit_row from xs t)
quit_leaves from [] t = refl
quit_leaves from (x ∷ xs) t = tt

pub notify_leaves : (from : ℕ) (o : Option Bool) (t : Turn) → Leaves t (notify_outcome from o t)
notify_leaves from None t = tt
notify_leaves from (Some on) t = refl

info_leaves : (from : ℕ) (id : ℤ) (o : Option NodeView) (t : Turn) → layout_of (info_at from id o t).world ≡ layout_of t.world
info_leaves from id None t = refl
info_leaves from id (Some view) t = refl

pub query_leaves : (from : ℕ) (xs : List Argument) (t : Turn) → Leaves t (row judge_query (act_query from) (some_of (singles node_query xs)) t)
query_leaves from xs t = row_leaves judge_query (act_query from) (λ r u. info_leaves from r.id (view_of r.id u.world.nodes) u) (some_of (singles node_query xs)) t

pub tree_leaves : (from : ℕ) (xs : List Argument) (t : Turn) → Leaves t (row judge_tree (act_tree from) (some_of (pairs tree_query xs)) t)
tree_leaves from xs t = row_leaves judge_tree (act_tree from) (λ r u. refl) (some_of (pairs tree_query xs)) t

values_leave : (from : ℕ) (r : ForNode ControlName) (o : Option Content) (t : Turn) → Leaves t (values_from from r o t)
values_leave from r None t = tt
values_leave from r (Some group) t = tt
values_leave from r (Some (synth s)) t = refl

pub get_leaves : (from : ℕ) (o : Option (ForNode ControlName)) (t : Turn) → Leaves t (values_outcome from o t)
get_leaves from None t = tt
get_leaves from (Some r) t = values_leave from r (payload_at r.id t.world.nodes) t

-- ---- run flags

-- a node that has the flag already
flag_kept : (r : RunFlag) (t : Turn) → is_flagged r.on (view_of r.id t.world.nodes) ≡ true → act_run r t ≡ t
flag_kept r t flagged = ap (λ (b : Bool). if b then t else told (turning r.on) r.id (with_flag r t)) flagged

flags_leave : (rs : List RunFlag) (t : Turn) → list_all (λ r. is_flagged r.on (view_of r.id t.world.nodes)) rs ≡ true → Leaves t (steps judge_run act_run rs t)
flags_leave [] t h = refl
flags_leave (r ∷ rs) t h =
    let both = and_parts (is_flagged r.on (view_of r.id t.world.nodes)) (list_all (λ s. is_flagged s.on (view_of s.id t.world.nodes)) rs) h in
    unless_leaves t (judge_run t.world r) (steps judge_run act_run rs (act_run r t))
    (subst (λ (u : Turn). Leaves t (steps judge_run act_run rs u)) (sym (flag_kept r t both.0)) (flags_leave rs t both.1))

pub run_leaves : (o : Option (List RunFlag)) (t : Turn) → flags_stay t.world.nodes o ≡ true → Leaves t (row judge_run act_run (some_of o) t)
run_leaves None t h = tt
run_leaves (Some []) t h = tt
run_leaves (Some (r ∷ rs)) t h = flags_leave (r ∷ rs) t h

-- ---- commands on buses, buffers, definitions and the server itself

pub server_row_leaves : (c : ServerCommand) (n from : ℕ) (xs : List Argument) (t : Turn) → server_leaves n c ≡ true → Leaves t (server_row c from xs t)
server_row_leaves servers.Set n from xs t h = row_leaves bus_rows.judge_set bus_rows.act_set (λ r u. refl) (some_of (pairs bus_rows.bus_value xs)) t
server_row_leaves servers.SetRuns n from xs t h = row_leaves judge_setn act_setn (λ r u. refl) (some_of (value_runs xs)) t
server_row_leaves servers.Fill n from xs t h = row_leaves bus_rows.judge_fill bus_rows.act_fill (λ r u. refl) (some_of (triples bus_rows.bus_fill xs)) t
server_row_leaves servers.Get n from xs t h = question_leaves bus_rows.judge_get (λ w. bus_rows.answer_get w.control_buses) from (some_of (singles bus_rows.bus_number xs)) t
server_row_leaves servers.GetRuns n from xs t h = question_leaves judge_getn (λ w. answer_getn w.control_buses) from (asks_few (some_of (pairs place_run xs))) t
server_row_leaves servers.ZeroBuffer n from xs t h = zero_leaves from (buffer_rows.one_number xs) t
server_row_leaves servers.QueryBuffers n from xs t h = question_leaves buffer_rows.judge_query buffer_rows.answer_query from (some_of (singles buffer_rows.buffer_number xs)) t
server_row_leaves servers.SetSamples n from xs t h = buffer_leaves (pairs sample_rows.sample_value) (sample_rows.changing sample_rows.value_refusal sample_rows.set_value) (changing_leaves sample_rows.value_refusal sample_rows.set_value) xs t
server_row_leaves servers.SetSampleRuns n from xs t h = buffer_leaves (λ ys. sample_rows.right_runs (value_runs ys)) (sample_rows.changing sample_rows.values_refusal sample_rows.set_values) (changing_leaves sample_rows.values_refusal sample_rows.set_values) xs t
server_row_leaves servers.FillSamples n from xs t h = buffer_leaves (triples sample_rows.sample_fill) (sample_rows.changing sample_rows.fill_refusal sample_rows.fill_values) (changing_leaves sample_rows.fill_refusal sample_rows.fill_values) xs t
server_row_leaves servers.GetSamples n from xs t h = buffer_leaves (singles sample_rows.sample_index) (sample_rows.asking sample_rows.index_refusal sample_rows.index_and_value (codes "/b_set") from) (asking_leaves sample_rows.index_refusal sample_rows.index_and_value (codes "/b_set") from) xs t
server_row_leaves servers.GetSampleRuns n from xs t h = buffer_leaves (λ ys. sample_rows.few_asked (pairs sample_rows.sample_run ys)) (sample_rows.asking sample_rows.place_refusal sample_rows.run_and_values (codes "/b_setn") from) (asking_leaves sample_rows.place_refusal sample_rows.run_and_values (codes "/b_setn") from) xs t
server_row_leaves servers.Sync n from xs t h = sync_leaves from (bus_rows.sync_number xs) t
server_row_leaves servers.Receive n from xs t h = recv_leaves from (received_text xs) t
server_row_leaves servers.Free n from xs t h = row_leaves judge_forget act_forget (λ r u. refl) (some_of (singles name_of xs)) t
server_row_leaves servers.Status n from xs t h = status_leaves from xs t
server_row_leaves servers.ClearSched n from xs t h = clear_leaves from xs t
server_row_leaves servers.Quit n from xs t h = quit_leaves from xs t
server_row_leaves _ n from xs t h = absurd cc
