-- Messages that leave the layout of a world.
use Rattle.std.proofs.Common.{◌≡◌, ℕ, suc, negsuc, true, false, not, ◌&&◌, ◌||◌, List, [], ◌∷◌, length, Option, Some, None, Result, Ok, Err, refl, ap, ◌∙◌, arith}
use Rattle.std.specs.Prelude.{nat_lt}
use Rattle.std.specs.List.{list_all}
use Rattle.std.proofs.lemmas.Bool.{ltb-true}
use Rattle.sn_osc.specs.Shape.{Argument, int, string, blob, BodyShape, bare, arguments, foreign, MessageShape}
use Rattle.sn_reply.specs.declared.reason.Reason.{Reason}
use Rattle.sn_reply.specs.Replies.{ReplyShape}
use Rattle.sn_tree.specs.Trees.{Nodes, none, node, subtree, view_of, with_payloads}
use Rattle.sn_tree.proofs.PayloadLaws.{subtree-payloads, view-payloads}
use Rattle.sn_world.specs.declared.command.ServerCommand.{ServerCommand}
use Rattle.sn_world.specs.declared.command.ServerCommand.TheVariants as servers
use Rattle.sn_world.specs.declared.command.Command.{Command}
use Rattle.sn_world.specs.declared.command.Command.TheVariants.{OnNodes, OnServer}
use Rattle.sn_world.specs.declared.command.Handled.{Handled}
use Rattle.sn_world.specs.declared.command.Handled.TheVariants as answers
use Rattle.sn_world.specs.declared.command.NodeCommand.{NodeCommand}
use Rattle.sn_world.specs.declared.command.NodeCommand.TheVariants as calls
use Rattle.sn_world.specs.declared.node_repetition.RunFlag.{RunFlag}
use Rattle.sn_world.specs.declared.stage.Held.{Held}
use Rattle.sn_world.specs.declared.stage.Held.TheVariants as held
use Rattle.sn_world.specs.declared.stage.Stage.{Stage}
use Rattle.sn_world.specs.Addresses.{command_of, on_nodes_alone, on_server_alone}
use Rattle.sn_world.specs.Commands.{answered, server_outcome, carrying_row, handled_as, either, ending_of, next_in, next_of, next_with, node_outcome, node_row, or_unknown, whole_row}
use Rattle.sn_world.specs.Completing.{behind_number, behind_text, carried, message_in}
use Rattle.sn_world.specs.ControlRuns.{ControlRun, ForNode, asked_of, asked_runs, fill_run, value_run, values_run}
use Rattle.sn_world.specs.Ending.{Next, is_completing}
use Rattle.sn_world.specs.Mappings.{any_node}
use Rattle.sn_world.specs.NewSynth.{ControlName, control_name}
use Rattle.sn_world.specs.Nodes.{Content, content_of}
use Rattle.sn_world.specs.Notifying.{notify_flag}
use Rattle.sn_world.specs.Rows.{pairs, singles}
use Rattle.sn_world.specs.RunFlags.{is_flagged, run_flag}
use Rattle.sn_world.specs.World.{Turn, turn_of}
use Rattle.sn_layout.specs.Layout.{layout_of}
use Rattle.sn_layout.specs.Leaving.{LeavesLayout, asked_leaves, flags_stay, holds_laid, lays, node_leaves, runs_laid, runs_plain, server_leaves}
use Rattle.sn_layout.proofs.Rows.{Leaves, get_leaves, notify_leaves, query_leaves, run_leaves, server_row_leaves, tree_leaves}
use Rattle.sn_layout.proofs.Settings.{set_outcome_leaves}

-- ---- no completion message is carried

long : (n : ℕ) → nat_lt (suc (suc n)) 2 ≡ true → ⊥
long n h = omega (arith, ltb-true (suc (suc n)) 2 h)

number_alone : (xs : List Argument) → nat_lt (length xs) 2 ≡ true → behind_number xs ≡ None
number_alone [] h = refl
number_alone (int n ∷ []) h = refl
number_alone (string s ∷ []) h = refl
number_alone (blob b ∷ []) h = refl
number_alone (x ∷ y ∷ xs) h = absurd (long (length xs) h)

text_alone : (xs : List Argument) → nat_lt (length xs) 2 ≡ true → behind_text xs ≡ None
text_alone [] h = refl
text_alone (int n ∷ []) h = refl
text_alone (string s ∷ []) h = refl
text_alone (blob b ∷ []) h = refl
text_alone (x ∷ y ∷ xs) h = absurd (long (length xs) h)

carried_none : (c : ServerCommand) (xs : List Argument) → server_leaves (length xs) c ≡ true → carried c xs ≡ None
carried_none servers.Set xs h = refl
carried_none servers.SetRuns xs h = refl
carried_none servers.Fill xs h = refl
carried_none servers.Get xs h = refl
carried_none servers.GetRuns xs h = refl
carried_none servers.ZeroBuffer xs h = number_alone xs h
carried_none servers.QueryBuffers xs h = refl
carried_none servers.SetSamples xs h = refl
carried_none servers.SetSampleRuns xs h = refl
carried_none servers.FillSamples xs h = refl
carried_none servers.GetSamples xs h = refl
carried_none servers.GetSampleRuns xs h = refl
carried_none servers.Sync xs h = refl
carried_none servers.Receive xs h = text_alone xs h
carried_none servers.Free xs h = refl
carried_none servers.Status xs h = refl
carried_none servers.ClearSched xs h = refl
carried_none servers.Quit xs h = refl
carried_none _ xs h = absurd cc

ending_alone : (told : Handled) → is_completing (ending_of told) ≡ false
ending_alone answers.Done = refl
ending_alone (answers.Completion m) = refl
ending_alone answers.Quit = refl
ending_alone answers.ClearSched = refl
ending_alone (answers.Failed reason) = refl
ending_alone answers.NotMine = refl

next_in_alone : (r : Result Turn Reason) (n : Next) → is_completing n ≡ false → is_completing (next_in None (Some r) n) ≡ false
next_in_alone (Ok t) n h = h
next_in_alone (Err reason) n h = refl

none_with : (c : ServerCommand) (o : Option (List ℕ)) → o ≡ None → is_completing (next_with c (message_in o)) ≡ false
none_with c o absent = ap (λ (b : Option (List ℕ)). is_completing (next_with c (message_in b))) absent ∙ ending_alone (handled_as c)

-- ---- rows

node_row_leaves : (c : NodeCommand) (from : ℕ) (xs : List Argument) (t : Turn) → node_leaves lays t.world.nodes xs c ≡ true → Leaves t (node_row c from xs t)
node_row_leaves calls.Notify from xs t h = notify_leaves from (notify_flag xs) t
node_row_leaves calls.SetControls from xs t h = set_outcome_leaves (asked_runs value_run xs) t h
node_row_leaves calls.SetRuns from xs t h = set_outcome_leaves (asked_runs values_run xs) t h
node_row_leaves calls.FillRuns from xs t h = set_outcome_leaves (asked_runs fill_run xs) t h
node_row_leaves calls.TurnNodes from xs t h = run_leaves (pairs run_flag xs) t h
node_row_leaves calls.Query from xs t h = query_leaves from xs t
node_row_leaves calls.QueryTree from xs t h = tree_leaves from xs t
node_row_leaves calls.GetControls from xs t h = get_leaves from (asked_of (singles control_name) xs) t
node_row_leaves _ from xs t h = absurd cc

carrying_leaves : (c : ServerCommand) (o : Option (List ℕ)) (from : ℕ) (xs : List Argument) (t : Turn) → o ≡ None → server_leaves (length xs) c ≡ true → Leaves t (carrying_row c o from xs t)
carrying_leaves c None from xs t e h = server_row_leaves c (length xs) from xs t h
carrying_leaves c (Some b) from xs t e h = absurd cc

whole_leaves : (c : ServerCommand) (from : ℕ) (xs : List Argument) (t : Turn) → server_leaves (length xs) c ≡ true → Leaves t (whole_row c from xs t)
whole_leaves c from xs t h = carrying_leaves c (carried c xs) from xs t (carried_none c xs h) h

-- ---- messages

answer_leaves : (from : ℕ) (address : List ℕ) (t : Turn) (r : Result Turn Reason) → Leaves t r → layout_of (answered from address t r).world ≡ layout_of t.world
answer_leaves from address t (Ok after) h = h
answer_leaves from address t (Err reason) h = refl

-- what is done by a message, of the command that its address calls
abbrev outcome : ℕ → Option Command → BodyShape → Turn → Result Turn Reason
outcome from o body t = or_unknown (either (node_outcome (on_nodes_alone o) from body t) (server_outcome (on_server_alone o) from body t))

outcome_leaves : (from : ℕ) (o : Option Command) (body : BodyShape) (t : Turn) → asked_leaves lays t.world.nodes o body ≡ true → Leaves t (outcome from o body t)
outcome_leaves from None body t h = tt
outcome_leaves from (Some (OnNodes c)) bare t h = node_row_leaves c from [] t h
outcome_leaves from (Some (OnNodes c)) (arguments xs) t h = node_row_leaves c from xs t h
outcome_leaves from (Some (OnNodes c)) (foreign tags rest) t h = tt
outcome_leaves from (Some (OnServer c)) bare t h = whole_leaves c from [] t h
outcome_leaves from (Some (OnServer c)) (arguments xs) t h = whole_leaves c from xs t h
outcome_leaves from (Some (OnServer c)) (foreign tags rest) t h = tt

next_alone_after : (all : Nodes Content) (from : ℕ) (o : Option Command) (body : BodyShape) (t : Turn) → asked_leaves lays all o body ≡ true
    → is_completing (next_in (node_outcome (on_nodes_alone o) from body t) (server_outcome (on_server_alone o) from body t) (next_of (on_server_alone o) body)) ≡ false
next_alone_after all from None body t h = refl
next_alone_after all from (Some (OnNodes c)) body t h = refl
next_alone_after all from (Some (OnServer c)) bare t h = next_in_alone (whole_row c from [] t) (next_with c (message_in (carried c []))) (none_with c (carried c []) (carried_none c [] h))
next_alone_after all from (Some (OnServer c)) (arguments xs) t h = next_in_alone (whole_row c from xs t) (next_with c (message_in (carried c xs))) (none_with c (carried c xs) (carried_none c xs h))
next_alone_after all from (Some (OnServer c)) (foreign tags rest) t h = refl

leaves_turn : (m : MessageShape) (t : Turn) → asked_leaves lays t.world.nodes (command_of m.address) m.body ≡ true → LeavesLayout m t
leaves_turn m t h = record {
  layout = λ from. answer_leaves from m.address t (outcome from (command_of m.address) m.body t) (outcome_leaves from (command_of m.address) m.body t h);
  alone = λ from. next_alone_after t.world.nodes from (command_of m.address) m.body t h;
}

-- ---- what a stage holds

holds_seen : (words : List ℕ) (c : ControlName) (n : ℕ) (h : Held) → lays c n (content_of words h) ≡ holds_laid c n h
holds_seen words c n held.Group = refl
holds_seen words c n (held.Synth def controls state) = refl

any_seen : (words : List ℕ) (c : ControlName) (n : ℕ) (t : Nodes Held) → any_node (lays c n) (with_payloads (content_of words) t) ≡ any_node (holds_laid c n) t
any_seen words c n none = refl
any_seen words c n (node label below after) = λ i. holds_seen words c n label.payload i || (any_seen words c n below i || any_seen words c n after i)

runs_seen : (words : List ℕ) (t : Nodes Held) (rs : List ControlRun) → runs_laid lays (with_payloads (content_of words) t) rs ≡ runs_laid holds_laid t rs
runs_seen words t [] = refl
runs_seen words t (r ∷ rs) = λ i. any_seen words r.control (length r.values) t i || runs_seen words t rs i

plain_seen : (words : List ℕ) (t : Nodes Held) (o : Option (ForNode ControlRun)) → runs_plain lays (with_payloads (content_of words) t) o ≡ runs_plain holds_laid t o
plain_seen words t None = refl
plain_seen words t (Some r) = ap not (ap (λ (u : Nodes Content). runs_laid lays u r.all) (subtree-payloads (content_of words) r.id t) ∙ runs_seen words (subtree r.id t) r.all)

flagged_seen : (words : List ℕ) (t : Nodes Held) (rs : List RunFlag) → list_all (λ r. is_flagged r.on (view_of r.id (with_payloads (content_of words) t))) rs ≡ list_all (λ r. is_flagged r.on (view_of r.id t)) rs
flagged_seen words t [] = refl
flagged_seen words t (r ∷ rs) = λ i. is_flagged r.on (view-payloads (content_of words) (negsuc 0) (negsuc 0) r.id t i) && flagged_seen words t rs i

flags_seen : (words : List ℕ) (t : Nodes Held) (o : Option (List RunFlag)) → flags_stay (with_payloads (content_of words) t) o ≡ flags_stay t o
flags_seen words t None = refl
flags_seen words t (Some rs) = flagged_seen words t rs

-- a command on nodes is judged alike by what they hold and by what it stands for
node_seen : (words : List ℕ) (t : Nodes Held) (xs : List Argument) (c : NodeCommand) → node_leaves lays (with_payloads (content_of words) t) xs c ≡ node_leaves holds_laid t xs c
node_seen words t xs calls.SetControls = plain_seen words t (asked_runs value_run xs)
node_seen words t xs calls.SetRuns = plain_seen words t (asked_runs values_run xs)
node_seen words t xs calls.FillRuns = plain_seen words t (asked_runs fill_run xs)
node_seen words t xs calls.TurnNodes = flags_seen words t (pairs run_flag xs)
node_seen words t xs _ = refl

asked_seen : (words : List ℕ) (t : Nodes Held) (o : Option Command) (body : BodyShape) → asked_leaves lays (with_payloads (content_of words) t) o body ≡ asked_leaves holds_laid t o body
asked_seen words t None body = refl
asked_seen words t (Some (OnNodes c)) bare = node_seen words t [] c
asked_seen words t (Some (OnNodes c)) (arguments xs) = node_seen words t xs c
asked_seen words t (Some (OnNodes c)) (foreign tags rest) = refl
asked_seen words t (Some (OnServer c)) bare = refl
asked_seen words t (Some (OnServer c)) (arguments xs) = refl
asked_seen words t (Some (OnServer c)) (foreign tags rest) = refl

pub leaves : (stage : Stage) (words : List ℕ) (replies : List ReplyShape) (m : MessageShape) → asked_leaves holds_laid stage.tree.attached (command_of m.address) m.body ≡ true → LeavesLayout m (turn_of stage words replies)
leaves stage words replies m h = leaves_turn m (turn_of stage words replies) (asked_seen words stage.tree.attached (command_of m.address) m.body ∙ h)
