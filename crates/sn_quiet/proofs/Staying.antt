-- A walk and a settling change the states of synths alone, so that what is quiet stays so.
use Rattle.std.proofs.Common.{◌≡◌, ⊎_elim, ℕ, true, false, ◌&&◌, ℤ, refl, sym, ap, ◌∙◌}
use Rattle.std.specs.Prelude.{if◌then◌else◌}
use Rattle.std.proofs.lemmas.Bool.{cases_Bool}
use Rattle.sn_mem.specs.Buffers.{Resources}
use Rattle.sn_tree.specs.Trees.{Nodes, none, node, Label, with_payload}
use Rattle.sn_world.specs.Nodes.{Content, group, synth}
use Rattle.sn_world.specs.Settling.{settled_content, settled_nodes}
use Rattle.sn_world.specs.Walk.{Walked, content_after, resources_in, walk_nodes, walk}
use Rattle.sn_world.specs.World.{World}
use Rattle.sn_quiet.specs.Quiet.{are_quiet, is_quiet_content}
use Rattle.sn_quiet.specs.Walks.{settled_world}
use Rattle.sn_quiet.proofs.QuietSettles.{quiet_if}
use Rattle.sn_quiet.proofs.Worlds.{run_node, pass_node, settled_running, settled_paused, walk_running, walk_paused}

content_walked : (rate b : ℕ) (id : ℤ) (c : Content) (r : Resources) → is_quiet_content (content_after rate b id c r).0 ≡ is_quiet_content c
content_walked rate b id group r = refl
content_walked rate b id (synth s) r = refl

content_settled : (rate : ℕ) (c : Content) → is_quiet_content (settled_content rate c) ≡ is_quiet_content c
content_settled rate group = refl
content_settled rate (synth s) = refl

-- whether a node with these nodes below and after it is quiet
quiet_node : (label : Label Content) (c : Content) (below after : Nodes Content) → label.running ≡ true → are_quiet (node (with_payload c label) below after) ≡ ((is_quiet_content c && are_quiet below) && are_quiet after)
quiet_node label c below after on = ap (λ b. (if b then is_quiet_content c && are_quiet below else true) && are_quiet after) on

pub nodes_walked : (rate b : ℕ) (nodes : Nodes Content) (r : Resources) → are_quiet (walk_nodes rate b nodes r).nodes ≡ are_quiet nodes
unfolding run_node pass_node
nodes_walked rate b none r = refl
nodes_walked rate b (node label below after) r = ⊎_elim
    (λ (on : label.running ≡ true).
    let here : Content × Resources = content_after rate b label.id label.payload r in
    let inner : Walked = walk_nodes rate b below here.1 in
    let rest : Walked = walk_nodes rate b after inner.resources in
    ap (λ (w : Walked). are_quiet w.nodes) (walk_running rate b label below after r on)
    ∙ (quiet_node label here.0 inner.nodes rest.nodes on
    ∙ (ap (λ b. (b && are_quiet inner.nodes) && are_quiet rest.nodes) (content_walked rate b label.id label.payload r)
    ∙ (ap (λ b. (is_quiet_content label.payload && b) && are_quiet rest.nodes) (nodes_walked rate b below here.1)
    ∙ (ap (λ b. (is_quiet_content label.payload && are_quiet below) && b) (nodes_walked rate b after inner.resources)
    ∙ sym (quiet_node label label.payload below after on))))))
    (λ (off : label.running ≡ false).
    ap (λ (w : Walked). are_quiet w.nodes) (walk_paused rate b label below after r off)
    ∙ ap (λ b. quiet_if label below label.running && b) (nodes_walked rate b after r))
    (cases_Bool label.running)

pub nodes_settled : (rate : ℕ) (nodes : Nodes Content) → are_quiet (settled_nodes rate nodes) ≡ are_quiet nodes
nodes_settled rate none = refl
nodes_settled rate (node label below after) = ⊎_elim
    (λ (on : label.running ≡ true).
    let c : Content = settled_content rate label.payload in
    let inner : Nodes Content = settled_nodes rate below in
    let rest : Nodes Content = settled_nodes rate after in
    ap are_quiet (settled_running rate 0 label below after on)
    ∙ (quiet_node label c inner rest on
    ∙ (ap (λ b. (b && are_quiet inner) && are_quiet rest) (content_settled rate label.payload)
    ∙ (ap (λ b. (is_quiet_content label.payload && b) && are_quiet rest) (nodes_settled rate below)
    ∙ (ap (λ b. (is_quiet_content label.payload && are_quiet below) && b) (nodes_settled rate after)
    ∙ sym (quiet_node label label.payload below after on))))))
    (λ (off : label.running ≡ false).
    ap are_quiet (settled_paused rate 0 label below after off)
    ∙ ap (λ b. quiet_if label below label.running && b) (nodes_settled rate after))
    (cases_Bool label.running)

pub walk_stays : (b : ℕ) (w : World) → are_quiet (walk b w).nodes ≡ are_quiet w.nodes
walk_stays b w = nodes_walked w.rate b w.nodes (resources_in w)

pub settled_stays : (w : World) → are_quiet (settled_world w).nodes ≡ are_quiet w.nodes
settled_stays w = nodes_settled w.rate w.nodes
