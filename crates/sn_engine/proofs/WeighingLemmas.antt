-- What the synths that run have more than a lane takes is decided by the layout of the world, and told by the walk.
use Rattle.std.proofs.Common.{◌≡◌, ◌<◌, ◌≤◌, ⊎_elim, ℕ, ◌+◌, ◌-◌, Bool, true, false, ◌&&◌, if◌then◌else◌, List, [], ◌∷◌, ◌++◌, length, refl, ap, sym, ◌∙◌, arith}
use Rattle.std.specs.Prelude.{nat_eq, nat_le}
use Rattle.std.proofs.lemmas.Bool.{cases_Bool, cases_lt, eq-eqb, le-leb, lt-leb, ne_eqb}
use Rattle.sn_tree.specs.Trees.{Label, Nodes, none, node, running_labels, with_payloads}
use Rattle.sn_layout.specs.Layout.{Layout, laid, layout_of}
use Rattle.sn_world.specs.declared.stage.Held.{Held}
use Rattle.sn_world.specs.declared.stage.Held.TheVariants as held
use Rattle.sn_world.specs.declared.stage.Stage.{Stage}
use Rattle.sn_world.specs.Nodes.{Content, content_of, group, synth}
use Rattle.sn_world.specs.World.{World, world_of}
use Rattle.sn_engine.specs.Weighing.{all_more, has_lanes, held_more, labels_more, units_more}

-- ---- as the walk tells them

held_is : (ws : List ℕ) (h : Held) → units_more (content_of ws h) ≡ held_more h
held_is ws held.Group = refl
held_is ws (held.Synth def controls state) = refl

more_append : (xs ys : List (Label Held)) → labels_more (xs ++ ys) ≡ labels_more xs + labels_more ys
more_append [] ys = omega arith
more_append (x ∷ xs) ys = omega (arith, more_append xs ys)

pub nodes_more : (ws : List ℕ) (t : Nodes Held) → all_more (with_payloads (content_of ws) t) ≡ labels_more (running_labels t)
nodes_more ws none = refl
nodes_more ws (node label below after) = ⊎_elim
    (λ (on : label.running ≡ true).
    let world : all_more (with_payloads (content_of ws) (node label below after)) ≡ (units_more (content_of ws label.payload) + all_more (with_payloads (content_of ws) below)) + all_more (with_payloads (content_of ws) after) =
    ap (λ (b : Bool). (if b then units_more (content_of ws label.payload) + all_more (with_payloads (content_of ws) below) else 0) + all_more (with_payloads (content_of ws) after)) on in
    let labels : labels_more (running_labels (node label below after)) ≡ held_more label.payload + labels_more (running_labels below ++ running_labels after) =
    ap (λ (b : Bool). labels_more (if b then label ∷ (running_labels below ++ running_labels after) else running_labels after)) on in
    omega (arith, world, labels, held_is ws label.payload, nodes_more ws below, nodes_more ws after, more_append (running_labels below) (running_labels after)))
    (λ (off : label.running ≡ false).
    let world : all_more (with_payloads (content_of ws) (node label below after)) ≡ 0 + all_more (with_payloads (content_of ws) after) =
    ap (λ (b : Bool). (if b then units_more (content_of ws label.payload) + all_more (with_payloads (content_of ws) below) else 0) + all_more (with_payloads (content_of ws) after)) off in
    let labels : labels_more (running_labels (node label below after)) ≡ labels_more (running_labels after) =
    ap (λ (b : Bool). labels_more (if b then label ∷ (running_labels below ++ running_labels after) else running_labels after)) off in
    omega (arith, world, labels, nodes_more ws after))
    (cases_Bool label.running)

-- ---- by the layout

laid_more : (c : Content) → units_more (laid c) ≡ units_more c
laid_more group = refl
laid_more (synth s) = refl

all_laid : (t : Nodes Content) → all_more (with_payloads laid t) ≡ all_more t
all_laid none = refl
all_laid (node label below after) = λ i. (if label.running then laid_more label.payload i + all_laid below i else 0) + all_laid after i

pub lanes_alike : (workers : ℕ) (v w : World) → layout_of v ≡ layout_of w → has_lanes workers v ≡ has_lanes workers w
lanes_alike workers v w e =
    let more : all_more v.nodes ≡ all_more w.nodes = sym (all_laid v.nodes) ∙ ap (λ (l : Layout). all_more l.nodes) e ∙ all_laid w.nodes in
    ap (λ n. nat_le 2 workers && nat_le 128 n) more

pub lanes_anyhow : (workers : ℕ) (stage : Stage) (us ws : List ℕ) → has_lanes workers (world_of stage us) ≡ has_lanes workers (world_of stage ws)
lanes_anyhow workers stage us ws = ap (λ n. nat_le 2 workers && nat_le 128 n) (nodes_more us stage.tree.attached ∙ sym (nodes_more ws stage.tree.attached))

-- ---- what is left of 128

pub pays : (workers left more : ℕ) → 2 ≤ workers → left ≡ 128 - more → nat_eq left 0 ≡ (nat_le 2 workers && nat_le 128 more)
pays workers left more several is = ⊎_elim
    (λ (few : more < 128). ne_eqb left 0 (λ e. omega (arith, e, is, few)) ∙ sym (ap (λ b. nat_le 2 workers && b) (lt-leb 128 more few) ∙ ap (λ b. b && false) (le-leb 2 workers several)))
    (λ (many : 128 ≤ more). eq-eqb left 0 (omega (arith, is, many)) ∙ sym (ap (λ b. nat_le 2 workers && b) (le-leb 128 more many) ∙ ap (λ b. b && true) (le-leb 2 workers several)))
    (cases_lt more 128)
