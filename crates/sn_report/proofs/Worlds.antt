-- The report of a stage and of a world that it stands for.
use Rattle.std.proofs.Common.{◌≡◌, ℕ, ℤ, Bool, List, [], ◌∷◌, ◌++◌, map, sym, refl, ap, ◌∙◌}
use Rattle.sn_tree.specs.declared.walk.Visit.{Visit}
use Rattle.sn_tree.specs.Trees.{Label, Nodes, none, node, running_labels, with_payloads}
use Rattle.sn_tree.proofs.PayloadLaws.{relabelled}
use Rattle.sn_tree.proofs.Walking.{running-payloads}
use Rattle.sn_world.specs.declared.stage.Held.{Held}
use Rattle.sn_world.specs.declared.stage.Held.TheVariants as held
use Rattle.sn_world.specs.declared.stage.Stage.{Stage}
use Rattle.sn_world.specs.Nodes.{content_of}
use Rattle.sn_world.specs.World.{world_of}
use Rattle.sn_foot.specs.declared.resource.Resource.{Resource}
use Rattle.sn_clash.proofs.Worlds.{same_there, same_clashes}
use Rattle.sn_graph.specs.Stages.{clashing_in}
use Rattle.sn_report.specs.Reports.{Sight, chain_line, clashing_of, content_sight, head_line, held_sight, lines, node_lines, report_in, report_of, stage_weight, synths_among, units_among, weight_of, world_weight}
use Rattle.sn_report.specs.Weights.{Weight}
use Rattle.sn_report.specs.Visits.{label_in, sight_in}

payloads_twice : {P Q R : Type 0} (f : P → Q) (g : Q → R) (t : Nodes P) → with_payloads g (with_payloads f t) ≡ with_payloads (λ p. g (f p)) t
payloads_twice f g none = refl
payloads_twice f g (node label below after) = λ i. node (record { id = label.id; kind = label.kind; running = label.running; payload = g (f label.payload) }) (payloads_twice f g below i) (payloads_twice f g after i)

same_sight : (words : List ℕ) (h : Held) → content_sight (content_of words h) ≡ held_sight h
same_sight words held.Group = refl
same_sight words (held.Synth def controls state) = refl

same_nodes : (stage : Stage) (words : List ℕ) → with_payloads content_sight (world_of stage words).nodes ≡ with_payloads held_sight stage.tree.attached
same_nodes stage words = payloads_twice (content_of words) content_sight stage.tree.attached ∙ (λ i. with_payloads (λ h. same_sight words h i) stage.tree.attached)

same_clashing : (stage : Stage) (words : List ℕ) → clashing_of (world_of stage words) ≡ clashing_in stage
same_clashing stage words = ap (map (λ c. c.group)) (same_clashes stage words)

pub same_weight : (stage : Stage) (words : List ℕ) → world_weight (world_of stage words) ≡ stage_weight stage
same_weight stage words = λ i. weight_of (same_nodes stage words i) (same_clashing stage words i)

pub same_report : (stage : Stage) (words : List ℕ) → report_of (world_of stage words) ≡ report_in stage
same_report stage words = λ i. lines (λ r. same_there words stage.buffers r i) (running_labels (same_nodes stage words i)) (same_weight stage words i)

-- what is told of the nodes of the walk
mapped_twice : (visits : List (Visit Held)) → map (relabelled held_sight) (map label_in visits) ≡ map sight_in visits
mapped_twice [] = refl
mapped_twice (v ∷ vs) = ap (λ ls. sight_in v ∷ ls) (mapped_twice vs)

pub sights_are : (t : Nodes Held) (visits : List (Visit Held)) → map label_in visits ≡ running_labels t → map sight_in visits ≡ running_labels (with_payloads held_sight t)
sights_are t visits e = sym (mapped_twice visits) ∙ (ap (map (relabelled held_sight)) e ∙ sym (running-payloads held_sight t))

-- the three parts of a report
pub made_of : (there : Resource → Bool) (labels : List (Label Sight)) (w : Weight) (a b c d : List ℕ) (n u k : ℕ) (ids : List ℤ) → a ≡ [] → b ≡ a ++ head_line n u k → c ≡ b ++ node_lines there labels → d ≡ c ++ chain_line ids
    → n ≡ synths_among labels → u ≡ units_among labels → k ≡ w.cost → ids ≡ w.chain → d ≡ lines there labels w
made_of there labels w a b c d n u k ids empty head seen chain synths units cost weight =
    let first : b ≡ head_line (synths_among labels) (units_among labels) w.cost = head ∙ (λ i. empty i ++ head_line (synths i) (units i) (cost i)) in
    let second : c ≡ head_line (synths_among labels) (units_among labels) w.cost ++ node_lines there labels = seen ∙ (λ i. first i ++ node_lines there labels) in
    chain ∙ (λ i. second i ++ chain_line (weight i))
