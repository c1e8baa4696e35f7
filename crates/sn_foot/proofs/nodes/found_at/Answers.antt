use Rattle.std.proofs.Common.{◌≡◌, ◌∙◌, ◌++◌, [], ℤ, List, ap, sym, rules, map, append-nil, w32}
use Rattle.std.specs.Prelude.{FitsSigned}
use Rattle.std.proofs.lemmas.Int.{to_z-of_z}
use Rattle.sn_tree.specs.Trees.{Label, running_labels, subtree}
use Rattle.sn_world.specs.declared.stage.Held.{Held}
use Rattle.sn_foot.proofs.Finding.{found_one, found_reached}
use Rattle.sn_foot.proofs.nodes.found_at.Goals as goal

pub loop-visit-init : goal.loop-visit-init
loop-visit-init c =
    let fits : FitsSigned w32 c.args.node.now.id = search rules in
    let same = to_z-of_z w32 c.args.node.now.id fits in
    let t = c.args.tree.now.attached in
    let all : c.into_iter-visit-iterator.result ≡ running_labels (subtree c.args.node.now.id t) =
    c.into_iter-visit-iterator.ensures.into_iter_gives ∙ c.walk_at-visit-items.ensures ∙ ap (λ (n : ℤ). running_labels (subtree n t)) same in
    ap (λ xs. map (λ h. h.now) xs ++ map (λ (x : Label Held). x.payload) c.into_iter-visit-iterator.result) c.new-found.ensures.items ∙ ap (λ (ls : List (Label Held)). map (λ (x : Label Held). x.payload) ls) all

pub loop-visit-preserved : goal.loop-visit-preserved
loop-visit-preserved c =
    found_one (λ h. h.now) c.loop-visit.found.items c.push.new.self.items _ _ c.in_ok-push.ensures.items
    ∙ ap (λ (ls : List (Label Held)). map (λ h. h.now) c.loop-visit.found.items ++ map (λ (x : Label Held). x.payload) ls) (sym c.in-Some.ensures.steps)
    ∙ c.loop-visit.invariant

pub returns : goal.returns
returns c =
    let none : c.loop-visit.visit-iterator ≡ [] = c.in-None.ensures.steps.0 in
    sym (append-nil (map (λ h. h.now) c.loop-visit.found.items))
    ∙ sym (ap (λ (ls : List (Label Held)). map (λ h. h.now) c.loop-visit.found.items ++ map (λ (x : Label Held). x.payload) ls) none)
    ∙ c.loop-visit.invariant
    ∙ sym (found_reached c.args.node.now.id c.args.tree.now.attached (sym c.is_reached.ensures ∙ c.if-not-is_reached.false))
