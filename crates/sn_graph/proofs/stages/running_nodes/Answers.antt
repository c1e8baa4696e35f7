use Rattle.std.proofs.Common.{◌≡◌, ◌≤◌, ◌∷◌, [], ℕ, List, length, map, sym, ap, ◌∙◌, subst, arith}
use Rattle.std.specs.Prelude.{pos}
use Rattle.std.specs.List.{All}
use Rattle.std.proofs.lemmas.List.{map-append, nil_from_length}
use Rattle.sn_tree.specs.Trees.{Label, subtree}
use Rattle.sn_tree.specs.Members.{members}
use Rattle.sn_world.specs.declared.stage.Held.{Held}
use Rattle.sn_foot.specs.Canonical.{Ends}
use Rattle.sn_clash.specs.Rows.{row_of}
use Rattle.sn_graph.specs.Inputs.{nodes_of}
use Rattle.sn_graph.specs.Pieces.{built, pieces}
use Rattle.sn_graph.proofs.Linking.{built-snoc, length-pieces, linked_whole}
use Rattle.sn_graph.proofs.Staging.{states_at, states_parts, members_end}
use Rattle.sn_graph.proofs.stages.running_nodes.Goals as goal

pub loop-member-init : goal.loop-member-init
loop-member-init c =
    let stage = c.args.stage.now in
    let e = c.in_ok-members.ensures in
    record {
      all = ap (λ ms. built stage.buffers c.args.clashing.now ms (pieces c.new-parts.result.items)) e ∙ ap (λ ps. built stage.buffers c.args.clashing.now (members (subtree (pos 0) stage.tree.attached)) (pieces ps)) c.new-parts.ensures.items;
      states = subst (λ ms. All Ends (states_at ms)) (sym e) (members_end (pos 0) stage.tree.attached c.requires.states);
    }

pub put_part-requires-clause-state : goal.put_part-requires-clause-state
put_part-requires-clause-state c =
    let e = ap (map row_of) c.in-Some.ensures.items ∙ map-append row_of c.pop.new.self.items (c.in-Some.member ∷ []) in
    (states_parts (map row_of c.pop.new.self.items) (row_of c.in-Some.member) (subst (λ (ms : List (Label Held × ℕ)). All Ends (states_at ms)) e c.loop-member.invariant.states)).1

pub loop-member-preserved : goal.loop-member-preserved
loop-member-preserved c =
    let stage = c.args.stage.now in
    let e = ap (map row_of) c.in-Some.ensures.items ∙ map-append row_of c.pop.new.self.items (c.in-Some.member ∷ []) in
    let i = c.loop-member.invariant in
    record {
      all = ap (λ ps. built stage.buffers c.args.clashing.now (map row_of c.pop.new.self.items) ps) c.in_ok-put_part.ensures
          ∙ sym (built-snoc stage.buffers c.args.clashing.now (map row_of c.pop.new.self.items) (row_of c.in-Some.member) (pieces c.loop-member.parts.items))
          ∙ ap (λ ms. built stage.buffers c.args.clashing.now ms (pieces c.loop-member.parts.items)) (sym e)
          ∙ i.all;
      states = (states_parts (map row_of c.pop.new.self.items) (row_of c.in-Some.member) (subst (λ (ms : List (Label Held × ℕ)). All Ends (states_at ms)) e i.states)).0;
    }

pub returns-clause-nodes : goal.returns-clause-nodes
returns-clause-nodes c =
    let stage = c.args.stage.now in
    let t = subtree (pos 0) stage.tree.attached in
    let none_is : c.loop-member.members.items ≡ [] = nil_from_length c.loop-member.members.items (omega (arith, c.in_default.ensures.cases.0, c.loop-member.members.ok.0)) in
    let all = sym (ap (λ ms. built stage.buffers c.args.clashing.now (map row_of ms) (pieces c.loop-member.parts.items)) none_is) ∙ c.loop-member.invariant.all in
    let few : length (pieces c.loop-member.parts.items) ≤ c.len-count.result = omega (arith, length-pieces c.loop-member.parts.items, c.len-count.ensures, c.loop-member.parts.ok.0) in
    let whole = linked_whole stage.buffers c.args.clashing.now t (pieces c.loop-member.parts.items) c.len-count.result few all in
    ap nodes_of c.into_nodes.ensures.same ∙ c.in_ok-nodes.ensures.nodes ∙ whole

pub returns-clause-noted : goal.returns-clause-noted
returns-clause-noted c = c.into_nodes.ensures.noted
