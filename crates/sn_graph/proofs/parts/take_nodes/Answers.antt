use Rattle.std.proofs.Common.{◌≡◌, ℕ, ◌-◌, length, map, take, drop, ap, ◌∙◌, arith}
use Rattle.std.proofs.lemmas.Result.{IfOk-weaker}
use Rattle.sn_graph.specs.Voices.{none}
use Rattle.sn_graph.specs.Inputs.{nodes_of}
use Rattle.sn_graph.specs.Pieces.{linked, piece_of, pieces}
use Rattle.sn_graph.proofs.Linking.{drop_pieces, map_reverse, take_pieces}
use Rattle.sn_graph.proofs.parts.take_nodes.Goals as goal

pub returns-clause-nodes : goal.returns-clause-nodes
returns-clause-nodes c =
    let all = c.args.parts.now.items in
    let taken = c.in_ok-taken.taken.items in
    let kept : c.saturating_sub-kept.result ≡ length all - c.args.count = omega (arith, c.saturating_sub-kept.ensures, c.len.ensures, c.args.parts.now.ok.0) in
    let first : map piece_of c.reverse.new.self.items ≡ take c.args.count (pieces all) =
    ap (map piece_of) c.reverse.ensures.items ∙ map_reverse piece_of taken
    ∙ ap pieces c.in_ok-taken.ensures.tail
    ∙ ap (λ (k : ℕ). pieces (drop k all)) kept
    ∙ take_pieces c.args.count all in
    IfOk-weaker c.linked.result (λ nodes. nodes_of nodes ≡ linked (map piece_of c.reverse.new.self.items) none) (λ nodes. nodes_of nodes ≡ linked (take c.args.count (pieces all)) none)
    (λ nodes e. e ∙ ap (λ ps. linked ps none) first) c.linked.ensures

pub returns-clause-left : goal.returns-clause-left
returns-clause-left c =
    let all = c.args.parts.now.items in
    let kept : c.saturating_sub-kept.result ≡ length all - c.args.count = omega (arith, c.saturating_sub-kept.ensures, c.len.ensures, c.args.parts.now.ok.0) in
    IfOk-weaker c.linked.result (λ nodes. nodes_of nodes ≡ linked (map piece_of c.reverse.new.self.items) none) (λ nodes. pieces c.split_off.new.self.items ≡ drop c.args.count (pieces all))
    (λ nodes e. ap pieces c.in_ok-taken.ensures.items ∙ ap (λ (k : ℕ). pieces (take k all)) kept ∙ drop_pieces c.args.count all) c.linked.ensures
