use Rattle.std.proofs.Common.{◌≡◌, ℕ, ◌-◌, length, take, ap, ◌∙◌, arith}
use Rattle.sn_graph.specs.Pieces.{pieces}
use Rattle.sn_graph.proofs.Linking.{drop_pieces}
use Rattle.sn_graph.proofs.parts.drop_nodes.Goals as goal

pub returns : goal.returns
returns c =
    let kept : c.saturating_sub-kept.result ≡ length c.args.parts.now.items - c.args.count = omega (arith, c.saturating_sub-kept.ensures, c.len.ensures, c.args.parts.now.ok.0) in
    ap pieces c.truncate.ensures.items
    ∙ ap (λ (k : ℕ). pieces (take k c.args.parts.now.items)) kept
    ∙ drop_pieces c.args.count c.args.parts.now.items
