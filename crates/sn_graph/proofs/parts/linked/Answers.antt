use Rattle.std.proofs.Common.{◌∷◌, [], map, sym, ap, ◌∙◌}
use Rattle.std.proofs.lemmas.List.{map-append}
use Rattle.sn_graph.specs.Inputs.{nodes_of}
use Rattle.sn_graph.specs.Pieces.{linked, piece_of}
use Rattle.sn_graph.proofs.Linking.{linked-snoc}
use Rattle.sn_graph.proofs.parts.linked.Goals as goal

pub loop-part-init : goal.loop-part-init
loop-part-init c = ap (linked (map piece_of c.args.parts.items)) c.new-nodes.ensures

pub loop-part-preserved : goal.loop-part-preserved
loop-part-preserved c =
    ap (linked (map piece_of c.pop.new.self.items)) c.in_ok-nodes.ensures
    ∙ sym (linked-snoc (map piece_of c.pop.new.self.items) (piece_of c.in-Some.part) (nodes_of c.loop-part.nodes))
    ∙ ap (λ ps. linked ps (nodes_of c.loop-part.nodes)) (sym (map-append piece_of c.pop.new.self.items (c.in-Some.part ∷ [])) ∙ ap (map piece_of) (sym c.in-Some.ensures.items))
    ∙ c.loop-part.invariant
