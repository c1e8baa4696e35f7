use Rattle.std.proofs.Common.{rules, ◌≡◌, ◌∙◌, true, map, ap}
use Rattle.sn_osc.specs.Shape.{BodyShape, argument_of, body_of}
use Rattle.sn_osc.specs.Bytes.{are_octets, tag_of, tags_bytes, arguments_bytes, body_bytes}
use Rattle.sn_osc.proofs.Octets.{octets_joined, tags_octets}
use Rattle.sn_osc.proofs.lengths.body_len.Goals as goal

pub returns-in-Args-clause-octets : goal.returns-in-Args-clause-octets
returns-in-Args-clause-octets c =
    let xs = map argument_of c.in-Args.arguments in
    let given : are_octets (arguments_bytes xs) ≡ true = search rules in
    ap (λ (b : BodyShape). are_octets (body_bytes b)) (ap body_of c.in-Args.is) ∙ octets_joined (tags_bytes (map tag_of xs)) (arguments_bytes xs) (tags_octets xs) given
