use Rattle.std.proofs.Common.{◌≡◌, map, length, ap, arith}
use Rattle.std.proofs.lemmas.List.{length-map}
use Rattle.sn_osc.specs.Shape.{argument_of, body_of, message_of}
use Rattle.sn_osc.specs.Bytes.{arguments_bytes}
use Rattle.sn_reply.proofs.Sending.{few-arguments_of, short-arguments_of}
use Rattle.sn_world.proofs.bodies.arguments_of.Goals as goal

pub returns-in-Args-clause-few : goal.returns-in-Args-clause-few
returns-in-Args-clause-few c =
    let few = few-arguments_of (message_of c.args.message.now) (map argument_of c.in-Args.arguments) (ap body_of c.in-Args.is) c.requires in
    let same : length c.as_slice.result.now ≡ length c.in-Args.arguments = ap length c.as_slice.ensures in
    omega (arith, length-map c.in-Args.arguments argument_of)

pub returns-in-Args-clause-short : goal.returns-in-Args-clause-short
returns-in-Args-clause-short c =
    let short = short-arguments_of (message_of c.args.message.now) (map argument_of c.in-Args.arguments) (ap body_of c.in-Args.is) c.requires in
    let same : length (arguments_bytes (map argument_of c.as_slice.result.now)) ≡ length (arguments_bytes (map argument_of c.in-Args.arguments)) = ap (λ xs. length (arguments_bytes (map argument_of xs))) c.as_slice.ensures in
    omega arith
