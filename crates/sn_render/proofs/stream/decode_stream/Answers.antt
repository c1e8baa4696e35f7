use Rattle.std.proofs.Common.{map, arith}
use Rattle.sn_osc.specs.Shape.{shape}
use Rattle.sn_render.proofs.StreamLemmas.{only_found, only_bad, are_framed}
use Rattle.sn_render.proofs.stream.decode_stream.Goals as goal

pub returns-clause-framed : goal.returns-clause-framed
returns-clause-framed c = are_framed (λ v. map shape v.items) c.args.bytes.now c.decode_frames.result (λ i. omega (arith, c.type_inv.bytes i)) c.decode_frames.ensures.found

pub returns-clause-only_found : goal.returns-clause-only_found
returns-clause-only_found c = only_found _ c.args.bytes.now c.decode_frames.result c.decode_frames.ensures.found c.decode_frames.ensures.bad

pub returns-clause-only_bad : goal.returns-clause-only_bad
returns-clause-only_bad c = only_bad (λ v. map shape v.items) c.args.bytes.now c.decode_frames.result c.decode_frames.ensures.found c.decode_frames.ensures.bad
