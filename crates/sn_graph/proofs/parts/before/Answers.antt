use Rattle.std.proofs.Common.{◌≡◌, ◌∙◌, ap, sym}
use Rattle.std.proofs.lemmas.Result.{IfOk-weaker}
use Rattle.sn_graph.specs.Voices.{synth, group, lanes_if}
use Rattle.sn_graph.specs.Inputs.{nodes_of}
use Rattle.sn_graph.specs.Pieces.{before, piece_of}
use Rattle.sn_graph.proofs.parts.before.Goals as goal

pub returns-in-Nothing : goal.returns-in-Nothing
returns-in-Nothing c = ap (λ p. before (piece_of p) (nodes_of c.args.rest)) (sym c.in-Nothing.is)

pub returns-in-Synth : goal.returns-in-Synth
returns-in-Synth c = IfOk-weaker c.after_synth.result
    (λ nodes. nodes_of nodes ≡ synth c.in-Synth.voice (nodes_of c.args.rest))
    (λ nodes. nodes_of nodes ≡ before (piece_of c.args.part) (nodes_of c.args.rest))
    (λ nodes e. e ∙ ap (λ p. before (piece_of p) (nodes_of c.args.rest)) (sym c.in-Synth.is)) c.after_synth.ensures

pub returns-in-Group : goal.returns-in-Group
returns-in-Group c = IfOk-weaker c.after_group.result
    (λ nodes. nodes_of nodes ≡ group (lanes_if c.in-Group.split) (nodes_of c.into_inner.result) (nodes_of c.args.rest))
    (λ nodes. nodes_of nodes ≡ before (piece_of c.args.part) (nodes_of c.args.rest))
    (λ nodes e. e ∙ ap (λ n. group (lanes_if c.in-Group.split) (nodes_of n) (nodes_of c.args.rest)) c.into_inner.ensures ∙ ap (λ p. before (piece_of p) (nodes_of c.args.rest)) (sym c.in-Group.is)) c.after_group.ensures
