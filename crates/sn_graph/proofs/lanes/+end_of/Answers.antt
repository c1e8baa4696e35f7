use Rattle.std.proofs.Common.{◌≡◌, ◌++◌, ◌+◌, ◌∙◌, ℕ, List, None, Some, ap, arith}
use Rattle.sn_graph.specs.declared.nodes.HeardNodes.{HeardNodes as Given}
use Rattle.sn_graph.specs.declared.nodes.Voice.{Voice}
use Rattle.sn_graph.specs.Inputs.{nodes_of}
use Rattle.sn_graph.specs.Lanes.{pairs}
use Rattle.sn_graph.specs.Voices.{voices}
use Rattle.sn_graph.proofs.Laying.{end_if, few_mixed, none_then, pairs_two, some_end}
use Rattle.sn_graph.proofs.lanes.+end_of.Goals as goal

pub overflow_add-next : goal.overflow_add-next
overflow_add-next t c = omega (arith, c.count_mixed.ensures, few_mixed c.args.buses.now c.in-Synth.voice, c.requires.few, c.requires.taken, c.requires.most)

pub returns-in-None-end_of : goal.returns-in-None-end_of
returns-in-None-end_of t c =
    let ns : List ℕ = c.args.buses.now in
    let inner : List Voice = voices (nodes_of c.in-Group.inner.value) in
    let rest : List Voice = voices (nodes_of c.in-Group.rest.value) in
    let all : List Voice = voices (nodes_of c.args.nodes.now) in
    let is : all ≡ inner ++ rest = ap (λ (g : Given). voices (nodes_of g)) c.in-Group.is in
    let was : None ≡ end_if c.args.most (c.args.taken + pairs ns inner) = c.in-None-end_of.ensures ∙ ap (λ (g : Given). end_if c.args.most (c.args.taken + pairs ns (voices (nodes_of g)))) c.deref-in-Group.ensures in
    none_then c.args.most (c.args.taken + pairs ns inner) (c.args.taken + pairs ns all) (omega (arith, pairs_two ns all inner rest is)) was

pub returns-in-Some : goal.returns-in-Some
returns-in-Some t c =
    let ns : List ℕ = c.args.buses.now in
    let inner : List Voice = voices (nodes_of c.in-Group.inner.value) in
    let rest : List Voice = voices (nodes_of c.in-Group.rest.value) in
    let all : List Voice = voices (nodes_of c.args.nodes.now) in
    let is : all ≡ inner ++ rest = ap (λ (g : Given). voices (nodes_of g)) c.in-Group.is in
    let was : Some c.in-Some.next ≡ end_if c.args.most (c.args.taken + pairs ns inner) = c.in-Some.ensures ∙ ap (λ (g : Given). end_if c.args.most (c.args.taken + pairs ns (voices (nodes_of g)))) c.deref-in-Group.ensures in
    let next : c.in-Some.next ≡ c.args.taken + pairs ns inner = (some_end c.args.most (c.args.taken + pairs ns inner) c.in-Some.next was).1 in
    let left : pairs ns (voices (nodes_of c.deref-in-Some.result.now)) ≡ pairs ns rest = ap (λ (g : Given). pairs ns (voices (nodes_of g))) c.deref-in-Some.ensures in
    let sum : c.in-Some.next + pairs ns (voices (nodes_of c.deref-in-Some.result.now)) ≡ c.args.taken + pairs ns all = omega (arith, next, left, pairs_two ns all inner rest is) in
    c.end_of-in-Some.ensures ∙ ap (end_if c.args.most) sum
