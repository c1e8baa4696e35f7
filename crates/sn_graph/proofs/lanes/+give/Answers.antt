use Rattle.std.proofs.Common.{◌≡◌, ◌++◌, ◌+◌, ◌∙◌, ℕ, List, ap, sym, arith}
use Rattle.std.proofs.lemmas.Result.{IfOk-weaker}
use Rattle.sn_graph.specs.declared.nodes.HeardNodes.{HeardNodes as Given}
use Rattle.sn_graph.specs.declared.nodes.Voice.{Voice}
use Rattle.sn_graph.specs.Inputs.{nodes_of}
use Rattle.sn_graph.specs.Lanes.{lanes_from, pairs}
use Rattle.sn_graph.specs.Voices.{HeardNodes, group, voices}
use Rattle.sn_graph.proofs.Laying.{added_two, pairs_two}
use Rattle.sn_graph.proofs.Shapes.{weight}
use Rattle.sn_graph.proofs.lanes.+give.Goals as goal

pub give-requires-in-Group : goal.give-requires-in-Group
give-requires-in-Group t c =
    let ns : List ℕ = c.args.buses.now in
    let inner : HeardNodes = nodes_of c.in-Group.inner.value in
    let rest : HeardNodes = nodes_of c.in-Group.rest.value in
    let is : nodes_of c.args.nodes.now ≡ group c.in-Group.field-0.lanes inner rest = ap nodes_of c.in-Group.is in
    let same : nodes_of c.deref_mut-in-Group.result.now ≡ inner = ap nodes_of c.deref_mut-in-Group.ensures.value in (
      omega (arith, ap weight is, ap weight same),
      (
        c.requires.buses,
        (
          omega (arith, c.requires.room, pairs_two ns (voices (nodes_of c.args.nodes.now)) (voices inner) (voices rest) (ap voices is), ap (λ (h : HeardNodes). pairs ns (voices h)) same),
          c.requires.end,
        ),
      ),
    )

pub give-requires-in-Group-2 : goal.give-requires-in-Group-2
give-requires-in-Group-2 t c =
    let ns : List ℕ = c.args.buses.now in
    let inner : HeardNodes = nodes_of c.in-Group.inner.value in
    let rest : HeardNodes = nodes_of c.in-Group.rest.value in
    let is : nodes_of c.args.nodes.now ≡ group c.in-Group.field-0.lanes inner rest = ap nodes_of c.in-Group.is in
    let same : nodes_of c.deref_mut-in-Group.result.now ≡ inner = ap nodes_of c.deref_mut-in-Group.ensures.value in
    let left : nodes_of c.deref_mut-in-Group-2.result.now ≡ rest = ap nodes_of c.deref_mut-in-Group-2.ensures.value in (
      omega (arith, ap weight is, ap weight left),
      (
        c.requires.buses,
        (
          omega (
            arith,
            c.requires.room,
            pairs_two ns (voices (nodes_of c.args.nodes.now)) (voices inner) (voices rest) (ap voices is),
            ap (λ (h : HeardNodes). pairs ns (voices h)) same,
            ap (λ (h : HeardNodes). pairs ns (voices h)) left,
            c.in_ok-next-in-Group.ensures.next,
          ),
          c.requires.end,
        ),
      ),
    )

pub returns-in_ok-next-in-Group-clause-added : goal.returns-in_ok-next-in-Group-clause-added
returns-in_ok-next-in-Group-clause-added t c =
    let ns : List ℕ = c.args.buses.now in
    let us : List Voice = voices (nodes_of c.deref_mut-in-Group.result.now) in
    let ws : List Voice = voices (nodes_of c.deref_mut-in-Group-2.result.now) in
    let vs : List Voice = voices (nodes_of c.args.nodes.now) in
    let is : vs ≡ us ++ ws = ap (λ (g : Given). voices (nodes_of g)) c.in-Group.is ∙ (λ i. voices (nodes_of (sym c.deref_mut-in-Group.ensures.value i)) ++ voices (nodes_of (sym c.deref_mut-in-Group-2.ensures.value i))) in
    IfOk-weaker c.give-in-Group-2.result
    (λ after. c.give-in-Group-2.new.added ≡ c.give-in-Group.new.added ++ lanes_from c.args.lanes.first c.in_ok-next-in-Group.next ns ws)
    (λ after. c.give-in-Group-2.new.added ≡ c.args.added.now ++ lanes_from c.args.lanes.first c.args.next ns vs)
    (λ after e. added_two c.args.lanes.first c.args.next c.in_ok-next-in-Group.next ns vs us ws c.args.added.now c.give-in-Group.new.added c.give-in-Group-2.new.added is c.in_ok-next-in-Group.ensures.next c.in_ok-next-in-Group.ensures.added e)
    c.give-in-Group-2.ensures.added

pub returns-in_ok-next-in-Group-clause-next : goal.returns-in_ok-next-in-Group-clause-next
returns-in_ok-next-in-Group-clause-next t c =
    let ns : List ℕ = c.args.buses.now in
    let us : List Voice = voices (nodes_of c.deref_mut-in-Group.result.now) in
    let ws : List Voice = voices (nodes_of c.deref_mut-in-Group-2.result.now) in
    let vs : List Voice = voices (nodes_of c.args.nodes.now) in
    let is : vs ≡ us ++ ws = ap (λ (g : Given). voices (nodes_of g)) c.in-Group.is ∙ (λ i. voices (nodes_of (sym c.deref_mut-in-Group.ensures.value i)) ++ voices (nodes_of (sym c.deref_mut-in-Group-2.ensures.value i))) in
    IfOk-weaker c.give-in-Group-2.result
    (λ (after : ℕ). after ≡ c.in_ok-next-in-Group.next + pairs ns ws)
    (λ (after : ℕ). after ≡ c.args.next + pairs ns vs)
    (λ after e. omega (arith, e, c.in_ok-next-in-Group.ensures.next, pairs_two ns vs us ws is))
    c.give-in-Group-2.ensures.next
