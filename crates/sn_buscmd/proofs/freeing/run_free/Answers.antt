use Rattle.std.proofs.Common.{◌≡◌, Some, Ok, List, ℕ, length, map, sym, ap, ◌∙◌, arith}
use Rattle.std.proofs.lemmas.List.{length-map}
use Rattle.sn_osc.specs.Shape.{argument_of}
use Rattle.sn_world.specs.Definitions.{Definitions}
use Rattle.sn_world.specs.World.{turn_of}
use Rattle.sn_world.specs.Rows.{singles}
use Rattle.sn_world.specs.Forgetting.{name_of, without_names}
use Rattle.sn_ports.specs.Octets.{bytes_of}
use Rattle.sn_buscmd.proofs.FreeingLemmas.{some-of_test, names_unknown, names_known, with_definitions}
use Rattle.sn_buscmd.proofs.freeing.run_free.Goals as goal

pub returns-then-not-branch-clause-row : goal.returns-then-not-branch-clause-row
returns-then-not-branch-clause-row c = λ from words replies.
    let args = c.args.arguments.now in
    let some = some-of_test (length args) (sym c.is_empty.ensures ∙ c.if-is_empty.false) in
    let names : List (List ℕ) = map bytes_of c.deref.result.now in
    let read : Some names ≡ singles name_of (map argument_of args) = ap (λ zs. Some (map bytes_of zs)) c.deref.ensures.value ∙ (rw c.in-Some.is at c.in_ok-all.ensures) in
    names_unknown from (map argument_of args) (turn_of c.args.stage.now words replies) (omega (arith, some, length-map args argument_of)) names read (sym c.in_ok-are_known.ensures ∙ c.if-not-branch.true)

pub returns-clause-row : goal.returns-clause-row
returns-clause-row c = λ from words replies.
    let args = c.args.arguments.now in
    let some = some-of_test (length args) (sym c.is_empty.ensures ∙ c.if-is_empty.false) in
    let names : List (List ℕ) = map bytes_of c.deref.result.now in
    let t = turn_of c.args.stage.now words replies in
    let read : Some names ≡ singles name_of (map argument_of args) = ap (λ zs. Some (map bytes_of zs)) c.deref.ensures.value ∙ (rw c.in-Some.is at c.in_ok-all.ensures) in
    names_known from (map argument_of args) t (omega (arith, some, length-map args argument_of)) names read (sym c.in_ok-are_known.ensures ∙ c.if-not-branch.false)
    ∙ sym (ap (λ (ds : Definitions). Ok (with_definitions ds t)) (c.forget.ensures ∙ ap (λ zs. without_names (map bytes_of zs) t.world.definitions) (c.deref-2.ensures.value ∙ sym c.deref.ensures.value)))
