use Rattle.std.proofs.Common.{rules, ◌≡◌, ◌<◌, Bool, Some, subst, sym, ap, ◌∙◌}
use Rattle.std.specs.Option.{option_map}
use Rattle.std.specs.Prelude.{IfOk}
use Rattle.sn_osc.specs.Shape.{message_of}
use Rattle.sn_world.specs.Commands.{completion_of}
use Rattle.sn_buscmd.proofs.CompletingLemmas.{none-within, one-within, too-deep}
use Rattle.sn_buscmd.proofs.completing.+is_within.Goals as goal

pub returns-in_default : goal.returns-in_default
returns-in_default t c = sym (none-within c.args.deep (message_of c.args.message.now) (sym c.in_ok-completion.ensures ∙ ap (option_map message_of) c.in_default.is))

pub returns-then-deep-eq0 : goal.returns-then-deep-eq0
returns-then-deep-eq0 t c =
    let carried : completion_of (message_of c.args.message.now) ≡ Some (message_of c.in-Some.completion) = sym c.in_ok-completion.ensures ∙ ap (option_map message_of) c.in-Some.is in
    sym (too-deep c.args.deep (message_of c.args.message.now) (message_of c.in-Some.completion) c.if-deep-eq0.true carried)

pub returns : goal.returns
returns t c =
    let carried : completion_of (message_of c.args.message.now) ≡ Some (message_of c.in-Some.completion) = sym c.in_ok-completion.ensures ∙ ap (option_map message_of) c.in-Some.is in
    let some : 0 < c.args.deep = search rules in
    subst (λ (d : Bool). IfOk c.is_within.result (λ within. within ≡ d)) (sym (one-within c.args.deep (message_of c.args.message.now) (message_of c.in-Some.completion) some carried)) c.is_within.ensures
