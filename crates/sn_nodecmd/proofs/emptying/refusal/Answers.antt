use Rattle.std.proofs.Common.{◌∙◌, ap, sym, Bool, Option, Some, None}
use Rattle.std.specs.Prelude.{if◌then◌else◌}
use Rattle.sn_reply.specs.declared.reason.Reason.{Reason}
use Rattle.sn_reply.specs.declared.reason.Reason.TheVariants as Reasons
use Rattle.sn_nodecmd.proofs.EmptyingLemmas.{missing_group, seen_group}
use Rattle.sn_nodecmd.proofs.emptying.refusal.Goals as goal

pub returns-in_default : goal.returns-in_default
returns-in_default c = missing_group c.args.group.now.id c.args.tree.now.attached c.in_default.ensures

pub returns-then-is_synth : goal.returns-then-is_synth
returns-then-is_synth c =
    sym (ap (λ (b : Bool). let r : Option Reason = if b then Some Reasons.NotGroup else None in r) c.if-is_synth.true)
    ∙ seen_group c.args.group.now.id c.args.tree.now.attached c.in-Some.view c.is_synth.result c.in-Some.ensures c.is_synth.ensures

pub returns : goal.returns
returns c =
    sym (ap (λ (b : Bool). let r : Option Reason = if b then Some Reasons.NotGroup else None in r) c.if-is_synth.false)
    ∙ seen_group c.args.group.now.id c.args.tree.now.attached c.in-Some.view c.is_synth.result c.in-Some.ensures c.is_synth.ensures
