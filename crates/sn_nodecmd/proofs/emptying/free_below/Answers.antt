use Rattle.std.proofs.Common.{◌∙◌, ap, sym, subst, arith, length, List, [], Result}
use Rattle.std.specs.Ordering.{int_eq}
use Rattle.sn_reply.specs.declared.reason.Reason.{Reason}
use Rattle.sn_tree.specs.Trees.{ids}
use Rattle.sn_tree.specs.Steps.{AllDistinct}
use Rattle.sn_tree.proofs.PayloadLaws.{ids-payloads}
use Rattle.sn_world.specs.Answers.{Follows}
use Rattle.sn_world.specs.Nodes.{content_of}
use Rattle.sn_world.specs.Rows.{steps}
use Rattle.sn_world.specs.World.{Turn, turn_of}
use Rattle.sn_nodecmd.specs.declared.emptying.RepeatedGroup.{RepeatedGroup}
use Rattle.sn_nodecmd.specs.Again.{judge_repeated, act_repeated}
use Rattle.sn_nodecmd.proofs.AgainLemmas.{long_repeated, repeated_steps}
use Rattle.sn_nodecmd.proofs.emptying.free_below.Goals as goal

pub each-requires-clause-few : goal.each-requires-clause-few
each-requires-clause-few c = omega (arith, c.requires.few, ap (λ (l : List RepeatedGroup). length l) (c.deref.ensures.value ∙ c.in_ok-groups.ensures), long_repeated [] c.args.groups.now)

pub returns-clause-row : goal.returns-clause-row
returns-clause-row c = λ words.
    let t = turn_of c.args.stage.now words c.args.replies.now in
    let distinct : AllDistinct int_eq (ids t.world.nodes) = subst (AllDistinct int_eq) (sym (ids-payloads (content_of words) c.args.stage.now.tree.attached)) c.ids_are_distinct.ensures in
    subst (λ (o : Result Turn Reason). Follows c.each.result o (turn_of c.each.new.stage words c.each.new.replies))
    (ap (λ (l : List RepeatedGroup). steps judge_repeated act_repeated l t) (c.deref.ensures.value ∙ c.in_ok-groups.ensures) ∙ repeated_steps c.args.groups.now t distinct)
    (c.each.ensures.row words)
