use Rattle.sn_nodecmd.proofs.DescribingLemmas.{few-told}
use Rattle.sn_nodecmd.proofs.describing.tree_message.Goals as goal

pub into_message-requires-clause-few : goal.into_message-requires-clause-few
into_message-requires-clause-few c =
    few-told c.new-answer.result c.push_int.new.self c.push_group.new.answer c.push_members.new.answer _ _ _ c.args.below
    c.new-answer.ensures c.in_ok-push_int.ensures.ok c.in_ok-push_group.ensures c.in_ok-push_members.ensures c.requires.all
