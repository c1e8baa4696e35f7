use Rattle.std.proofs.Common.{◌≤◌, ◌-◌, length, take, sym, ap, ◌∙◌, arith}
use Rattle.std.proofs.lemmas.List.{take_all, take-take}
use Rattle.sn_reply.proofs.replies.Replies.truncate.Goals as goal

pub loop-self-preserved : goal.loop-self-preserved
loop-self-preserved c =
    let n = length c.loop-self.self - 1 in
    let fewer : c.args.len ≤ n = omega (arith, c.loop-self-test.true, c.len.ensures) in
    ap (take c.args.len) c.drop_last.ensures ∙ take-take c.args.len n c.loop-self.self fewer ∙ c.loop-self.invariant

pub returns : goal.returns
returns c =
    let few : length c.loop-self.self ≤ c.args.len = omega (arith, c.loop-self-test.false, c.len.ensures) in
    sym (take_all c.args.len c.loop-self.self few) ∙ c.loop-self.invariant
